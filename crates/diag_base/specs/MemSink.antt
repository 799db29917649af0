-- A sink in memory, as its callers see it. Own to this project.
use Rattle.std.specs.Prelude.{ℕ, ◌-◌, ◌<◌, ◌⊎◌, ◌==◌, List, length, Option, IsSome, unwrap_or, min}
use Rattle.std.specs.Map.{lookup}
use Rattle.diag_base.specs.declared.mem_sink.MemSink.{MemSink}

-- what was put so far
abbrev pub written_of : MemSink → List ℕ
written_of sink = sink.written.items

-- how many bytes it has room for in all
abbrev pub room_of : MemSink → ℕ
room_of sink = sink.room

-- the puts that are to fail, each with the number of bytes that it takes before
abbrev pub failing_of : MemSink → List (ℕ × ℕ)
failing_of sink = sink.failing.items

-- how many puts there were
abbrev pub puts_of : MemSink → ℕ
puts_of sink = sink.puts

-- how many of them failed
abbrev pub faults_of : MemSink → ℕ
faults_of sink = sink.faults

-- the bytes that the next put is to take before it fails, where it is to fail: as first told
abbrev pub stop_of : MemSink → Option ℕ
stop_of sink = lookup (λ call. puts_of sink == call) (failing_of sink)

-- how many bytes still fit
abbrev pub left_of : MemSink → ℕ
left_of sink = room_of sink - length (written_of sink)

-- the next put is to fail, or its piece goes past the room
abbrev pub MustFail : MemSink → List ℕ → Type 0
MustFail sink piece = IsSome (stop_of sink) ⊎ (left_of sink < length piece)

-- how many bytes of the piece a put that fails takes: as many as it was told, and no more than fit
abbrev pub taken_of : MemSink → List ℕ → ℕ
taken_of sink piece = min (min (unwrap_or (stop_of sink) (length piece)) (left_of sink)) (length piece)
