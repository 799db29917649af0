-- What the private steps of a look over the tokens answer. They follow the code; what the whole look says is in
-- `Roles` and `Grammar`.
use Rattle.std.specs.Prelude.{ℕ, suc, Bool, true, false, Option, Some, None}
use Rattle.feature_tree.specs.declared.reader.role.Role.{Role}
use Rattle.feature_tree.specs.declared.reader.role.Role.TheVariants.{Name, Not, Joins, Opens, Closes, Unsupported}
use Rattle.feature_tree.specs.declared.reader.scan.Stage.{Stage}

abbrev pub is_name : Role → Bool
is_name Name = true
is_name _ = false

-- whether the token is not supported, where a name stands before it or not
abbrev pub is_unsupported : Bool → Role → Bool
is_unsupported follows_name Unsupported = true
is_unsupported follows_name Opens = follows_name
is_unsupported follows_name _ = false

abbrev pub stage : Bool → ℕ → Stage
stage wants_operand depth = record { wants_operand = wants_operand; depth = depth }

-- where a formula stands after a token, or nothing where the token may not stand there
abbrev pub next_stage : Bool → ℕ → Role → Option Stage
next_stage true depth Name = Some (stage false depth)
next_stage true depth Not = Some (stage true depth)
next_stage true depth Opens = Some (stage true (suc depth))
next_stage true depth _ = None
next_stage false depth (Joins level) = Some (stage true depth)
next_stage false (suc depth) Closes = Some (stage false depth)
next_stage false depth _ = None
