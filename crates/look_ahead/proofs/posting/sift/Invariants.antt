-- what was kept and what is left are all wanted entries, and so with the numbers of the others
use Rattle.std.proofs.Common.{◌≡◌, ◌++◌, filter, not}
use Rattle.look_ahead.specs.Posting.{is_wanted, numbers_of}
use Rattle.look_ahead.proofs.posting.sift.Given as goal

abbrev pub invariant-entries : goal.invariant-entries
invariant-entries l =
    let p = is_wanted l.asked l.wanted.keys in
    record {
      kept : l.kept.entries ++ filter p l.key-iterator ≡ filter p l.live.entries;
      cancel : l.cancel ++ numbers_of (filter (λ e. not (p e)) l.key-iterator) ≡ numbers_of (filter (λ e. not (p e)) l.live.entries);
    }
