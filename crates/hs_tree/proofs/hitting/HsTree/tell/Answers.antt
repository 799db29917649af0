use Rattle.std.proofs.Common.{◌≡◌, ◌∙◌, ◌++◌, ◌∷◌, [], ℕ, List, sym, ap, subst}
use Rattle.pref_sets.specs.Answers.{Answer, Ask, IsAsking}
use Rattle.hs_tree.specs.Hitting.{Hitting, next_after}
use Rattle.hs_tree.specs.inside.Told.{answers_of}
use Rattle.hs_tree.proofs.Standing.{asked-of, stands-told}
use Rattle.hs_tree.proofs.hitting.HsTree.tell.Goals as goal

pub invariant_of-self-2 : goal.invariant_of-self-2
invariant_of-self-2 c =
    stands-told c.self.inside.first c.self.inside.most c.self.inside.state c.self.invariant c.go_on.new.state c.args.sat
    (subst (λ (d : Hitting). IsAsking (next_after d)) (sym c.self.view_is) c.requires)
    c.in_ok-go_on.ensures.sound c.in_ok-go_on.ensures.told c.in_ok-go_on.ensures.n c.in_ok-go_on.ensures.goes

pub returns-clause-ok : goal.returns-clause-ok
returns-clause-ok c set e =
    let asked = subst (λ (d : Hitting). next_after d ≡ Ask set) (sym c.self.view_is) e in
    let a = asked-of c.self.inside.first c.self.inside.most c.self.inside.state c.self.invariant (subst (λ (d : Hitting). IsAsking (next_after d)) (sym c.self.view_is) c.requires) in
    let both : Ask a.2 ≡ Ask set = sym a.4 ∙ asked in
    let same : a.2 ≡ set = cc (both) in
    let with : List Answer → Hitting = λ told. record { first = c.self.inside.first; most = c.self.inside.most; told = told } in
    let more : Hitting → Hitting = λ d. record { first = d.first; most = d.most; told = d.told ++ record { set = set; sat = c.args.sat } ∷ [] } in
    ap with (c.in_ok-go_on.ensures.told a.0 a.2 a.1 a.3 ∙ ap (λ (s : List ℕ). answers_of c.self.inside.state.told ++ record { set = s; sat = c.args.sat } ∷ []) same)
    ∙ ap more c.self.view_is
