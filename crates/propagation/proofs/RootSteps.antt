-- The roots of the members of a key up to a position.
use Rattle.std.proofs.Common.{◌≡◌, ◌∙◌, refl, sym, ap, subst, ℕ, ◌+◌, ◌<◌, ◌≤◌, true, false, cond, List, [], ◌∷◌, ◌++◌, length, take, append-nil, length-append, arith}
use Rattle.std.specs.Prelude.{◌-◌, Some, filter, filter_map, slice_get}
use Rattle.std.specs.List.{range_with_len}
use Rattle.std.proofs.lemmas.List.{length_push, take_more}
use Rattle.std.proofs.lemmas.List.Elements.{filter-append}
use Rattle.std.proofs.lemmas.Option.{slice_get_within, get_or_from_slice_get}
use Rattle.lists.proofs.Ranges.{range-append}
use Rattle.req_keys.specs.Key.{PositionSet, IsKey}
use Rattle.req_keys.specs.Positions.{has}
use Rattle.req_keys.proofs.PositionsLaws.{filter-range_push, positions_where-has, length-RiseWithin}
use Rattle.clauses.specs.declared.literal.Lit.{Lit}
use Rattle.clauses.specs.Closure.{clash}
use Rattle.clauses.specs.Problem.{ClauseProblem, clauses_with}
use Rattle.propagation.specs.Propagation.{Propagation, propagated}
use Rattle.propagation.specs.Roots.{AreRooted}
use Rattle.propagation.specs.inside.RootTrials.{AreRootsTo, IsCommon, members_to, roots_to}
use Rattle.propagation.proofs.RootLaws.{AreAssumed, assumed-next, next-clash, prefix-within, root_at, roots-push, some-clash_all}

module _ (key : PositionSet) where
  pub members-next : (place : ℕ) → has key.members (place + 1) ≡ true → members_to key (place + 1) ≡ members_to key place ++ (place + 1) ∷ []
  members-next place h =
      let turned : 1 + place ≡ place + 1 = omega arith in
      filter-range_push (has key.members) 1 place
      ∙ ap (λ k. members_to key place ++ cond (has key.members k) (k ∷ []) []) turned
      ∙ ap (λ b. members_to key place ++ cond b ((place + 1) ∷ []) []) h

  pub members-skip : (place : ℕ) → has key.members (place + 1) ≡ false → members_to key (place + 1) ≡ members_to key place
  members-skip place h =
      let turned : 1 + place ≡ place + 1 = omega arith in
      filter-range_push (has key.members) 1 place
      ∙ ap (λ k. members_to key place ++ cond (has key.members k) (k ∷ []) []) turned
      ∙ ap (λ b. members_to key place ++ cond b ((place + 1) ∷ []) []) h
      ∙ append-nil (members_to key place)

  module _ (is_key : IsKey key) where
    pub members-all : members_to key key.n ≡ key.members
    members-all = positions_where-has key.n 0 key.members is_key.1

    pub members-later : (place : ℕ) → place ≤ key.n → key.members ≡ members_to key place ++ filter (has key.members) (range_with_len (1 + place) (key.n - place))
    members-later place inside =
        let whole : place + (key.n - place) ≡ key.n = omega arith in
        sym members-all
        ∙ ap (members_to key) (sym whole)
        ∙ ap (filter (has key.members)) (sym (range-append 1 place (key.n - place)))
        ∙ filter-append (has key.members) (range_with_len 1 place) (range_with_len (1 + place) (key.n - place))

    pub members-few : (place : ℕ) → place ≤ key.n → length (members_to key place) ≤ 4096
    members-few place inside =
        let few = length-RiseWithin 0 key.n key.members is_key.1 in
        let most = is_key.0 in
        let parts = ap length (members-later place inside) in
        let more = length-append (members_to key place) (filter (has key.members) (range_with_len (1 + place) (key.n - place))) in
        omega arith

-- ---- literals that are assumed already

module _ (problem : ClauseProblem) (key : PositionSet) (assumed : List Lit) where
  pub common-none : IsCommon problem key assumed (record { place = 0; count = 0 })
  common-none = record { within = (omega arith); most = (omega arith); are = refl; counted = refl }

  module _ (place count : ℕ) (is : IsCommon problem key assumed (record { place = place; count = count })) (inside : place < key.n) where
    pub common-skip : has key.members (place + 1) ≡ false → IsCommon problem key assumed (record { place = place + 1; count = count })
    common-skip h = record {
      within = (omega arith);
      most = is.most;
      are = is.are ∙ ap (filter_map (root_at problem)) (sym (members-skip key place h));
      counted = is.counted ∙ ap length (sym (members-skip key place h));
    }

    pub common-next : has key.members (place + 1) ≡ true → (root : Lit) → slice_get problem.roots place ≡ Some root → slice_get assumed count ≡ Some root → IsCommon problem key assumed (record { place = place + 1; count = count + 1 })
    common-next h root at there =
        let low = slice_get_within assumed count root there in
        let back : (place + 1) - 1 ≡ place = omega arith in
        let root_is : root_at problem (place + 1) ≡ Some root = ap (slice_get problem.roots) back ∙ at in
        record {
          within = (omega arith);
          most = (omega arith);
          are =
              take_more assumed count root low
              ∙ ap (λ (l : Lit). take count assumed ++ l ∷ []) (get_or_from_slice_get assumed count root root there)
              ∙ ap (λ ls. ls ++ root ∷ []) is.are
              ∙ sym (roots-push problem (members_to key place) (place + 1) root root_is)
              ∙ ap (filter_map (root_at problem)) (sym (members-next key place h));
          counted = (let n = ap length (members-next key place h) in let p = length_push (members_to key place) (place + 1) in let c = is.counted in omega arith);
        }

-- ---- literals that are assumed anew

module _ (problem : ClauseProblem) (key : PositionSet) (is_key : IsKey key) where
  pub begun-clash : (place : ℕ) (at : Propagation) → AreRootsTo problem key place at → clash (propagated at) ≡ true → clash (clauses_with problem key) ≡ true
  begun-clash place at are t =
      some-clash_all problem key (roots_to problem key place)
      (prefix-within problem key (members_to key place) (filter (has key.members) (range_with_len (1 + place) (key.n - place))) (members-later key is_key place are.within))
      (sym (ap (λ (q : Propagation). clash (propagated q)) are.is) ∙ t)

  pub begun-assumed : (place : ℕ) (at : Propagation) → AreRootsTo problem key place at → clash (propagated at) ≡ false → AreAssumed problem at (members_to key place)
  begun-assumed place at are f = record { is = are.is; counted = are.counted; no_clash = f }

  module _ (old : Propagation) (place : ℕ) (inside : place < key.n) (are : AreAssumed problem old (members_to key place)) where
    pub steps-few : length old.assumed ≤ 4096
    steps-few = let few = members-few key is_key place (omega arith) in let size = are.counted in omega arith

    pub steps-skip : has key.members (place + 1) ≡ false → AreAssumed problem old (members_to key (place + 1))
    steps-skip h = subst (AreAssumed problem old) (sym (members-skip key place h)) are

    module _ (member : has key.members (place + 1) ≡ true) (root : Lit) (at_place : slice_get problem.roots place ≡ Some root) (new : Propagation) (grown : new ≡ record old { assumed = old.assumed ++ root ∷ [] }) where
      root_is : root_at problem (place + 1) ≡ Some root
      root_is = let back : (place + 1) - 1 ≡ place = omega arith in ap (slice_get problem.roots) back ∙ at_place

      pub steps-next : clash (propagated new) ≡ false → AreAssumed problem new (members_to key (place + 1))
      steps-next no_clash = subst (AreAssumed problem new) (sym (members-next key place member)) (assumed-next problem old new (members_to key place) (place + 1) root are root_is grown no_clash)

      pub steps-clash : clash (propagated new) ≡ true → clash (clauses_with problem key) ≡ true
      steps-clash t =
          next-clash problem key old new (members_to key place) (place + 1) (filter (has key.members) (range_with_len (1 + (place + 1)) (key.n - (place + 1)))) root are root_is grown t
          (members-later key is_key (place + 1) (omega arith) ∙ ap (λ front. front ++ filter (has key.members) (range_with_len (1 + (place + 1)) (key.n - (place + 1)))) (members-next key place member))

  pub steps-all : (at : Propagation) → AreAssumed problem at (members_to key key.n) → AreRooted problem key at
  steps-all at are = record {
    is = are.is ∙ ap (λ (ls : List ℕ). record { problem = problem; assumed = filter_map (root_at problem) ls; learned = [] }) (members-all key is_key);
    counted = are.counted ∙ ap length (members-all key is_key);
    few = (let counted = are.counted in let few = members-few key is_key key.n (omega arith) in omega arith);
    no_clash = are.no_clash;
  }
