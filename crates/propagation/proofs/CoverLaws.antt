-- What watches cover.
use Rattle.std.proofs.Common.{◌≡◌, ◌∙◌, ◌⊎◌, refl, sym, ap, subst, inl, inr, ⊎_elim, ℕ, ◌+◌, ◌*◌, ◌/◌, ◌<◌, true, false, List, [], ◌∷◌, ◌++◌, ◌-◌, length, get_or, map, arith}
use Rattle.std.specs.Prelude.{Any, Contains, ◌≢◌}
use Rattle.std.proofs.Math.ListN.{get_or-append}
use Rattle.std.proofs.lemmas.Bool.{cases_Bool, cases_eq, false≢true, false_from_ne_true}
use Rattle.std.proofs.lemmas.List.{length-append, get_or_push, get_or_default, get_or-append_right}
use Rattle.std.proofs.lemmas.List.Elements.{All-contains, Contains-append_cases, Contains-push_cases}
use Rattle.lists.proofs.Members.{first, from_map}
use Rattle.clauses.specs.declared.literal.Lit.{Lit}
use Rattle.clauses.specs.Clause.{has, negation, negative_of, unit_of}
use Rattle.clauses.specs.Closure.{closure, clash, IsClosed}
use Rattle.clauses.proofs.LeastLaws.{closure-least}
use Rattle.clauses.proofs.Literals.{from_has, has-from, negation-negation}
use Rattle.clauses.proofs.TrimmedLaws.{clash-from_refuted, refuted-from_clash}
use Rattle.propagation.specs.Propagation.{all_of}
use Rattle.propagation.specs.inside.Trails.{IsOneSigned}
use Rattle.propagation.specs.inside.Values.{IsPart}
use Rattle.propagation.specs.inside.Levels.{IsLevel}
use Rattle.propagation.specs.inside.Watching.{AreCovered, AreInside, AreKept, IsCovered, IsRefuted, IsSound, IsSubset, partner, watched_at}
use Rattle.propagation.proofs.ValueLaws.{member-Any, same_or_not}
use Rattle.propagation.proofs.WatchLaws.{partner-inside}

-- ---- more that is true, and more that is done with

pub covered-more : (done set more w : List Lit) → IsSubset set more → AreCovered done set w → AreCovered done more w
covered-more done set more w sub c e i =
    let old = c e i in
    record {
      answered = λ m. sub (watched_at w (partner e)) (old.answered m);
      apart = ⊎_elim (λ (a : watched_at w e ≢ watched_at w (partner e)). inl a) (λ (b : Contains set (watched_at w e)). inr (sub (watched_at w e) b)) old.apart;
    }

negation-same : (a b : Lit) → negation a ≡ negation b → a ≡ b
negation-same a b e = sym (negation-negation a) ∙ ap negation e ∙ negation-negation b

pub covered-seen : (done set w : List Lit) (literal : Lit) → AreCovered done set w → ((e : ℕ) → e < length w → watched_at w e ≡ literal → Contains set (watched_at w (partner e))) → AreCovered (done ++ negation literal ∷ []) set w
covered-seen done set w literal c seen e i = record {
  answered = λ m.
      ⊎_elim
      (λ (old : Contains done (negation (watched_at w e))). (c e i).answered old)
      (λ (new : negation literal ≡ negation (watched_at w e)). seen e i (sym (negation-same literal (watched_at w e) new)))
      (Contains-push_cases done (negation literal) (negation (watched_at w e)) m);
  apart = (c e i).apart;
}

pub kept-then : (set larger a b c : List Lit) → IsSubset set larger → AreKept set a b → AreKept larger b c → AreKept set a c
kept-then set larger a b c sub f g done within x y covered = g done within x (λ l m. sub l (y l m)) (f done within x y covered)

-- ---- one clause more

module _ (clauses : List (List Lit)) (w : List Lit) (inside : AreInside clauses w) (one other : Lit) where
  abbrev n : ℕ
  n = length w

  size : length (w ++ one ∷ other ∷ []) ≡ length w + 2
  size = length-append w (one ∷ other ∷ [])

  at-one : watched_at (w ++ one ∷ other ∷ []) n ≡ one
  at-one = get_or-append_right w (one ∷ other ∷ []) n n (negative_of 0) refl (omega arith) ∙ ap (λ k. get_or (one ∷ other ∷ []) k (negative_of 0)) (let z : n - n ≡ 0 = omega arith in z)

  at-other : watched_at (w ++ one ∷ other ∷ []) (n + 1) ≡ other
  at-other = get_or-append_right w (one ∷ other ∷ []) n (n + 1) (negative_of 0) refl (omega arith) ∙ ap (λ k. get_or (one ∷ other ∷ []) k (negative_of 0)) (let z : (n + 1) - n ≡ 1 = omega arith in z)

  at-old : (e : ℕ) → e < n → watched_at (w ++ one ∷ other ∷ []) e ≡ watched_at w e
  at-old e i = get_or-append w (one ∷ other ∷ []) (negative_of 0) e i

  pub covered-attach : (done set : List Lit) → AreCovered done set w → IsCovered done set one other → IsCovered done set other one → AreCovered done set (w ++ one ∷ other ∷ [])
  covered-attach done set c a b e i =
      let even = inside.0 in
      let longer = size in
      ⊎_elim
      (λ (here : e ≡ n).
      let p : partner e ≡ n + 1 = omega arith in
      subst (λ (x : Lit). IsCovered done set x (watched_at (w ++ one ∷ other ∷ []) (partner e))) (sym (ap (watched_at (w ++ one ∷ other ∷ [])) here ∙ at-one))
      (subst (λ (x : Lit). IsCovered done set one x) (sym (ap (watched_at (w ++ one ∷ other ∷ [])) p ∙ at-other)) a))
      (λ (not_here : ¬ e ≡ n).
      ⊎_elim
      (λ (there : e ≡ n + 1).
      let p : partner e ≡ n = omega arith in
      subst (λ (x : Lit). IsCovered done set x (watched_at (w ++ one ∷ other ∷ []) (partner e))) (sym (ap (watched_at (w ++ one ∷ other ∷ [])) there ∙ at-other))
      (subst (λ (x : Lit). IsCovered done set other x) (sym (ap (watched_at (w ++ one ∷ other ∷ [])) p ∙ at-one)) b))
      (λ (not_there : ¬ e ≡ n + 1).
      let old : e < n = omega arith in
      let mate : partner e < n = let q = partner-inside (length clauses) e (omega arith) in omega arith in
      subst (λ (x : Lit). IsCovered done set x (watched_at (w ++ one ∷ other ∷ []) (partner e))) (sym (at-old e old))
      (subst (λ (x : Lit). IsCovered done set (watched_at w e) x) (sym (at-old (partner e) mate)) (c e old)))
      (cases_eq e (n + 1)))
      (cases_eq e n)

  pub inside-attach : (clause : List Lit) → Contains clause one → Contains clause other → AreInside (clauses ++ clause ∷ []) (w ++ one ∷ other ∷ [])
  inside-attach clause a b = (
    (let even = inside.0 in let longer = size in let more = length-append clauses (clause ∷ []) in omega arith),
    (λ e i.
        let even = inside.0 in
        let longer = size in
        ⊎_elim
        (λ (here : e ≡ n).
        subst (Contains (get_or (clauses ++ clause ∷ []) (e / 2) [])) (sym (ap (watched_at (w ++ one ∷ other ∷ [])) here ∙ at-one))
        (subst (λ k. Contains k one) (sym (get_or_push clauses clause [] (e / 2) (omega arith))) a))
        (λ (not_here : ¬ e ≡ n).
        ⊎_elim
        (λ (there : e ≡ n + 1).
        subst (Contains (get_or (clauses ++ clause ∷ []) (e / 2) [])) (sym (ap (watched_at (w ++ one ∷ other ∷ [])) there ∙ at-other))
        (subst (λ k. Contains k other) (sym (get_or_push clauses clause [] (e / 2) (omega arith))) b))
        (λ (not_there : ¬ e ≡ n + 1).
        let old : e < n = omega arith in
        subst (Contains (get_or (clauses ++ clause ∷ []) (e / 2) [])) (sym (at-old e old))
        (subst (λ k. Contains k (watched_at w e)) (sym (get_or-append clauses (clause ∷ []) [] (e / 2) (omega arith))) (inside.1 e old)))
        (cases_eq e (n + 1)))
        (cases_eq e n)),
  )

-- ---- where all is covered, the set is the closure

-- a literal of the clause is true, or two are open
abbrev pub IsSettledIn : List Lit → List Lit → Type 0
IsSettledIn set clause =
    ((l : Lit) × Contains clause l × Contains set l)
    ⊎ ((one : Lit) × (other : Lit) × (one ≢ other) × Contains clause one × Contains clause other × (¬ Contains set (negation one)) × (¬ Contains set (negation other)))

inside-or-not : (set : List Lit) (l : Lit) → Contains set l ⊎ (¬ Contains set l)
inside-or-not set l =
    ⊎_elim
    (λ (t : has set l ≡ true). inl (from_has set l t))
    (λ (f : has set l ≡ false). inr (λ m. false≢true (sym f ∙ has-from set l m)))
    (cases_Bool (has set l))

covered-settled-at : (set clauses_w : List Lit) (clause : List Lit) (one other : Lit) → IsCovered set set one other → IsCovered set set other one → Contains clause one → Contains clause other → IsSettledIn set clause
covered-settled-at set w clause one other a b in_one in_other =
    ⊎_elim
    (λ (n : Contains set (negation one)). inl (other, in_other, a.answered n))
    (λ (n : ¬ Contains set (negation one)).
    ⊎_elim
    (λ (m : Contains set (negation other)). inl (one, in_one, b.answered m))
    (λ (m : ¬ Contains set (negation other)).
    ⊎_elim
    (λ (ne : one ≢ other). inr (one, other, ne, in_one, in_other, n, m))
    (λ (t : Contains set one). inl (one, in_one, t))
    a.apart)
    (inside-or-not set (negation other)))
    (inside-or-not set (negation one))

pub covered-settled : (clauses : List (List Lit)) (w set : List Lit) → AreInside clauses w → AreCovered set set w → (clause : List Lit) → Contains clauses clause → IsSettledIn set clause
covered-settled clauses w set inside covered clause m =
    let even = inside.0 in
    let i = m.1 in
    let e : ℕ = 2 * m.0 in
    let e_in : 2 * m.0 < length w = omega arith in
    let o_in : 2 * m.0 + 1 < length w = omega arith in
    let mate : partner (2 * m.0) ≡ 2 * m.0 + 1 = omega arith in
    let back : partner (2 * m.0 + 1) ≡ 2 * m.0 = omega arith in
    let half : 2 * m.0 / 2 ≡ m.0 = omega arith in
    let half_too : (2 * m.0 + 1) / 2 ≡ m.0 = omega arith in
    let is : get_or clauses m.0 [] ≡ clause = get_or_default clauses m.0 [] clause i ∙ m.2 in
    covered-settled-at set w clause (watched_at w (2 * m.0)) (watched_at w (2 * m.0 + 1))
    (subst (λ k. IsCovered set set (watched_at w (2 * m.0)) (watched_at w k)) mate (covered (2 * m.0) e_in))
    (subst (λ k. IsCovered set set (watched_at w (2 * m.0 + 1)) (watched_at w k)) back (covered (2 * m.0 + 1) o_in))
    (subst (λ k. Contains k (watched_at w (2 * m.0))) (ap (λ k. get_or clauses k []) half ∙ is) (inside.1 (2 * m.0) e_in))
    (subst (λ k. Contains k (watched_at w (2 * m.0 + 1))) (ap (λ k. get_or clauses k []) half_too ∙ is) (inside.1 (2 * m.0 + 1) o_in))

-- where each clause is settled the set has the closure, and nothing clashes
module _ (all : List (List Lit)) (set : List Lit) (one_signed : IsOneSigned set) (settled : (clause : List Lit) → Contains all clause → IsSettledIn set clause) where
  settled-closed : IsClosed all (Contains set)
  settled-closed clause l m inside others =
      ⊎_elim
      (λ (t : (x : Lit) × Contains clause x × Contains set x).
      ⊎_elim
      (λ (e : t.0 ≡ l). subst (Contains set) e t.2)
      (λ (ne : t.0 ≢ l). absurd (one_signed t.0 t.2 (others t.0 t.1 ne)))
      (same_or_not t.0 l))
      (λ (o : (one : Lit) × (other : Lit) × (one ≢ other) × Contains clause one × Contains clause other × (¬ Contains set (negation one)) × (¬ Contains set (negation other))).
      ⊎_elim
      (λ (e : o.0 ≡ l). absurd (o.6 (others o.1 o.4 (λ s. o.2 (e ∙ sym s)))))
      (λ (ne : o.0 ≢ l). absurd (o.5 (others o.0 o.3 ne)))
      (same_or_not o.0 l))
      (settled clause m)

  pub settled-all : (l : Lit) → Contains (closure all) l → Contains set l
  settled-all = closure-least all (Contains set) settled-closed

  pub settled-fits : clash all ≡ false
  settled-fits =
      false_from_ne_true (clash all) (λ t.
      let some = refuted-from_clash all t in
      ⊎_elim
      (λ (x : (l : Lit) × Contains some.0 l × Contains set l). one_signed x.0 x.2 (settled-all (negation x.0) (some.2 x.0 x.1)))
      (λ (o : (one : Lit) × (other : Lit) × (one ≢ other) × Contains some.0 one × Contains some.0 other × (¬ Contains set (negation one)) × (¬ Contains set (negation other))).
      o.5 (settled-all (negation o.0) (some.2 o.0 o.3)))
      (settled some.0 some.1))

pub one_signed-within : (a b : List Lit) → IsSubset a b → IsOneSigned b → IsOneSigned a
one_signed-within a b sub o l m n = o l (sub l m) (sub (negation l) n)

-- ---- a level

module _ (clauses learned : List (List Lit)) (own more assumed set : List Lit) (own_inside : AreInside clauses own) (more_inside : AreInside learned more) (one_signed : IsOneSigned set) (is : IsLevel clauses learned own more assumed set) where
  level-settled : (clause : List Lit) → Contains (all_of clauses learned assumed) clause → IsSettledIn set clause
  level-settled clause m =
      ⊎_elim
      (λ (front : Contains (clauses ++ learned) clause).
      ⊎_elim
      (λ (c : Contains clauses clause). covered-settled clauses own set own_inside is.own_covered clause c)
      (λ (l : Contains learned clause). covered-settled learned more set more_inside is.more_covered clause l)
      (Contains-append_cases clauses learned clause front))
      (λ (u : Contains (map unit_of assumed) clause).
      let of = from_map unit_of assumed clause u in
      inl (of.0, subst (λ c. Contains c of.0) of.2 (first of.0 []), is.taken of.0 of.1))
      (Contains-append_cases (clauses ++ learned) (map unit_of assumed) clause m)

  pub level-all : (l : Lit) → Contains (closure (all_of clauses learned assumed)) l → Contains set l
  level-all = settled-all (all_of clauses learned assumed) set one_signed level-settled

  pub level-fits : clash (all_of clauses learned assumed) ≡ false
  level-fits = settled-fits (all_of clauses learned assumed) set one_signed level-settled

-- a clause that is refuted in a set which is in the closure
pub refuted-clashes : (all : List (List Lit)) (set : List Lit) → IsSound all set → (clauses : List (List Lit)) → IsPart clauses all → Any (IsRefuted set) clauses → clash all ≡ true
refuted-clashes all set sound clauses part refuted =
    let some = member-Any (IsRefuted set) clauses refuted in
    clash-from_refuted all some.0 (part some.0 some.1) (λ l m. sound (negation l) (All-contains (λ x. Contains set (negation x)) some.0 l some.2 m))
