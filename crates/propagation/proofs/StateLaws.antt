-- What a propagator's state says of what is propagated.
use Rattle.std.proofs.Common.{◌≡◌, ◌∙◌, refl, sym, ap, subst, ℕ, ◌-◌, ◌<◌, ◌≤◌, Bool, true, false, not, cond, List, [], ◌∷◌, ◌++◌, length, get_or, take, drop, arith}
use Rattle.std.specs.Prelude.{All, Contains, ◌≢◌, Some, None}
use Rattle.std.proofs.lemmas.Bool.{true≢false}
use Rattle.std.proofs.lemmas.List.{length-take-le, take_all, take-append-le, take-append-drop, length_push, get_or_push, take-take}
use Rattle.std.proofs.Math.Seq.{take-append_seam}
use Rattle.clauses.specs.declared.literal.Lit.{Lit}
use Rattle.clauses.specs.Clause.{has, negative_of, positive_of}
use Rattle.clauses.specs.Closure.{clash, closure}
use Rattle.clauses.specs.Problem.{ClauseProblem, IsBelow}
use Rattle.clauses.proofs.LeastLaws.{clash-among}
use Rattle.clauses.proofs.Literals.{from_has, has-from}
use Rattle.propagation.specs.Propagation.{all_of, value_of}
use Rattle.propagation.specs.declared.state.State.{State}
use Rattle.propagation.specs.declared.state.State.TheVariants as state
use Rattle.propagation.specs.inside.Pairing.{Pairing}
use Rattle.propagation.specs.inside.Levels.{HasState, IsBased, IsLevel, IsStanding, IsTop, IsTopOrClashing, front, last}
use Rattle.propagation.specs.inside.Trails.{Trailing, value_in}
use Rattle.propagation.specs.inside.UpToDate.{is_rest}
use Rattle.propagation.specs.inside.Watching.{AreInside, Watching}
use Rattle.propagation.proofs.GrowthLaws.{more_assumed, more_learned}
use Rattle.propagation.proofs.CoverLaws.{level-all, level-fits, one_signed-within}
use Rattle.propagation.proofs.CutLaws.{cut-below, standing-alike, standing-based}
use Rattle.propagation.proofs.PropagateLaws.{take-subset}

module _ (problem : ClauseProblem) (learned : List (List Lit)) (assumed : List Lit) (trail : Trailing) (own more : Watching) (marks : List ℕ) (base : ℕ) where
  abbrev State' : State → Type 0
  State' s = HasState problem learned assumed trail own more marks base s

  whole : length marks ≡ length assumed → take (length marks) assumed ≡ assumed
  whole e = take_all (length marks) assumed (omega arith)

  pub rest-fits : State' state.Rests → clash (all_of problem.clauses learned assumed) ≡ false
  rest-fits is =
      subst (λ some. clash (all_of problem.clauses learned some) ≡ false) (whole is.2)
      (level-fits problem.clauses learned own.watched more.watched (take (length marks) assumed) trail.literals is.0.parts.own_inside is.0.parts.more_inside is.0.one_signed is.1)

  clashes-more : (some : List Lit) → clash (all_of problem.clauses learned some) ≡ true → (rest : List Lit) → some ++ rest ≡ assumed → clash (all_of problem.clauses learned assumed) ≡ true
  clashes-more some c rest e = subst (λ a. clash (all_of problem.clauses learned a) ≡ true) e (clash-among (all_of problem.clauses learned some) (all_of problem.clauses learned (some ++ rest)) (more_assumed problem.clauses learned some rest) c)

  bare-clashes : clash (all_of problem.clauses [] []) ≡ true → clash (all_of problem.clauses learned []) ≡ true
  bare-clashes c = clash-among (all_of problem.clauses [] []) (all_of problem.clauses learned []) (more_learned problem.clauses [] [] learned) c

  -- the state tells whether there is a clash
  pub state-answers : (s : State) → State' s → clash (all_of problem.clauses learned assumed) ≡ not (is_rest s)
  state-answers state.Rests is = rest-fits is
  state-answers state.Clashes is = clashes-more (take (length marks) assumed) is.1 (drop (length marks) assumed) (take-append-drop (length marks) assumed)
  state-answers state.Lost is = clashes-more [] is.1 assumed refl
  state-answers state.Dead is = clashes-more [] (bare-clashes is.0) assumed refl

  -- without a clash it rests
  pub state-rests : (s : State) → State' s → clash (all_of problem.clauses learned assumed) ≡ false → s ≡ state.Rests
  state-rests state.Rests is f = refl
  state-rests state.Clashes is f = absurd (true≢false (sym (state-answers state.Clashes is) ∙ f))
  state-rests state.Lost is f = absurd (true≢false (sym (state-answers state.Lost is) ∙ f))
  state-rests state.Dead is f = absurd (true≢false (sym (state-answers state.Dead is) ∙ f))

  -- and the trail is the closure
  module _ (is : State' state.Rests) where
    same_has : (l : Lit) → has trail.literals l ≡ has (closure (all_of problem.clauses learned assumed)) l
    same_has l =
        same_bool (has trail.literals l) (has (closure (all_of problem.clauses learned assumed)) l)
        (λ t.
        has-from (closure (all_of problem.clauses learned assumed)) l
        (subst (λ some. Contains (closure (all_of problem.clauses learned some)) l) (whole is.2) (is.1.sound l (from_has trail.literals l t))))
        (λ t.
        has-from trail.literals l
        (level-all problem.clauses learned own.watched more.watched (take (length marks) assumed) trail.literals is.0.parts.own_inside is.0.parts.more_inside is.0.one_signed is.1 l
        (subst (λ some. Contains (closure (all_of problem.clauses learned some)) l) (sym (whole is.2)) (from_has (closure (all_of problem.clauses learned assumed)) l t))))
      where
        same_bool : (a b : Bool) → (a ≡ true → b ≡ true) → (b ≡ true → a ≡ true) → a ≡ b
        same_bool true b f g = sym (f refl)
        same_bool false true f g = g refl
        same_bool false false f g = refl

    pub rest-value : (var : ℕ) → value_in trail.literals var ≡ value_of (all_of problem.clauses learned assumed) var
    rest-value var =
        ap (λ b. cond b (Some true) (cond (has trail.literals (negative_of var)) (Some false) None)) (same_has (positive_of var))
        ∙ ap (λ b. cond (has (closure (all_of problem.clauses learned assumed)) (positive_of var)) (Some true) (cond b (Some false) None)) (same_has (negative_of var))

  -- ---- one assumed literal more

  pub assumed-more : State' state.Rests → (l : Lit) → IsStanding problem learned (assumed ++ l ∷ []) trail own more marks base × IsTop problem learned (assumed ++ l ∷ []) trail own more marks
  assumed-more is l = (
    standing-alike problem learned assumed (assumed ++ l ∷ []) trail own more marks base (let s = length_push assumed l in let f = is.0.few in omega arith)
        (λ k le. take-append-le k assumed (l ∷ []) (let e = is.2 in omega arith)) is.0,
    subst (λ some. IsLevel problem.clauses learned own.watched more.watched some trail.literals) (sym (take-append-le (length marks) assumed (l ∷ []) (let e = is.2 in omega arith))) is.1,
  )

  -- ---- fewer assumed literals

  pub fewer-above : (s : State) → State' s → (count : ℕ) → length marks ≤ count → count ≤ length assumed → HasState problem learned (take count assumed) trail own more marks base s
  fewer-above state.Rests is count le within =
      subst (λ a. HasState problem learned a trail own more marks base state.Rests) (sym (take_all count assumed (let e = is.2 in omega arith))) is
  fewer-above state.Clashes is count le within = (
    standing-alike problem learned assumed (take count assumed) trail own more marks base (let s = length-take-le count assumed within in omega arith) (λ k i. shorter k (omega arith)) is.0,
    subst (λ some. clash (all_of problem.clauses learned some) ≡ true) (sym (shorter (length marks) le)) is.1,
    is.2,
  )
    where
      shorter : (k : ℕ) → k ≤ count → take k (take count assumed) ≡ take k assumed
      shorter k l = take-take k count assumed l
  fewer-above state.Lost is count le within = is
  fewer-above state.Dead is count le within = is

  standing-from : (s : State) → State' s → (k : ℕ) → k < length marks → IsStanding problem learned assumed trail own more marks base
  standing-from state.Rests is k i = is.0
  standing-from state.Clashes is k i = is.0
  standing-from state.Lost is k i = absurd (let e = ap length is.2 in omega arith)
  standing-from state.Dead is k i = absurd (let e = ap length is.1 in omega arith)

  pub fewer-below : (s : State) → State' s → (count : ℕ) → (inside : count < length marks) → count ≤ length assumed → HasState problem learned (take count assumed) (record trail { literals = take (get_or marks count 0) trail.literals }) own more (take count marks) base state.Rests
  fewer-below s is count inside within =
      let stands = standing-from s is count inside in
      let both = cut-below problem learned assumed trail own more marks base stands count inside in
      let size : length (take count marks) ≡ count = length-take-le count marks (omega arith) in
      let size_too : length (take count assumed) ≡ count = length-take-le count assumed within in (
        standing-alike problem learned assumed (take count assumed) (record trail { literals = take (get_or marks count 0) trail.literals }) own more (take count marks) base (omega arith) (λ k le. take-take k count assumed (omega arith)) both.0,
        subst (λ some. IsLevel problem.clauses learned own.watched more.watched some (take (get_or marks count 0) trail.literals)) (sym (take-take (length (take count marks)) count assumed (omega arith))) both.1,
        size ∙ sym size_too,
      )

  -- ---- nothing learned or assumed

  based : (s : State) → State' s → s ≢ state.Dead → IsBased problem trail own more base
  based state.Rests is ne = standing-based problem learned assumed trail own more marks base is.0
  based state.Clashes is ne = standing-based problem learned assumed trail own more marks base is.0
  based state.Lost is ne = is.0
  based state.Dead is ne = absurd (ne refl)

  pub forgotten : (s : State) → State' s → s ≢ state.Dead → (clauses_below : All (All (IsBelow problem.variables)) problem.clauses) (clear : Watching) → clear.variables ≡ more.variables → clear.watched ≡ [] → clear.pairs.others ≡ []
      → HasState problem [] [] (record trail { literals = take base trail.literals }) own clear [] base state.Rests
  forgotten s is ne clauses_below clear same empty plain =
      let b = based s is ne in
      let size = ap length empty in
      let n : length (take base trail.literals) ≡ base = length-take-le base trail.literals b.base_within in (
        record {
          parts = record {
            trail_of = b.trail_of;
            own_of = b.own_of;
            more_of = same ∙ b.more_of;
            clauses_below = clauses_below;
            learned_below = (λ k d l. absurd (omega arith));
            own_inside = b.own_inside;
            own_paired = b.own_paired;
            more_plain = plain;
            more_inside = (size, (λ e i. absurd (omega arith)));
          };
          one_signed = one_signed-within (take base trail.literals) trail.literals (take-subset base trail.literals) b.one_signed;
          few = omega arith;
          level = (λ k i. absurd (omega arith));
          rising = (λ j k le i. absurd (omega arith));
          within = (λ k i. absurd (omega arith));
          above = (λ k i. absurd (omega arith));
          base_within = omega arith;
          base_level = subst (λ set. IsLevel problem.clauses [] own.watched [] [] set) (sym (take_all base (take base trail.literals) (omega arith))) b.base_level;
        },
        subst (λ w. IsLevel problem.clauses [] own.watched w [] (take base trail.literals)) (sym empty) b.base_level,
        refl,
      )

  pub forgotten-dead : State' state.Dead → (now : Trailing) (clear : Watching) → HasState problem [] [] now own clear [] base state.Dead
  forgotten-dead is now clear = (is.0, refl)

-- where all are brought in, or clash
pub brought-state : (problem : ClauseProblem) (learned : List (List Lit)) (assumed : List Lit) (trail : Trailing) (own more : Watching) (marks : List ℕ) (base : ℕ) (fits : Bool) (s : State) → (fits ≡ true → s ≡ state.Rests) → (fits ≡ false → s ≡ state.Clashes)
    → IsStanding problem learned assumed trail own more marks base → IsTopOrClashing problem learned assumed trail own more marks fits → (fits ≡ true → length marks ≡ length assumed) → (fits ≡ false → 0 < length marks) → HasState problem learned assumed trail own more marks base s
brought-state problem learned assumed trail own more marks base true s a b stands top all some = subst (HasState problem learned assumed trail own more marks base) (sym (a refl)) (stands, top, all refl)
brought-state problem learned assumed trail own more marks base false s a b stands top all some = subst (HasState problem learned assumed trail own more marks base) (sym (b refl)) (stands, top, some refl)

-- room makes no difference
module _ (problem : ClauseProblem) (learned : List (List Lit)) (assumed : List Lit) (trail : Trailing) (own more more' : Watching) (marks : List ℕ) (base : ℕ) (variables : more'.variables ≡ more.variables) (watched : more'.watched ≡ more.watched) (pairs : more'.pairs ≡ more.pairs) where
  standing-room : IsStanding problem learned assumed trail own more marks base → IsStanding problem learned assumed trail own more' marks base
  standing-room is = record {
    parts = record {
      trail_of = is.parts.trail_of;
      own_of = is.parts.own_of;
      more_of = variables ∙ is.parts.more_of;
      clauses_below = is.parts.clauses_below;
      learned_below = is.parts.learned_below;
      own_inside = is.parts.own_inside;
      own_paired = is.parts.own_paired;
      more_plain = ap (λ (p : Pairing). p.others) pairs ∙ is.parts.more_plain;
      more_inside = subst (AreInside learned) (sym watched) is.parts.more_inside;
    };
    one_signed = is.one_signed;
    few = is.few;
    level = λ k i. subst (λ w. IsLevel problem.clauses learned own.watched w (take k assumed) (take (get_or marks k 0) trail.literals)) (sym watched) (is.level k i);
    rising = is.rising;
    within = is.within;
    above = is.above;
    base_within = is.base_within;
    base_level = is.base_level;
  }

  based-room : IsBased problem trail own more base → IsBased problem trail own more' base
  based-room is = record {
    trail_of = is.trail_of;
    own_of = is.own_of;
    more_of = variables ∙ is.more_of;
    own_inside = is.own_inside;
    own_paired = is.own_paired;
    one_signed = is.one_signed;
    base_within = is.base_within;
    base_level = is.base_level;
  }

  pub state-room : (s : State) → HasState problem learned assumed trail own more marks base s → HasState problem learned assumed trail own more' marks base s
  state-room state.Rests is = (standing-room is.0, subst (λ w. IsLevel problem.clauses learned own.watched w (take (length marks) assumed) trail.literals) (sym watched) is.1, is.2)
  state-room state.Clashes is = (standing-room is.0, is.1, is.2)
  state-room state.Lost is = (based-room is.0, is.1, is.2)
  state-room state.Dead is = is

-- a clause that was learned last
pub front-push : (xs : List (List Lit)) (x : List Lit) → front (xs ++ x ∷ []) ≡ xs
front-push xs x =
    let size : length (xs ++ x ∷ []) - 1 ≡ length xs = (let s = length_push xs x in omega arith) in
    ap (λ n. take n (xs ++ x ∷ [])) size ∙ take-append_seam xs (x ∷ [])

pub last-push : (xs : List (List Lit)) (x : List Lit) → last (xs ++ x ∷ []) ≡ x
last-push xs x =
    let size : length (xs ++ x ∷ []) - 1 ≡ length xs = (let s = length_push xs x in omega arith) in
    ap (λ n. get_or (xs ++ x ∷ []) n []) size ∙ get_or_push xs x [] (length xs) refl

pub brought-rest : (fits : Bool) (s : State) → (fits ≡ true → s ≡ state.Rests) → (fits ≡ false → s ≡ state.Clashes) → fits ≡ is_rest s
brought-rest true s a b = sym (ap is_rest (a refl))
brought-rest false s a b = sym (ap is_rest (b refl))

pub not-not : (b : Bool) → b ≡ not (not b)
not-not true = refl
not-not false = refl
