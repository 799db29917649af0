use borrow.Author.Count.{below_more}
use Rattle.std.proofs.Common.{◌≡◌, length, ℕ, ◌+◌, ◌<◌, Bool, true, false, List, get_or, Some, ◌∙◌, refl, sym, subst, arith}
use Rattle.std.specs.List.{slice_get}
use Rattle.std.proofs.lemmas.List.Elements.{All-get_or}
use Rattle.std.proofs.lemmas.Option.{unwrap_or-slice_get, slice_get_read, slice_get_within}
use Rattle.feature_tree.specs.declared.feature.Feature.{Feature}
use Rattle.feature_tree.specs.Truth.{is_in}
use Rattle.feature_tree.specs.Decided.{is_settled as settled}
use Rattle.feature_tree.specs.inside.Within.{IsWithin}
use Rattle.feature_tree.proofs.feature.members_are_settled.Goals as goal
use Rattle.feature_tree.proofs.feature.members_are_settled.Goals.{else-in_set-i-via-then-in_set-i+else-not-is_settled, else-in_set-i-via-else-in_set-i}

module _ (features : List Feature) (set : List Bool) where
  -- the feature numbered k is settled, if it is a member
  abbrev Settled : ℕ → Type 0
  Settled k = (feature : Feature) → slice_get features k ≡ Some feature → is_in set k ≡ true → settled set feature ≡ true

  -- one more feature is passed
  passed : (i : ℕ) (x : Feature) → i < length features → x ≡ get_or features i x
      → ((k : ℕ) (feature : Feature) → k < i → slice_get features k ≡ Some feature → is_in set k ≡ true → settled set feature ≡ true)
      → (is_in set i ≡ true → settled set x ≡ true)
      → (k : ℕ) (feature : Feature) → k < i + 1 → slice_get features k ≡ Some feature → is_in set k ≡ true → settled set feature ≡ true
  passed i x within is before here k feature less =
      below_more Settled i (λ q earlier f. before q f earlier)
      (λ f read member.
      let at : slice_get features i ≡ Some x = slice_get_read features (length features) i x refl within is in
      let same : x ≡ f = cc in
      subst (λ y. settled set y ≡ true) same (here member))
      k less feature

pub is_settled-requires : goal.is_settled-requires
is_settled-requires c =
    let P : Feature → Type 0 = λ feature. IsWithin (length c.args.in_set.now) feature in
    subst P (sym c.index-features-i.is) (All-get_or P c.args.features.now c.loop-i.i c.index-features-i.result c.loop-i-test.true c.requires.within)

pub returns-then-not-is_settled : goal.returns-then-not-is_settled
returns-then-not-is_settled c = (
  (λ no. absurd (cc)),
  (λ each.
      let at : slice_get c.args.features.now c.loop-i.i ≡ Some c.index-features-i.result = slice_get_read c.args.features.now _ c.loop-i.i c.index-features-i.result refl c.loop-i-test.true c.index-features-i.is in
      let member : is_in c.args.in_set.now c.loop-i.i ≡ true = unwrap_or-slice_get c.args.in_set.now c.loop-i.i false ∙ c.if-in_set-i.true in
      sym c.if-not-is_settled.true ∙ c.is_settled.ensures ∙ each _ _ at member),
)

pub loop-i-preserved : goal.loop-i-preserved
loop-i-preserved c =
    let step = passed c.args.features.now c.args.in_set.now c.loop-i.i c.index-features-i.result c.loop-i-test.true c.index-features-i.is c.loop-i.invariant in
    elim c.else-in_set-i.branch [
      | else-in_set-i-via-then-in_set-i+else-not-is_settled w ↦ step (λ member. sym w.is_settled.ensures ∙ w.if-not-is_settled.false)
      | else-in_set-i-via-else-in_set-i w ↦ step (λ member. absurd (let read = unwrap_or-slice_get c.args.in_set.now c.loop-i.i false in cc))
    ]

pub returns : goal.returns
returns c = (
  (λ yes k feature read member. c.loop-i.invariant k feature (let within : k < length c.args.features.now = slice_get_within c.args.features.now k feature read in omega arith) read member),
  (λ each. refl),
)
