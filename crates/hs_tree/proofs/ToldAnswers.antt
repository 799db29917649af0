-- Looking up a told answer.
use Rattle.std.proofs.Common.{◌≡◌, ℕ, ◌+◌, ◌<◌, true, false, Some, List, ◌∷◌, length, get_or, drop, refl, sym, ◌∙◌, ap, subst, eqb, drop-cons, add-one}
use Rattle.std.specs.Prelude.{Contains, slice_get}
use Rattle.std.proofs.lemmas.Option.{get_or_from_slice_get, slice_get_within}
use Rattle.std.specs.Cmp.Lexicographic.{pointwise}
use Rattle.std.proofs.lemmas.Bool.{eq-eqb}
use Rattle.pref_sets.specs.Answers.{answer_to}
use Rattle.req_keys.specs.Key.{PositionSet}
use Rattle.req_keys.specs.Order.{key_eq}
use Rattle.hs_tree.specs.declared.told.ToldAnswer.{ToldAnswer}
use Rattle.hs_tree.specs.inside.Told.{answers_of, AreToldOver}

pub told-same : (answer : ToldAnswer) (rest : List ToldAnswer) (key : PositionSet) → answer.key.n ≡ key.n → key_eq answer.key key ≡ true → answer_to (answers_of (answer ∷ rest)) key.members ≡ Some answer.sat
told-same answer rest key e same = let members : pointwise eqb answer.key.members key.members ≡ true = rw (eq-eqb answer.key.n key.n e) at same in rw members refl

pub told-other : (answer : ToldAnswer) (rest : List ToldAnswer) (key : PositionSet) → answer.key.n ≡ key.n → key_eq answer.key key ≡ false → answer_to (answers_of (answer ∷ rest)) key.members ≡ answer_to (answers_of rest) key.members
told-other answer rest key e other = let members : pointwise eqb answer.key.members key.members ≡ false = rw (eq-eqb answer.key.n key.n e) at other in rw members refl

pub drop-one : {X : Type 0} (xs : List X) (i : ℕ) (d : X) → i < length xs → drop i xs ≡ get_or xs i d ∷ drop (i + 1) xs
drop-one xs i d l = rw (add-one, drop-cons xs i d) refl

-- an item and those behind it
pub drop-at : {X : Type 0} (xs : List X) (i : ℕ) (x : X) → i < length xs → x ≡ get_or xs i x → drop i xs ≡ x ∷ drop (i + 1) xs
drop-at xs i x l e = drop-one xs i x l ∙ ap (λ t. t ∷ drop (i + 1) xs) (sym e)

pub AreToldOver-at : (n : ℕ) (told items : List ToldAnswer) (i : ℕ) (x : ToldAnswer) → AreToldOver n told → items ≡ told → i < length items → x ≡ get_or items i x → x.key.n ≡ n
AreToldOver-at n told items i x all e l is = subst (AreToldOver n) (sym e) all x (i, l, sym is)

-- an item that was read
pub got : {X : Type 0} (xs : List X) (i : ℕ) (x : X) → slice_get xs i ≡ Some x → Contains xs x
got xs i x e = (i, slice_get_within xs i x e, get_or_from_slice_get xs i x x e)

pub got-is : {X : Type 0} (xs : List X) (i : ℕ) (x : X) → slice_get xs i ≡ Some x → x ≡ get_or xs i x
got-is xs i x e = sym (get_or_from_slice_get xs i x x e)
