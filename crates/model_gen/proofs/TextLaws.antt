-- Pieces of text, one behind the other.
use Rattle.std.proofs.Common.{◌≡◌, ◌∙◌, refl, ap, ℕ, zero, suc, ◌+◌, List, [], ◌∷◌, ◌++◌, replicate, append_assoc, add-one}
use Rattle.model_gen.specs.Texts.{tabs_of}

pub tabs_of-none : tabs_of 0 ≡ []
unfolding tabs_of
tabs_of-none = refl

replicate-push : (count x : ℕ) → x ∷ replicate count x ≡ replicate count x ++ x ∷ []
replicate-push zero x = refl
replicate-push (suc count) x = ap (λ t. x ∷ t) (replicate-push count x)

-- one tab more
pub tabs_of-push : (count : ℕ) → tabs_of (count + 1) ≡ tabs_of count ++ 9 ∷ []
unfolding tabs_of
tabs_of-push count = ap (λ n. replicate n 9) (add-one count) ∙ replicate-push count 9

pub tabs_of-one : tabs_of 1 ≡ 9 ∷ []
unfolding tabs_of
tabs_of-one = refl

-- what was pushed piece by piece is a line behind the text
pub one_line : (text tabs words : List ℕ) → ((text ++ tabs) ++ words) ++ 10 ∷ [] ≡ text ++ (tabs ++ words ++ 10 ∷ [])
one_line text tabs words = simp append_assoc refl

pub arrow_line : (text tabs left arrow right : List ℕ) → ((((text ++ tabs) ++ left) ++ arrow) ++ right) ++ 10 ∷ [] ≡ text ++ (tabs ++ (left ++ arrow ++ right) ++ 10 ∷ [])
arrow_line text tabs left arrow right = simp append_assoc refl

pub marked_line : (text mark name : List ℕ) → ((text ++ mark) ++ name) ++ 10 ∷ [] ≡ text ++ (tabs_of 0 ++ (mark ++ name) ++ 10 ∷ [])
marked_line text mark name = rw tabs_of-none (simp append_assoc refl)
