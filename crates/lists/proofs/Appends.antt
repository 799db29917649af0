-- What holds of the items of lists that are joined.
use Rattle.std.proofs.Common.{◌≡◌, refl, ap, Bool, ◌||◌, List, [], ◌∷◌, ◌++◌, All, map}
use Rattle.std.specs.List.{list_any, flat_map}
use Rattle.std.proofs.lemmas.List.Elements.{All-nil, All-cons, All-head, All-tail}

pub All-append_left : {X : Type 0} (P : X → Type 0) (xs ys : List X) → All P (xs ++ ys) → All P xs
All-append_left P [] ys all = All-nil P
All-append_left P (x ∷ xs) ys all = All-cons P x xs (All-head P x (xs ++ ys) all) (All-append_left P xs ys (All-tail P x (xs ++ ys) all))

pub All-append_right : {X : Type 0} (P : X → Type 0) (xs ys : List X) → All P (xs ++ ys) → All P ys
All-append_right P [] ys all = all
All-append_right P (x ∷ xs) ys all = All-append_right P xs ys (All-tail P x (xs ++ ys) all)

-- what holds of each item of the parts' lists holds of each item of each
pub All-flat_map : {X Y : Type 0} (P : Y → Type 0) (f : X → List Y) (xs : List X) → All P (flat_map (λ part. part) (map f xs)) → All (λ x. All P (f x)) xs
All-flat_map P f [] all = All-nil (λ y. All P (f y))
All-flat_map P f (x ∷ xs) all =
    All-cons (λ y. All P (f y)) x xs
    (All-append_left P (f x) (flat_map (λ part. part) (map f xs)) all)
    (All-flat_map P f xs (All-append_right P (f x) (flat_map (λ part. part) (map f xs)) all))

pub list_any-map : {X Y : Type 0} (f : X → Y) (p : Y → Bool) (xs : List X) → list_any p (map f xs) ≡ list_any (λ x. p (f x)) xs
list_any-map f p [] = refl
list_any-map f p (x ∷ xs) = ap (λ rest. p (f x) || rest) (list_any-map f p xs)
