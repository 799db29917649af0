-- Lists without a repeated item.
use Rattle.std.specs.Prelude.{List, [], ◌∷◌, Contains}

-- no item stands twice
abbrev pub IsDistinct : {X : Type 0} → List X → Type 0
IsDistinct [] = Unit {0}
IsDistinct (item ∷ items) = (¬ Contains items item) × IsDistinct items
