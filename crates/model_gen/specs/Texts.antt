-- The generated product line and its requirements as the texts of two files. Own to this project; the model's is UVL.
use Rattle.std.specs.Prelude.{ℕ, zero, suc, ◌+◌, ◌-◌, ◌*◌, List, [], ◌∷◌, ◌++◌, length, replicate, slice_get, Some, None, codes, if◌then◌else◌}
use Rattle.std.specs.List.{flat_map}
use Rattle.std.specs.Fmt.{decimal}
use Rattle.feature_tree.specs.declared.group.GroupKind.{GroupKind}
use Rattle.feature_tree.specs.declared.group.GroupKind.TheVariants.{Mandatory, Optional, Or, Alternative, Range}
use Rattle.model_gen.specs.Lines.{Implication, Wish, children, kinds, constraints, wishes}

unfoldable pub tabs_of : ℕ → List ℕ
tabs_of count = replicate count 9

-- a text behind so many tabs, and the end of its line
abbrev pub line : ℕ → List ℕ → List ℕ
line tabs text = tabs_of tabs ++ text ++ 10 ∷ []

abbrev pub feature_name : ℕ → List ℕ
feature_name feature = codes "F" ++ decimal feature

-- a group of so many children
abbrev pub group_text : GroupKind → ℕ → List ℕ
group_text Mandatory count = codes "mandatory"
group_text Optional count = codes "optional"
group_text Or count = codes "or"
group_text Alternative count = codes "alternative"
group_text Range count = codes "[1.." ++ decimal count ++ codes "]"

-- a feature at this depth, the root having 0, and the line of its group, if there is a kind for it
abbrev pub feature_lines : List GroupKind → ℕ → ℕ → ℕ → List ℕ
feature_lines kinds size depth feature =
    line (2 * depth + 1) (feature_name feature)
    ++ elim (slice_get kinds feature) [ None ↦ [] | Some kind ↦ line (2 * depth + 2) (group_text kind (length (children size feature))) ]

-- a feature and all that is under it: each child is followed by what is under it. `count` bounds how deep this goes
abbrev pub tree_within : ℕ → List GroupKind → ℕ → ℕ → ℕ → List ℕ
tree_within zero kinds size depth feature = []
tree_within (suc count) kinds size depth feature =
    feature_lines kinds size depth feature ++ flat_map (tree_within count kinds size (depth + 1)) (children size feature)

-- a child has a greater number than its parent, so as many levels as there are further features are enough
unfoldable pub tree : List GroupKind → ℕ → ℕ → ℕ → List ℕ
tree kinds size depth feature = tree_within (suc (size - feature)) kinds size depth feature

abbrev pub constraint_line : Implication → List ℕ
constraint_line implication = line 1 (feature_name implication.feature ++ codes " => " ++ feature_name implication.needed)

-- the section of the constraints, which is left out where there are none
abbrev pub constraint_section : List Implication → List ℕ
constraint_section [] = []
constraint_section (first ∷ others) = line 0 (codes "constraints") ++ flat_map constraint_line (first ∷ others)

abbrev pub wish_line : Wish → List ℕ
wish_line wish = line 0 ((if wish.unwanted then codes "!" else []) ++ feature_name wish.feature)

-- the model's file
abbrev pub model_text : ℕ → ℕ → List ℕ
model_text seed size =
    line 0 (codes "features") ++ tree (kinds seed size) size 0 0 ++ constraint_section (constraints seed size)

-- the configuration's file
abbrev pub config_text : ℕ → ℕ → List ℕ
config_text seed size = flat_map wish_line (wishes seed size)
