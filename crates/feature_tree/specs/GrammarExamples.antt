-- Worked examples of the grammar: short lists of tokens with what is read of them, each derived by the rules.
-- The values were worked out by hand.
use Rattle.std.specs.Prelude.{◌≡◌, ℕ, true, false, List, [], ◌∷◌, refl}
use Rattle.feature_tree.specs.declared.formula.Formula.{Formula}
use Rattle.feature_tree.specs.declared.formula.Formula.TheVariants as formula
use Rattle.feature_tree.specs.declared.reader.parsed.Parsed.{Parsed}
use Rattle.feature_tree.specs.declared.reader.role.Level.TheVariants.{Same, Implies, Any, All}
use Rattle.feature_tree.specs.declared.reader.role.Role.{Role}
use Rattle.feature_tree.specs.declared.reader.role.Role.TheVariants.{Name, Not, Joins, Opens, Closes, Unsupported, Other}
use Rattle.uvl_lex.specs.declared.token.Keyword.TheVariants.{True, Or}
use Rattle.uvl_lex.specs.declared.token.Mark.TheVariants.{Iff, Equal, Dots, OpenSquare}
use Rattle.uvl_lex.specs.declared.token.TokenKind.TheVariants.{Quoted, Number, Keyword, Mark}
use Rattle.feature_tree.specs.Grammar.{Reads, members, negation, parentheses, name, last, and, chain, unary, IsFormula}
use Rattle.feature_tree.specs.Roles.{role_of, has_unsupported}

-- ---- a part as a chain of one member

abbrev as_all : {from : ℕ} {tokens : List Role} {part : Parsed} → Reads unary from tokens part → Reads (chain All) from tokens part
as_all reads = members {level = All} (last reads)

abbrev as_any : {from : ℕ} {tokens : List Role} {part : Parsed} → Reads unary from tokens part → Reads (chain Any) from tokens part
as_any reads = members {level = Any} (last (as_all reads))

abbrev as_implies : {from : ℕ} {tokens : List Role} {part : Parsed} → Reads unary from tokens part → Reads (chain Implies) from tokens part
as_implies reads = members {level = Implies} (last (as_any reads))

abbrev as_same : {from : ℕ} {tokens : List Role} {part : Parsed} → Reads unary from tokens part → Reads (chain Same) from tokens part
as_same reads = members {level = Same} (last (as_implies reads))

abbrev read : Formula → ℕ → Parsed
read formula height = record { formula = formula; height = height }

-- `A`
pub one_name : IsFormula (Name ∷ []) (read (formula.Name 0) 1)
one_name = as_same name

-- `!!A`
pub two_negations : IsFormula (Not ∷ Not ∷ Name ∷ []) (read (formula.Not (formula.Not (formula.Name 2))) 3)
two_negations = as_same (negation (negation name))

-- `((A))`: parentheses leave no node, but add to the height
pub two_parentheses : IsFormula (Opens ∷ Opens ∷ Name ∷ Closes ∷ Closes ∷ []) (read (formula.Name 2) 3)
two_parentheses = as_same (parentheses (as_same (parentheses (as_same name))))

-- `A => B => C` groups from the left
pub implications_group_from_the_left :
    IsFormula (Name ∷ Joins Implies ∷ Name ∷ Joins Implies ∷ Name ∷ [])
    (read (formula.Implies (formula.Implies (formula.Name 0) (formula.Name 2)) (formula.Name 4)) 3)
implications_group_from_the_left =
    members {level = Same} (last (members {level = Implies} (and (as_any name) (and (as_any name) (last (as_any name))))))

-- `A & B & C` is one node
pub one_node_of_three :
    IsFormula (Name ∷ Joins All ∷ Name ∷ Joins All ∷ Name ∷ [])
    (read (formula.All (formula.Name 0 ∷ formula.Name 2 ∷ formula.Name 4 ∷ [])) 2)
one_node_of_three =
    members {level = Same} (last (members {level = Implies} (last (members {level = Any} (last (members {level = All} (and name (and name (last name)))))))))

-- `!A & B | C`: `!` binds the name alone, and `&` more tightly than `|`
pub tighter_inside :
    IsFormula (Not ∷ Name ∷ Joins All ∷ Name ∷ Joins Any ∷ Name ∷ [])
    (read (formula.Any (formula.All (formula.Not (formula.Name 1) ∷ formula.Name 3 ∷ []) ∷ formula.Name 5 ∷ [])) 4)
tighter_inside =
    members {level = Same} (last (members {level = Implies} (last (members {level = Any} (and (members {level = All} (and (negation name) (last name))) (last (as_all name)))))))

-- `A <=> B => C`: `=>` binds more tightly than `<=>`
pub same_is_loosest :
    IsFormula (Name ∷ Joins Same ∷ Name ∷ Joins Implies ∷ Name ∷ [])
    (read (formula.Same (formula.Name 0) (formula.Implies (formula.Name 2) (formula.Name 4))) 3)
same_is_loosest =
    members {level = Same} (and (as_implies name) (last (members {level = Implies} (and (as_any name) (last (as_any name))))))

-- `(A | B) & C`
pub parentheses_group :
    IsFormula (Opens ∷ Name ∷ Joins Any ∷ Name ∷ Closes ∷ Joins All ∷ Name ∷ [])
    (read (formula.All (formula.Any (formula.Name 1 ∷ formula.Name 3 ∷ []) ∷ formula.Name 6 ∷ [])) 4)
parentheses_group =
    members {level = Same} (last (members {level = Implies} (last (members {level = Any} (last (members {level = All} (and
    (parentheses (members {level = Same} (last (members {level = Implies} (last (members {level = Any} (and (as_all name) (last (as_all name)))))))))
    (last name))))))))

-- ---- roles

pub a_quoted_name : role_of Quoted ≡ Name
a_quoted_name = refl

pub a_number : role_of Number ≡ Unsupported
a_number = refl

pub a_truth_value : role_of (Keyword True) ≡ Unsupported
a_truth_value = refl

pub another_keyword : role_of (Keyword Or) ≡ Other
another_keyword = refl

pub a_comparison : role_of (Mark Equal) ≡ Unsupported
a_comparison = refl

pub two_dots : role_of (Mark Dots) ≡ Other
two_dots = refl

pub a_square_bracket : role_of (Mark OpenSquare) ≡ Other
a_square_bracket = refl

pub an_equivalence : role_of (Mark Iff) ≡ Joins Same
an_equivalence = refl

-- ---- what is not supported

pub nothing_is_supported : has_unsupported [] ≡ false
nothing_is_supported = refl

-- `A ]`
pub a_bracket_is_no_reason : has_unsupported (Name ∷ Other ∷ []) ≡ false
a_bracket_is_no_reason = refl

-- `A & B (`
pub a_call : has_unsupported (Name ∷ Joins All ∷ Name ∷ Opens ∷ []) ≡ true
a_call = refl

-- `A & (B)`
pub no_call : has_unsupported (Name ∷ Joins All ∷ Opens ∷ Name ∷ Closes ∷ []) ≡ false
no_call = refl

-- `) ] 1`
pub a_number_at_the_end : has_unsupported (Closes ∷ Other ∷ Unsupported ∷ []) ≡ true
a_number_at_the_end = refl
