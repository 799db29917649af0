-- Worked examples of the judgement. Each computes.
use Rattle.std.specs.Prelude.{◌≡◌, ℕ, true, false, List, [], ◌∷◌, ◌++◌, map, Some, None, codes, refl}
use Rattle.std.specs.Fmt.{digits}
use Rattle.clause_form.specs.ClauseForm.{problem_of}
use Rattle.clauses.specs.declared.literal.Lit.{Lit}
use Rattle.clauses.specs.Clause.{positive_of as yes, negative_of as no}
use Rattle.config_reader.specs.declared.config.Requirement.{Requirement}
use Rattle.feature_tree.specs.declared.feature.Feature.{Feature}
use Rattle.feature_tree.specs.declared.formula.Formula.{Formula}
use Rattle.feature_tree.specs.declared.formula.Formula.TheVariants.{Name, Not}
use Rattle.feature_tree.specs.declared.group.GroupKind.TheVariants.{Optional}
use Rattle.feature_tree.specs.Folds.{folds}
use Rattle.req_keys.specs.Wanting.{key_over}
use Rattle.certificate.specs.declared.judgement.Judgement.{Judgement}
use Rattle.certificate.specs.declared.judgement.Judgement.TheVariants.{Yes, No}
use Rattle.certificate.specs.declared.judgement.Shown.TheVariants as shown
use Rattle.certificate.specs.declared.judgement.Why.TheVariants as why
use Rattle.certificate.specs.Judging.{Subject, Kept, ConflictBeside, Product, Derivation, Exactly, Nothing, Goes, Refuses, step, judged, judged_from_start, judge}
use Rattle.certificate.specs.Words.{lines_of, list_in, product_in, Learns, Clashes, Malformed, Foreign, saying_of}

-- ---- lines and words

-- the last line may have no line feed, and an empty line is one
pub lines-last : lines_of (codes "a" ++ 10 ∷ 10 ∷ codes "b") ≡ codes "a" ∷ [] ∷ codes "b" ∷ []
lines-last = refl

pub lines-ended : lines_of (codes "a" ++ 10 ∷ []) ≡ codes "a" ∷ []
lines-ended = refl

pub lines-none : (lines_of [] ≡ []) × (lines_of (10 ∷ []) ≡ [] ∷ [])
lines-none = (refl, refl)

-- carriage returns belong to their line
pub lines-return : lines_of (13 ∷ 10 ∷ []) ≡ (13 ∷ []) ∷ []
lines-return = refl

pub list-some : list_in (codes "kept") 3 (codes "kept 1 3") ≡ Some (1 ∷ 3 ∷ [])
list-some = refl

pub list-none : list_in (codes "kept") 3 (codes "kept none") ≡ Some []
list-none = refl

-- another word, no list, two blanks, a blank at the end, and a tab
pub list-form :
    (list_in (codes "kept") 3 (codes "keep 1") ≡ None) × (list_in (codes "kept") 3 (codes "kept") ≡ None) × (list_in (codes "kept") 3 (codes "kept 1  3") ≡ None)
    × (list_in (codes "kept") 3 (codes "kept 1 ") ≡ None) × (list_in (codes "kept") 3 (codes "kept" ++ 9 ∷ codes "1") ≡ None)
list-form = (refl, refl, refl, refl, refl)

-- a number twice, descending numbers, zero, one that is too great, a zero in front, a sign, and `none` beside a number
pub list-numbers :
    (list_in (codes "kept") 3 (codes "kept 1 1") ≡ None) × (list_in (codes "kept") 3 (codes "kept 3 1") ≡ None) × (list_in (codes "kept") 3 (codes "kept 0") ≡ None)
    × (list_in (codes "kept") 3 (codes "kept 4") ≡ None) × (list_in (codes "kept") 3 (codes "kept 01") ≡ None) × (list_in (codes "kept") 3 (codes "kept +1") ≡ None)
    × (list_in (codes "kept") 3 (codes "kept none 1") ≡ None)
list-numbers = (refl, refl, refl, refl, refl, refl, refl)

pub product-some : product_in 4 (codes "product 1 3") ≡ Some (true ∷ false ∷ true ∷ false ∷ [])
product-some = refl

pub product-none : product_in 2 (codes "product none") ≡ Some (false ∷ false ∷ [])
product-none = refl

-- in any order, and repeated
pub says-clause : saying_of 12 (codes "learn -2 12 1 1") ≡ Learns (no 1 ∷ yes 11 ∷ yes 0 ∷ yes 0 ∷ [])
says-clause = refl

pub says-clash : saying_of 3 (codes "clash") ≡ Clashes
says-clash = refl

pub says-malformed :
    (saying_of 3 (codes "learn") ≡ Malformed) × (saying_of 3 (codes "learn 1  2") ≡ Malformed) × (saying_of 3 (codes "learn 01") ≡ Malformed)
    × (saying_of 3 (codes "learn +1") ≡ Malformed) × (saying_of 3 (codes "learn 0") ≡ Malformed) × (saying_of 3 (codes "learn -") ≡ Malformed)
    × (saying_of 3 (codes "learn --1") ≡ Malformed) × (saying_of 3 (codes "learn 4") ≡ Malformed) × (saying_of 3 (codes "learn none") ≡ Malformed)
    × (saying_of 3 (codes "clash ") ≡ Malformed)
says-malformed = (refl, refl, refl, refl, refl, refl, refl, refl, refl, refl)

-- the first word stands before the first blank
pub says-foreign :
    (saying_of 3 (codes " learn 1") ≡ Foreign) × (saying_of 3 (codes "learn" ++ 9 ∷ codes "1") ≡ Foreign) × (saying_of 3 (codes "clash" ++ 13 ∷ []) ≡ Foreign)
    × (saying_of 3 [] ≡ Foreign) × (saying_of 3 (codes "end") ≡ Foreign)
says-foreign = (refl, refl, refl, refl, refl)

-- ---- a background that can't be met

-- a root with two optional features, 2 and 3 in a certificate
abbrev features : List Feature
features =
    record { name = codes "R"; parent = None; groups = record { kind = Optional; low = 0; high = None; children = 1 ∷ 2 ∷ [] } ∷ [] }
    ∷ record { name = codes "A"; parent = Some 0; groups = [] }
    ∷ record { name = codes "B"; parent = Some 0; groups = [] }
    ∷ []

abbrev asked : Formula → Requirement
asked formula = record { text = []; formula = formula }

abbrev tree : List (List Lit)
tree = (yes 0 ∷ []) ∷ (no 1 ∷ yes 0 ∷ []) ∷ (no 2 ∷ yes 0 ∷ []) ∷ []

-- no requirements, and each choice of the two features is forbidden
abbrev pub forbidden : Subject
forbidden = record {
  model = record { features = features; constraints = [] };
  config = record { requirements = []; musts = [] };
  problem = record {
    variables = 3;
    features = 3;
    clauses = tree ++ (yes 1 ∷ yes 2 ∷ []) ∷ (yes 1 ∷ no 2 ∷ []) ∷ (no 1 ∷ yes 2 ∷ []) ∷ (no 1 ∷ no 2 ∷ []) ∷ [];
    roots = [];
    allowance = 0;
    rungs = 0;
  };
}

-- the judgement of lines, of which the first is the third of its file
abbrev from_third : List (List ℕ) → Judgement
from_third lines = judged_from_start forbidden 3 lines

abbrev background : List (List ℕ) → List (List ℕ)
background lines = codes "certificate 1" ∷ codes "background" ∷ lines

pub background-accepted : from_third (background (codes "learn 2" ∷ codes "clash" ∷ codes "end" ∷ [])) ≡ Yes shown.Background
background-accepted = refl

-- lines before a certificate may be anything, but one that is exactly its first begins it
pub behind-report : from_third (codes "report" ∷ codes "certificate 1 " ∷ background (codes "learn 2" ∷ codes "clash" ∷ codes "end" ∷ [])) ≡ Yes shown.Background
behind-report = refl

pub begun-twice : from_third (codes "certificate 1" ∷ background (codes "learn 2" ∷ codes "clash" ∷ codes "end" ∷ [])) ≡ No 4 why.BadLine
begun-twice = refl

pub no-certificate : (from_third [] ≡ No 3 why.NoCertificate) × (from_third (codes "report" ∷ codes "end" ∷ []) ≡ No 5 why.NoCertificate)
no-certificate = (refl, refl)

pub no-kind : (from_third (codes "certificate 1" ∷ []) ≡ No 4 why.BadLine) × (from_third (codes "certificate 1" ∷ codes "limit" ∷ []) ≡ No 4 why.BadLine)
no-kind = (refl, refl)

-- of a clause that doesn't follow, and of a clash that isn't one
pub no-consequence :
    (from_third (background (codes "learn -1" ∷ codes "clash" ∷ codes "end" ∷ [])) ≡ No 5 why.NotConsequence)
    × (from_third (background (codes "clash" ∷ codes "end" ∷ [])) ≡ No 5 why.NotConsequence)
    × (from_third (background (codes "learn 1" ∷ codes "clash" ∷ codes "end" ∷ [])) ≡ No 6 why.NotConsequence)
no-consequence = (refl, refl, refl)

-- the form of a line comes before what it says
pub malformed : from_third (background (codes "learn -1 0" ∷ codes "clash" ∷ codes "end" ∷ [])) ≡ No 5 why.BadLine
malformed = refl

pub no-end :
    (from_third (background []) ≡ No 5 why.NoEnd) × (from_third (background (codes "learn 2" ∷ [])) ≡ No 6 why.NoEnd)
    × (from_third (background (codes "learn 2" ∷ codes "end" ∷ [])) ≡ No 6 why.NoEnd)
no-end = (refl, refl, refl)

pub file-ends : from_third (background (codes "learn 2" ∷ codes "clash" ∷ [])) ≡ No 7 why.BadLine
file-ends = refl

pub line-behind : from_third (background (codes "learn 2" ∷ codes "clash" ∷ codes "end" ∷ codes "end" ∷ [])) ≡ No 8 why.BadLine
line-behind = refl

-- a whole file, without a line feed at its end
pub whole-file :
    judge forbidden.model forbidden.config forbidden.problem (codes "certificate 1" ++ 10 ∷ codes "background" ++ 10 ∷ codes "learn 2" ++ 10 ∷ codes "clash" ++ 10 ∷ codes "end")
    ≡ Yes shown.Background
whole-file = refl

-- ---- requirements

-- A, not A and B: the first two exclude each other
abbrev pub three : Subject
three = record {
  model = record { features = features; constraints = [] };
  config = record { requirements = map asked (Name 1 ∷ Not (Name 1) ∷ Name 2 ∷ []); musts = asked (Name 2) ∷ [] };
  problem = record {
    variables = 3;
    features = 3;
    clauses = tree ++ (yes 2 ∷ []) ∷ [];
    roots = yes 1 ∷ no 1 ∷ yes 2 ∷ [];
    allowance = 0;
    rungs = 0;
  };
}

-- such a problem is that of the model and the configuration
pub three-problem : problem_of three.model three.config 0 0 ≡ three.problem
three-problem = simp folds refl

-- what is awaited behind the two lists: of each part its first line, and then what it is about
abbrev clauses_and : List (List Lit) → List (List Lit)
clauses_and roots = three.problem.clauses ++ roots

pub parts-awaited :
    step three (ConflictBeside (1 ∷ 3 ∷ []) ∷ []) (codes "conflict 1 2")
    ≡ Goes (
    Product (1 ∷ 3 ∷ [])
    ∷ Exactly (codes "refute 2") ∷ Derivation (clauses_and ((yes 1 ∷ []) ∷ (no 1 ∷ []) ∷ []))
    ∷ Exactly (codes "refute conflict") ∷ Derivation (clauses_and ((yes 1 ∷ []) ∷ (no 1 ∷ []) ∷ []))
    ∷ Exactly (codes "need 1") ∷ Product (2 ∷ [])
    ∷ Exactly (codes "need 2") ∷ Product (1 ∷ [])
    ∷ Exactly (codes "end") ∷ Nothing (shown.Explained (key_over 3 (1 ∷ 3 ∷ [])) (key_over 3 (1 ∷ 2 ∷ [])))
    ∷ [])
unfolding digits
parts-awaited = refl

-- a requirement behind those that stay is refuted with them alone, and a member of the conflict is tested with all before it
pub parts-behind :
    step three (ConflictBeside (2 ∷ []) ∷ []) (codes "conflict 2 3")
    ≡ Goes (
    Product (2 ∷ [])
    ∷ Exactly (codes "refute 1") ∷ Derivation (clauses_and ((yes 1 ∷ []) ∷ []))
    ∷ Exactly (codes "refute 3") ∷ Derivation (clauses_and ((no 1 ∷ []) ∷ (yes 2 ∷ []) ∷ []))
    ∷ Exactly (codes "refute conflict") ∷ Derivation (clauses_and ((no 1 ∷ []) ∷ (yes 2 ∷ []) ∷ []))
    ∷ Exactly (codes "need 2") ∷ Product (1 ∷ 3 ∷ [])
    ∷ Exactly (codes "need 3") ∷ Product (1 ∷ 2 ∷ [])
    ∷ Exactly (codes "end") ∷ Nothing (shown.Explained (key_over 3 (2 ∷ [])) (key_over 3 (2 ∷ 3 ∷ [])))
    ∷ [])
unfolding digits
parts-behind = refl

pub lists-refused :
    (step three (Kept ∷ []) (codes "kept 1 1") ≡ Refuses why.BadLine) × (step three (Kept ∷ []) (codes "kept 4") ≡ Refuses why.BadLine)
    × (step three (ConflictBeside [] ∷ []) (codes "kept 1") ≡ Refuses why.BadLine)
lists-refused = (refl, refl, refl)

pub product-accepted : step three (Product (1 ∷ 3 ∷ []) ∷ []) (codes "product 1 2 3") ≡ Goes []
product-accepted = simp folds refl

-- features without their root; a requirement of the part that is false; a must that is
pub product-refused :
    (step three (Product [] ∷ []) (codes "product 2 3") ≡ Refuses why.NotProduct) × (step three (Product [] ∷ []) (codes "product none") ≡ Refuses why.NotProduct)
product-refused = (refl, refl)

pub requirement-false : step three (Product (2 ∷ []) ∷ []) (codes "product 1 2 3") ≡ Refuses why.NotProduct
requirement-false = simp folds refl

-- the same product, where the requirement isn't of the part
pub requirement-elsewhere : step three (Product (1 ∷ []) ∷ []) (codes "product 1 2 3") ≡ Goes []
requirement-elsewhere = simp folds refl

pub must-false : step three (Product (1 ∷ []) ∷ []) (codes "product 1 2") ≡ Refuses why.NotProduct
must-false = simp folds refl

-- the form of the line comes first
pub product-malformed : (step three (Product [] ∷ []) (codes "product 2 1") ≡ Refuses why.BadLine) × (step three (Product [] ∷ []) (codes "product 4") ≡ Refuses why.BadLine)
product-malformed = (refl, refl)

-- what is learned counts only in its part
pub learned-apart :
    judged three (Derivation (clauses_and ((yes 1 ∷ []) ∷ (no 1 ∷ []) ∷ [])) ∷ Derivation (clauses_and []) ∷ []) 1 (codes "learn 2" ∷ codes "learn -2" ∷ codes "clash" ∷ codes "clash" ∷ [])
    ≡ No 4 why.NotConsequence
learned-apart = refl
