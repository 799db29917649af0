-- Worked examples of the report. Each computes.
use Rattle.std.specs.Prelude.{◌≡◌, ℕ, List, [], ◌∷◌, ◌++◌, map, Option, Some, None, codes, refl}
use Rattle.std.specs.Fmt.{digits}
use Rattle.config_reader.specs.declared.config.Requirement.{Requirement}
use Rattle.config_reader.specs.Configuration.{Configuration}
use Rattle.feature_tree.specs.declared.formula.Formula.TheVariants.{Name}
use Rattle.feature_tree.specs.FeatureModel.{FeatureModel}
use Rattle.req_keys.specs.Wanting.{key_over}
use Rattle.script.specs.declared.job.Outcome.TheVariants.{Consistent, Background, Explained, LimitAt}
use Rattle.script.specs.declared.job.Part.TheVariants as part
use Rattle.script.specs.declared.job.Parts.{Parts}
use Rattle.report.specs.Lines.{line, positions_text}
use Rattle.report.specs.Report.{Counted, report}

-- one feature and no constraints
abbrev model : FeatureModel
model = record { features = record { name = codes "R"; parent = None; groups = [] } ∷ []; constraints = [] }

abbrev asked : List ℕ → Requirement
asked text = record { text = text; formula = Name 0 }

abbrev config : List (List ℕ) → List (List ℕ) → Configuration
config requirements musts = record { requirements = map asked requirements; musts = map asked musts }

-- Camera, Basic and GPS, of which the first two exclude each other
abbrev three : Configuration
three = config (codes "Camera" ∷ codes "Basic" ∷ codes "GPS" ∷ []) []

abbrev counted : ℕ → ℕ → ℕ → Counted
counted checks predicted wasted = record { checks = checks; predicted = predicted; wasted = wasted }

-- what was found about three requirements
abbrev found : Option (List (List ℕ)) → Parts
found None = record { kept = Some (key_over 3 (1 ∷ 3 ∷ [])); conflict = Some (key_over 3 (1 ∷ 2 ∷ [])); listing = None }
found (Some sets) = record { kept = Some (key_over 3 (1 ∷ 3 ∷ [])); conflict = Some (key_over 3 (1 ∷ 2 ∷ [])); listing = Some (map (key_over 3) sets) }

-- the lines up to the result
abbrev head : List ℕ → List ℕ
head requirements = line (codes "diag 1") ++ line (codes "model 1 features 0 constraints") ++ line (codes "requirements " ++ requirements)

pub consistent : report model (config [] []) None Consistent None (counted 1 0 0)
    ≡ head (codes "0") ++ line (codes "result consistent") ++ line (codes "checks 1 predicted 0 wasted 0") ++ line (codes "end")
unfolding digits
consistent = refl

pub explained : report model three None (Explained (found None)) None (counted 6 7 2)
    ≡ head (codes "3") ++ line (codes "result explained") ++ line (codes "diagnosis 1") ++ line (codes "  2 Basic")
    ++ line (codes "conflict 2") ++ line (codes "  1 Camera") ++ line (codes "  2 Basic")
    ++ line (codes "checks 6 predicted 7 wasted 2") ++ line (codes "end")
unfolding digits
explained = refl

pub listed : report model three (Some 3) (Explained (found (Some ((2 ∷ []) ∷ (1 ∷ []) ∷ [])))) None (counted 7 0 0)
    ≡ head (codes "3") ++ line (codes "result explained") ++ line (codes "diagnosis 1") ++ line (codes "  2 Basic")
    ++ line (codes "conflict 2") ++ line (codes "  1 Camera") ++ line (codes "  2 Basic")
    ++ line (codes "listing 2 size 3") ++ line (codes "  2") ++ line (codes "  1")
    ++ line (codes "checks 7 predicted 0 wasted 0") ++ line (codes "end")
unfolding digits
listed = refl

-- up to no size nothing is listed, and that is said
pub none_listed : report model (config [] []) (Some 0) (Explained (record { kept = None; conflict = None; listing = Some [] })) None (counted 6 0 0)
    ≡ head (codes "0") ++ line (codes "result explained") ++ line (codes "listing 0 size 0") ++ line (codes "checks 6 predicted 0 wasted 0") ++ line (codes "end")
unfolding digits
none_listed = refl

-- a limit comes with the parts that were finished before it
pub limit : report model three (Some 3) (LimitAt part.Conflict (key_over 3 (2 ∷ [])) (record { kept = Some (key_over 3 (1 ∷ 3 ∷ [])); conflict = None; listing = None })) None (counted 6 0 0)
    ≡ head (codes "3") ++ line (codes "result limit") ++ line (codes "diagnosis 1") ++ line (codes "  2 Basic")
    ++ line (codes "limit in conflict at 2") ++ line (codes "checks 6 predicted 0 wasted 0") ++ line (codes "end")
unfolding digits
limit = refl

-- musts are counted behind the requirements, and what was found out about them stands behind the result
pub musts_explained :
    report model (config [] (codes "A" ∷ codes "B" ∷ [])) None Background
    (Some (Explained (record { kept = Some (key_over 2 (1 ∷ [])); conflict = Some (key_over 2 (1 ∷ 2 ∷ [])); listing = None }))) (counted 8 0 0)
    ≡ head (codes "0") ++ line (codes "musts 2") ++ line (codes "result background") ++ line (codes "must diagnosis 1") ++ line (codes "  2 B")
    ++ line (codes "must conflict 2") ++ line (codes "  1 A") ++ line (codes "  2 B") ++ line (codes "checks 8 predicted 0 wasted 0") ++ line (codes "end")
unfolding digits
musts_explained = refl

pub musts_background : report model (config [] (codes "A" ∷ [])) None Background (Some Background) (counted 4 0 0)
    ≡ head (codes "0") ++ line (codes "musts 1") ++ line (codes "result background") ++ line (codes "must background") ++ line (codes "checks 4 predicted 0 wasted 0") ++ line (codes "end")
unfolding digits
musts_background = refl

pub no_position : positions_text [] ≡ codes "none"
no_position = refl

pub three_positions : positions_text (1 ∷ 12 ∷ 4096 ∷ []) ≡ codes "1 12 4096"
unfolding digits
three_positions = refl
