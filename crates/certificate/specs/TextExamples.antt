-- Worked examples of the text of a certificate. Each computes.
use Rattle.std.specs.Prelude.{◌≡◌, ℕ, true, false, List, [], ◌∷◌, Some, None, codes, refl}
use Rattle.std.specs.Fmt.{digits}
use Rattle.std.specs.List.{flat_map}
use Rattle.clauses.specs.Clause.{positive_of as yes, negative_of as no}
use Rattle.req_keys.specs.Wanting.{key_over}
use Rattle.script.specs.declared.job.Outcome.TheVariants as outcome
use Rattle.script.specs.declared.job.Part.TheVariants as part
use Rattle.certificate.specs.Judging.{Subject}
use Rattle.certificate.specs.JudgingExamples.{forbidden, three}
use Rattle.certificate.specs.Text.{line, list_text, product_line, derivation_line, text_of}

pub list-texts : (list_text (1 ∷ 12 ∷ []) ≡ codes "1 12") × (list_text [] ≡ codes "none")
unfolding digits
list-texts = (refl, refl)

pub product : product_line (true ∷ false ∷ true ∷ []) ≡ line (codes "product 1 3")
unfolding digits
product = refl

pub derivation :
    (derivation_line (yes 1 ∷ []) ≡ line (codes "learn 2")) × (derivation_line (no 1 ∷ yes 9 ∷ []) ≡ line (codes "learn -2 10")) × (derivation_line [] ≡ line (codes "clash"))
unfolding digits
derivation = (refl, refl, refl)

abbrev file : List (List ℕ) → List ℕ
file lines = flat_map line lines

abbrev may_learn : ℕ → Subject → Subject
may_learn allowance about = record { model = about.model; config = about.config; problem = record about.problem { allowance = allowance } }

pub background : text_of (may_learn 1 forbidden) outcome.Background ≡ file (codes "certificate 1" ∷ codes "background" ∷ codes "learn 2" ∷ codes "clash" ∷ codes "end" ∷ [])
unfolding digits
background = refl

pub explained :
    text_of three (outcome.Explained (record { kept = Some (key_over 3 (1 ∷ 3 ∷ [])); conflict = Some (key_over 3 (1 ∷ 2 ∷ [])); listing = None }))
    ≡ file (
    codes "certificate 1" ∷ codes "explained" ∷ codes "kept 1 3" ∷ codes "conflict 1 2" ∷ codes "product 1 2 3"
    ∷ codes "refute 2" ∷ codes "clash" ∷ codes "refute conflict" ∷ codes "clash"
    ∷ codes "need 1" ∷ codes "product 1 3" ∷ codes "need 2" ∷ codes "product 1 2 3" ∷ codes "end" ∷ [])
unfolding digits
explained = refl

pub limit : text_of three (outcome.LimitAt part.All (key_over 3 []) (record { kept = None; conflict = None; listing = None })) ≡ []
limit = refl
