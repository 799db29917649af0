-- What the bytes of a file say, in terms of what the code reads of its lines.
use Rattle.std.proofs.Common.{◌≡◌, ℕ, ◌==◌, not, nat_le, Bool, true, false, if◌then◌else◌, List, [], ◌∷◌, ◌++◌, Option, Some, None, Ok, refl, sym, ap, ◌∙◌, append_assoc, append-nil, arith, inl, inr}
use Rattle.std.proofs.lemmas.Bool.{cases_Bool}
use Rattle.std.proofs.lemmas.Bool.Decides.{nat_tests}
use Rattle.feature_tree.specs.FeatureModel.{FeatureModel}
use Rattle.uvl_lex.specs.declared.error.LexError.{LexError}
use Rattle.uvl_lex.specs.declared.error.LexError.TheVariants as lexed
use Rattle.uvl_lex.specs.declared.token.Line.{Line}
use Rattle.uvl_lex.specs.Reading.{reading, IsRefusal as IsTextRefusal}
use Rattle.uvl_reader.specs.declared.error.Reason.TheVariants as reason
use Rattle.uvl_reader.specs.Nesting.{begins_with_include, judged_lines}
use Rattle.uvl_reader.specs.LineKinds.{section_of, has_root}
use Rattle.uvl_reader.specs.Refusals.{Refusal, first_of, fault_if, refusal_at, first_refused}
use Rattle.uvl_reader.specs.ModelReading.{placed_behind, is_features_line, features_number, model_on, model_unless, model_of_lines, model_of}
use Rattle.uvl_reader.specs.inside.Standing.{and_then, unless_refused, start, model_at, after_lines, IsRefused, text_refused}
use Rattle.uvl_reader.proofs.PlacedLaws.{placed_of, place}
use Rattle.uvl_reader.proofs.StandsLaws.{Stands}
use Rattle.uvl_reader.proofs.MainLaws.{turned, unknown_at, ended, lines_read}
use Rattle.uvl_reader.proofs.NumberLaws.{judged_falling}

placed_all : (lines before : List Line) → placed_of before ++ placed_behind before lines ≡ placed_of (turned lines before)
placed_all [] before = append-nil (placed_of before)
placed_all (line ∷ lines) before = sym (append_assoc (placed_of before) (place before line ∷ []) (placed_behind (line ∷ before) lines)) ∙ placed_all lines (line ∷ before)

-- the line of `features` is judged
same_features_number : (under : Bool) (lines : List Line) → features_number (judged_lines under lines) ≡ features_number lines
same_features_number under [] = refl
same_features_number under (line ∷ lines) =
    elim (cases_Bool (line.indent == 0)) [
      | inl y ↦ rw (y, y) (ap (λ (number : ℕ). if is_features_line (section_of line.tokens) then line.number else number) (same_features_number (begins_with_include line.tokens) lines))
      | inr n ↦ elim (cases_Bool under) [
        | inl u ↦ rw (n, u) (same_features_number true lines)
        | inr u ↦ rw (n, u) (rw n (same_features_number false lines))
      ]
    ]

unless_first : (one other : Option Refusal) (model : FeatureModel) → model_unless (first_of one other) model ≡ unless_refused one (unless_refused other (Ok model))
unless_first None None model = refl
unless_first None (Some refused) model = refl
unless_first (Some refused) other model = refl

from_zero : (place : ℕ) → nat_le 0 place ≡ true
from_zero place = grind (arith, nat_tests)

starts : (bytes : List ℕ) → Stands bytes [] start
starts bytes = record {
  grounded = tt;
  headers = tt;
  open_is = refl;
  sections = λ place. sym (from_zero place);
  pending = refl;
  names = refl;
  tree = refl;
  root = refl;
  parsed = tt;
  stated = refl;
}

module _ (bytes : List ℕ) where
  pub model_of_read : (lines : List Line) → reading bytes ≡ Ok lines → model_of bytes ≡ and_then (model_at bytes (features_number lines)) (after_lines bytes start lines)
  unfolding model_of
  model_of_read lines e =
      let judged = judged_lines false lines in
      let turned_lines = turned judged [] in
      let placed : placed_behind [] judged ≡ placed_of turned_lines = placed_all judged [] in
      let number : features_number judged ≡ features_number lines = same_features_number false lines in
      let definition : model_of_lines bytes lines ≡ unless_refused (first_refused bytes [] judged) (ended bytes (features_number lines) turned_lines) =
      rw (placed, number) (unless_first (first_refused bytes [] judged) (first_of (refusal_at (features_number lines) (fault_if (not (has_root turned_lines)) reason.NoFeatures)) (unknown_at bytes (features_number lines) turned_lines)) (model_on bytes (placed_of turned_lines))) in
      rw (model_of, e) (definition ∙ sym (lines_read bytes (features_number lines) lines [] start (starts bytes) (judged_falling bytes lines e)))

  pub model_of_refused : (error : LexError) → IsTextRefusal error (reading bytes) → IsRefused (text_refused error) (model_of bytes)
  unfolding model_of
  model_of_refused (lexed.Refused line fault) e = rw (model_of, e) refl
  model_of_refused lexed.Memory e = tt
