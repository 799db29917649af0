-- Line after line: refusals go through, and how much may be read.
use Rattle.std.proofs.Common.{◌≡◌, ℕ, ◌+◌, ◌<◌, nat_lt, Bool, true, false, List, [], ◌∷◌, ◌++◌, length, drop, Option, Some, None, Ok, Err, refl, sym, ap, subst, ◌∙◌, arith, length-append}
use Rattle.std.proofs.lemmas.Bool.Decides.{nat_tests}
use Rattle.uvl_lex.specs.declared.token.Line.{Line}
use Rattle.uvl_lex.specs.declared.token.Token.{Token}
use Rattle.config_reader.specs.declared.config.Requirement.{Requirement}
use Rattle.config_reader.specs.declared.error.ConfigError.{ConfigError}
use Rattle.config_reader.specs.declared.error.ConfigError.TheVariants.{Refused, Memory}
use Rattle.config_reader.specs.declared.error.Reason.TheVariants.{TooMany}
use Rattle.config_reader.specs.declared.kind.Kind.{Kind}
use Rattle.config_reader.specs.declared.kind.Kind.TheVariants.{Tier, Must, Wanted}
use Rattle.config_reader.specs.declared.kind.Version.{Version}
use Rattle.config_reader.specs.declared.placed.Placed.{Placed}
use Rattle.config_reader.specs.Judgement.{OrRefused, and_then, on_ok, one_more, most, Standing, start, with_tier, with_must, with_wanted, after_kind, after_line, after_lines, IsRefusal}
use Rattle.config_reader.specs.Kinds.{kind_in, tier_of_line, version_of, judged}
use Rattle.config_reader.specs.inside.Drafts.{IsShort}
use Rattle.name_table.specs.Numbers.{Numbers}
use Rattle.config_reader.specs.Reading.{standing}

module _ {A B : Type 0} where
  pub refused_on_ok : (f : A → B) (e : ConfigError) (read : OrRefused A) → IsRefusal e read → IsRefusal e (on_ok f read)
  refused_on_ok f (Refused line reason) read r = ap (on_ok f) r
  refused_on_ok f Memory read r = tt

  pub refused_and_then : (f : A → OrRefused B) (e : ConfigError) (read : OrRefused A) → IsRefusal e read → IsRefusal e (and_then f read)
  refused_and_then f (Refused line reason) read r = ap (and_then f) r
  refused_and_then f Memory read r = tt

module _ (version : Version) (names : Numbers) (bytes : List ℕ) where
  -- one line more
  pub lines_next : (before after : Standing) (line : Line) (below : List Line) → after_line version names bytes before line ≡ Ok after → after_lines version names bytes before (line ∷ below) ≡ after_lines version names bytes after below
  unfolding after_lines
  lines_next before after line below e = ap (and_then (λ (next : Standing). after_lines version names bytes next below)) e

  pub lines_refused : (before : Standing) (line : Line) (below : List Line) (e : ConfigError) → IsRefusal e (after_line version names bytes before line) → IsRefusal e (after_lines version names bytes before (line ∷ below))
  unfolding after_lines
  lines_refused before line below e r = refused_and_then (λ (next : Standing). after_lines version names bytes next below) e (after_line version names bytes before line) r

  pub lines_end : (before : Standing) → after_lines version names bytes before [] ≡ Ok before
  unfolding after_lines
  lines_end before = refl

  pub line_of_kind : (kind : Kind) (before : Standing) (line : Line) → kind_in version bytes line.tokens ≡ kind → after_line version names bytes before line ≡ after_kind names bytes before line.number line.tokens kind
  unfolding after_line
  line_of_kind kind before line e = ap (after_kind names bytes before line.number line.tokens) e

-- HOW MUCH IS READ

module _ (names : Numbers) (bytes : List ℕ) where
  counted : (room : Bool) (count line : ℕ) (tokens : List Token) (found : Requirement) → nat_lt count most ≡ room → one_more count names bytes line tokens ≡ Ok found → count < most
  counted true count line tokens found e read = grind (arith, nat_tests)
  counted false count line tokens found e read =
      let no : one_more count names bytes line tokens ≡ Err (Refused line TooMany) = rw e refl in absurd (cc)

  in_bound : (count line : ℕ) (tokens : List Token) (found : Requirement) → one_more count names bytes line tokens ≡ Ok found → count < most
  in_bound count line tokens found read = counted (nat_lt count most) count line tokens found refl read

  with_must_short : (before after : Standing) (line : ℕ) (tokens : List Token) (found : OrRefused Requirement) → one_more (length before.musts) names bytes line tokens ≡ found → IsShort before → on_ok (with_must before) found ≡ Ok after → IsShort after
  with_must_short before after line tokens (Ok must) e short read =
      let room : length before.musts < most = in_bound (length before.musts) line tokens must e in
      let is : with_must before must ≡ after = cc in
      let size : length (before.musts ++ must ∷ []) ≡ length before.musts + 1 = length-append before.musts (must ∷ []) in
      subst IsShort is (record { requirements = short.requirements; musts = omega arith })
  with_must_short before after line tokens (Err error) e short read = absurd (cc)

  with_wanted_short : (before after : Standing) (line : ℕ) (tokens : List Token) (found : OrRefused Requirement) → one_more (length before.placed) names bytes line tokens ≡ found → IsShort before → on_ok (with_wanted before) found ≡ Ok after → IsShort after
  with_wanted_short before after line tokens (Ok wanted) e short read =
      let room : length before.placed < most = in_bound (length before.placed) line tokens wanted e in
      let is : with_wanted before wanted ≡ after = cc in
      let one : Placed = record { tier = before.tier; requirement = wanted } in
      let size : length (before.placed ++ one ∷ []) ≡ length before.placed + 1 = length-append before.placed (one ∷ []) in
      subst IsShort is (record { requirements = omega arith; musts = short.musts })
  with_wanted_short before after line tokens (Err error) e short read = absurd (cc)

  with_tier_short : (before after : Standing) (line : ℕ) (tier : Option ℕ) → IsShort before → with_tier line before tier ≡ Ok after → IsShort after
  with_tier_short before after line (Some tier) short read =
      let set : Standing = record before { tier = tier } in
      let is : set ≡ after = cc in
      subst IsShort is (record { requirements = short.requirements; musts = short.musts })
  with_tier_short before after line None short read = absurd (cc)

  after_kind_short : (kind : Kind) (before after : Standing) (line : ℕ) (tokens : List Token) → IsShort before → after_kind names bytes before line tokens kind ≡ Ok after → IsShort after
  after_kind_short Tier before after line tokens short read = with_tier_short before after line (tier_of_line bytes tokens) short read
  after_kind_short Must before after line tokens short read = with_must_short before after line (drop 1 tokens) (one_more (length before.musts) names bytes line (drop 1 tokens)) refl short read
  after_kind_short Wanted before after line tokens short read = with_wanted_short before after line tokens (one_more (length before.placed) names bytes line tokens) refl short read

  after_line_short : (version : Version) (before after : Standing) (line : Line) → IsShort before → after_line version names bytes before line ≡ Ok after → IsShort after
  after_line_short version before after line short read =
      after_kind_short (kind_in version bytes line.tokens) before after line.number line.tokens short (sym (line_of_kind version names bytes (kind_in version bytes line.tokens) before line refl) ∙ read)

  -- what is read of the lines below, where this is read of the line before them
  below_short : (version : Version) (below : List Line) (found : OrRefused Standing) (after : Standing)
      → ((next : Standing) → IsShort next → after_lines version names bytes next below ≡ Ok after → IsShort after)
      → ((next : Standing) → found ≡ Ok next → IsShort next)
      → and_then (λ (next : Standing). after_lines version names bytes next below) found ≡ Ok after → IsShort after
  below_short version below (Ok next) after rest here read = rest next (here next refl) read
  below_short version below (Err error) after rest here read = absurd (cc)

  after_lines_short : (version : Version) (lines : List Line) (before after : Standing) → IsShort before → after_lines version names bytes before lines ≡ Ok after → IsShort after
  unfolding after_lines
  after_lines_short version [] before after short read =
      let is : before ≡ after = cc in
      subst IsShort is short
  after_lines_short version (line ∷ below) before after short read =
      below_short version below (after_line version names bytes before line) after
      (λ next s e. after_lines_short version below next after s e)
      (λ next e. after_line_short version before next line short e)
      read

-- after a version's lines
pub standing_of_version : (names : Numbers) (bytes : List ℕ) (lines : List Line) (version : Version) → version_of bytes lines ≡ version → standing names bytes lines ≡ after_lines version names bytes start (judged version lines)
unfolding standing
standing_of_version names bytes lines version e = ap (λ (v : Version). after_lines v names bytes start (judged v lines)) e

pub readings_short : (names : Numbers) (bytes : List ℕ) (lines : List Line) (read : Standing) → standing names bytes lines ≡ Ok read → IsShort read
readings_short names bytes lines read e =
    let version = version_of bytes lines in
    after_lines_short names bytes version (judged version lines) start read (record { requirements = omega arith; musts = omega arith })
    (sym (standing_of_version names bytes lines version refl) ∙ e)
