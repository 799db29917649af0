-- Each name that was read is the number of a feature.
use Rattle.std.proofs.Common.{◌≡◌, ◌∙◌, refl, sym, subst, ℕ, zero, suc, ◌+◌, ◌<◌, Bool, true, false, cond, nat_eq, nat_lt, List, [], ◌∷◌, length, drop, All, Option, Some, None, Result, Ok, Err, slice_get, arith}
use Rattle.std.specs.Prelude.{unwrap_or}
use Rattle.std.specs.Cmp.Lexicographic.{pointwise}
use Rattle.std.specs.List.{flat_map, range_with_len}
use Rattle.std.specs.Map.{lookup}
use Rattle.std.specs.Option.{option_and_then, option_map}
use Rattle.std.proofs.lemmas.List.Elements.{All-nil, All-cons, All-head, All-tail, All-append, All-filter, All-map, All-push, All-weaker}
use Rattle.feature_tree.specs.declared.feature.Feature.{Feature}
use Rattle.feature_tree.specs.declared.formula.Formula.{Formula}
use Rattle.feature_tree.specs.declared.reader.error.FormulaError.{FormulaError}
use Rattle.feature_tree.specs.FormulaAnswer.{formula_answer}
use Rattle.feature_tree.specs.Names.{names as names_in, NamesBelow}
use Rattle.feature_tree.specs.Numbered.{numbered, number_at as number_in}
use Rattle.feature_tree.proofs.FormulaAnswerLaws.{formula_answer_is_the_answer}
use Rattle.feature_tree.proofs.NumberedLaws.{numbered-names}
use Rattle.feature_tree.proofs.ReadNameLaws.{stands_below}
use Rattle.uvl_lex.specs.declared.token.Line.{Line}
use Rattle.uvl_lex.specs.declared.token.Token.{Token}
use Rattle.uvl_lex.specs.Reading.{OrFault, reading}
use Rattle.uvl_lex.specs.Text.{token_text}
use Rattle.config_reader.specs.declared.config.Requirement.{Requirement}
use Rattle.config_reader.specs.declared.error.ConfigError.TheVariants.{Refused}
use Rattle.config_reader.specs.declared.error.Reason.TheVariants.{TooMany}
use Rattle.config_reader.specs.declared.kind.Kind.{Kind}
use Rattle.config_reader.specs.declared.kind.Kind.TheVariants.{Tier, Must, Wanted}
use Rattle.config_reader.specs.declared.kind.Version.{Version}
use Rattle.config_reader.specs.declared.placed.Placed.{Placed}
use Rattle.config_reader.specs.Configuration.{Configuration}
use Rattle.config_reader.specs.Judgement.{OrRefused, and_then, on_ok, requirement, if_formula, with_numbers, one_more, most, Standing, start, with_tier, with_must, with_wanted, after_kind, after_line, after_lines}
use Rattle.config_reader.specs.Kinds.{kind_in, tier_of_line, version_of, judged}
use Rattle.config_reader.specs.Laws.{IsStated, ReadingsAreStated}
use Rattle.config_reader.specs.Names.{names_from, names_of, number_at, is_name, numbers}
use Rattle.name_table.specs.Numbers.{Numbers, number_of}
use Rattle.config_reader.specs.Reading.{configuration, if_lines, standing, numbered_by_tier}
use Rattle.config_reader.specs.Texts.{text}
use Rattle.config_reader.specs.Tiers.{of_tier, highest, in_order, by_tier}
use Rattle.config_reader.proofs.Drafts.{line_of_kind, readings_short, standing_of_version}
use Rattle.config_reader.proofs.Requirements.{requirement_of_answer, numbers_long}

-- the number beside a name is one of the numbers that the features have
names_below : (name : List ℕ) (number count found : ℕ) (features : List Feature) → number + length features ≡ count → lookup (pointwise nat_eq name) (names_from number features) ≡ Some found → found < count
names_below name number count found [] e at = absurd (cc)
names_below name number count found (feature ∷ after) e at =
    found_or_later (pointwise nat_eq name feature.name) (λ later. names_below name (number + 1) count found after (omega arith) later) at
  where
    found_or_later : (same : Bool) → (lookup (pointwise nat_eq name) (names_from (number + 1) after) ≡ Some found → found < count) → cond same (Some number) (lookup (pointwise nat_eq name) (names_from (number + 1) after)) ≡ Some found → found < count
    found_or_later true later is = let here : number ≡ found = cc in omega arith
    found_or_later false later is = later is

-- a number of the list, or the name itself beyond it
number_in_below : (count d : ℕ) (of : List ℕ) (name : ℕ) → All (λ number. number < count) of → name < length of → unwrap_or (slice_get of name) d < count
number_in_below count d [] name all l = absurd (omega arith)
number_in_below count d (first ∷ of) zero all l = All-head (λ number. number < count) first of all
number_in_below count d (first ∷ of) (suc name) all l = number_in_below count d of name (All-tail (λ number. number < count) first of all) (omega arith)

numbered_below : (count : ℕ) (of : List ℕ) (formula : Formula) → All (λ number. number < count) of → NamesBelow (length of) formula → NamesBelow count (numbered of formula)
numbered_below count of formula all below =
    rw (numbered-names of formula)
    (All-map (λ number. number < count) (number_in of) (names_in formula)
    (All-weaker (λ name. name < length of) (λ name. number_in of name < count) (λ name l. number_in_below count name of name all l) (names_in formula) below))

formula_below : (tokens : List Token) (formula : Formula) → formula_answer tokens ≡ Ok formula → NamesBelow (length tokens) formula
formula_below tokens formula e = stands_below tokens formula ((formula_answer_is_the_answer tokens (Ok formula)).1 (sym e)).0

module _ (names : Numbers) (bytes : List ℕ) (count : ℕ) (some : 0 < count) (below : (name : List ℕ) (found : ℕ) → number_of names name ≡ Some found → found < count) where
  -- ---- one requirement

  at_token : (is : Bool) (name : List ℕ) (found : ℕ) → cond is (number_of names name) (Some 0) ≡ Some found → found < count
  at_token true name found e = below name found e
  at_token false name found e = let zero_is : 0 ≡ found = cc in omega arith

  joined_below : (found : Option ℕ) (others : Option (List ℕ)) (of : List ℕ) → ((number : ℕ) → found ≡ Some number → number < count) → ((rest : List ℕ) → others ≡ Some rest → All (λ number. number < count) rest)
      → option_and_then (λ (number : ℕ). option_map (λ (rest : List ℕ). number ∷ rest) others) found ≡ Some of → All (λ number. number < count) of
  joined_below None others of one rest e = absurd (cc)
  joined_below (Some number) None of one rest e = absurd (cc)
  joined_below (Some number) (Some found) of one rest e =
      let same : number ∷ found ≡ of = cc in
      subst (All (λ number. number < count)) same (All-cons (λ number. number < count) number found (one number refl) (rest found refl))

  numbers_below : (tokens : List Token) (of : List ℕ) → numbers names bytes tokens ≡ Some of → All (λ number. number < count) of
  numbers_below [] [] e = All-nil (λ number. number < count)
  numbers_below [] (number ∷ of) e = absurd (cc)
  numbers_below (token ∷ after) of e =
      joined_below (number_at names bytes token) (numbers names bytes after) of
      (λ number e. at_token (is_name token.kind) (token_text bytes token) number e)
      (λ rest e. numbers_below after rest e)
      e

  abbrev Named : Requirement → Type 0
  Named one = NamesBelow count one.formula

  with_numbers_named : (line : ℕ) (tokens : List Token) (formula : Formula) (of : Option (List ℕ)) (one : Requirement) → numbers names bytes tokens ≡ of → NamesBelow (length tokens) formula → with_numbers line (text bytes tokens) formula of ≡ Ok one → Named one
  with_numbers_named line tokens formula None one e named read = absurd (cc)
  with_numbers_named line tokens formula (Some of) one e named read =
      let same : record { text = text bytes tokens; formula = numbered of formula } ≡ one = cc in
      let long : length of ≡ length tokens = numbers_long names bytes tokens of e in
      let here : NamesBelow (length of) formula = rw long named in
      subst Named same (numbered_below count of formula (numbers_below tokens of e) here)

  if_formula_named : (line : ℕ) (tokens : List Token) (answer : Result Formula FormulaError) (one : Requirement) → formula_answer tokens ≡ answer → if_formula names bytes line tokens answer ≡ Ok one → Named one
  if_formula_named line tokens (Ok formula) one e read = with_numbers_named line tokens formula (numbers names bytes tokens) one refl (formula_below tokens formula e) read
  if_formula_named line tokens (Err reason) one e read = absurd (cc)

  requirement_named : (line : ℕ) (tokens : List Token) (one : Requirement) → requirement names bytes line tokens ≡ Ok one → Named one
  requirement_named line tokens one e = if_formula_named line tokens (formula_answer tokens) one refl (sym (requirement_of_answer names bytes line tokens (formula_answer tokens) refl) ∙ e)

  abbrev one_more_refused : ℕ → OrRefused Requirement
  one_more_refused line = Err (Refused line TooMany)

  room_named : (room : Bool) (number line : ℕ) (tokens : List Token) (one : Requirement) → nat_lt number most ≡ room → one_more number names bytes line tokens ≡ Ok one → Named one
  room_named true number line tokens one e read = requirement_named line tokens one (rw e at read)
  room_named false number line tokens one e read = let no : one_more_refused line ≡ Ok one = rw e at read in absurd (cc)

  one_named : (number line : ℕ) (tokens : List Token) (one : Requirement) → one_more number names bytes line tokens ≡ Ok one → Named one
  one_named number line tokens one read = room_named (nat_lt number most) number line tokens one refl read

  -- ---- line after line

  record AreAllNamed (read : Standing) : Type 0 where
    placed : All (λ one. Named one.requirement) read.placed
    musts : All Named read.musts

  with_must_named : (before after : Standing) (line : ℕ) (tokens : List Token) (found : OrRefused Requirement) → one_more (length before.musts) names bytes line tokens ≡ found → AreAllNamed before → on_ok (with_must before) found ≡ Ok after → AreAllNamed after
  with_must_named before after line tokens (Ok must) e all read =
      let is : with_must before must ≡ after = cc in
      subst AreAllNamed is (record { placed = all.placed; musts = All-push Named before.musts must all.musts (one_named (length before.musts) line tokens must e) })
  with_must_named before after line tokens (Err error) e all read = absurd (cc)

  with_wanted_named : (before after : Standing) (line : ℕ) (tokens : List Token) (found : OrRefused Requirement) → one_more (length before.placed) names bytes line tokens ≡ found → AreAllNamed before → on_ok (with_wanted before) found ≡ Ok after → AreAllNamed after
  with_wanted_named before after line tokens (Ok wanted) e all read =
      let is : with_wanted before wanted ≡ after = cc in
      let one : Placed = record { tier = before.tier; requirement = wanted } in
      subst AreAllNamed is (record { placed = All-push (λ one. Named one.requirement) before.placed one all.placed (one_named (length before.placed) line tokens wanted e); musts = all.musts })
  with_wanted_named before after line tokens (Err error) e all read = absurd (cc)

  with_tier_named : (before after : Standing) (line : ℕ) (tier : Option ℕ) → AreAllNamed before → with_tier line before tier ≡ Ok after → AreAllNamed after
  with_tier_named before after line (Some tier) all read =
      let set : Standing = record before { tier = tier } in
      let is : set ≡ after = cc in
      subst AreAllNamed is (record { placed = all.placed; musts = all.musts })
  with_tier_named before after line None all read = absurd (cc)

  after_kind_named : (kind : Kind) (before after : Standing) (line : ℕ) (tokens : List Token) → AreAllNamed before → after_kind names bytes before line tokens kind ≡ Ok after → AreAllNamed after
  after_kind_named Tier before after line tokens all read = with_tier_named before after line (tier_of_line bytes tokens) all read
  after_kind_named Must before after line tokens all read = with_must_named before after line (drop 1 tokens) (one_more (length before.musts) names bytes line (drop 1 tokens)) refl all read
  after_kind_named Wanted before after line tokens all read = with_wanted_named before after line tokens (one_more (length before.placed) names bytes line tokens) refl all read

  after_line_named : (version : Version) (before after : Standing) (line : Line) → AreAllNamed before → after_line version names bytes before line ≡ Ok after → AreAllNamed after
  after_line_named version before after line all read =
      after_kind_named (kind_in version bytes line.tokens) before after line.number line.tokens all (sym (line_of_kind version names bytes (kind_in version bytes line.tokens) before line refl) ∙ read)

  below_named : (version : Version) (below_lines : List Line) (found : OrRefused Standing) (after : Standing)
      → ((next : Standing) → AreAllNamed next → after_lines version names bytes next below_lines ≡ Ok after → AreAllNamed after)
      → ((next : Standing) → found ≡ Ok next → AreAllNamed next)
      → and_then (λ (next : Standing). after_lines version names bytes next below_lines) found ≡ Ok after → AreAllNamed after
  below_named version below_lines (Ok next) after rest here read = rest next (here next refl) read
  below_named version below_lines (Err error) after rest here read = absurd (cc)

  after_lines_named : (version : Version) (lines : List Line) (before after : Standing) → AreAllNamed before → after_lines version names bytes before lines ≡ Ok after → AreAllNamed after
  unfolding after_lines
  after_lines_named version [] before after all read =
      let is : before ≡ after = cc in
      subst AreAllNamed is all
  after_lines_named version (line ∷ below_lines) before after all read =
      below_named version below_lines (after_line version names bytes before line) after
      (λ next s e. after_lines_named version below_lines next after s e)
      (λ next e. after_line_named version before next line all e)
      read

  standing_named : (lines : List Line) (read : Standing) → standing names bytes lines ≡ Ok read → AreAllNamed read
  standing_named lines read e =
      let version = version_of bytes lines in
      after_lines_named version (judged version lines) start read
      (record { placed = All-nil (λ one. Named one.requirement); musts = All-nil Named })
      (sym (standing_of_version names bytes lines version refl) ∙ e)

  -- ---- the order by tier

  tiers_named : (placed : List Placed) (low number : ℕ) → All (λ one. Named one.requirement) placed → All (λ one. Named one.requirement) (flat_map (of_tier placed) (range_with_len low number))
  tiers_named placed low zero all = All-nil (λ one. Named one.requirement)
  tiers_named placed low (suc number) all =
      All-append (λ one. Named one.requirement) (of_tier placed low) (flat_map (of_tier placed) (range_with_len (low + 1) number))
      (All-filter (λ one. nat_eq one.tier low) (λ one. Named one.requirement) placed all)
      (tiers_named placed (low + 1) number all)

  by_tier_named : (placed : List Placed) → All (λ one. Named one.requirement) placed → All Named (by_tier placed)
  by_tier_named placed all = All-map Named (λ one. one.requirement) (in_order placed) (tiers_named placed 0 (highest placed + 1) all)

  stated_by : (lines : List Line) (found : OrRefused Standing) (config : Configuration) → standing names bytes lines ≡ found → on_ok numbered_by_tier found ≡ Ok config → IsStated count config
  stated_by lines (Ok read) config e is =
      let same : numbered_by_tier read ≡ config = cc in
      let all = standing_named lines read e in
      let short = readings_short names bytes lines read e in
      subst (IsStated count) same (record { requirements = by_tier_named read.placed all.placed; musts = all.musts; musts_few = short.musts })
  stated_by lines (Err error) config e is = absurd (cc)

  if_lines_stated : (lines : OrFault (List Line)) (config : Configuration) → if_lines names bytes lines ≡ Ok config → IsStated count config
  if_lines_stated (Ok lines) config e = stated_by lines (standing names bytes lines) config refl e
  if_lines_stated (Err error) config e = absurd (cc)

pub readings_stated : ReadingsAreStated
unfolding configuration
readings_stated bytes model config some e =
    if_lines_stated (names_of model.features) bytes (length model.features) some
    (λ name found at. names_below name 0 (length model.features) found model.features (omega arith) at)
    (reading bytes) config e
