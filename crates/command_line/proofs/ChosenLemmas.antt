-- Options read one after the other are options in any order, each at most once.
use Rattle.std.proofs.Common.{◌≡◌, ℕ, ◌≤◌, Bool, true, false, ◌&&◌, cond, List, [], ◌∷◌, ◌++◌, length, Some, None, arith, refl, sym, ap, ◌∙◌, subst, map, append_assoc, append-nil}
use Rattle.std.specs.Prelude.{Option, IfSome, IfNone, IsTrue, nat_le, filter_map, slice_index_or, slice_get, codes, unwrap_or}
use Rattle.std.specs.List.{flat_map, list_all, cons_option}
use Rattle.std.specs.Option.{option_map, option_and_then, is_none}
use Rattle.std.specs.Str.{bytes_eq}
use Rattle.std.specs.Fmt.{decimal}
use Rattle.std.proofs.lemmas.Bool.{leb-true}
use Rattle.std.proofs.lemmas.Bool.Decides.{nat_tests}
use Rattle.std.proofs.lemmas.Option.{option_and_then_some, none-some, same_Some}
use Rattle.std.proofs.lemmas.Slice.Eq.{bytes_eq-Decides}
use Rattle.command_line.specs.Numbers.{number_of}
use Rattle.command_line.specs.declared.command.What.{What}
use Rattle.command_line.specs.declared.command.What.TheVariants as kind
use Rattle.command_line.specs.Words.{Settings, Request, Diagnose, Verify, Generate, verification_of, Ahead, Workers, Certify, ahead_of, workers_of, certify_of, IsDrawn, diagnosis_of, drawn_of, generation_of, may_be_drawn, what_of, word_of, names_a_file, Choice, Allowance, Rungs, Listing, words_of, may_be_chosen, allowance_of, rungs_of, list_of, AreOptions, Says, Chosen, nothing_chosen, chosen_with, choice_of, chosen_by, chosen_from, settings_of, request_of, WordsSayOneRequest}
use Rattle.command_line.proofs.NumbersLemmas.{number_says, number_decimal}

-- what is chosen, as a list
abbrev as_list : {X : Type 0} → Option X → List X
as_list None = []
as_list (Some n) = n ∷ []

-- what these options add to what was chosen before
record Adds (before now : Chosen) (choices : List Choice) : Type 0 where
  allowed : list_all may_be_chosen choices ≡ true
  allowance : as_list now.allowance ≡ as_list before.allowance ++ filter_map allowance_of choices
  rungs : as_list now.rungs ≡ as_list before.rungs ++ filter_map rungs_of choices
  list : as_list now.list ≡ as_list before.list ++ filter_map list_of choices
  ahead : as_list now.ahead ≡ as_list before.ahead ++ filter_map ahead_of choices
  workers : as_list now.workers ≡ as_list before.workers ++ filter_map workers_of choices
  certify : as_list now.certify ≡ as_list before.certify ++ filter_map certify_of choices

-- ---- tests

both : (a b : Bool) → (a && b) ≡ true → (a ≡ true) × (b ≡ true)
both true b e = (refl, e)
both false b e = (cc)

-- ---- what is chosen once

same_choice : {X : Type 0} (x y : Option X) → as_list x ≡ as_list y → x ≡ y
same_choice None None e = refl
same_choice None (Some n) e = (cc)
same_choice (Some m) None e = (cc)
same_choice (Some m) (Some n) e = (cc)

-- what is chosen now was not chosen before
room : {X : Type 0} (now before : Option X) (n : X) (rest : List X) → as_list now ≡ as_list before ++ n ∷ rest → before ≡ None
room now None n rest e = refl
room None (Some m) n rest e = absurd (omega (arith, ap length e))
room (Some k) (Some m) n rest e = absurd (omega (arith, ap length e))

first_alone : {X : Type 0} (all : List X) → length all ≤ 1 → as_list (slice_get all 0) ≡ all
first_alone [] l = refl
first_alone (n ∷ []) l = refl
first_alone (n ∷ m ∷ rest) l = absurd (omega arith)

alone_first : {X : Type 0} (chosen : Option X) (all : List X) (d : X) → as_list chosen ≡ all → (length all ≤ 1) × (unwrap_or chosen d ≡ slice_index_or all 0 d)
alone_first None all d e = (subst (λ l. length l ≤ 1) e (omega arith), subst (λ l. d ≡ slice_index_or l 0 d) e refl)
alone_first (Some n) all d e = (subst (λ l. length l ≤ 1) e (omega arith), subst (λ l. n ≡ slice_index_or l 0 d) e refl)

listed_first : {X : Type 0} (chosen : Option X) (all : List X) → as_list chosen ≡ all → (length all ≤ 1) × (chosen ≡ slice_get all 0)
listed_first None all e = (subst (λ l. length l ≤ 1) e (omega arith), subst (λ l. None ≡ slice_get l 0) e refl)
listed_first (Some n) all e = (subst (λ l. length l ≤ 1) e (omega arith), subst (λ l. Some n ≡ slice_get l 0) e refl)

same_chosen : (x y : Chosen) → x.allowance ≡ y.allowance → x.rungs ≡ y.rungs → x.list ≡ y.list → x.ahead ≡ y.ahead → x.workers ≡ y.workers → x.certify ≡ y.certify → x ≡ y
same_chosen x y a r l h w c =
    subst (λ (o : Option ℕ). x ≡ (record { allowance = o; rungs = y.rungs; list = y.list; ahead = y.ahead; workers = y.workers; certify = y.certify })) a
    (subst (λ (o : Option ℕ). x ≡ (record { allowance = x.allowance; rungs = o; list = y.list; ahead = y.ahead; workers = y.workers; certify = y.certify })) r
    (subst (λ (o : Option ℕ). x ≡ (record { allowance = x.allowance; rungs = x.rungs; list = o; ahead = y.ahead; workers = y.workers; certify = y.certify })) l
    (subst (λ (o : Option ℕ). x ≡ (record { allowance = x.allowance; rungs = x.rungs; list = x.list; ahead = o; workers = y.workers; certify = y.certify })) h
    (subst (λ (o : Option ℕ). x ≡ (record { allowance = x.allowance; rungs = x.rungs; list = x.list; ahead = x.ahead; workers = o; certify = y.certify })) w
    (subst (λ (o : Option Bool). x ≡ (record { allowance = x.allowance; rungs = x.rungs; list = x.list; ahead = x.ahead; workers = x.workers; certify = o })) c refl)))))

-- ---- one option

-- the words of a choice of this name
named : (name word : List ℕ) (value : ℕ) (made choice : Choice) → bytes_eq name word ≡ true → words_of made ≡ word ∷ decimal value ∷ [] → Some made ≡ Some choice → words_of choice ≡ name ∷ decimal value ∷ []
named name word value made choice p words e =
    subst (λ (c : Choice). words_of c ≡ name ∷ decimal value ∷ []) (same_Some made choice e)
    (words ∙ ap (λ (n : List ℕ). n ∷ decimal value ∷ []) (sym ((bytes_eq-Decides name word).0 p)))

choice_by : (name : List ℕ) (value : ℕ) (choice : Choice) (a b c d e : Bool) → bytes_eq name (codes "--allowance") ≡ a → bytes_eq name (codes "--rungs") ≡ b → bytes_eq name (codes "--list") ≡ c → bytes_eq name (codes "--ahead") ≡ d → bytes_eq name (codes "--workers") ≡ e → choice_of name value ≡ Some choice → words_of choice ≡ name ∷ decimal value ∷ []
choice_by name value choice true b c d e p q r s t is = named name (codes "--allowance") value (Allowance value) choice p refl (rw p at is)
choice_by name value choice false true c d e p q r s t is = named name (codes "--rungs") value (Rungs value) choice q refl (rw (p, q) at is)
choice_by name value choice false false true d e p q r s t is = named name (codes "--list") value (Listing value) choice r refl (rw (p, q, r) at is)
choice_by name value choice false false false true e p q r s t is = named name (codes "--ahead") value (Ahead value) choice s refl (rw (p, q, r, s) at is)
choice_by name value choice false false false false true p q r s t is = named name (codes "--workers") value (Workers value) choice t refl (rw (p, q, r, s, t) at is)
choice_by name value choice false false false false false p q r s t is = let none : None ≡ Some choice = rw (p, q, r, s, t) at is in absurd (none-some choice none)

-- the words of the option that a word and a number are
choice_says : (name word : List ℕ) (value : ℕ) (choice : Choice) → word ≡ decimal value → choice_of name value ≡ Some choice → words_of choice ≡ name ∷ word ∷ []
choice_says name word value choice w e =
    choice_by name value choice (bytes_eq name (codes "--allowance")) (bytes_eq name (codes "--rungs")) (bytes_eq name (codes "--list")) (bytes_eq name (codes "--ahead")) (bytes_eq name (codes "--workers")) refl refl refl refl refl e
    ∙ ap (λ (d : List ℕ). name ∷ d ∷ []) (sym w)

-- an option with a number isn't the one without
numbered : (name value : List ℕ) (number : ℕ) (choice : Choice) (is : Bool) → bytes_eq name (codes "--certify") ≡ is → choice_of name number ≡ Some choice → is ≡ false
numbered name value number choice false is e = refl
numbered name value number choice true is e =
    let same : name ≡ codes "--certify" = (bytes_eq-Decides name (codes "--certify")).0 is in
    let none : None ≡ Some choice = subst (λ (n : List ℕ). choice_of n number ≡ Some choice) same e in
    absurd (none-some choice none)

-- what is taken where it was not chosen before
taken : {X : Type 0} (old : Option X) (may : Bool) (next now : Chosen) → cond (is_none old && may) (Some next) None ≡ Some now → (may ≡ true) × (old ≡ None) × (next ≡ now)
taken (Some n) may next now e = absurd (none-some now e)
taken None false next now e = absurd (none-some now e)
taken None true next now e = (refl, refl, same_Some next now e)

-- what is chosen now, and what was chosen before and stays
joins : {X : Type 0} (old : Option X) (n : X) (now : Option X) → old ≡ None → Some n ≡ now → as_list now ≡ as_list old ++ n ∷ []
joins old n now none is = rw none (ap as_list (sym is))

stays : {X : Type 0} (old now : Option X) → old ≡ now → as_list now ≡ as_list old ++ []
stays old now is = ap as_list (sym is) ∙ sym (append-nil (as_list old))

one_added : (before now : Chosen) (choice : Choice) → chosen_with before choice ≡ Some now → Adds before now (choice ∷ [])
one_added before now (Allowance most) e =
    let a = taken before.allowance (may_be_chosen (Allowance most)) (record before { allowance = Some most }) now e in
    record {
      allowed = rw a.0 refl;
      allowance = joins before.allowance most now.allowance a.1 (ap (λ (c : Chosen). c.allowance) a.2);
      rungs = stays before.rungs now.rungs (ap (λ (c : Chosen). c.rungs) a.2);
      list = stays before.list now.list (ap (λ (c : Chosen). c.list) a.2);
      ahead = stays before.ahead now.ahead (ap (λ (c : Chosen). c.ahead) a.2);
      workers = stays before.workers now.workers (ap (λ (c : Chosen). c.workers) a.2);
      certify = stays before.certify now.certify (ap (λ (c : Chosen). c.certify) a.2);
    }
one_added before now (Rungs more) e =
    let a = taken before.rungs (may_be_chosen (Rungs more)) (record before { rungs = Some more }) now e in
    record {
      allowed = rw a.0 refl;
      allowance = stays before.allowance now.allowance (ap (λ (c : Chosen). c.allowance) a.2);
      rungs = joins before.rungs more now.rungs a.1 (ap (λ (c : Chosen). c.rungs) a.2);
      list = stays before.list now.list (ap (λ (c : Chosen). c.list) a.2);
      ahead = stays before.ahead now.ahead (ap (λ (c : Chosen). c.ahead) a.2);
      workers = stays before.workers now.workers (ap (λ (c : Chosen). c.workers) a.2);
      certify = stays before.certify now.certify (ap (λ (c : Chosen). c.certify) a.2);
    }
one_added before now (Listing most) e =
    let a = taken before.list (may_be_chosen (Listing most)) (record before { list = Some most }) now e in
    record {
      allowed = rw a.0 refl;
      allowance = stays before.allowance now.allowance (ap (λ (c : Chosen). c.allowance) a.2);
      rungs = stays before.rungs now.rungs (ap (λ (c : Chosen). c.rungs) a.2);
      list = joins before.list most now.list a.1 (ap (λ (c : Chosen). c.list) a.2);
      ahead = stays before.ahead now.ahead (ap (λ (c : Chosen). c.ahead) a.2);
      workers = stays before.workers now.workers (ap (λ (c : Chosen). c.workers) a.2);
      certify = stays before.certify now.certify (ap (λ (c : Chosen). c.certify) a.2);
    }
one_added before now (Ahead answers) e =
    let a = taken before.ahead (may_be_chosen (Ahead answers)) (record before { ahead = Some answers }) now e in
    record {
      allowed = rw a.0 refl;
      allowance = stays before.allowance now.allowance (ap (λ (c : Chosen). c.allowance) a.2);
      rungs = stays before.rungs now.rungs (ap (λ (c : Chosen). c.rungs) a.2);
      list = stays before.list now.list (ap (λ (c : Chosen). c.list) a.2);
      ahead = joins before.ahead answers now.ahead a.1 (ap (λ (c : Chosen). c.ahead) a.2);
      workers = stays before.workers now.workers (ap (λ (c : Chosen). c.workers) a.2);
      certify = stays before.certify now.certify (ap (λ (c : Chosen). c.certify) a.2);
    }
one_added before now (Workers threads) e =
    let a = taken before.workers (may_be_chosen (Workers threads)) (record before { workers = Some threads }) now e in
    record {
      allowed = rw a.0 refl;
      allowance = stays before.allowance now.allowance (ap (λ (c : Chosen). c.allowance) a.2);
      rungs = stays before.rungs now.rungs (ap (λ (c : Chosen). c.rungs) a.2);
      list = stays before.list now.list (ap (λ (c : Chosen). c.list) a.2);
      ahead = stays before.ahead now.ahead (ap (λ (c : Chosen). c.ahead) a.2);
      workers = joins before.workers threads now.workers a.1 (ap (λ (c : Chosen). c.workers) a.2);
      certify = stays before.certify now.certify (ap (λ (c : Chosen). c.certify) a.2);
    }
one_added before now Certify e =
    let a = taken before.certify (may_be_chosen Certify) (record before { certify = Some true }) now e in
    record {
      allowed = rw a.0 refl;
      allowance = stays before.allowance now.allowance (ap (λ (c : Chosen). c.allowance) a.2);
      rungs = stays before.rungs now.rungs (ap (λ (c : Chosen). c.rungs) a.2);
      list = stays before.list now.list (ap (λ (c : Chosen). c.list) a.2);
      ahead = stays before.ahead now.ahead (ap (λ (c : Chosen). c.ahead) a.2);
      workers = stays before.workers now.workers (ap (λ (c : Chosen). c.workers) a.2);
      certify = joins before.certify true now.certify a.1 (ap (λ (c : Chosen). c.certify) a.2);
    }

cons_more : {X : Type 0} (found : Option X) (others : List X) → cons_option found others ≡ cons_option found [] ++ others
cons_more None others = refl
cons_more (Some n) others = refl

one_more : {X : Type 0} (choice : Choice) (pick : Choice → Option X) (choices : List Choice) → filter_map pick (choice ∷ choices) ≡ filter_map pick (choice ∷ []) ++ filter_map pick choices
one_more choice pick choices = cons_more (pick choice) (filter_map pick choices)

both_parts : {X : Type 0} (before between now : Option X) (pick : Choice → Option X) (choice : Choice) (choices : List Choice) → as_list between ≡ as_list before ++ filter_map pick (choice ∷ []) → as_list now ≡ as_list between ++ filter_map pick choices → as_list now ≡ as_list before ++ filter_map pick (choice ∷ choices)
both_parts before between now pick choice choices a b =
    b ∙ ap (λ l. l ++ filter_map pick choices) a
    ∙ append_assoc (as_list before) (filter_map pick (choice ∷ [])) (filter_map pick choices)
    ∙ ap (λ l. as_list before ++ l) (sym (one_more choice pick choices))

adds_more : (before between now : Chosen) (choice : Choice) (choices : List Choice) → Adds before between (choice ∷ []) → Adds between now choices → Adds before now (choice ∷ choices)
adds_more before between now choice choices a b =
    record {
      allowed = rw (both (may_be_chosen choice) true a.allowed).0 b.allowed;
      allowance = both_parts before.allowance between.allowance now.allowance allowance_of choice choices a.allowance b.allowance;
      rungs = both_parts before.rungs between.rungs now.rungs rungs_of choice choices a.rungs b.rungs;
      list = both_parts before.list between.list now.list list_of choice choices a.list b.list;
      ahead = both_parts before.ahead between.ahead now.ahead ahead_of choice choices a.ahead b.ahead;
      workers = both_parts before.workers between.workers now.workers workers_of choice choices a.workers b.workers;
      certify = both_parts before.certify between.certify now.certify certify_of choice choices a.certify b.certify;
    }

-- ---- any options

-- two words at the front of a list
pub two_more : {X : Type 0} (f : X → List ℕ) (all after rest : List X) (name value : X) (a b : List ℕ) → all ≡ name ∷ after → after ≡ value ∷ rest → a ≡ f name → b ≡ f value → map f all ≡ a ∷ b ∷ map f rest
two_more f all after rest name value a b p q r s = rw (p, q, r, s) refl

-- a word at the front of a list
pub one_word : {X : Type 0} (f : X → List ℕ) (all after : List X) (name : X) (a : List ℕ) → all ≡ name ∷ after → a ≡ f name → map f all ≡ a ∷ map f after
one_word f all after name a p r = rw (p, r) refl

-- one option is read, and the rest are left
pub next : (before now : Chosen) (name value : List ℕ) (all rest : List (List ℕ)) (whole : Option Chosen) → all ≡ name ∷ value ∷ rest → bytes_eq name (codes "--certify") ≡ false → chosen_by before name value ≡ Some now → chosen_from before all ≡ whole → chosen_from now rest ≡ whole
next before now name value all rest whole are other by h =
    let k : chosen_from before (name ∷ value ∷ rest) ≡ whole = rw are at h in
    rw (other, by) at k

-- the one without a number
certified : (before now : Chosen) (name : List ℕ) (rest : List (List ℕ)) → bytes_eq name (codes "--certify") ≡ true → chosen_with before Certify ≡ Some now → chosen_from before (name ∷ rest) ≡ chosen_from now rest
certified before now name [] is with = rw (is, with) refl
certified before now name (value ∷ rest) is with = rw (is, with) refl

pub next_certified : (before now : Chosen) (name : List ℕ) (all rest : List (List ℕ)) (whole : Option Chosen) → all ≡ name ∷ rest → bytes_eq name (codes "--certify") ≡ true → chosen_with before Certify ≡ Some now → chosen_from before all ≡ whole → chosen_from now rest ≡ whole
next_certified before now name all rest whole are is with h = sym (certified before now name rest is with) ∙ ap (chosen_from before) (sym are) ∙ h

-- the words are options that make these choices
abbrev Makes : Chosen → Chosen → List (List ℕ) → Type 0
Makes before now words = (choices : List Choice) × (words ≡ flat_map words_of choices) × Adds before now choices

one_then_others : (before between now : Chosen) (choice : Choice) (name value : List ℕ) (rest : List (List ℕ)) (number : ℕ) → number_of value ≡ Some number → choice_of name number ≡ Some choice → chosen_with before choice ≡ Some between → Makes between now rest → Makes before now (name ∷ value ∷ rest)
one_then_others before between now choice name value rest number n c w (choices, said, adds) = (
  choice ∷ choices,
  ap (λ (words : List (List ℕ)). name ∷ value ∷ words) said
      ∙ ap (λ (front : List (List ℕ)). front ++ flat_map words_of choices) (sym (choice_says name value number choice (number_says value number n) c)),
  adds_more before between now choice choices (one_added before between choice w) adds,
)

nothing_added : (before now : Chosen) → before ≡ now → Makes before now []
nothing_added before now is = (
  [],
  refl,
  record {
    allowed = refl;
    allowance = stays before.allowance now.allowance (ap (λ (c : Chosen). c.allowance) is);
    rungs = stays before.rungs now.rungs (ap (λ (c : Chosen). c.rungs) is);
    list = stays before.list now.list (ap (λ (c : Chosen). c.list) is);
    ahead = stays before.ahead now.ahead (ap (λ (c : Chosen). c.ahead) is);
    workers = stays before.workers now.workers (ap (λ (c : Chosen). c.workers) is);
    certify = stays before.certify now.certify (ap (λ (c : Chosen). c.certify) is);
  },
)

certify_then_others : (before between now : Chosen) (name : List ℕ) (rest : List (List ℕ)) → bytes_eq name (codes "--certify") ≡ true → chosen_with before Certify ≡ Some between → Makes between now rest → Makes before now (name ∷ rest)
certify_then_others before between now name rest is with (choices, said, adds) = (
  Certify ∷ choices,
  ap (λ (n : List ℕ). n ∷ rest) ((bytes_eq-Decides name (codes "--certify")).0 is) ∙ ap (λ (words : List (List ℕ)). codes "--certify" ∷ words) said,
  adds_more before between now Certify choices (one_added before between Certify with) adds,
)

sound_alone : (before now : Chosen) (name : List ℕ) (is : Bool) → bytes_eq name (codes "--certify") ≡ is → chosen_from before (name ∷ []) ≡ Some now → Makes before now (name ∷ [])
sound_alone before now name false is e = let none : None ≡ Some now = rw is at e in absurd (none-some now none)
sound_alone before now name true is e =
    let with : chosen_with before Certify ≡ Some now = rw is at e in
    certify_then_others before now now name [] is with (nothing_added now now refl)

sound_both : (before now : Chosen) (name value : List ℕ) (rest : List (List ℕ)) (is : Bool) → bytes_eq name (codes "--certify") ≡ is → chosen_from before (name ∷ value ∷ rest) ≡ Some now
    → ((between : Chosen) → chosen_from between (value ∷ rest) ≡ Some now → Makes between now (value ∷ rest))
    → ((between : Chosen) → chosen_from between rest ≡ Some now → Makes between now rest) → Makes before now (name ∷ value ∷ rest)
sound_both before now name value rest true is e one two =
    let found : option_and_then (λ c. chosen_from c (value ∷ rest)) (chosen_with before Certify) ≡ Some now = rw is at e in
    option_and_then_some (λ (c : Chosen). chosen_from c (value ∷ rest)) (chosen_with before Certify) now found
    (λ between with after. certify_then_others before between now name (value ∷ rest) is with (one between after))
sound_both before now name value rest false is e one two =
    let found : option_and_then (λ c. chosen_from c rest) (chosen_by before name value) ≡ Some now = rw is at e in
    option_and_then_some (λ (c : Chosen). chosen_from c rest) (chosen_by before name value) now found
    (λ between by after. option_and_then_some (chosen_with before) (option_and_then (choice_of name) (number_of value)) between by
    (λ choice of with. option_and_then_some (choice_of name) (number_of value) choice of
    (λ number n c. one_then_others before between now choice name value rest number n c with (two between after))))

-- for a list of words and what is left behind its first word
sound_for : (words : List (List ℕ)) → ((before now : Chosen) → chosen_from before words ≡ Some now → Makes before now words)
    × ((first : List ℕ) (before now : Chosen) → chosen_from before (first ∷ words) ≡ Some now → Makes before now (first ∷ words))
sound_for [] = (
  λ before now e. nothing_added before now (same_Some before now e),
  λ first before now e. sound_alone before now first (bytes_eq first (codes "--certify")) refl e,
)
sound_for (word ∷ words) =
    let later = sound_for words in (
      later.1 word,
      λ first before now e. sound_both before now first word words (bytes_eq first (codes "--certify")) refl e (λ between after. later.1 word between now after) (λ between after. later.0 between now after),
    )

sound : (before now : Chosen) (words : List (List ℕ)) → chosen_from before words ≡ Some now → Makes before now words
sound before now words = (sound_for words).0 before now

-- without more options nothing changes
unchanged : {X : Type 0} (before now : Option X) → as_list now ≡ as_list before ++ [] → before ≡ now
unchanged before now e = same_choice before now (sym (e ∙ append-nil (as_list before)))

complete : (before now : Chosen) (choices : List Choice) → Adds before now choices → chosen_from before (flat_map words_of choices) ≡ Some now
complete before now [] a =
    ap Some
    (same_chosen before now
    (unchanged before.allowance now.allowance a.allowance)
    (unchanged before.rungs now.rungs a.rungs)
    (unchanged before.list now.list a.list)
    (unchanged before.ahead now.ahead a.ahead)
    (unchanged before.workers now.workers a.workers)
    (unchanged before.certify now.certify a.certify))
complete before now (Allowance most ∷ choices) a =
    let may = both (may_be_chosen (Allowance most)) (list_all may_be_chosen choices) a.allowed in
    let new = room now.allowance before.allowance most (filter_map allowance_of choices) a.allowance in
    let small = leb-true most 1099511627776 may.0 in
    let between : Chosen = record before { allowance = Some most } in
    let later : chosen_from between (flat_map words_of choices) ≡ Some now =
    complete between now choices (record { allowed = may.1; allowance = rw new at a.allowance; rungs = a.rungs; list = a.list; ahead = a.ahead; workers = a.workers; certify = a.certify }) in
    rw (number_decimal most (omega arith), new, may.0) later
complete before now (Rungs more ∷ choices) a =
    let may = both (may_be_chosen (Rungs more)) (list_all may_be_chosen choices) a.allowed in
    let new = room now.rungs before.rungs more (filter_map rungs_of choices) a.rungs in
    let small = leb-true more 4 may.0 in
    let between : Chosen = record before { rungs = Some more } in
    let later : chosen_from between (flat_map words_of choices) ≡ Some now =
    complete between now choices (record { allowed = may.1; allowance = a.allowance; rungs = rw new at a.rungs; list = a.list; ahead = a.ahead; workers = a.workers; certify = a.certify }) in
    rw (number_decimal more (omega arith), new, may.0) later
complete before now (Listing most ∷ choices) a =
    let may = both (may_be_chosen (Listing most)) (list_all may_be_chosen choices) a.allowed in
    let new = room now.list before.list most (filter_map list_of choices) a.list in
    let small = leb-true most 4096 may.0 in
    let between : Chosen = record before { list = Some most } in
    let later : chosen_from between (flat_map words_of choices) ≡ Some now =
    complete between now choices (record { allowed = may.1; allowance = a.allowance; rungs = a.rungs; list = rw new at a.list; ahead = a.ahead; workers = a.workers; certify = a.certify }) in
    rw (number_decimal most (omega arith), new, may.0) later
complete before now (Ahead answers ∷ choices) a =
    let may = both (may_be_chosen (Ahead answers)) (list_all may_be_chosen choices) a.allowed in
    let new = room now.ahead before.ahead answers (filter_map ahead_of choices) a.ahead in
    let small = leb-true answers 6 may.0 in
    let between : Chosen = record before { ahead = Some answers } in
    let later : chosen_from between (flat_map words_of choices) ≡ Some now =
    complete between now choices (record { allowed = may.1; allowance = a.allowance; rungs = a.rungs; list = a.list; ahead = rw new at a.ahead; workers = a.workers; certify = a.certify }) in
    rw (number_decimal answers (omega arith), new, may.0) later
complete before now (Workers threads ∷ choices) a =
    let may = both (may_be_chosen (Workers threads)) (list_all may_be_chosen choices) a.allowed in
    let new = room now.workers before.workers threads (filter_map workers_of choices) a.workers in
    let small = leb-true threads 64 may.0 in
    let between : Chosen = record before { workers = Some threads } in
    let later : chosen_from between (flat_map words_of choices) ≡ Some now =
    complete between now choices (record { allowed = may.1; allowance = a.allowance; rungs = a.rungs; list = a.list; ahead = a.ahead; workers = rw new at a.workers; certify = a.certify }) in
    rw (number_decimal threads (omega arith), new, may.0) later
complete before now (Certify ∷ choices) a =
    let may = both (may_be_chosen Certify) (list_all may_be_chosen choices) a.allowed in
    let new = room now.certify before.certify true (filter_map certify_of choices) a.certify in
    let between : Chosen = record before { certify = Some true } in
    let later : chosen_from between (flat_map words_of choices) ≡ Some now =
    complete between now choices (record { allowed = may.1; allowance = a.allowance; rungs = a.rungs; list = a.list; ahead = a.ahead; workers = a.workers; certify = rw new at a.certify }) in
    let with : chosen_with before Certify ≡ Some between = rw new refl in
    certified before between (codes "--certify") (flat_map words_of choices) refl with ∙ later

-- ---- the whole

same_settings : (x y : Settings) → x.allowance ≡ y.allowance → x.rungs ≡ y.rungs → x.list ≡ y.list → x.ahead ≡ y.ahead → x.workers ≡ y.workers → x.certify ≡ y.certify → x ≡ y
same_settings x y a r l h w c =
    subst (λ (o : ℕ). x ≡ (record { allowance = o; rungs = y.rungs; list = y.list; ahead = y.ahead; workers = y.workers; certify = y.certify })) a
    (subst (λ (o : ℕ). x ≡ (record { allowance = x.allowance; rungs = o; list = y.list; ahead = y.ahead; workers = y.workers; certify = y.certify })) r
    (subst (λ (o : Option ℕ). x ≡ (record { allowance = x.allowance; rungs = x.rungs; list = o; ahead = y.ahead; workers = y.workers; certify = y.certify })) l
    (subst (λ (o : ℕ). x ≡ (record { allowance = x.allowance; rungs = x.rungs; list = x.list; ahead = o; workers = y.workers; certify = y.certify })) h
    (subst (λ (o : ℕ). x ≡ (record { allowance = x.allowance; rungs = x.rungs; list = x.list; ahead = x.ahead; workers = o; certify = y.certify })) w
    (subst (λ (o : Bool). x ≡ (record { allowance = x.allowance; rungs = x.rungs; list = x.list; ahead = x.ahead; workers = x.workers; certify = o })) c refl)))))

options_found : (options : List (List ℕ)) (settings : Settings) → AreOptions options settings → (chosen : Chosen) × (chosen_from nothing_chosen options ≡ Some chosen) × (settings ≡ settings_of chosen)
options_found options settings a =
    let some = filter_map allowance_of a.choices in
    let more = filter_map rungs_of a.choices in
    let listed = filter_map list_of a.choices in
    let guessed = filter_map ahead_of a.choices in
    let threads = filter_map workers_of a.choices in
    let shown = filter_map certify_of a.choices in
    let chosen : Chosen = record { allowance = slice_get some 0; rungs = slice_get more 0; list = slice_get listed 0; ahead = slice_get guessed 0; workers = slice_get threads 0; certify = slice_get shown 0 } in
    let one = first_alone some a.one_allowance in
    let two = first_alone more a.one_rungs in
    let four = first_alone guessed a.one_ahead in
    let five = first_alone shown a.one_certify in
    let six = first_alone threads a.one_workers in
    let found =
    complete nothing_chosen chosen a.choices (record { allowed = a.allowed; allowance = one; rungs = two; list = first_alone listed a.one_list; ahead = four; workers = six; certify = five }) in
    let first = alone_first (slice_get some 0) some 10000 one in
    let second = alone_first (slice_get more 0) more 0 two in
    let fourth = alone_first (slice_get guessed 0) guessed 0 four in
    let fifth = alone_first (slice_get shown 0) shown false five in
    let sixth = alone_first (slice_get threads 0) threads 0 six in (
      chosen,
      ap (chosen_from nothing_chosen) a.said ∙ found,
      same_settings settings (settings_of chosen) (a.allowance ∙ sym first.1) (a.rungs ∙ sym second.1) a.list (a.ahead ∙ sym fourth.1) (a.workers ∙ sym sixth.1) (a.certify ∙ sym fifth.1),
    )

options_are : (options : List (List ℕ)) (chosen : Chosen) → chosen_from nothing_chosen options ≡ Some chosen → AreOptions options (settings_of chosen)
options_are options chosen e =
    let made = sound nothing_chosen chosen options e in
    let adds = made.2 in
    let one = alone_first chosen.allowance (filter_map allowance_of made.0) 10000 adds.allowance in
    let two = alone_first chosen.rungs (filter_map rungs_of made.0) 0 adds.rungs in
    let three = listed_first chosen.list (filter_map list_of made.0) adds.list in
    let four = alone_first chosen.ahead (filter_map ahead_of made.0) 0 adds.ahead in
    let five = alone_first chosen.certify (filter_map certify_of made.0) false adds.certify in
    let six = alone_first chosen.workers (filter_map workers_of made.0) 0 adds.workers in
    record {
      choices = made.0;
      said = made.1;
      allowed = adds.allowed;
      one_allowance = one.0;
      one_rungs = two.0;
      one_list = three.0;
      one_ahead = four.0;
      one_workers = six.0;
      one_certify = five.0;
      allowance = one.1;
      rungs = two.1;
      list = three.1;
      ahead = four.1;
      workers = six.1;
      certify = five.1;
    }

-- the request of two files with these options
said_by : (model config : List ℕ) (options : List (List ℕ)) (request : Request) (found : Option Chosen) → IsTrue (names_a_file model) → IsTrue (names_a_file config) → chosen_from nothing_chosen options ≡ found → option_map (λ (c : Chosen). Diagnose model config (settings_of c)) found ≡ Some request → Says (codes "diagnose" ∷ model ∷ config ∷ options) request
said_by model config options request None m c is e = absurd (none-some request e)
said_by model config options request (Some chosen) m c is e =
    subst (λ (r : Request). Says (codes "diagnose" ∷ model ∷ config ∷ options) r) (same_Some (Diagnose model config (settings_of chosen)) request e)
    (options, refl, m, c, options_are options chosen is)

diagnosis_after : (model config : List ℕ) (options : List (List ℕ)) (request : Request) (is : Bool) → (names_a_file model && names_a_file config) ≡ is → diagnosis_of (model ∷ config ∷ options) ≡ Some request → Says (codes "diagnose" ∷ model ∷ config ∷ options) request
diagnosis_after model config options request false is e = let none : None ≡ Some request = rw is at e in absurd (none-some request none)
diagnosis_after model config options request true is e =
    let names = both (names_a_file model) (names_a_file config) is in
    let found : option_map (λ (c : Chosen). Diagnose model config (settings_of c)) (chosen_from nothing_chosen options) ≡ Some request = rw is at e in
    said_by model config options request (chosen_from nothing_chosen options) names.0 names.1 refl found

diagnosis_said : (rest : List (List ℕ)) (request : Request) → diagnosis_of rest ≡ Some request → Says (codes "diagnose" ∷ rest) request
diagnosis_said [] request e = absurd (none-some request e)
diagnosis_said (model ∷ []) request e = absurd (none-some request e)
diagnosis_said (model ∷ config ∷ options) request e = diagnosis_after model config options request (names_a_file model && names_a_file config) refl e

-- ---- certificates

three : (a b c : Bool) → (a && b && c) ≡ true → (a ≡ true) × (b ≡ true) × (c ≡ true)
three a b c e =
    let outer = both (a && b) c e in
    let inner = both a b outer.0 in
    (inner.0, inner.1, outer.1)

verified_by : (model config certificate : List ℕ) (request : Request) (is : Bool) → (names_a_file model && names_a_file config && names_a_file certificate) ≡ is → verification_of (model ∷ config ∷ certificate ∷ []) ≡ Some request → Says (codes "verify" ∷ model ∷ config ∷ certificate ∷ []) request
verified_by model config certificate request false is e = let none : None ≡ Some request = rw is at e in absurd (none-some request none)
verified_by model config certificate request true is e =
    let names = three (names_a_file model) (names_a_file config) (names_a_file certificate) is in
    let found : Some (Verify model config certificate) ≡ Some request = rw is at e in
    subst (λ (r : Request). Says (codes "verify" ∷ model ∷ config ∷ certificate ∷ []) r) (same_Some (Verify model config certificate) request found)
    (refl, names.0, names.1, names.2)

verification_said : (rest : List (List ℕ)) (request : Request) → verification_of rest ≡ Some request → Says (codes "verify" ∷ rest) request
verification_said [] request e = absurd (none-some request e)
verification_said (model ∷ []) request e = absurd (none-some request e)
verification_said (model ∷ config ∷ []) request e = absurd (none-some request e)
verification_said (model ∷ config ∷ certificate ∷ more ∷ others) request e = absurd (none-some request e)
verification_said (model ∷ config ∷ certificate ∷ []) request e =
    verified_by model config certificate request (names_a_file model && names_a_file config && names_a_file certificate) refl e

-- ---- generated texts

option_map_some : {A B : Type 0} (f : A → B) (found : Option A) (value : B) {P : Type 0} → option_map f found ≡ Some value → ((a : A) → found ≡ Some a → f a ≡ value → P) → P
option_map_some f None value e k = absurd (none-some value e)
option_map_some f (Some a) value e k = k a refl (same_Some (f a) value e)

found_by_word : (word name : List ℕ) (made what : What) → bytes_eq word name ≡ true → word_of made ≡ name → Some made ≡ Some what → word ≡ word_of what
found_by_word word name made what p names e =
    subst (λ (w : What). word ≡ word_of w) (same_Some made what e) ((bytes_eq-Decides word name).0 p ∙ sym names)

what_by : (word : List ℕ) (what : What) (a b c : Bool) → bytes_eq word (codes "model") ≡ a → bytes_eq word (codes "config") ≡ b → bytes_eq word (codes "report") ≡ c → what_of word ≡ Some what → word ≡ word_of what
what_by word what true b c p q r e = found_by_word word (codes "model") kind.Model what p refl (rw p at e)
what_by word what false true c p q r e = found_by_word word (codes "config") kind.Config what q refl (rw (p, q) at e)
what_by word what false false true p q r e = found_by_word word (codes "report") kind.Report what r refl (rw (p, q, r) at e)
what_by word what false false false p q r e = let none : None ≡ Some what = rw (p, q, r) at e in absurd (none-some what none)

what_found : (what : What) → what_of (word_of what) ≡ Some what
what_found kind.Model = refl
what_found kind.Config = refl
what_found kind.Report = refl

may_as_drawn : (seed size : ℕ) → may_be_drawn seed size ≡ true → IsDrawn seed size
may_as_drawn seed size may =
    let outer = both (nat_le seed 4294967295 && nat_le 1 size) (nat_le size 60000) may in
    let inner = both (nat_le seed 4294967295) (nat_le 1 size) outer.0 in
    let small = leb-true seed 4294967295 inner.0 in
    record { from = omega arith; some = leb-true 1 size inner.1; few = leb-true size 60000 outer.1 }

as_may_drawn : (seed size : ℕ) → IsDrawn seed size → may_be_drawn seed size ≡ true
as_may_drawn seed size drawn =
    let a = drawn.from in
    let b = drawn.some in
    let c = drawn.few in
    grind (arith, nat_tests)

drawn_said : (seed size word : List ℕ) (s z : ℕ) (request : Request) (may : Bool) → may_be_drawn s z ≡ may → number_of seed ≡ Some s → number_of size ≡ Some z → drawn_of s z word ≡ Some request → Says (codes "generate" ∷ seed ∷ size ∷ word ∷ []) request
drawn_said seed size word s z request false is n m e = let none : None ≡ Some request = rw is at e in absurd (none-some request none)
drawn_said seed size word s z request true is n m e =
    let found : option_map (Generate s z) (what_of word) ≡ Some request = rw is at e in
    option_map_some (Generate s z) (what_of word) request found
    (λ what w made.
    let words : (seed ∷ size ∷ word ∷ []) ≡ decimal s ∷ decimal z ∷ word_of what ∷ [] =
    ap (λ (x : List ℕ). x ∷ size ∷ word ∷ []) (number_says seed s n) ∙ ap (λ (x : List ℕ). decimal s ∷ x ∷ word ∷ []) (number_says size z m)
    ∙ ap (λ (x : List ℕ). decimal s ∷ decimal z ∷ x ∷ []) (what_by word what (bytes_eq word (codes "model")) (bytes_eq word (codes "config")) (bytes_eq word (codes "report")) refl refl refl w) in
    subst (λ (r : Request). Says (codes "generate" ∷ seed ∷ size ∷ word ∷ []) r) made
    (ap (λ (rest : List (List ℕ)). codes "generate" ∷ rest) words, may_as_drawn s z is))

generation_said : (rest : List (List ℕ)) (request : Request) → generation_of rest ≡ Some request → Says (codes "generate" ∷ rest) request
generation_said [] request e = absurd (none-some request e)
generation_said (seed ∷ []) request e = absurd (none-some request e)
generation_said (seed ∷ size ∷ []) request e = absurd (none-some request e)
generation_said (seed ∷ size ∷ word ∷ more ∷ others) request e = absurd (none-some request e)
generation_said (seed ∷ size ∷ word ∷ []) request e =
    option_and_then_some (λ s. option_and_then (λ z. drawn_of s z word) (number_of size)) (number_of seed) request e
    (λ s n rest. option_and_then_some (λ z. drawn_of s z word) (number_of size) request rest
    (λ z m drawn. drawn_said seed size word s z request (may_be_drawn s z) refl n m drawn))

-- ---- both ways

by_verb : (verb : List ℕ) (rest : List (List ℕ)) (request : Request) (a b c : Bool) → bytes_eq verb (codes "diagnose") ≡ a → bytes_eq verb (codes "verify") ≡ b → bytes_eq verb (codes "generate") ≡ c → request_of (verb ∷ rest) ≡ Some request → Says (verb ∷ rest) request
by_verb verb rest request true b c p q r e =
    subst (λ (v : List ℕ). Says (v ∷ rest) request) (sym ((bytes_eq-Decides verb (codes "diagnose")).0 p)) (diagnosis_said rest request (rw p at e))
by_verb verb rest request false true c p q r e =
    subst (λ (v : List ℕ). Says (v ∷ rest) request) (sym ((bytes_eq-Decides verb (codes "verify")).0 q)) (verification_said rest request (rw (p, q) at e))
by_verb verb rest request false false true p q r e =
    subst (λ (v : List ℕ). Says (v ∷ rest) request) (sym ((bytes_eq-Decides verb (codes "generate")).0 r)) (generation_said rest request (rw (p, q, r) at e))
by_verb verb rest request false false false p q r e = let none : None ≡ Some request = rw (p, q, r) at e in absurd (none-some request none)

forward : (words : List (List ℕ)) (request : Request) → Says words request → request_of words ≡ Some request
forward words (Diagnose model config settings) (options, are, m, c, a) =
    let (chosen, found, same) = options_found options settings a in
    ap request_of are ∙ rw (m, c, found) (ap (λ (s : Settings). Some (Diagnose model config s)) (sym same))
forward words (Verify model config certificate) (are, m, c, t) = ap request_of are ∙ rw (m, c, t) refl
forward words (Generate seed size what) (are, drawn) =
    let one = drawn.from in
    let two = drawn.few in
    ap request_of are
    ∙ rw (number_decimal seed (omega arith), number_decimal size (omega arith), as_may_drawn seed size drawn) (ap (option_map (Generate seed size)) (what_found what))

back : (words : List (List ℕ)) (request : Request) → request_of words ≡ Some request → Says words request
back [] request e = absurd (none-some request e)
back (verb ∷ rest) request e = by_verb verb rest request (bytes_eq verb (codes "diagnose")) (bytes_eq verb (codes "verify")) (bytes_eq verb (codes "generate")) refl refl refl e

-- what words say, as a call that finds it tells
pub said_if_found : {C : Type 0} (request : C → Request) (words : List (List ℕ)) (found : Option C) → request_of words ≡ option_map request found → IfSome found (λ command. Says words (request command))
said_if_found request words None e = tt
said_if_found request words (Some command) e = back words (request command) e

pub unsaid_if_not_found : {C : Type 0} (request : C → Request) (words : List (List ℕ)) (found : Option C) → request_of words ≡ option_map request found → IfNone found ((asked : Request) → ¬ Says words asked)
unsaid_if_not_found request words None e = λ asked said. none-some asked (sym e ∙ forward words asked said)
unsaid_if_not_found request words (Some command) e = tt

pub the_law : WordsSayOneRequest
the_law words request = (forward words request, back words request)
