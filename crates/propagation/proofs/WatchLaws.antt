-- Watched literals and their chains.
use Rattle.std.proofs.Common.{◌≡◌, ◌∙◌, refl, sym, ap, subst, inl, inr, ⊎_elim, ℕ, zero, suc, ◌+◌, ◌-◌, ◌*◌, ◌/◌, ◌<◌, ◌≤◌, List, [], ◌∷◌, ◌++◌, length, get_or, set, take, drop, replicate, arith}
use Rattle.std.specs.Prelude.{Contains}
use Rattle.std.proofs.Math.ListN.{get_or-append}
use Rattle.std.proofs.Math.Seq.{take-length, drop-length, drop-nil}
use Rattle.std.proofs.lemmas.Bool.{cases_eq}
use Rattle.std.proofs.lemmas.List.{get_or-set_other, get_or-set_same, length-set, length_push, get_or_push, length-replicate, get_or-replicate, append-nil}
use Rattle.std.proofs.lemmas.List.Elements.{All-push}
use Rattle.lists.proofs.Members.{first, none}
use Rattle.clauses.specs.declared.literal.Lit.{Lit}
use Rattle.clauses.specs.Clause.{negative_of}
use Rattle.clauses.specs.Problem.{IsBelow}
use Rattle.propagation.specs.inside.Pairing.{Pairing, row_of, start_in}
use Rattle.propagation.specs.inside.Trails.{code_of}
use Rattle.propagation.specs.inside.Watching.{AreWatches, IsApart, IsReleased, nothing, partner, watched_at}
use Rattle.propagation.proofs.CodeLaws.{code-below}
use Rattle.propagation.proofs.ChainLaws.{place-same, place-other, row-some, head-inside}
use Rattle.propagation.proofs.ChainMoves.{ended-chains, add-chains, added, added_place}

-- ---- numbers of entries

pub partner-back : (e : ℕ) → partner (partner e) ≡ e
partner-back e = omega arith

pub partner-clause : (e : ℕ) → partner e / 2 ≡ e / 2
partner-clause e = omega arith

pub partner-inside : (n e : ℕ) → e < 2 * n → partner e < 2 * n
partner-inside n e inside = omega arith

pub partner-other : (e : ℕ) → ¬ partner e ≡ e
partner-other e same = omega arith

-- ---- watches that begin, grow and end

-- an entry that is apart stays so where its row, the clause's watched literals and the chains of both do
pub apart-same : (variables : ℕ) (pairs : Pairing) (watched watched' : List Lit) (place place' : ℕ → ℕ) (e : ℕ) → IsApart variables pairs watched place e → length watched ≤ length watched' → watched_at watched' e ≡ watched_at watched e
    → watched_at watched' (partner e) ≡ watched_at watched (partner e) → place' e ≡ place e → place' (partner e) ≡ place (partner e) → IsApart variables pairs watched' place' e
apart-same variables pairs watched watched' place place' e is longer one other here there = record {
  here = here ∙ is.here;
  there = there ∙ is.there;
  within = (let i = is.within in omega arith);
  listed = subst (λ (l : Lit). Contains (row_of pairs (code_of l)) (watched_at watched' (partner e))) (sym one) (subst (Contains (row_of pairs (code_of (watched_at watched e)))) (sym other) is.listed);
}

take-none : (n : ℕ) → ◌≡◌ {A = List Lit} (take n []) []
take-none zero = refl
take-none (suc n) = refl

-- where no clause is apart each row is empty
pub row-plain : (pairs : Pairing) → pairs.others ≡ [] → (slot : ℕ) (l : Lit) → ¬ Contains (row_of pairs slot) l
row-plain pairs plain slot l m =
    none l (subst (λ ls. Contains ls l) (ap (λ (ls : List Lit). take (start_in pairs (slot + 1) - start_in pairs slot) (drop (start_in pairs slot) ls)) plain ∙ ap (take (start_in pairs (slot + 1) - start_in pairs slot)) (drop-nil (start_in pairs slot)) ∙ take-none (start_in pairs (slot + 1) - start_in pairs slot)) m)

module _ (variables : ℕ) (pairs : Pairing) (watched : List Lit) (heads next : List ℕ) where
  pub ended-watches : length heads ≡ 2 * variables + 2 → ((slot : ℕ) → slot < length heads → get_or heads slot 0 ≡ nothing) → AreWatches variables pairs [] heads []
  ended-watches size ends = record {
    rows = (λ _. []);
    place = (λ _. 0);
    chains = ended-chains heads (λ _. 0) ends;
    sized = refl;
    slots = size;
    below = (λ k d l. absurd (omega arith));
    watching = (λ e l. absurd (omega arith));
  }

  module _ (are : AreWatches variables pairs watched heads next) where
    pub slot-inside : (l : Lit) → l.var < variables → code_of l < length heads
    slot-inside l below = let low = code-below variables l below in let size = are.slots in omega arith

    pub watch-one : (l : Lit) → l.var < variables → AreWatches variables pairs (watched ++ l ∷ []) (set heads (code_of l) (length next)) (next ++ get_or heads (code_of l) 0 ∷ [])
    watch-one l below =
        let inside = slot-inside l below in
        let size = are.sized in
        record {
          rows = added heads next are.rows are.place are.chains (code_of l) inside;
          place = added_place heads next are.rows are.place are.chains (code_of l) inside;
          chains = add-chains heads next are.rows are.place are.chains (code_of l) inside;
          sized = (let a = length_push next (get_or heads (code_of l) 0) in let b = length_push watched l in omega arith);
          slots = length-set heads (code_of l) (length next) ∙ are.slots;
          below = All-push (IsBelow variables) watched l are.below below;
          watching = (λ e i.
              let longer = length_push watched l in
              ⊎_elim
              (λ (here : e ≡ length next).
              inl (place-same are.place (length next) (code_of l) e here ∙ ap code_of (sym (get_or_push watched l (negative_of 0) e (let s = size in omega arith)))))
              (λ (other : ¬ e ≡ length next).
              let old : e < length watched = omega arith in
              let same = get_or-append watched (l ∷ []) (negative_of 0) e old in
              ⊎_elim
              (λ (a : are.place e ≡ code_of (watched_at watched e)). inl (place-other are.place (length next) (code_of l) e other ∙ a ∙ ap code_of (sym same)))
              (λ (b : IsApart variables pairs watched are.place e).
              let within = b.within in
              inr (apart-same variables pairs watched (watched ++ l ∷ []) are.place _ e b (omega arith) same (get_or-append watched (l ∷ []) (negative_of 0) (partner e) within)
              (place-other are.place (length next) (code_of l) e other) (place-other are.place (length next) (code_of l) (partner e) (λ p. omega arith))))
              (are.watching e old))
              (cases_eq e (length next)));
        }

    release-most : (new : List ℕ) → IsReleased heads watched new → (slot : ℕ) → slot < length new → ¬ slot ≡ 2 * variables + 1 → get_or new slot 0 ≡ nothing
    release-most new is slot inside most =
        let old : slot < length heads = subst (λ n. slot < n) is.0 inside in
        ⊎_elim
        (λ (e : get_or new slot 0 ≡ nothing). e)
        (λ (stays : (get_or new slot 0 ≡ get_or heads slot 0) × ((entry : ℕ) → entry < length watched → ¬ code_of (watched_at watched entry) ≡ slot)).
        ⊎_elim
        (λ (e : get_or heads slot 0 ≡ nothing). stays.0 ∙ e)
        (λ (some : ¬ get_or heads slot 0 ≡ nothing).
        let row = row-some heads next are.rows are.place are.chains slot old some in
        let entry_in : get_or heads slot 0 < length next = head-inside heads next are.rows are.place are.chains slot old some in
        let size = are.sized in
        let within : get_or heads slot 0 < length watched = omega arith in
        let there : Contains (are.rows slot) (get_or heads slot 0) = subst (λ r. Contains r (get_or heads slot 0)) (sym row.1) (first (get_or heads slot 0) row.0) in
        ⊎_elim
        (λ (a : are.place (get_or heads slot 0) ≡ code_of (watched_at watched (get_or heads slot 0))).
        absurd (stays.1 (get_or heads slot 0) within (sym a ∙ are.chains.placed slot (get_or heads slot 0) old there)))
        (λ (b : IsApart variables pairs watched are.place (get_or heads slot 0)). absurd (most (sym (are.chains.placed slot (get_or heads slot 0) old there) ∙ b.here)))
        (are.watching (get_or heads slot 0) within))
        (cases_eq (get_or heads slot 0) nothing))
        (is.1 slot old)

    -- the last chain is ended by itself
    pub release-all : (new : List ℕ) → IsReleased heads watched new → (slot : ℕ) → slot < length (set new (2 * variables + 1) nothing) → get_or (set new (2 * variables + 1) nothing) slot 0 ≡ nothing
    release-all new is slot inside =
        let size = length-set new (2 * variables + 1) nothing in
        ⊎_elim
        (λ (e : slot ≡ 2 * variables + 1). ap (λ k. get_or (set new (2 * variables + 1) nothing) k 0) e ∙ get_or-set_same new (2 * variables + 1) nothing 0 (omega arith))
        (λ (ne : ¬ slot ≡ 2 * variables + 1). get_or-set_other new (2 * variables + 1) slot nothing 0 ne ∙ release-most new is slot (omega arith) ne)
        (cases_eq slot (2 * variables + 1))

pub ended-replicate : (variables : ℕ) (pairs : Pairing) → AreWatches variables pairs [] (replicate (2 * variables + 2) nothing) []
ended-replicate variables pairs =
    ended-watches variables pairs [] (replicate (2 * variables + 2) nothing) [] (length-replicate (2 * variables + 2) nothing)
    (λ slot inside. get_or-replicate (2 * variables + 2) slot nothing 0 (subst (λ n. slot < n) (length-replicate (2 * variables + 2) nothing) inside))

-- a slice that is lent whole
pub whole : {X : Type 0} (n : ℕ) (xs ys : List X) → n ≡ length ys → length xs ≡ length ys → take n (xs ++ drop (length xs) ys) ≡ xs
whole n xs ys a b =
    ap (λ k. take n (xs ++ drop k ys)) b ∙ ap (λ zs. take n (xs ++ zs)) (drop-length ys) ∙ ap (take n) (append-nil xs) ∙ ap (λ k. take k xs) (a ∙ sym b) ∙ take-length xs
