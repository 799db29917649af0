-- A map whose keys are read by a function, as the list of what they show.
use Rattle.std.proofs.Common.{◌≡◌, Bool, cond, List, [], ◌∷◌, ◌++◌, map, Some, None, refl, ap, ◌∙◌}
use Rattle.std.specs.Map.{lookup}
use Rattle.indexmap.specs.IndexMap.{IndexMap, insert_entry}
use Rattle.indexmap.proofs.CallerLemmas.{insert_entry-new}

module _ {K N X : Type 0} (show : K → N) where
  abbrev pub shown : List (K × X) → List (N × X)
  shown es = map (λ e. (show e.0, e.1)) es

  pub lookup-shown : (test : N → Bool) (es : List (K × X)) → lookup (λ k. test (show k)) es ≡ lookup test (shown es)
  lookup-shown test [] = refl
  lookup-shown test (e ∷ es) = ap (λ r. cond (test (show e.0)) (Some e.1) r) (lookup-shown test es)

  pub shown-append : (es fs : List (K × X)) → shown (es ++ fs) ≡ shown es ++ shown fs
  shown-append [] fs = refl
  shown-append (e ∷ es) fs = ap (λ l. (show e.0, e.1) ∷ l) (shown-append es fs)

  -- a name that the map lacks goes last
  pub shown-insert_new : {S : Type 0} (same : N → N → Bool) (old new : IndexMap K X S) (k : K) (v : X) → new.entries ≡ insert_entry (λ x y. same (show x) (show y)) old.entries k v → lookup (same (show k)) (shown old.entries) ≡ None → shown new.entries ≡ shown old.entries ++ (show k, v) ∷ []
  shown-insert_new same old new k v put fresh =
      ap shown (put ∙ insert_entry-new (λ x y. same (show x) (show y)) old k v (lookup-shown (same (show k)) old.entries ∙ fresh))
      ∙ shown-append old.entries ((k, v) ∷ [])
