use Rattle.std.proofs.Common.{◌<◌, ℕ, List, All, Option, length, ap, subst, ◌∙◌, arith}
use Rattle.std.proofs.lemmas.List.{length-map}
use Rattle.feature_tree.specs.declared.feature.Feature.{Feature}
use Rattle.feature_tree.specs.Names.{NamesBelow}
use Rattle.feature_tree.specs.WellFormed.{feature_names}
use Rattle.uvl_reader.specs.inside.Good.{features_in, placed_names}
use Rattle.uvl_reader.proofs.ReadLaws.{constraints_below}
use Rattle.uvl_reader.proofs.reader.model_of.Goals as goal

pub constraints_of-requires : goal.constraints_of-requires
constraints_of-requires c = rw c.into_vec.ensures c.requires.stated

pub into_model-requires : goal.into_model-requires
into_model-requires c =
    let tree = c.in-Some-tree.tree in
    let known = feature_names tree in
    let count = length-map tree (λ (feature : Feature). feature.name) in
    let some : 0 < length tree = subst (λ (features : List Feature). 0 < length features) c.tree.view_is c.tree.invariant.some in
    let names = c.requires.names ∙ ap (λ (one : Option (List Feature)). placed_names 0 (feature_names (features_in one))) c.in-Some-tree.is in
    let read = rw (c.into_vec.ensures, names) at c.in_ok-constraints.ensures.ok in
    let below = constraints_below known c.args.bytes.now (omega arith) c.args.draft.stated c.in_ok-constraints.constraints read c.requires.stated in
    subst (λ (most : ℕ). All (NamesBelow most) c.in_ok-constraints.constraints) count below
