use Rattle.hs_tree.specs.Tree.{tree}
use Rattle.hs_tree.proofs.Listings.{tree-listed, found-listed, done-listed}
use Rattle.hs_tree.proofs.laws.tree_lists_minimal_diagnoses.Goals as goal

pub returns-clause-found : goal.returns-clause-found
returns-clause-found g c = λ about n most first table fewer rises fails agrees.
    let P = g.P.Property.holds about in
    found-listed P fewer n table agrees most (tree n first most table) (tree-listed P fewer n table agrees most first rises fails)

pub returns-clause-listing : goal.returns-clause-listing
returns-clause-listing g c = λ about n most first table fewer rises fails agrees done.
    let P = g.P.Property.holds about in
    done-listed P fewer n table agrees most (tree n first most table) (tree-listed P fewer n table agrees most first rises fails) done
