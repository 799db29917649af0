-- Counts of faults, as a shelf and a sink keep them. Own to this project.
pub use Rattle.lists.specs.Rising.{LAST, Rises}
