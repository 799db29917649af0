-- Counts of how often a search was told to stop. Own to this project.
pub use Rattle.lists.specs.Rising.{Rises}
