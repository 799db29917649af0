use Rattle.std.proofs.Common.{◌≡◌, ◌+◌, ◌-◌, ◌*◌, ◌<◌, ◌≤◌, All, length}
use Rattle.feature_tree.specs.Roles.{roles_of}
use Rattle.feature_tree.specs.Grammar.{chain}
use Rattle.feature_tree.specs.inside.Descent.{IsLow, read}
use Rattle.feature_tree.proofs.DescentSteps.{rank, go_on}
use Rattle.feature_tree.proofs.NodeSteps.{AreGathered}
use Rattle.feature_tree.proofs.reader.descent.+descent.Given as goal

abbrev pub decreases-read_chain : goal.decreases-read_chain
decreases-read_chain l = 20 * l.room + 4 * rank l.level + 3

abbrev pub decreases-read_pairs : goal.decreases-read_pairs
decreases-read_pairs l = 20 * l.room + 4 * rank l.level + 2

abbrev pub decreases-read_node : goal.decreases-read_node
decreases-read_node l = 20 * l.room + 4 * rank l.level + 2

abbrev pub decreases-read_member : goal.decreases-read_member
decreases-read_member l = 20 * l.room + 4 * rank l.level + 1

abbrev pub decreases-read_not : goal.decreases-read_not
decreases-read_not l = 20 * l.room

abbrev pub invariant-read_pairs-members : goal.invariant-read_pairs-members
invariant-read_pairs-members l = record {
  behind : length l.others.items < l.after;
  past : l.at < l.after;
  inside : l.after ≤ length l.tokens;
  first_is_low : l.first.height ≤ l.room;
  others_are_low : All (IsLow l.room) l.others.items;
  whole : go_on (roles_of l.tokens) l.level l.room l.first (length (roles_of l.tokens) - length l.others.items) l.others.items l.after
      ≡ read (roles_of l.tokens) (chain l.level) l.room l.at;
}

abbrev pub decreases-read_pairs-members : goal.decreases-read_pairs-members
decreases-read_pairs-members l = length l.tokens - l.after

abbrev pub invariant-read_node-members : goal.invariant-read_node-members
invariant-read_node-members l = record {
  past : l.at < l.after;
  inside : l.after ≤ length l.tokens;
  low : l.height ≤ l.room;
  gathered : AreGathered (roles_of l.tokens) l.level l.room l.at l.parts l.height l.after;
}

abbrev pub decreases-read_node-members : goal.decreases-read_node-members
decreases-read_node-members l = length l.tokens - l.after
