use Rattle.std.proofs.Common.{◌≡◌, ◌<◌, ◌-◌, ◌^◌, ℕ, Some, slice_get}
use Rattle.lrpar_table_stacks.specs.Stack.{states_of}
use Rattle.lrpar_parse_completion.specs.FinderView.{AreStacksOf}
use Rattle.lrpar_parse_completion.specs.Reached.{AreReached, HasReached, IsLeft, ReachedOf, all_reached}
use Rattle.lrpar_parse_completion.proofs.finder.Finder.find.Given as goal

-- the stacks are reached from the first one, and those before the place are left
abbrev pub invariant-stacks : goal.invariant-stacks
invariant-stacks g l =
    let index = g.StorageT.StorageIndex.index in
    let d = l.self.checked.now in
    let all = all_reached index l.found in
    record {
      stacks : AreStacksOf index l.self l.found.items;
      reached : AreReached d.grammar d.table (states_of index l.stack) all;
      first : HasReached all (states_of index l.stack);
      left : (i : ℕ) (x : ReachedOf) → i < l.place → slice_get all i ≡ Some x → IsLeft d.grammar d.table all x.stack;
    }

abbrev pub decreases-stacks : goal.decreases-stacks
decreases-stacks g l = 2 ^ 64 - l.place
