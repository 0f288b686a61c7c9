-- What each step down keeps, and why the steps end.
use Rattle.std.proofs.Common.{◌-◌, length}
use Rattle.std.specs.List.Sorted.{IsPermutation}
use Rattle.heap.specs.Sifting.{MaySink}
use Rattle.heap.proofs.sifting.sift_down.Given as goal

-- the entries are a shuffle of what they were, and stay in order but for the one that sinks
abbrev pub invariant-loop-child : goal.invariant-loop-child
invariant-loop-child g l =
    record {
      same : IsPermutation l.initial.entries l.entries;
      sinks : MaySink g.E.Entry.before l.initial.entries 0 → MaySink g.E.Entry.before l.entries l.at;
    }

abbrev pub decreases-loop-child : goal.decreases-loop-child
decreases-loop-child g l = length l.entries - l.at
