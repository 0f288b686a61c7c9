-- What each step up keeps, and why the steps end.
use Rattle.std.proofs.Common.{◌<◌, length}
use Rattle.std.specs.List.Sorted.{IsPermutation}
use Rattle.heap.specs.Sifting.{MayRise}
use Rattle.heap.proofs.sifting.sift_up.Given as goal

-- the entries are a shuffle of what they were, and stay in order but for the one that rises
abbrev pub invariant-loop-at : goal.invariant-loop-at
invariant-loop-at g l =
    record {
      within : l.at < length l.entries;
      same : IsPermutation l.initial.entries l.entries;
      rises : MayRise g.E.Entry.before l.initial.entries l.initial.at → MayRise g.E.Entry.before l.entries l.at;
    }

abbrev pub decreases-loop-at : goal.decreases-loop-at
decreases-loop-at g l = l.at
