use Rattle.std.proofs.Common.{arith}
use Rattle.picker.proofs.Queued.{none_ordered, none_inside, none_few, none_means}
use Rattle.picker.proofs.queue.QueuePicker.empty.Goals as goal

pub invariant_of-self : goal.invariant_of-self
invariant_of-self g c =
    record { inside = none_inside g.E.End.order g.met.E.End.same _ c.clear.ensures; few = none_few g.E.End.order g.met.E.End.same _ c.clear.ensures; stops = omega arith }

pub returns-clause-meaning : goal.returns-clause-meaning
returns-clause-meaning g c = none_means g.E.End.order g.met.E.End.same _ c.clear.ensures _ (omega arith)

pub returns-clause-queue : goal.returns-clause-queue
returns-clause-queue g c = none_ordered g.E.End.order g.met.E.End.same _ c.clear.ensures
