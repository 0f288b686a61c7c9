use Rattle.std.proofs.Common.{arith}
use Rattle.picker.proofs.Queued.{left_inside, left_few, took_nothing, took_next}
use Rattle.picker.proofs.queue.QueuePicker.take.Goals as goal

pub invariant_of-self : goal.invariant_of-self
invariant_of-self g c =
    let p = c.args.self.now in
    record {
      inside = left_inside g.E.End.order p.row _ c.pop.ensures.rest p.inside;
      few = left_few g.E.End.order p.row _ c.pop.ensures.rest 128 p.few;
      stops = p.stops;
    }

pub returns-in_err-place-clause-took : goal.returns-in_err-place-clause-took
returns-in_err-place-clause-took g c =
    let p = c.args.self.now in
    rw c.from_residual.ensures (took_nothing g.E.End.order p.row _ c.pop.ensures.rest 128 p.count.number c.in_err-place.ensures.next)

pub invariant_of-self-2 : goal.invariant_of-self-2
invariant_of-self-2 g c =
    let p = c.args.self.now in
    record {
      inside = left_inside g.E.End.order p.row _ c.pop.ensures.rest p.inside;
      few = left_few g.E.End.order p.row _ c.pop.ensures.rest 128 p.few;
      stops = omega (arith, c.add_one.ensures);
    }

pub returns-clause-took : goal.returns-clause-took
returns-clause-took g c =
    let p = c.args.self.now in
    took_next g.E.End.order p.row _ c.pop.ensures.rest 128 p.count.number _ _ c.in_ok-place.ensures.next c.add_one.ensures
