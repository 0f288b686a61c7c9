use Rattle.std.proofs.Common.{sym, arith}
use Rattle.std.proofs.lemmas.List.Sorted.{length_permutation}
use Rattle.picker.proofs.Listed.{taken_in, joined_inside, asked_accepted}
use Rattle.picker.proofs.Queued.{joined_ordered}
use Rattle.picker.proofs.queue.QueuePicker.put.Goals as goal

pub invariant_of-self : goal.invariant_of-self
invariant_of-self g c =
    let p = c.args.self.now in
    let known = taken_in c.args.place _ _ c.in_ok-check_put.ensures in
    let joined = joined_ordered g.E.End.order g.met.E.End.same p.row _ c.args.place c.push_back.ensures in
    let one_more = length_permutation _ _ joined in
    let ordered = length_permutation _ _ (g.met.E.End.same p.row) in
    let waits = c.len-waiting.ensures in
    record { inside = joined_inside c.args.place (g.E.End.order p.row) _ p.inside known.0 joined; few = omega (arith, known.1, one_more, ordered, waits); stops = p.stops }

pub returns-clause-meaning : goal.returns-clause-meaning
returns-clause-meaning g c =
    let p = c.args.self.now in
    let ordered = length_permutation _ _ (g.met.E.End.same p.row) in
    let asked = rw (c.len-waiting.ensures, sym ordered) at c.in_ok-check_put.ensures in
    let joined = joined_ordered g.E.End.order g.met.E.End.same p.row _ c.args.place c.push_back.ensures in
    (asked_accepted (g.E.End.order p.row) 128 p.count.number c.args.place _ p.inside asked joined).1
