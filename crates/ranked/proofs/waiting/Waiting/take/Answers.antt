use Rattle.std.proofs.Common.{arith}
use Rattle.std.proofs.lemmas.List.Sorted.{IsPermutation-map}
use Rattle.heap.specs.Held.{held, room}
use Rattle.picker.proofs.Listed.{left_inside}
use Rattle.ranked.proofs.Places.{took_popped}
use Rattle.ranked.proofs.waiting.Waiting.take.Goals as goal

pub invariant_of-self-2 : goal.invariant_of-self-2
invariant_of-self-2 g c =
    let w = c.args.self.now in
    let told = c.in_ok-first.ensures.held in
    let places = IsPermutation-map (λ e. e.place) _ _ told.0 in
    record { ordered = (told.1 w.ordered).1; inside = left_inside _ _ _ w.inside places; stops = omega (arith, c.add_one.ensures) }

pub returns-clause-took : goal.returns-clause-took
returns-clause-took g c =
    let w = c.args.self.now in
    let told = c.in_ok-first.ensures in
    took_popped (λ e. e.place) (held w.heap) (held c.pop.new.self) (room w.heap) _ w.count.number told.room _ _ told.held.0 c.add_one.ensures
