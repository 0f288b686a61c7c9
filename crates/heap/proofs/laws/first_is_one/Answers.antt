-- Two that are first come no later than each other, and so are equal.
use Rattle.heap.proofs.Orders.{one_first}
use Rattle.heap.proofs.laws.first_is_one.Goals as goal

pub returns : goal.returns
returns g c = one_first g.E.Entry.before g.met.E.Entry.same
