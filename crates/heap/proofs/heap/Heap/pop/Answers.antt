-- What leaves was the first of those held, if these were in order.
use Rattle.std.proofs.Common.{◌≡◌, ◌-◌, ◌≤◌, length, drop, sym, arith}
use Rattle.std.proofs.lemmas.List.{take-append-le}
use Rattle.heap.specs.Held.{held}
use Rattle.heap.proofs.Moves.{front_again}
use Rattle.heap.proofs.Orders.{ordered_first}
use Rattle.heap.proofs.heap.Heap.pop.Goals as goal

pub returns-clause-held : goal.returns-clause-held
returns-clause-held g c =
    let h = c.args.self.now in
    let len = c.len-len.result in
    let told = c.remove_first.ensures in
    let all = front_again h.entries.now h.len (len - 0) (omega (arith, c.len-len.ensures)) in
    let long : length (held h) ≡ len = sym c.len-len.ensures in
    let less : len - 1 ≤ length c.remove_first.new.entries = omega (arith, rw (all, long) at c.remove_first.auto.entries) in
    rw (take-append-le (len - 1) c.remove_first.new.entries (drop (len - 0) h.entries.now) less) (
      rw (all, long) at told.held,
      λ o. (
        ordered_first g.E.Entry.before g.met.E.Entry.total g.met.E.Entry.transitive (held h) _ (rw all at told.first) o,
        rw long at ((rw all at told.order) o),
      ),
    )
