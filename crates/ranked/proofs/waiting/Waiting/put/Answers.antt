-- Both questions got a yes, so the heap has room.
use Rattle.std.proofs.Common.{◌∙◌}
use Rattle.heap.specs.Held.{held}
use Rattle.ranked.specs.Orders.{rank_before}
use Rattle.ranked.proofs.Places.{put_pushed}
use Rattle.ranked.proofs.waiting.Waiting.put.Goals as goal

pub invariant_of-self : goal.invariant_of-self
invariant_of-self g c =
    let w = c.args.self.now in
    let told = c.push.ensures in
    let put = put_pushed (λ e. e.place) (held w.heap) _ _ _ w.count.number told.room (rank_before g.R.Ord.cmp) c.args.entry _ _ _ w.inside c.len.ensures c.room.ensures c.in_ok-check_put.ensures told.accepts told.held in
    record { ordered = put.2 w.ordered; inside = put.3; stops = w.stops }

pub returns-clause-answer : goal.returns-clause-answer
returns-clause-answer g c =
    let w = c.args.self.now in
    let told = c.push.ensures in
    let put = put_pushed (λ e. e.place) (held w.heap) _ _ _ w.count.number told.room (rank_before g.R.Ord.cmp) c.args.entry _ _ _ w.inside c.len.ensures c.room.ensures c.in_ok-check_put.ensures told.accepts told.held in
    rw put.0 at c.map_err.ensures.cases ∙ put.1

pub returns-clause-meaning : goal.returns-clause-meaning
returns-clause-meaning g c =
    let w = c.args.self.now in
    let told = c.push.ensures in
    let put = put_pushed (λ e. e.place) (held w.heap) _ _ _ w.count.number told.room (rank_before g.R.Ord.cmp) c.args.entry _ _ _ w.inside c.len.ensures c.room.ensures c.in_ok-check_put.ensures told.accepts told.held in
    put.4
