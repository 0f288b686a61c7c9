use Rattle.std.proofs.Common.{sym, ◌∙◌, arith}
use Rattle.board.specs.Board.{shape_of}
use Rattle.labelling.proofs.Counts.{room_for, room_kept}
use Rattle.labelling.proofs.Scans.{left_skip, left_step, left_stop, left_end}
use Rattle.labelling.proofs.Ways.{way_inside, share_fits}
use Rattle.labelling.proofs.scanning.scan.Goals as goal

pub loop-k-preserved-in_default : goal.loop-k-preserved-in_default
loop-k-preserved-in_default g c =
    let carries = c.args.carried.now.carries in
    let way = rw (share_fits _ _ _ (carries.each c.loop-k.k (omega arith)) (carries.within c.loop-k.k (omega arith))) at c.way_on.ensures in
    let i = c.loop-k.invariant in
    record {
      left = left_skip _ _ _ _ _ _ _ _ _ _ i.left (omega arith) carries.long (sym c.in_default.is ∙ way);
      long = i.long;
      room = i.room;
    }

pub reach-requires-clause-room : goal.reach-requires-clause-room
reach-requires-clause-room g c =
    let carries = c.args.carried.now.carries in
    let way = rw (share_fits _ _ _ (carries.each c.loop-k.k (omega arith)) (carries.within c.loop-k.k (omega arith))) at c.way_on.ensures in
    let d = c.args.carried.now in
    let inside = way_inside _ _ _ _ _ c.in-Some.way (carries.each c.loop-k.k (omega arith)) (sym c.in-Some.is ∙ way) in
    room_for c.args.demand.now c.loop-k.labels c.in-Some.way c.args.from.amount (shape_of d.frame.now).places (g.P.Picker.meaning c.loop-k.picker) inside (carries.frame.few)
    c.loop-k.invariant.long c.loop-k.invariant.room

pub returns-in-Some-reach : goal.returns-in-Some-reach
returns-in-Some-reach g c =
    let carries = c.args.carried.now.carries in
    let way = rw (share_fits _ _ _ (carries.each c.loop-k.k (omega arith)) (carries.within c.loop-k.k (omega arith))) at c.way_on.ensures in
    let stop =
    left_stop _ _ _ _ _ _ _ _ _ _ c.loop-k.invariant.left (omega arith) carries.long c.in-Some.way (sym c.in-Some.is ∙ way)
    c.in-Some-reach.goal (sym c.in-Some-reach.is ∙ c.reach.ensures.goal)
    in
    record { goal = stop.0; labels = c.reach.ensures.labels ∙ stop.1; meaning = c.reach.ensures.meaning ∙ stop.2 }

pub loop-k-preserved : goal.loop-k-preserved
loop-k-preserved g c =
    let carries = c.args.carried.now.carries in
    let way = rw (share_fits _ _ _ (carries.each c.loop-k.k (omega arith)) (carries.within c.loop-k.k (omega arith))) at c.way_on.ensures in
    let i = c.loop-k.invariant in
    let d = c.args.carried.now in
    let there = sym c.in-Some.is ∙ way in
    let inside = way_inside _ _ _ _ _ c.in-Some.way (carries.each c.loop-k.k (omega arith)) there in
    let step = left_step _ _ _ _ _ _ _ _ _ _ i.left (omega arith) carries.long c.in-Some.way there (sym c.in_default-reach.is ∙ c.reach.ensures.goal) in
    let kept = room_kept c.args.demand.now c.loop-k.labels c.in-Some.way c.args.from.amount (shape_of d.frame.now).places (g.P.Picker.meaning c.loop-k.picker) inside (carries.frame.few) i.long i.room in
    record {
      left = rw (c.reach.ensures.labels, c.reach.ensures.meaning) step;
      long = c.reach.array_long;
      room = rw (c.reach.ensures.labels, c.reach.ensures.meaning) kept;
    }

pub returns : goal.returns
returns g c =
    let end = left_end _ _ _ _ _ _ _ _ _ _ c.loop-k.invariant.left (omega arith) in
    record { goal = end.0; labels = end.1; meaning = end.2 }
