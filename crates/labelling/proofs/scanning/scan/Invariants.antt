-- What each step of trying the routes keeps.
use Rattle.std.proofs.Common.{◌≡◌, ◌≤◌, ◌+◌, length}
use Rattle.board.specs.Board.{shape_of}
use Rattle.picker.specs.Meaning.{waiting}
use Rattle.labelling.specs.Trying.{scanned, unlabelled}
use Rattle.labelling.proofs.Scans.{Left}
use Rattle.labelling.proofs.scanning.scan.Given as goal

-- what is left comes to the same as the whole; there is room for all places without a label; no label is lost
abbrev pub invariant-loop-k : goal.invariant-loop-k
invariant-loop-k g l =
    let means = g.P.Picker.meaning in
    let first = l.initial in
    let whole = scanned l.demand l.from.place l.from.amount 0 l.carried.routes.now l.carried.shares.now first.labels in
    record {
      left : Left l.demand l.from.place l.from.amount l.carried.routes.now l.carried.shares.now whole (means first.picker) l.k l.labels (means l.picker);
      long : length l.labels ≡ 128;
      room : waiting (means l.picker) + unlabelled (shape_of l.carried.frame.now).places l.labels ≤ (means l.picker).room;
    }
