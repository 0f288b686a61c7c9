use Rattle.std.proofs.Common.{◌≡◌, take}
use Rattle.pickers.specs.All.{put_all}
use Rattle.pickers.proofs.put_all.Given as goal

abbrev pub invariant-loop-place : goal.invariant-loop-place
invariant-loop-place g l =
    let means = g.P.Picker.meaning in means l.picker ≡ put_all (means l.initial.picker) (take l.place-index l.places)
