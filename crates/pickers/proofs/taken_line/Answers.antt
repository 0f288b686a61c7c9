use Rattle.std.proofs.Common.{arith}
use Rattle.picker.proofs.Drained.{below_128, took_one}
use Rattle.pickers.proofs.taken_line.Goals as goal

pub loop-place-smaller : goal.loop-place-smaller
loop-place-smaller g c =
    let before = g.P.Picker.meaning c.loop-place.picker in
    let took = c.in-Some.ensures.took in
    omega (arith, took_one before _ _ (below_128 before _ (g.P.Picker.lawful.inside c.loop-place.picker) took.0) took)
