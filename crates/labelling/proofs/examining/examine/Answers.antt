use Rattle.std.proofs.Common.{ap, arith}
use Rattle.picker.specs.Meaning.{Meaning}
use Rattle.picker.proofs.Drained.{below_128, took_one}
use Rattle.labelling.proofs.examining.examine.Goals as goal

-- one less waits, and the room is what it was
pub scan-goal-requires : goal.scan-goal-requires
scan-goal-requires g c =
    let took = c.in_ok-place.ensures.took in
    let known = below_128 (g.P.Picker.meaning c.args.picker.now) _ (g.P.Picker.lawful.inside c.args.picker.now) took.0 in
    let less = took_one _ _ _ known took in
    let room = ap (λ (m : Meaning). m.room) took.1 in
    record { room = omega (arith, less, room, c.requires.room) }
