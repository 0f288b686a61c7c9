use Rattle.std.proofs.Common.{◌≡◌}
use Rattle.picker.specs.Meaning.{waiting, drained}
use Rattle.picker.proofs.drain.drain.Given as goal

abbrev pub invariant-loop : goal.invariant-loop
invariant-loop g l = let means = g.P.Picker.meaning in drained (means l.picker) ≡ drained (means l.initial.picker)

abbrev pub decreases-loop : goal.decreases-loop
decreases-loop g l = waiting (g.P.Picker.meaning l.picker)
