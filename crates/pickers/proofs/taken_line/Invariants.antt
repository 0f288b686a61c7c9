use Rattle.picker.specs.Meaning.{waiting}
use Rattle.pickers.proofs.taken_line.Given as goal

abbrev pub decreases-loop-place : goal.decreases-loop-place
decreases-loop-place g l = waiting (g.P.Picker.meaning l.picker)
