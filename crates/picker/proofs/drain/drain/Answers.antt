use Rattle.std.proofs.Common.{◌<◌, ◌∙◌, arith}
use Rattle.picker.proofs.Drained.{below_128, took_one, drained_again, drained_now}
use Rattle.picker.proofs.drain.drain.Given as given
use Rattle.picker.proofs.drain.drain.Goals as goal

-- the place that was taken
inside : (g : given.Over) (c : goal.In-Some g) → c.in-Some.field-0 < 128
inside g c = below_128 (g.P.Picker.meaning c.loop.picker) _ (g.P.Picker.lawful.inside c.loop.picker) c.in-Some.ensures.took.0

pub loop-smaller : goal.loop-smaller
loop-smaller g c = omega (arith, took_one (g.P.Picker.meaning c.loop.picker) _ _ (inside g c) c.in-Some.ensures.took)

pub loop-preserved : goal.loop-preserved
loop-preserved g c = drained_again _ _ _ (inside g c) c.in-Some.ensures.took ∙ c.loop.invariant

pub returns-clause-meaning : goal.returns-clause-meaning
returns-clause-meaning g c = drained_now _ _ (g.P.Picker.lawful.stops c.loop.picker) c.in_default.ensures.took ∙ c.loop.invariant
