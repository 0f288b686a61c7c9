-- The tests are the questions, in their order.
use Rattle.std.proofs.Common.{arith}
use Rattle.std.proofs.lemmas.Grind.{common_steps}
use Rattle.board.proofs.route.Route.new.Goals as goal

pub returns-then-not-contains-2-clause-answer : goal.returns-then-not-contains-2-clause-answer
returns-then-not-contains-2-clause-answer c = grind (arith, common_steps)

pub returns-clause-answer : goal.returns-clause-answer
returns-clause-answer c = grind (arith, common_steps)
