use Rattle.flow.proofs.Right.{one_answer}
use Rattle.flow.proofs.laws.one_right_answer.Goals as goal

pub returns : goal.returns
returns c = one_answer
