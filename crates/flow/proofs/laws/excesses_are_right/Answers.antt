use Rattle.flow.proofs.Excess.{excess_is_right}
use Rattle.flow.proofs.laws.excesses_are_right.Goals as goal

pub returns : goal.returns
returns c = excess_is_right
