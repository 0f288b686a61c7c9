use Rattle.flow.proofs.Bounds.{arrives}
use Rattle.flow.proofs.laws.what_leaves_arrives.Goals as goal

pub returns : goal.returns
returns c = arrives
