use Rattle.flow.proofs.Right.{meeting_is_right}
use Rattle.flow.proofs.laws.meeting_regions_are_right.Goals as goal

pub returns : goal.returns
returns c = meeting_is_right
