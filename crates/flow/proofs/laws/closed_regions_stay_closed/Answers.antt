use Rattle.flow.proofs.Closing.{stays_closed}
use Rattle.flow.proofs.laws.closed_regions_stay_closed.Goals as goal

pub returns : goal.returns
returns c = stays_closed
