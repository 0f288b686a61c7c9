-- The fault of the route is carried whole.
use Rattle.std.proofs.Common.{rules}
use Rattle.sheet.proofs.reading.order_route.Goals as goal

pub returns : goal.returns
returns c = search rules
