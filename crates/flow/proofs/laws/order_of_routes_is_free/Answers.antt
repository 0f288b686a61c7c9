use Rattle.flow.proofs.Orders.{order_is_free}
use Rattle.flow.proofs.laws.order_of_routes_is_free.Goals as goal

pub returns : goal.returns
returns c = order_is_free
