-- The route of the next number is the first that is left.
use Rattle.std.proofs.Common.{sym, rules}
use Rattle.std.proofs.lemmas.Option.{slice_get_within}
use Rattle.sheet.specs.View.{board_of}
use Rattle.sheet.proofs.Shown.{left_more, left_none, routes_few}
use Rattle.sheet.proofs.routes.RoutesIterator.next.Goals as goal

pub returns-in_err-route-clause-steps : goal.returns-in_err-route-clause-steps
returns-in_err-route-clause-steps c =
    let e = left_none (board_of c.args.self.now.sheet).routes c.args.self.now.next c.in_err-route.ensures in
    rw c.from_residual.ensures (e, e)

pub overflow_add-self : goal.overflow_add-self
overflow_add-self c =
    let l = slice_get_within (board_of c.args.self.now.sheet).routes c.args.self.now.next c.in_ok-route.route (sym c.in_ok-route.ensures) in
    let m = routes_few c.args.self.now.sheet.bytes.now in
    search rules

pub returns-clause-steps : goal.returns-clause-steps
returns-clause-steps c = left_more (board_of c.args.self.now.sheet).routes c.args.self.now.next c.in_ok-route.route c.in_ok-route.ensures
