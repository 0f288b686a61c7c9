-- The record's fields are taken, and its route is asked: the first no decides.
use Rattle.std.proofs.Common.{sym, ap}
use Rattle.std.proofs.lemmas.Result.{err_from_is_err_and}
use Rattle.board.specs.Board.{shape_of}
use Rattle.board.specs.Questions.{answer}
use Rattle.sheet.proofs.Exits.{refused_by}
use Rattle.sheet.proofs.Records.{fields_refused, floor_fits, route_refused, route_accepted}
use Rattle.sheet.proofs.reading.check_record.Goals as goal

pub returns-in_err-numbers-clause-answer : goal.returns-in_err-numbers-clause-answer
returns-in_err-numbers-clause-answer c =
    let p = err_from_is_err_and c.from_residual.result c.from_residual.ensures.1 in
    refused_by _ _ _ _ tt p.1 p.2 (fields_refused _ c.args.route (shape_of c.args.frame.now) c.requires _ c.in_err-numbers.ensures.answer)

pub order_route-requires : goal.order_route-requires
order_route-requires c = floor_fits _ c.args.route (shape_of c.args.frame.now) c.requires _ c.in_ok-numbers.ensures.answer

pub returns-in_err-order_route-clause-answer : goal.returns-in_err-order_route-clause-answer
returns-in_err-order_route-clause-answer c =
    let p = err_from_is_err_and c.from_residual-in_err-order_route.result c.from_residual-in_err-order_route.ensures.1 in
    refused_by _ _ _ _ tt p.1 p.2
    (route_refused _ c.args.route (shape_of c.args.frame.now) c.requires _ c.in_ok-numbers.ensures.answer _ c.in_err-order_route.ensures)

pub returns-clause-answer : goal.returns-clause-answer
returns-clause-answer c =
    let e = route_accepted _ c.args.route (shape_of c.args.frame.now) c.requires _ c.in_ok-numbers.ensures.answer _ c.in_ok-order_route.ensures in
    ap (λ x. answer x tt) (sym e)
