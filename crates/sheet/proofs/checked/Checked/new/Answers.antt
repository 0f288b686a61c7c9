-- The first question that gets a no decides; a yes each, and the board is valid.
use Rattle.std.proofs.Common.{sym, ap}
use Rattle.std.proofs.lemmas.Result.{err_from_is_err_and}
use Rattle.board.proofs.First.{refusal, acceptance}
use Rattle.std.proofs.ByRecursion.{All-get_or}
use Rattle.board.specs.Board.{Board, ValidRoute}
use Rattle.board.specs.Questions.{first_no, answer}
use Rattle.sheet.proofs.Exits.{refused_through}
use Rattle.sheet.proofs.Saving.{blank, routes_valid, board_many, board_order, board_accepted}
use Rattle.sheet.specs.Checked.{board_of}
use Rattle.sheet.specs.Saving.{board_with, routes_questions}
use Rattle.sheet.proofs.checked.Checked.new.Goals as goal

pub returns-then-routes-gt-ROUTE_LIMIT : goal.returns-then-routes-gt-ROUTE_LIMIT
returns-then-routes-gt-ROUTE_LIMIT c =
    let b : Board = board_with c.args.frame.now c.args.routes.now in
    ap (λ o. answer o b) (sym (board_many b c.if-routes-gt-ROUTE_LIMIT.true))

pub returns-in_err-check_routes : goal.returns-in_err-check_routes
returns-in_err-check_routes c =
    let b : Board = board_with c.args.frame.now c.args.routes.now in
    let first = refusal (first_no (routes_questions b.shape 0 b.routes)) tt _ c.in_err-check_routes.ensures in
    let p = err_from_is_err_and c.from_residual.result c.from_residual.ensures.1 in
    refused_through board_of _ _ _ _ b p.1 p.2 (board_order b _ c.if-routes-gt-ROUTE_LIMIT.false first)

pub invariant_of-result : goal.invariant_of-result
invariant_of-result c =
    let b : Board = board_with c.args.frame.now c.args.routes.now in
    let each = (acceptance (first_no (routes_questions b.shape 0 b.routes)) tt _ c.in_ok-check_routes.ensures).0 in
    record { few = c.if-routes-gt-ROUTE_LIMIT.false; each = λ k h. All-get_or (ValidRoute b.shape) b.routes k blank h (routes_valid b.shape 0 b.routes each) }

pub returns : goal.returns
returns c =
    let b : Board = board_with c.args.frame.now c.args.routes.now in
    let each = (acceptance (first_no (routes_questions b.shape 0 b.routes)) tt _ c.in_ok-check_routes.ensures).0 in
    ap (λ o. answer o b) (sym (board_accepted b c.if-routes-gt-ROUTE_LIMIT.false each))
