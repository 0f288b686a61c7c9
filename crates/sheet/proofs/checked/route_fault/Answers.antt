-- The fault behind the answer to a route.
use Rattle.std.proofs.Common.{◌≡◌, ap, ◌∙◌, w16, w32, SFits, rules}
use Rattle.std.proofs.lemmas.Int.{to_z-of_z}
use Rattle.std.specs.Result.{result_err}
use Rattle.board.specs.Board.{shape_of}
use Rattle.board.specs.Questions.{first_no, route_questions, route_answer}
use Rattle.sheet.proofs.Saving.{err_part_answer}
use Rattle.sheet.proofs.checked.route_fault.Goals as goal

pub returns : goal.returns
returns c =
    let r = c.args.route in
    let s = shape_of c.args.frame.now in
    let floor : SFits w16 r.floor = search rules in
    let ceiling : SFits w16 r.ceiling = search rules in
    let wide_floor : SFits w32 r.floor = search rules in
    let wide_ceiling : SFits w32 r.ceiling = search rules in
    let made : c.new.result ≡ route_answer s r.start r.end r.floor r.ceiling =
    simp (c.from-start.ensures, c.from-end.ensures, c.from.ensures, c.from-2.ensures, to_z-of_z) at c.new.ensures.answer
    in
    c.err.ensures.value ∙ ap result_err made ∙ err_part_answer (first_no (route_questions s r)) r
