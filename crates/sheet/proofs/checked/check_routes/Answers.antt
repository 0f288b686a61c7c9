use Rattle.std.proofs.Common.{ℕ, ◌+◌, List, get_or, drop, sym, ap, ◌∙◌, add-one}
use Rattle.std.proofs.lemmas.List.{drop_more, drop_all}
use Rattle.board.specs.Board.{Shape, shape_of}
use Rattle.board.specs.Questions.{first_no, answer}
use Rattle.board.specs.declared.route.Route.{Route}
use Rattle.sheet.specs.Saving.{routes_questions}
use Rattle.sheet.proofs.Saving.{blank, routes_more, routes_first}
use Rattle.sheet.proofs.checked.check_routes.Goals as goal

pub returns-in-Some : goal.returns-in-Some
returns-in-Some c =
    let s : Shape = shape_of c.args.frame.now in
    let rs : List Route = c.args.routes.now in
    let k : ℕ = c.loop-k.k in
    let d = drop_more rs k blank c.loop-k-test.true in
    let f = routes_first s k (get_or rs k blank) (drop (k + 1) rs) c.in-Some.fault c.in-Some.ensures in
    let first = sym c.loop-k.invariant ∙ ap (λ (l : List Route). first_no (routes_questions s k l)) d ∙ f in
    ap (λ o. answer o tt) (sym first)

pub loop-k-preserved : goal.loop-k-preserved
loop-k-preserved c =
    let s : Shape = shape_of c.args.frame.now in
    let rs : List Route = c.args.routes.now in
    let k : ℕ = c.loop-k.k in
    let d = drop_more rs k blank c.loop-k-test.true in
    let f = routes_more s k (get_or rs k blank) (drop (k + 1) rs) c.in_default.ensures in
    ap (λ (n : ℕ). first_no (routes_questions s n (drop (k + 1) rs))) (add-one k) ∙ sym f
    ∙ ap (λ (l : List Route). first_no (routes_questions s k l)) (sym d)
    ∙ c.loop-k.invariant

pub returns : goal.returns
unfolding routes_questions
returns c =
    let s : Shape = shape_of c.args.frame.now in
    let d = drop_all c.loop-k.k c.args.routes.now c.loop-k-test.false in
    let all = sym (ap (λ (l : List Route). first_no (routes_questions s c.loop-k.k l)) d) ∙ c.loop-k.invariant in
    ap (λ o. answer o tt) all
