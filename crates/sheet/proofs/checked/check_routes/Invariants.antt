use Rattle.std.proofs.Common.{◌≡◌, drop}
use Rattle.board.specs.Board.{shape_of}
use Rattle.board.specs.Questions.{first_no}
use Rattle.sheet.specs.Saving.{routes_questions}
use Rattle.sheet.proofs.checked.check_routes.Given as goal

-- the first no among the routes that are left is the first of all
abbrev pub invariant-loop-k : goal.invariant-loop-k
invariant-loop-k l = first_no (routes_questions (shape_of l.frame) l.k (drop l.k l.routes)) ≡ first_no (routes_questions (shape_of l.frame) 0 l.routes)
