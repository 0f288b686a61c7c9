-- The questions get a yes each exactly where the shape or the route is valid.
use Rattle.std.proofs.Common.{◌≡◌, None, arith}
use Rattle.std.proofs.lemmas.Bool.Decides.{nat_tests}
use Rattle.std.proofs.lemmas.Int.{ints}
use Rattle.board.specs.Board.{Shape, ValidShape, ValidRoute}
use Rattle.board.specs.Questions.{first_no, frame_questions, route_questions}
use Rattle.board.specs.declared.route.Route.{Route}

pub shape_valid : (s : Shape) → first_no (frame_questions s) ≡ None → ValidShape s
shape_valid s h =
    record {
      several = grind (arith, nat_tests);
      few = grind (arith, nat_tests);
      home_inside = grind (arith, nat_tests);
      port_inside = grind (arith, nat_tests);
      apart = λ e. grind (arith, nat_tests);
    }

pub shape_accepted : (s : Shape) → ValidShape s → first_no (frame_questions s) ≡ None
shape_accepted s v = grind (arith, nat_tests)

pub route_valid : (s : Shape) (r : Route) → first_no (route_questions s r) ≡ None → ValidRoute s r
route_valid s r h =
    record {
      start_inside = grind (arith, nat_tests);
      end_inside = grind (arith, nat_tests);
      apart = λ e. grind (arith, nat_tests);
      ceiling_low = grind (arith, nat_tests, ints);
      ceiling_high = grind (arith, nat_tests, ints);
      floor_low = grind (arith, nat_tests, ints);
      floor_high = grind (arith, nat_tests, ints);
    }

pub route_accepted : (s : Shape) (r : Route) → ValidRoute s r → first_no (route_questions s r) ≡ None
route_accepted s r v = grind (arith, nat_tests, ints)
