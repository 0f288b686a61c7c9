-- What tests show of a board: that it is valid, that shares are a flow, and what its right answer is.
use Rattle.std.proofs.Common.{◌≡◌, Bool, true, false, ◌&&◌, leb, List, [], ◌∷◌, length, ℤ, pos, neg_ℤ, ◌<ℤ◌, None, Option, sym, arith}
use lib.Signed.{le_z}
use Rattle.std.proofs.lemmas.Int.{ints}
use Rattle.std.proofs.lemmas.Bool.{and_parts, leb-true, false≢true}
use Rattle.std.specs.List.{AllByRecursion}
use Rattle.std.specs.Option.{is_none}
use Rattle.board.proofs.Valid.{shape_valid, route_valid}
use Rattle.board.specs.Board.{Board, Shape, Valid, ValidRoute}
use Rattle.board.specs.Questions.{first_no, frame_questions, route_questions}
use Rattle.board.specs.declared.route.Route.{Route}
use Rattle.flow.proofs.Bounds.{valid_is_network, none_overpromised}
use Rattle.flow.proofs.Right.{meeting_is_greatest}
use Rattle.flow.proofs.Excess.{even_is_flow}
use Rattle.flow.specs.Flow.{Network, Within, Flow, delivery}
use Rattle.flow.specs.Imbalance.{surplus, shortage}
use Rattle.flow.specs.Outcome.{Delivered, Overpromised, NoFlow, RightAnswer}
use Rattle.flow.specs.Regions.{Region}
use Rattle.examples.proofs.Least.{separating, together, is_least, narrowest, most_overpromised, at_most}

-- Valid boards.

-- No question gets a no.
passed : {F : Type 0} (o : Option F) → is_none o ≡ true → o ≡ None
passed o h = grind arith

abbrev are_routes : Shape → List Route → Bool
are_routes s [] = true
are_routes s (r ∷ rs) = is_none (first_no (route_questions s r)) && are_routes s rs

are_routes_lem : (s : Shape) (rs : List Route) → are_routes s rs ≡ true → AllByRecursion (ValidRoute s) rs
are_routes_lem s [] h = tt
are_routes_lem s (r ∷ rs) h =
    let p = and_parts (is_none (first_no (route_questions s r))) _ h in
    (route_valid s r (passed _ p.0), are_routes_lem s rs p.1)

abbrev pub is_valid : Board → Bool
is_valid b = is_none (first_no (frame_questions b.shape)) && (leb (length b.routes) 512 && are_routes b.shape b.routes)

pub valid : (b : Board) → is_valid b ≡ true → Valid b
valid b h =
    let p = and_parts (is_none (first_no (frame_questions b.shape))) _ h in
    let q = and_parts (leb (length b.routes) 512) _ p.1 in
    record {
      frame = shape_valid b.shape (passed _ p.0);
      few = leb-true (length b.routes) 512 q.0;
      each = are_routes_lem b.shape b.routes q.1;
    }

pub network : (b : Board) → is_valid b ≡ true → Network b
network b h = valid_is_network b (valid b h)

-- Flows.

abbrev pub is_within : List Route → List ℤ → Bool
is_within [] [] = true
is_within [] (x ∷ xs) = false
is_within (r ∷ rs) [] = false
is_within (r ∷ rs) (x ∷ xs) = le_z r.floor x && (le_z x r.ceiling && is_within rs xs)

pub within : (rs : List Route) (xs : List ℤ) → is_within rs xs ≡ true → Within rs xs
within [] [] h = tt
within [] (x ∷ xs) h = absurd (false≢true h)
within (r ∷ rs) [] h = absurd (false≢true h)
within (r ∷ rs) (x ∷ xs) h =
    let p = and_parts (le_z r.floor x) _ h in
    let q = and_parts (le_z x r.ceiling) _ p.1 in
    (at_most _ _ p.0, at_most _ _ q.0, within rs xs q.1)

pub flowing : (b : Board) (xs : List ℤ) → is_within b.routes xs ≡ true → surplus b xs ≡ pos 0 → shortage b xs ≡ pos 0 → Flow b xs
flowing b xs h = even_is_flow b xs (within b.routes xs h)

-- Right answers.

pub delivers : (b : Board) (xs : List ℤ) (R : Region) → is_valid b ≡ true → Flow b xs → is_least separating b R (delivery b xs) ≡ true
    → Valid b × RightAnswer b (Delivered (delivery b xs) R)
delivers b xs R v f h =
    let n = narrowest b R (delivery b xs) (network b v) h in
    (valid b v, (meeting_is_greatest b xs R (network b v) f n.separates (sym n.wide), n))

pub overpromises : (b : Board) (R : Region) (x : ℤ) → is_valid b ≡ true → pos 0 <ℤ x → is_least together b R (neg_ℤ x) ≡ true
    → Valid b × RightAnswer b (Overpromised x R)
overpromises b R x v l h =
    let m = most_overpromised b R x (network b v) h in
    let e = m.over in
    let none : NoFlow b = λ xs f. let o = none_overpromised b xs R (network b v) f m.together in absurd (omega (arith, ints)) in
    (valid b v, (none, l, m))
