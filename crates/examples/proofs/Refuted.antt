-- Two plausible mistakes, refuted.
use Rattle.std.proofs.Common.{◌≡◌, true, [], ◌∷◌, ℤ, pos, refl, ◌∙◌, arith}
use lib.Signed.{le_z}
use Rattle.std.proofs.ByRecursion.{All-weaker}
use Rattle.std.proofs.lemmas.Int.{ints}
use Rattle.std.proofs.lemmas.List.Sorted.{IsPermutation-refl}
use Rattle.std.proofs.lemmas.Bool.{true≢false}
use Rattle.board.specs.Board.{Board}
use Rattle.flow.proofs.Right.{one_answer}
use Rattle.flow.proofs.Sums.{marks_same, leaves_same, width_same}
use Rattle.flow.specs.Flow.{Joins}
use Rattle.flow.specs.Outcome.{Delivered, RightAnswer}
use Rattle.flow.specs.Regions.{Region, leaves, ceilings, width, SameRegion}
use Rattle.examples.proofs.Checks.{is_valid, network}
use Rattle.examples.proofs.Least.{separating, all_tested, separates_test, implies, implied, subset, subset_inside, at_most, at_most_test}
use Rattle.examples.proofs.Rows.{crossing_right, chain_right}
use Rattle.examples.specs.Boards.{region, first_two, crossing, chain}
use Rattle.examples.specs.Mistakes.{CeilingsAlone, SeenFromPort, Mistakes}

-- Two right answers that are deliveries give the same delivery and the same region.
one_delivery : (b : Board) (d e : ℤ) (R S : Region) → is_valid b ≡ true → RightAnswer b (Delivered d R) → RightAnswer b (Delivered e S)
    → (d ≡ e) × SameRegion b R S
one_delivery b d e R S v = one_answer b b (Delivered d R) (Delivered e S) (network b v) refl (IsPermutation-refl b.routes)

ceilings_alone : CeilingsAlone
ceilings_alone =
    record {
      separates = record { home = refl; port = refl };
      five = refl;
      least =
          λ S s.
          let n = network crossing refl in
          let p = λ (P : Region). le_z (pos 5) (ceilings (leaves P) crossing.routes) in
          let t = all_tested separating crossing p n refl S (separates_test crossing S s) in
          let leaving = All-weaker (Joins 4) _ (λ r j. leaves_same 4 t.part S r t.same j) crossing.routes n.routes in
          let same = marks_same (λ r. r.ceiling) (leaves t.part) (leaves S) crossing.routes leaving in
          let low = at_most (pos 5) (ceilings (leaves t.part) crossing.routes) t.passes in
          omega (arith, ints);
      wrong =
          λ S r.
          let e = (one_delivery crossing (pos 5) (pos 6) S first_two refl r crossing_right.1).0 in
          absurd (omega (arith, ints));
    }

seen_from_port : SeenFromPort
seen_from_port =
    record {
      separates = record { home = refl; port = refl };
      four = refl;
      least = chain_right.1.1.least;
      around =
          λ S s e v l i.
          let n = network chain refl in
          let p = λ (P : Region). implies (le_z (width chain.routes P) (pos 4)) (subset 3 P first_two) in
          let t = all_tested separating chain p n refl S (separates_test chain S s) in
          let same = width_same 3 chain.routes t.part S n.routes t.same in
          let low = at_most_test (width chain.routes t.part) (pos 4) (omega (arith, ints)) in
          subset_inside 3 t.part first_two (implied _ _ t.passes low) v l (t.same v l ∙ i);
      wrong =
          λ r.
          true≢false
          ((one_delivery chain (pos 4) (pos 4) first_two (region (0 ∷ [])) refl r chain_right.1).1 1 (omega arith));
    }

pub mistakes : Mistakes
mistakes = (ceilings_alone, seen_from_port)
