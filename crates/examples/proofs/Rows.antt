-- The rows of the table: the right answers by tests; the rest computes.
use Rattle.std.proofs.Common.{eqb, [], ◌∷◌, pos, refl, ap, ◌∙◌}
use lib.Signed.{lt_z_yes, ≤ℤ_refl}
use Rattle.std.proofs.lemmas.Bool.{eq-eqb, ne_eqb, eqb-true}
use Rattle.board.specs.Board.{Shape, Valid, ValidShape}
use Rattle.bits.specs.Bits.{digits, bits_of, value, cut, field_at}
use Rattle.layout.specs.Questions.{
  header_questions,
  record_questions,
  records_questions,
  all_zero,
  zeros_before,
  end_questions,
  sheet_questions,
}
use Rattle.layout.specs.Stated.{route_at, routes_from, stated}
use Rattle.flow.specs.Flow.{Flow}
use Rattle.flow.specs.Outcome.{Delivered, RightAnswer}
use Rattle.examples.proofs.Checks.{flowing, delivers, overpromises}
use Rattle.examples.specs.Boards.{region, crossing, carrying, first_two, two_way, promised, eased, backward, chain}
use Rattle.examples.specs.Table.{EveryRow}

-- One row and then the others.
infixr 30 ◌▸◌
◌▸◌ : {P Q : Type 0} → P → Q → P × Q
p ▸ q = (p, q)

-- With no routes nothing is delivered, and the region is home alone.
no_routes : (s : Shape) → ValidShape s → RightAnswer (record { shape = s; routes = [] }) (Delivered (pos 0) (λ v. eqb v s.home))
no_routes s v = (
  record { shares = []; flow = record { within = tt; balanced = λ _ _ _ _. refl }; delivers = refl; most = λ xs f. ≤ℤ_refl (pos 0) },
  record {
    separates = record { home = eq-eqb s.home s.home refl; port = ne_eqb s.port s.home v.apart };
    wide = refl;
    least = λ S h. ≤ℤ_refl (pos 0);
    inside = λ S h _ u _ e. ap S (eqb-true u s.home e) ∙ h.home;
  },
)

pub crossing_flow : Flow crossing carrying
crossing_flow = flowing crossing carrying refl refl refl

pub crossing_right : Valid crossing × RightAnswer crossing (Delivered (pos 6) first_two)
crossing_right = delivers crossing carrying first_two refl crossing_flow refl

backward_flow : Flow backward (pos 2 ∷ [])
backward_flow = flowing backward (pos 2 ∷ []) refl refl refl

pub chain_right : Valid chain × RightAnswer chain (Delivered (pos 4) (region (0 ∷ [])))
chain_right =
    delivers chain (pos 4 ∷ pos 4 ∷ []) (region (0 ∷ [])) refl (flowing chain (pos 4 ∷ pos 4 ∷ []) refl refl refl) refl

pub every_row : EveryRow
unfolding digits bits_of value cut field_at header_questions record_questions records_questions all_zero zeros_before end_questions sheet_questions route_at routes_from stated
every_row =
    crossing_right
    ▸ (crossing_flow, refl, refl, refl)
    ▸ refl
    ▸ delivers two_way (pos 7 ∷ []) (region (0 ∷ [])) refl (flowing two_way (pos 7 ∷ []) refl refl refl) refl
    ▸ overpromises promised (region (2 ∷ [])) (pos 1) refl (lt_z_yes tt) refl
    ▸ delivers eased (pos 3 ∷ pos 3 ∷ []) (region (0 ∷ 2 ∷ [])) refl (flowing eased (pos 3 ∷ pos 3 ∷ []) refl refl refl) refl
    ▸ delivers backward (pos 2 ∷ []) (region (0 ∷ [])) refl backward_flow refl
    ▸ (backward_flow, refl, refl, refl)
    ▸ chain_right
    ▸ no_routes
    ▸ refl
    ▸ refl
    ▸ refl
    ▸ refl
    ▸ refl
    ▸ (refl, refl, refl, refl)
    ▸ tt
