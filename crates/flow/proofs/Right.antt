-- A flow that meets a region's width is right, and a board has one right answer.
use Rattle.std.proofs.Common.{◌≡◌, List, ℤ, pos, ◌<ℤ◌, sym, refl, ◌∙◌, subst, arith}
use Rattle.std.proofs.lemmas.Int.{ints}
use Rattle.std.proofs.lemmas.List.Sorted.{IsPermutation-sym}
use Rattle.std.proofs.ByRecursion.{all_shuffled}
use Rattle.std.specs.List.Sorted.{IsPermutation}
use Rattle.board.specs.Board.{Board, Shape}
use Rattle.board.specs.declared.route.Route.{Route}
use Rattle.flow.proofs.Bounds.{width_bounds, none_overpromised, delivery_through}
use Rattle.flow.proofs.Closing.{full_is_closed}
use Rattle.flow.proofs.Orders.{order_is_free}
use Rattle.flow.specs.Flow.{Network, Joins, Flow, delivery}
use Rattle.flow.specs.Laws.{OneAnswer, MeetingIsGreatest, MeetingIsRight}
use Rattle.flow.specs.Outcome.{Outcome, Delivered, Overpromised, RightAnswer, SameOutcome}
use Rattle.flow.specs.Regions.{Region, Separates, Inside, SameRegion, Narrowest, MostOverpromised}

pub meeting_is_greatest : MeetingIsGreatest
meeting_is_greatest b xs R w fl s e =
    record {
      shares = xs;
      flow = fl;
      delivers = refl;
      most = λ ys g. let l = width_bounds b ys R w g s in omega (arith, ints);
    }

pub meeting_is_right : MeetingIsRight
meeting_is_right b xs R w fl s e least = (meeting_is_greatest b xs R w fl s e, narrowest)
  where
    narrowest : Narrowest b R (delivery b xs)
    narrowest =
        record {
          separates = s;
          wide = sym e;
          least = λ S t. width_bounds b xs S w fl t;
          inside = λ S t k. least S (full_is_closed b.routes xs S fl.within (delivery_through b xs S w fl t ∙ sym k)) t.home;
        }

-- Regions that lie inside each other are the same.
same_region : (b : Board) (R S : Region) → Inside b R S → Inside b S R → SameRegion b R S
same_region b R S i j v l = let f = i v l in let g = j v l in grind arith

-- A board on which a flow exists is not one that is overpromised.
not_both : (s : Shape) (rs ss : List Route) (xs : List ℤ) (x : ℤ) (S : Region) → Network (record { shape = s; routes = rs }) → IsPermutation rs ss
    → Flow (record { shape = s; routes = rs }) xs → pos 0 <ℤ x → MostOverpromised (record { shape = s; routes = ss }) S x → ⊥
not_both s rs ss xs x S w h fl l m =
    let n = none_overpromised (record { shape = s; routes = rs }) xs S w fl m.together in
    let e = (order_is_free rs ss S h).1 in
    let o = m.over in
    omega (arith, ints)

-- Which places a region has is no matter of the routes.
separates_too : (s : Shape) (rs ss : List Route) (R : Region) → Separates (record { shape = s; routes = rs }) R → Separates (record { shape = s; routes = ss }) R
separates_too s rs ss R t = record { home = t.home; port = t.port }

-- One shape, and the routes in two orders.
one : (s : Shape) (rs ss : List Route) (p q : Outcome) → Network (record { shape = s; routes = rs }) → IsPermutation rs ss
    → RightAnswer (record { shape = s; routes = rs }) p → RightAnswer (record { shape = s; routes = ss }) q
    → SameOutcome (record { shape = s; routes = rs }) p q
one s rs ss (Delivered d R) (Delivered e S) w h (g, m) (k, n) =
    let a = (order_is_free rs ss R h).0 in
    let c = (order_is_free rs ss S h).0 in
    let low = m.least S (separates_too s ss rs S n.separates) in
    let high = n.least R (separates_too s rs ss R m.separates) in
    let wr = m.wide in
    let ws = n.wide in
    let same : d ≡ e = omega (arith, ints) in (
      same,
      same_region (record { shape = s; routes = rs }) R S
          (m.inside S (separates_too s ss rs S n.separates) (omega (arith, ints)))
          (n.inside R (separates_too s rs ss R m.separates) (omega (arith, ints))),
    )
one s rs ss (Overpromised x R) (Overpromised y S) w h (g, l, m) (k, j, n) =
    let a = (order_is_free rs ss R h).1 in
    let c = (order_is_free rs ss S h).1 in
    let low = m.most S n.together in
    let high = n.most R m.together in
    let wr = m.over in
    let ws = n.over in
    let same : x ≡ y = omega (arith, ints) in (
      same,
      same_region (record { shape = s; routes = rs }) R S
          (m.inside S n.together (omega (arith, ints)))
          (n.inside R m.together (omega (arith, ints))),
    )
one s rs ss (Delivered d R) (Overpromised y S) w h (g, m) (k, j, n) = not_both s rs ss g.shares y S w h g.flow j n
one s rs ss (Overpromised x R) (Delivered e S) w h (g, l, m) (k, n) =
    not_both s ss rs k.shares x R
    (record { home = w.home; port = w.port; apart = w.apart; routes = all_shuffled (Joins s.places) rs ss h w.routes })
    (IsPermutation-sym rs ss h) k.flow l m

pub one_answer : OneAnswer
one_answer a b p q w e h ra rb =
    one a.shape a.routes b.routes p q w h ra
    (subst (λ (s : Shape). RightAnswer (record { shape = s; routes = b.routes }) q) (sym e) rb)
