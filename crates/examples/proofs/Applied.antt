-- The theorems about every board on worked boards.
use Rattle.std.proofs.Common.{◌≡◌, ℕ, ◌<◌, Bool, true, false, cond, ◌&&◌, eqb, List, [], ◌∷◌, ℤ, pos, negsuc, ◌+ℤ◌, ◌-ℤ◌, ◌<ℤ◌, sym, refl, subst, inl, ⊎_elim, arith}
use lib.Signed.{le_z, lt_z_yes}
use Rattle.std.proofs.lemmas.Int.{ints}
use Rattle.std.proofs.lemmas.List.Sorted.{IsPermutation-swap}
use Rattle.std.proofs.lemmas.Bool.{or_cases, eqb-true, false≢true}
use Rattle.std.specs.List.Sorted.{IsPermutation}
use Rattle.std.specs.List.{AllByRecursion}
use Rattle.board.specs.Board.{Board}
use Rattle.flow.proofs.Bounds.{width_bounds, none_overpromised, nets_sum, nets_cancel, arrives}
use Rattle.flow.proofs.Closing.{closed_is_full, full_is_closed, stays_closed}
use Rattle.flow.proofs.Orders.{order_is_free}
use Rattle.flow.proofs.Pushing.{pushes}
use Rattle.flow.proofs.Right.{one_answer, meeting_is_greatest, meeting_is_right}
use Rattle.flow.proofs.Excess.{excess_is_right, even_is_flow}
use Rattle.flow.specs.Flow.{Network, net, Within, Flow, raised}
use Rattle.flow.specs.Imbalance.{everywhere, over, ends, shortage_at, excess, origins, Blocks, Reach}
use Rattle.flow.specs.Outcome.{Outcome, Delivered, RightAnswer}
use Rattle.flow.specs.Regions.{Region, through, width, Separates, Inside}
use Rattle.flow.specs.Residual.{Closed, Along}
use Rattle.examples.proofs.Checks.{network, is_within, within, flowing, delivers}
use Rattle.examples.proofs.Least.{subset, subset_inside}
use Rattle.examples.proofs.Rows.{crossing_flow, crossing_right}
use Rattle.examples.specs.Boards.{
  region,
  route,
  crossing,
  carrying,
  first_two,
  shifted,
  turned,
  promised,
  stuck,
  drained,
  lacking,
  eased,
}
use Rattle.examples.specs.Instances.{Stuck, Instances}

-- Closed regions.

full : (b : Board) (xs : List ℤ) (R : Region) → is_within b.routes xs ≡ true → through b.routes xs R ≡ width b.routes R
    → Closed b.routes xs R
full b xs R h = full_is_closed b.routes xs R (within b.routes xs h)

zero_is : (z : ℤ) → (le_z z (pos 0) && le_z (pos 0) z) ≡ true → z ≡ pos 0
zero_is z h = grind (arith, ints)

-- No shortage at the places of a region.
abbrev unshort : Board → List ℤ → Region → Bool
unshort b xs R =
    subset b.shape.places R (λ v. le_z (shortage_at b xs v) (pos 0) && le_z (pos 0) (shortage_at b xs v))

blocks : (b : Board) (xs : List ℤ) (O R : Region) → is_within b.routes xs ≡ true → through b.routes xs R ≡ width b.routes R
    → subset b.shape.places O R ≡ true → unshort b xs R ≡ true → Blocks b xs O R
blocks b xs O R h e i s =
    record {
      closed = full b xs R h e;
      has = subset_inside b.shape.places O R i;
      short = λ v l r. zero_is (shortage_at b xs v) (subset_inside b.shape.places R _ s v l r);
    }

reach : (b : Board) (xs : List ℤ) (O R : Region) → is_within b.routes xs ≡ true → through b.routes xs R ≡ width b.routes R
    → subset b.shape.places O R ≡ true → subset b.shape.places R O ≡ true → Reach b xs O R
reach b xs O R h e i j =
    record {
      closed = full b xs R h e;
      has = subset_inside b.shape.places O R i;
      least = λ S _ k v l r. k v l (subset_inside b.shape.places R O j v l r);
    }

-- What holds of the places listed holds of each place of their region.
listed : (P : ℕ → Type 0) (us : List ℕ) → AllByRecursion P us → (v : ℕ) → region us v ≡ true → P v
listed P [] h v e = absurd (false≢true e)
listed P (u ∷ us) h v e =
    ⊎_elim (λ i. subst P (sym (eqb-true v u i)) h.0) (λ i. listed P us h.1 v i) (or_cases (eqb v u) (region us v) e)

-- The worked board with four places and five routes.

joined : Network crossing
joined = network crossing refl

shares : Within crossing.routes carrying
shares = within crossing.routes carrying refl

closed : Closed crossing.routes carrying first_two
closed = full crossing carrying first_two refl refl

separates : Separates crossing first_two
separates = record { home = refl; port = refl }

swapped : IsPermutation crossing.routes turned.routes
swapped = IsPermutation-swap crossing.routes turned.routes 0 4 (omega arith) (omega arith) refl

turned_right : RightAnswer turned (Delivered (pos 6) (region (1 ∷ 0 ∷ [])))
turned_right =
    let xs : List ℤ = negsuc 0 ∷ pos 2 ∷ pos 3 ∷ pos 3 ∷ pos 4 ∷ [] in
    (delivers turned xs (region (1 ∷ 0 ∷ [])) refl (flowing turned xs refl refl refl) refl).1

-- A step from place 0 to place 1 is open, so that a closed region with home has both.
around : (S : Region) → Closed crossing.routes carrying S → S 0 ≡ true → Inside crossing first_two S
around S c h v l e =
    listed (λ u. S u ≡ true) (0 ∷ 1 ∷ []) (h, (c 0 1 (inl (Along refl refl (lt_z_yes tt))) h, tt)) v e

same_nets : (v : ℕ) → v < 4 → first_two v ≡ true → net crossing.routes shifted v ≡ net crossing.routes carrying v
same_nets v l =
    listed (λ u. net crossing.routes shifted u ≡ net crossing.routes carrying u) (0 ∷ 1 ∷ []) (refl, (refl, tt)) v

-- What is asked of an excess, and the right answer that it gives.
excessive : (b : Board) (xs : List ℤ) (U V R : Region) → Network b → Within b.routes xs → Blocks b xs (over b xs) U
    → U b.shape.home ≡ false → U b.shape.port ≡ false → Blocks b xs (ends b) V → Reach b xs (origins b xs) R
    → pos 0 <ℤ excess b xs → Stuck b xs U V R (excess b xs)
excessive b xs U V R n w u h p v r l =
    record {
      network = n;
      within = w;
      from_over = u;
      home_outside = h;
      port_outside = p;
      from_ends = v;
      reached = r;
      excess_is = refl;
      some = l;
      right = excess_is_right b xs U V R n w u h p v r l;
    }

pushed : (v : ℕ) → net crossing.routes (raised carrying 0 (pos 1)) v
    ≡ (net crossing.routes carrying v +ℤ cond (eqb 0 v) (pos 1) (pos 0)) -ℤ cond (eqb 1 v) (pos 1) (pos 0)
pushed v = pushes crossing.routes carrying 0 (pos 1) v (route 0 0 (pos 0) (pos 0)) (omega arith) refl

pub instances : Instances
instances =
    let home_only : Region = region (0 ∷ []) in
    let at_home : Separates crossing home_only = record { home = refl; port = refl } in
    let even : List ℤ = pos 3 ∷ pos 3 ∷ [] in
    let easy : Network eased = network eased refl in
    let even_flow : Flow eased even = flowing eased even refl refl refl in
    record {
      valid_is_network = (crossing_right.0, joined);
      width_bounds = (crossing_flow, at_home, width_bounds crossing carrying home_only joined crossing_flow at_home);
      none_overpromised =
          (easy, even_flow, refl, none_overpromised eased even (region (2 ∷ [])) easy even_flow refl);
      closed_is_full = (shares, closed, closed_is_full crossing.routes carrying first_two shares closed);
      full_is_closed = (shares, refl, full_is_closed crossing.routes carrying first_two shares refl);
      order_is_free =
          let same = order_is_free crossing.routes turned.routes first_two swapped in (swapped, same.0, same.1);
      one_answer =
          let p : Outcome = Delivered (pos 6) first_two in
          let q : Outcome = Delivered (pos 6) (region (1 ∷ 0 ∷ [])) in
          let same = one_answer crossing turned p q joined refl swapped crossing_right.1 turned_right in
          (refl, swapped, crossing_right.1, turned_right, same);
      meeting_is_greatest =
          let most = meeting_is_greatest crossing carrying first_two joined crossing_flow separates refl in
          (crossing_flow, separates, refl, most);
      meeting_is_right =
          let right = meeting_is_right crossing carrying first_two joined crossing_flow separates refl around in
          (crossing_flow, separates, refl, around, right);
      excess_is_right =
          excessive promised stuck (region (2 ∷ [])) everywhere (region (2 ∷ [])) (network promised refl)
          (within promised.routes stuck refl)
          (blocks promised stuck (over promised stuck) (region (2 ∷ [])) refl refl refl refl) refl refl
          (blocks promised stuck (ends promised) everywhere refl refl refl refl)
          (reach promised stuck (origins promised stuck) (region (2 ∷ [])) refl refl refl refl)
          (lt_z_yes tt);
      excess_at_ends =
          excessive drained lacking (region []) first_two first_two (network drained refl) (within drained.routes lacking refl)
          (blocks drained lacking (over drained lacking) (region []) refl refl refl refl) refl refl
          (blocks drained lacking (ends drained) first_two refl refl refl refl)
          (reach drained lacking (origins drained lacking) first_two refl refl refl refl)
          (lt_z_yes tt);
      even_is_flow = (shares, refl, refl, even_is_flow crossing carrying shares refl refl);
      nets_sum = (joined.routes, nets_sum 4 crossing.routes carrying first_two joined.routes);
      nets_cancel = (joined.routes, nets_cancel 4 crossing.routes carrying joined.routes);
      arrives = (crossing_flow, refl, (arrives crossing carrying (pos 6) joined).0 crossing_flow refl);
      pushes = (omega arith, refl, pushed 0, pushed 1, pushed 2);
      stays_closed =
          let others = within crossing.routes shifted refl in
          let still = stays_closed crossing carrying shifted first_two joined shares others closed same_nets in
          (shares, others, closed, same_nets, still);
    }
