-- Which excess and which region are right, where shares leave places out of balance.
use Rattle.std.proofs.Common.{◌≡◌, ℕ, ◌<◌, Bool, true, false, cond, ◌&&◌, ◌||◌, List, ℤ, pos, ◌+ℤ◌, ◌-ℤ◌, neg_ℤ, ◌≤ℤ◌, ◌<ℤ◌, sym, refl, ap, ◌∙◌, ap₂, ⊎_elim, arith}
use lib.Signed.{lt_z}
use Rattle.std.proofs.lemmas.Int.{ints, clamps}
use Rattle.std.proofs.lemmas.Bool.{cond-true, cases_Bool, or_cases, or_left, or_right, and_parts, and_from, both_ways}
use Rattle.std.proofs.lemmas.Bool.Decides.{nat_tests}
use Rattle.board.specs.Board.{Board}
use Rattle.flow.proofs.Bounds.{nets_sum, nets_cancel, innerly, ends_apart, through_at_most, both_ends, none_overpromised}
use Rattle.flow.proofs.Closing.{closed_is_full, full_is_closed}
use Rattle.flow.proofs.Sums.{sum_in_minus, sum_in_same, sum_in_zero, sum_in_least, sum_in_most, sum_in_whole, sum_in_has, sum_in_even}
use Rattle.flow.specs.Flow.{Network, net, Within}
use Rattle.flow.specs.Imbalance.{everywhere, sum_in, inner, ends, over, surplus_at, shortage_at, surplus, shortage, excess, ends_over, origins, Blocks, Reach}
use Rattle.flow.specs.Laws.{ExcessIsRight, EvenIsFlow}
use Rattle.flow.specs.Outcome.{Overpromised, RightAnswer}
use Rattle.flow.specs.Regions.{Region, through, width, overpromise, Together, Inside}
use Rattle.flow.specs.Residual.{Closed}

-- What is left at an inner place is its shortage or, with the sign turned, its surplus.
two_kinds : (i : Bool) (z : ℤ) → cond i z (pos 0) ≡ cond (i && lt_z (pos 0) z) z (pos 0) -ℤ cond (i && lt_z z (pos 0)) (neg_ℤ z) (pos 0)
two_kinds i z = grind (arith, ints)

surplus_least : (b : Board) (xs : List ℤ) (v : ℕ) → pos 0 ≤ℤ surplus_at b xs v
surplus_least b xs v = grind (arith, ints)

shortage_least : (b : Board) (xs : List ℤ) (v : ℕ) → pos 0 ≤ℤ shortage_at b xs v
shortage_least b xs v = grind (arith, ints)

-- The surplus and the shortage that a region holds.

abbrev held_over : Board → List ℤ → Region → ℤ
held_over b xs R = sum_in b.shape.places R (surplus_at b xs)

abbrev held_short : Board → List ℤ → Region → ℤ
held_short b xs R = sum_in b.shape.places R (shortage_at b xs)

-- What goes through a region, by what is left at its places.
left_through : (b : Board) (xs : List ℤ) (R : Region) → Network b
    → through b.routes xs R
    ≡ (cond (R b.shape.home) (net b.routes xs b.shape.home) (pos 0) +ℤ cond (R b.shape.port) (net b.routes xs b.shape.port) (pos 0))
    +ℤ (held_short b xs R -ℤ held_over b xs R)
left_through b xs R w =
    let n = b.shape.places in
    let f = net b.routes xs in
    let whole = nets_sum n b.routes xs R w.routes in
    let parts = ends_apart b R f w in
    let kinds = sum_in_same n R (innerly b f) (λ v. shortage_at b xs v -ℤ surplus_at b xs v) (λ v _ _. two_kinds (inner b v) (f v)) in
    let minus = sum_in_minus n R (shortage_at b xs) (surplus_at b xs) in
    omega (arith, ints)

-- Home and port together have what the other places lack.
ends_left : (b : Board) (xs : List ℤ) → Network b
    → net b.routes xs b.shape.home +ℤ net b.routes xs b.shape.port ≡ surplus b xs -ℤ shortage b xs
ends_left b xs w =
    let a = left_through b xs everywhere w in
    let z = nets_sum b.shape.places b.routes xs everywhere w.routes in
    let c = nets_cancel b.shape.places b.routes xs w.routes in
    omega (arith, ints)

-- The same for a region with both home and port or with neither.
together_through : (b : Board) (xs : List ℤ) (R : Region) → Network b → Together b R
    → through b.routes xs R ≡ cond (R b.shape.home) (surplus b xs -ℤ shortage b xs) (pos 0) +ℤ (held_short b xs R -ℤ held_over b xs R)
together_through b xs R w t =
    left_through b xs R w
    ∙ ap (λ (z : ℤ). z +ℤ (held_short b xs R -ℤ held_over b xs R)) (both_ends _ _ _ (R b.shape.home) (R b.shape.port) t (ends_left b xs w))

-- What is known of a region with both home and port or with neither: by how much it is overpromised at most, and what
-- it holds where it reaches that.
record Reached (b : Board) (xs : List ℤ) (S : Region) : Type 0 where
  full : through b.routes xs S ≡ width b.routes S
  over : held_over b xs S ≡ surplus b xs
  home : ends_over b xs ≡ true → S b.shape.home ≡ true

at_most : (b : Board) (xs : List ℤ) (S : Region) → Network b → Within b.routes xs → Together b S
    → (overpromise b.routes S ≤ℤ excess b xs) × (overpromise b.routes S ≡ excess b xs → Reached b xs S)
at_most b xs S w h t =
    by (S b.shape.home) refl (together_through b xs S w t) (through_at_most b.routes xs S h)
    (sum_in_least b.shape.places S (shortage_at b xs) (shortage_least b xs))
    (sum_in_most b.shape.places S (surplus_at b xs) (surplus_least b xs))
  where
    by : (s : Bool) → S b.shape.home ≡ s
        → through b.routes xs S ≡ cond s (surplus b xs -ℤ shortage b xs) (pos 0) +ℤ (held_short b xs S -ℤ held_over b xs S)
        → through b.routes xs S ≤ℤ width b.routes S
        → pos 0 ≤ℤ held_short b xs S
        → held_over b xs S ≤ℤ surplus b xs
        → (overpromise b.routes S ≤ℤ excess b xs) × (overpromise b.routes S ≡ excess b xs → Reached b xs S)
    by true i e bound some part = (
      omega (arith, ints, clamps),
      λ k. record { full = omega (arith, ints, clamps); over = omega (arith, ints, clamps); home = λ _. i },
    )
    by false i e bound some part = (
      omega (arith, ints, clamps),
      λ k. record { full = omega (arith, ints, clamps); over = omega (arith, ints, clamps); home = λ o. absurd (omega (arith, ints, clamps)) },
    )

-- The places out of balance, and the ends, by their tests.

over_surplus : (i : Bool) (z : ℤ) → (i && lt_z z (pos 0)) ≡ true → pos 0 <ℤ cond (i && lt_z z (pos 0)) (neg_ℤ z) (pos 0)
over_surplus i z e = grind (arith, ints)

at_ends : (b : Board) (S : Region) (v : ℕ) → Together b S → ends b v ≡ true → S b.shape.home ≡ true → S v ≡ true
at_ends b S v t e h = grind (arith, nat_tests)

-- What an origin is.
by_origin : {P : Type 0} (b : Board) (xs : List ℤ) (v : ℕ) → (over b xs v ≡ true → P) → (ends_over b xs ≡ true → ends b v ≡ true → P)
    → origins b xs v ≡ true → P
by_origin b xs v f g o =
    ⊎_elim f (λ k. let e = and_parts (ends_over b xs) (ends b v) k in g e.0 e.1) (or_cases (over b xs v) (ends_over b xs && ends b v) o)

-- A region that reaches the excess has all origins.
has_origins : (b : Board) (xs : List ℤ) (S : Region) → Together b S → Reached b xs S → Inside b (origins b xs) S
has_origins b xs S t r v l =
    by_origin b xs v
    (λ k. sum_in_has b.shape.places S (surplus_at b xs) (surplus_least b xs) r.over v l (over_surplus (inner b v) (net b.routes xs v) k))
    (λ o e. at_ends b S v t e (r.home o))

-- What is known of the region that residual steps reach from the origins.
record Ours (b : Board) (xs : List ℤ) (R : Region) : Type 0 where
  home : R b.shape.home ≡ ends_over b xs
  port : R b.shape.port ≡ ends_over b xs
  short : (v : ℕ) → v < b.shape.places → R v ≡ true → shortage_at b xs v ≡ pos 0

closed_union : (b : Board) (xs : List ℤ) (U V : Region) → Closed b.routes xs U → Closed b.routes xs V → Closed b.routes xs (λ v. U v || V v)
closed_union b xs U V c d u v s i =
    ⊎_elim (λ k. or_left (U v) (V v) (c u v s k)) (λ k. or_right (U v) (V v) (d u v s k)) (or_cases (U u) (V u) i)

-- Where the surplus is no less: it lies inside the region that blocks the surplus.
ours_below : (b : Board) (xs : List ℤ) (U R : Region) → Network b → Blocks b xs (over b xs) U → U b.shape.home ≡ false → U b.shape.port ≡ false
    → Reach b xs (origins b xs) R → ends_over b xs ≡ false → Ours b xs R
ours_below b xs U R w k h p r e =
    record {
      home = out b.shape.home w.home h ∙ sym e;
      port = out b.shape.port w.port p ∙ sym e;
      short = λ v l i. k.short v l (lies v l i);
    }
  where
    lies : Inside b R U
    lies = r.least U k.closed (λ v l. by_origin b xs v (k.has v l) (λ o _. absurd (both_ways (ends_over b xs) e o)))

    out : (v : ℕ) → v < b.shape.places → U v ≡ false → R v ≡ false
    out v l i = let f = lies v l in grind arith

-- Where the shortage is greater: it has home and port, and lies inside the union of the two regions that block.
ours_above : (b : Board) (xs : List ℤ) (U V R : Region) → Network b → Blocks b xs (over b xs) U → Blocks b xs (ends b) V
    → Reach b xs (origins b xs) R → ends_over b xs ≡ true → Ours b xs R
ours_above b xs U V R w k m r e =
    record {
      home = r.has b.shape.home w.home (end b.shape.home (grind (arith, nat_tests))) ∙ sym e;
      port = r.has b.shape.port w.port (end b.shape.port (grind (arith, nat_tests))) ∙ sym e;
      short = λ v l i. ⊎_elim (k.short v l) (m.short v l) (or_cases (U v) (V v) (lies v l i));
    }
  where
    lies : Inside b R (λ v. U v || V v)
    lies =
        r.least (λ v. U v || V v) (closed_union b xs U V k.closed m.closed)
        (λ v l. by_origin b xs v (λ o. or_left (U v) (V v) (k.has v l o)) (λ _ o. or_right (U v) (V v) (m.has v l o)))

    end : (v : ℕ) → ends b v ≡ true → origins b xs v ≡ true
    end v i = or_right (over b xs v) (ends_over b xs && ends b v) (and_from (ends_over b xs) (ends b v) e i)

-- It holds the whole surplus and no shortage, so it is overpromised by the excess.
ours_over : (b : Board) (xs : List ℤ) (R : Region) → Network b → Within b.routes xs → Reach b xs (origins b xs) R → Ours b xs R
    → overpromise b.routes R ≡ excess b xs
ours_over b xs R w h r o =
    let full = closed_is_full b.routes xs R h r.closed in
    let e = together_through b xs R w (o.home ∙ sym o.port) in
    by (R b.shape.home) (sym o.home) e full none whole
  where
    n : ℕ
    n = b.shape.places

    none : held_short b xs R ≡ pos 0
    none = sum_in_same n R (shortage_at b xs) (λ v. pos 0) o.short ∙ sum_in_zero n R

    left_out : (v : ℕ) (t : Bool) → (t ≡ true → R v ≡ true) → R v ≡ false → cond t (neg_ℤ (net b.routes xs v)) (pos 0) ≡ pos 0
    left_out v t f i = grind arith

    whole : held_over b xs R ≡ surplus b xs
    whole =
        sum_in_whole n R (surplus_at b xs)
        (λ v l i. left_out v (over b xs v) (λ k. r.has v l (or_left (over b xs v) (ends_over b xs && ends b v) k)) i)

    by : (s : Bool) → ends_over b xs ≡ s
        → through b.routes xs R ≡ cond s (surplus b xs -ℤ shortage b xs) (pos 0) +ℤ (held_short b xs R -ℤ held_over b xs R)
        → through b.routes xs R ≡ width b.routes R
        → held_short b xs R ≡ pos 0 → held_over b xs R ≡ surplus b xs
        → overpromise b.routes R ≡ excess b xs
    by true i e f a c = omega (arith, ints, clamps)
    by false i e f a c = omega (arith, ints, clamps)

-- So it is the most overpromised region, and no flow exists.
ours_right : (b : Board) (xs : List ℤ) (R : Region) → Network b → Within b.routes xs → Reach b xs (origins b xs) R → Ours b xs R
    → pos 0 <ℤ excess b xs → RightAnswer b (Overpromised (excess b xs) R)
ours_right b xs R w h r o above =
    let t = o.home ∙ sym o.port in
    let e = ours_over b xs R w h r o in (
      λ ys fl. let n = none_overpromised b ys R w fl t in absurd (omega (arith, ints)),
      above,
      record {
        together = t;
        over = e;
        most = λ S u. (at_most b xs S w h u).0;
        inside = λ S u k.
            let g = (at_most b xs S w h u).1 k in
            r.least S (full_is_closed b.routes xs S h g.full) (has_origins b xs S u g);
      },
    )

pub excess_is_right : ExcessIsRight
excess_is_right b xs U V R w h k uh up m r above =
    ours_right b xs R w h r
    (⊎_elim (ours_above b xs U V R w k m r) (ours_below b xs U R w k uh up r) (cases_Bool (ends_over b xs)))
    above

pub even_is_flow : EvenIsFlow
even_is_flow b xs h s t =
    record {
      within = h;
      balanced = λ v l i j.
          let a = sum_in_even b.shape.places (surplus_at b xs) (surplus_least b xs) s v l in
          let c = sum_in_even b.shape.places (shortage_at b xs) (shortage_least b xs) t v l in
          sym (cond-true (inner b v) (net b.routes xs v) (pos 0) (grind (arith, nat_tests)))
          ∙ two_kinds (inner b v) (net b.routes xs v)
          ∙ ap₂ ◌-ℤ◌ c a;
    }
