-- The way on from a place by one route.
use Rattle.std.proofs.Common.{◌≡◌, ℕ, ◌<◌, Some, ℤ, ◌-ℤ◌, to_z, of_z, w32, refl, arith}
use Rattle.std.proofs.lemmas.Bool.{eq-eqb, ne_eqb}
use Rattle.std.proofs.lemmas.Int.{to_z-of_z, fits_signed_from_abs, ints}
use Rattle.board.specs.Board.{Shape, ValidRoute}
use Rattle.board.specs.declared.route.Route.{Route}
use Rattle.labelling.specs.declared.label.Via.TheVariants.{Along, Against}
use Rattle.labelling.specs.declared.label.Via.{Via}
use Rattle.labelling.specs.declared.way.Way.{Way}
use Rattle.labelling.specs.Ways.{Holds, opened, way_on}

-- A route that starts at the place leads on along it.
pub along : (p k : ℕ) (r : Route) (x d : ℤ) → r.start ≡ p → d ≡ r.ceiling -ℤ x → opened r.end (Along k) d ≡ way_on p k r x
along p k r x d s m = rw (eq-eqb r.start p s, m) refl

-- A route that ends at the place leads on against it.
pub against : (p k : ℕ) (r : Route) (x d : ℤ) → (r.start ≡ p → ⊥) → r.end ≡ p → d ≡ x -ℤ r.floor
    → opened r.start (Against k) d ≡ way_on p k r x
against p k r x d s e m = rw (ne_eqb r.start p s, eq-eqb r.end p e, m) refl

-- A way leads to a place of the frame.
opened_inside : (n v : ℕ) (via : Via) (d : ℤ) (w : Way) → v < n → Some w ≡ opened v via d → w.place < n
opened_inside n v via d w h e = grind arith

pub way_inside : (s : Shape) (p k : ℕ) (r : Route) (x : ℤ) (w : Way) → ValidRoute s r → Some w ≡ way_on p k r x → w.place < s.places
way_inside s p k r x w v e = grind (arith, v.start_inside, v.end_inside, opened_inside s.places)

-- A share within the marks of a route fits in 32 bits.
pub share_fits : (s : Shape) (r : Route) (x : ℤ) → ValidRoute s r → Holds r x → to_z w32 (of_z w32 x) ≡ x
share_fits s r x v h = to_z-of_z w32 x (fits_signed_from_abs w32 x (grind (arith, ints, v.floor_low, v.ceiling_high, h.low, h.high)))
