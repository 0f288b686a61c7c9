-- Sums over routes and over places.
use Rattle.std.proofs.Common.{◌≡◌, ℕ, zero, suc, ◌<◌, ◌≤◌, Bool, true, false, cond, not, ◌&&◌, eqb, List, [], ◌∷◌, ℤ, pos, ◌+ℤ◌, ◌-ℤ◌, ◌≤ℤ◌, ◌<ℤ◌, refl, ap, ◌∙◌, ap₂, ⊎_elim, arith}
use Rattle.std.proofs.lemmas.Int.{ints}
use Rattle.std.proofs.lemmas.Bool.{eq-eqb, ne_eqb, cases_eq}
use Rattle.std.proofs.lemmas.Bool.Decides.{nat_tests}
use Rattle.std.proofs.ByRecursion.{All-weaker}
use Rattle.std.specs.List.{AllByRecursion}
use Rattle.board.specs.declared.route.Route.{Route}
use Rattle.flow.specs.Flow.{Joins}
use Rattle.flow.specs.Regions.{Region, leaves, enters, marks, width}
use Rattle.flow.specs.Imbalance.{everywhere, sum_in}

-- What counts of a sum of two is what counts of each.
pub counted_plus : (t : Bool) (x y : ℤ) → cond t (x +ℤ y) (pos 0) ≡ cond t x (pos 0) +ℤ cond t y (pos 0)
counted_plus t x y = grind (arith, ints)

-- Sums over the places of a region.

pub sum_in_plus : (n : ℕ) (R : Region) (f g : ℕ → ℤ) → sum_in n R (λ v. f v +ℤ g v) ≡ sum_in n R f +ℤ sum_in n R g
sum_in_plus zero R f g = refl
sum_in_plus (suc n) R f g =
    let e = sum_in_plus n R f g in let here = counted_plus (R n) (f n) (g n) in omega (arith, ints)

-- Functions that agree on the places of the region have the same sum.
pub sum_in_same : (n : ℕ) (R : Region) (f g : ℕ → ℤ) → ((v : ℕ) → v < n → R v ≡ true → f v ≡ g v) → sum_in n R f ≡ sum_in n R g
sum_in_same zero R f g h = refl
sum_in_same (suc n) R f g h =
    let here = h n (omega arith) in
    let e = sum_in_same n R f g (λ v l. h v (omega arith)) in
    grind (arith, ints)

pub sum_in_minus : (n : ℕ) (R : Region) (f g : ℕ → ℤ) → sum_in n R (λ v. f v -ℤ g v) ≡ sum_in n R f -ℤ sum_in n R g
sum_in_minus n R f g =
    let parts = sum_in_plus n R (λ v. f v -ℤ g v) g in
    let whole = sum_in_same n R (λ v. (f v -ℤ g v) +ℤ g v) f (λ v _ _. omega (arith, ints)) in
    omega (arith, ints)

-- A sum of zeros is 0.
pub sum_in_zero : (n : ℕ) (R : Region) → sum_in n R (λ v. pos 0) ≡ pos 0
sum_in_zero zero R = refl
sum_in_zero (suc n) R = let e = sum_in_zero n R in grind (arith, ints)

-- A function that is 0 at every place below n sums to 0 there.
sum_in_apart : (n h : ℕ) (R : Region) (a : ℤ) → n ≤ h → sum_in n R (λ v. cond (eqb h v) a (pos 0)) ≡ pos 0
sum_in_apart n h R a l =
    sum_in_same n R (λ v. cond (eqb h v) a (pos 0)) (λ v. pos 0) (λ v k _. grind (arith, nat_tests)) ∙ sum_in_zero n R

-- A function that is 0 but at one place sums to its value there, if the place is in the region.
pub sum_in_at : (n h : ℕ) (R : Region) (a : ℤ) → h < n → sum_in n R (λ v. cond (eqb h v) a (pos 0)) ≡ cond (R h) a (pos 0)
sum_in_at zero h R a l = absurd (omega arith)
sum_in_at (suc n) h R a l =
    ⊎_elim
    (λ e. let z = sum_in_apart n h R a (omega arith) in let t = eq-eqb h n e in let r = ap R e in grind (arith, ints))
    (λ k. let z = sum_in_at n h R a (omega arith) in let t = ne_eqb h n k in grind (arith, ints))
    (cases_eq h n)

-- Sums of numbers that are not negative.

pub sum_in_least : (n : ℕ) (R : Region) (f : ℕ → ℤ) → ((v : ℕ) → pos 0 ≤ℤ f v) → pos 0 ≤ℤ sum_in n R f
sum_in_least zero R f h = omega (arith, ints)
sum_in_least (suc n) R f h = let a = h n in let e = sum_in_least n R f h in grind (arith, ints)

pub sum_in_most : (n : ℕ) (R : Region) (f : ℕ → ℤ) → ((v : ℕ) → pos 0 ≤ℤ f v) → sum_in n R f ≤ℤ sum_in n everywhere f
sum_in_most zero R f h = omega (arith, ints)
sum_in_most (suc n) R f h = let a = h n in let e = sum_in_most n R f h in grind (arith, ints)

-- A region that leaves out only zeros has the whole sum.
pub sum_in_whole : (n : ℕ) (R : Region) (f : ℕ → ℤ) → ((v : ℕ) → v < n → R v ≡ false → f v ≡ pos 0) → sum_in n R f ≡ sum_in n everywhere f
sum_in_whole zero R f h = refl
sum_in_whole (suc n) R f h = let a = h n (omega arith) in let e = sum_in_whole n R f (λ v l. h v (omega arith)) in grind (arith, ints)

-- A region with the whole sum has every place that adds to it.
pub sum_in_has : (n : ℕ) (R : Region) (f : ℕ → ℤ) → ((v : ℕ) → pos 0 ≤ℤ f v) → sum_in n R f ≡ sum_in n everywhere f
    → (v : ℕ) → v < n → pos 0 <ℤ f v → R v ≡ true
sum_in_has zero R f h e v l k = absurd (omega arith)
sum_in_has (suc n) R f h e v l k =
    let a = h n in
    let c = sum_in_most n R f h in
    ⊎_elim (λ i. let p = ap R i in let q = ap f i in grind (arith, ints))
    (λ i. sum_in_has n R f h (grind (arith, ints)) v (omega arith) k)
    (cases_eq v n)

-- Numbers that are not negative and sum to 0 are all 0.
pub sum_in_even : (n : ℕ) (f : ℕ → ℤ) → ((v : ℕ) → pos 0 ≤ℤ f v) → sum_in n everywhere f ≡ pos 0 → (v : ℕ) → v < n → f v ≡ pos 0
sum_in_even zero f h e v l = absurd (omega arith)
sum_in_even (suc n) f h e v l =
    let a = h n in
    let c = sum_in_least n everywhere f h in
    ⊎_elim (λ i. ap f i ∙ omega (arith, ints)) (λ i. sum_in_even n f h (omega (arith, ints)) v (omega arith)) (cases_eq v n)

-- Regions that agree on the places of a board are the same region.

pub marks_same : (m : Route → ℤ) (p q : Route → Bool) (rs : List Route) → AllByRecursion (λ r. p r ≡ q r) rs → marks m p rs ≡ marks m q rs
marks_same m p q [] h = refl
marks_same m p q (r ∷ rs) h =
    ap₂ (λ (t : Bool) (y : ℤ). cond t (m r) (pos 0) +ℤ y) h.0 (marks_same m p q rs h.1)

pub leaves_same : (n : ℕ) (R S : Region) (r : Route) → ((v : ℕ) → v < n → R v ≡ S v) → Joins n r → leaves R r ≡ leaves S r
leaves_same n R S r h j = ap₂ (λ (s t : Bool). s && not t) (h r.start j.start) (h r.end j.end)

pub enters_same : (n : ℕ) (R S : Region) (r : Route) → ((v : ℕ) → v < n → R v ≡ S v) → Joins n r → enters R r ≡ enters S r
enters_same n R S r h j = ap₂ (λ (s t : Bool). not s && t) (h r.start j.start) (h r.end j.end)

pub width_same : (n : ℕ) (rs : List Route) (R S : Region) → AllByRecursion (Joins n) rs → ((v : ℕ) → v < n → R v ≡ S v) → width rs R ≡ width rs S
width_same n rs R S js h =
    ap₂ (λ (x y : ℤ). x -ℤ y)
    (marks_same (λ r. r.ceiling) (leaves R) (leaves S) rs (All-weaker (Joins n) _ (λ r j. leaves_same n R S r h j) rs js))
    (marks_same (λ r. r.floor) (enters R) (enters S) rs (All-weaker (Joins n) _ (λ r j. enters_same n R S r h j) rs js))
