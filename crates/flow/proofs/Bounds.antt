-- Nets sum to what goes through a region, and what that bounds.
use Rattle.std.proofs.Common.{◌≡◌, ℕ, ◌<◌, Bool, false, cond, not, ◌&&◌, eqb, List, [], ◌∷◌, ℤ, pos, ◌+ℤ◌, ◌-ℤ◌, neg_ℤ, ◌≤ℤ◌, refl, ap, ◌∙◌, ap₂, arith}
use Rattle.std.proofs.ByRecursion.{All-weaker}
use Rattle.std.proofs.lemmas.Int.{ints}
use Rattle.std.proofs.lemmas.Bool.Decides.{nat_tests}
use Rattle.std.specs.List.{AllByRecursion}
use Rattle.board.specs.Board.{Board}
use Rattle.board.specs.declared.route.Route.{Route}
use Rattle.flow.proofs.Sums.{sum_in_plus, sum_in_minus, sum_in_same, sum_in_zero, sum_in_at}
use Rattle.flow.specs.Flow.{Network, Joins, carried, starts_at, ends_at, net, Within, Flow, delivery}
use Rattle.flow.specs.Imbalance.{everywhere, sum_in, inner}
use Rattle.flow.specs.Laws.{ValidIsNetwork, WidthBounds, NoneOverpromised, NetsSum, NetsCancel, Arrives}
use Rattle.flow.specs.Regions.{Region, leaves, enters, through, ceilings, floors, width, Separates, Together}

pub valid_is_network : ValidIsNetwork
valid_is_network b v =
    record {
      home = v.frame.home_inside;
      port = v.frame.port_inside;
      apart = v.frame.apart;
      routes = All-weaker _ (Joins b.shape.places) (λ r j. record { start = j.start_inside; end = j.end_inside }) b.routes v.each;
    }

-- The shares that start at (or end at) a place, summed over a region, are those whose start (or end) is in it.
sum_by : (e : Route → ℕ) (n : ℕ) (rs : List Route) (xs : List ℤ) (R : Region) → AllByRecursion (λ r. e r < n) rs
    → sum_in n R (λ v. carried (λ r. eqb (e r) v) rs xs) ≡ carried (λ r. R (e r)) rs xs
sum_by e n [] xs R js = sum_in_zero n R
sum_by e n (r ∷ rs) [] R js = sum_in_zero n R
sum_by e n (r ∷ rs) (x ∷ xs) R js =
    sum_in_plus n R (λ v. cond (eqb (e r) v) x (pos 0)) (λ v. carried (λ r. eqb (e r) v) rs xs)
    ∙ ap₂ ◌+ℤ◌ (sum_in_at n (e r) R x js.0) (sum_by e n rs xs R js.1)

-- A route with both ends in the region, or none, counts for nothing.

crosses : (s t : Bool) (x : ℤ) → cond s x (pos 0) -ℤ cond t x (pos 0) ≡ cond (s && not t) x (pos 0) -ℤ cond (not s && t) x (pos 0)
crosses s t x = grind (arith, ints)

crossing : (R : Region) (rs : List Route) (xs : List ℤ)
    → carried (λ r. R r.start) rs xs -ℤ carried (λ r. R r.end) rs xs ≡ through rs xs R
crossing R [] xs = refl
crossing R (r ∷ rs) [] = refl
crossing R (r ∷ rs) (x ∷ xs) =
    let e = crossing R rs xs in let here = crosses (R r.start) (R r.end) x in omega (arith, ints)

pub nets_sum : NetsSum
nets_sum n rs xs R js =
    sum_in_minus n R (λ v. carried (starts_at v) rs xs) (λ v. carried (ends_at v) rs xs)
    ∙ ap₂ ◌-ℤ◌
    (sum_by (λ r. r.start) n rs xs R (All-weaker _ _ (λ r j. j.start) rs js))
    (sum_by (λ r. r.end) n rs xs R (All-weaker _ _ (λ r j. j.end) rs js))
    ∙ crossing R rs xs

-- Nothing crosses the border of the whole.
uncrossed : (p : Route → Bool) (rs : List Route) (xs : List ℤ) → ((r : Route) → p r ≡ false) → carried p rs xs ≡ pos 0
uncrossed p [] xs h = refl
uncrossed p (r ∷ rs) [] h = refl
uncrossed p (r ∷ rs) (x ∷ xs) h =
    ap₂ (λ (t : Bool) (y : ℤ). cond t x (pos 0) +ℤ y) (h r) (uncrossed p rs xs h)

pub nets_cancel : NetsCancel
nets_cancel n rs xs js =
    nets_sum n rs xs everywhere js
    ∙ ap₂ ◌-ℤ◌ (uncrossed (leaves everywhere) rs xs (λ r. refl)) (uncrossed (enters everywhere) rs xs (λ r. refl))

-- A sum over a region, with the places of home and port taken out.
abbrev pub innerly : Board → (ℕ → ℤ) → ℕ → ℤ
innerly b f v = cond (inner b v) (f v) (pos 0)

-- At each place the value is that of home, that of port, or an inner one.
three_kinds : (h p v : ℕ) (f : ℕ → ℤ) → (p ≡ h → ⊥)
    → f v ≡ (cond (eqb h v) (f h) (pos 0) +ℤ cond (eqb p v) (f p) (pos 0)) +ℤ cond (not (eqb v h) && not (eqb v p)) (f v) (pos 0)
three_kinds h p v f k = grind (arith, nat_tests, ints)

pub ends_apart : (b : Board) (R : Region) (f : ℕ → ℤ) → Network b
    → sum_in b.shape.places R f
    ≡ (cond (R b.shape.home) (f b.shape.home) (pos 0) +ℤ cond (R b.shape.port) (f b.shape.port) (pos 0))
    +ℤ sum_in b.shape.places R (innerly b f)
ends_apart b R f w =
    let n = b.shape.places in
    let h = b.shape.home in
    let p = b.shape.port in
    let at_home = λ (v : ℕ). cond (eqb h v) (f h) (pos 0) in
    let at_port = λ (v : ℕ). cond (eqb p v) (f p) (pos 0) in
    sum_in_same n R f (λ v. (at_home v +ℤ at_port v) +ℤ innerly b f v) (λ v _ _. three_kinds h p v f w.apart)
    ∙ sum_in_plus n R (λ v. at_home v +ℤ at_port v) (innerly b f)
    ∙ ap (λ (y : ℤ). y +ℤ sum_in n R (innerly b f))
    (sum_in_plus n R at_home at_port ∙ ap₂ ◌+ℤ◌ (sum_in_at n h R (f h) w.home) (sum_in_at n p R (f p) w.port))

-- In a flow the inner places count for nothing.
pub flow_through : (b : Board) (xs : List ℤ) (R : Region) → Network b → Flow b xs
    → through b.routes xs R
    ≡ cond (R b.shape.home) (net b.routes xs b.shape.home) (pos 0) +ℤ cond (R b.shape.port) (net b.routes xs b.shape.port) (pos 0)
flow_through b xs R w fl =
    let n = b.shape.places in
    let f = net b.routes xs in
    let zero_inside : sum_in n R (innerly b f) ≡ pos 0 =
    sum_in_same n R (innerly b f) (λ v. pos 0) (λ v l _. let k = fl.balanced v l in grind (arith, nat_tests)) ∙ sum_in_zero n R
    in
    let parts = ends_apart b R f w in
    let whole = nets_sum n b.routes xs R w.routes in
    omega (arith, ints)

-- In a flow the nets of home and port cancel.
pub ends_cancel : (b : Board) (xs : List ℤ) → Network b → Flow b xs
    → net b.routes xs b.shape.port ≡ neg_ℤ (delivery b xs)
ends_cancel b xs w fl =
    let a = flow_through b xs everywhere w fl in
    let z = nets_sum b.shape.places b.routes xs everywhere w.routes in
    let c = nets_cancel b.shape.places b.routes xs w.routes in
    omega (arith, ints)

pub arrives : Arrives
arrives b xs d w = (
  λ fl e. record { within = fl.within; home = e; port = ends_cancel b xs w fl ∙ ap neg_ℤ e; others = fl.balanced },
  λ f. (record { within = f.within; balanced = f.others }, f.home),
)

-- Shares within the marks carry no more than the ceilings, and no less than the floors.

pub carried_at_most : (p : Route → Bool) (rs : List Route) (xs : List ℤ) → Within rs xs → carried p rs xs ≤ℤ ceilings p rs
carried_at_most p [] [] h = omega (arith, ints)
carried_at_most p [] (x ∷ xs) h = absurd h
carried_at_most p (r ∷ rs) [] h = absurd h
carried_at_most p (r ∷ rs) (x ∷ xs) h =
    let e = carried_at_most p rs xs h.2 in grind (arith, ints)

pub carried_at_least : (p : Route → Bool) (rs : List Route) (xs : List ℤ) → Within rs xs → floors p rs ≤ℤ carried p rs xs
carried_at_least p [] [] h = omega (arith, ints)
carried_at_least p [] (x ∷ xs) h = absurd h
carried_at_least p (r ∷ rs) [] h = absurd h
carried_at_least p (r ∷ rs) (x ∷ xs) h =
    let e = carried_at_least p rs xs h.2 in grind (arith, ints)

-- No more goes through a region than its ceilings leaving minus its floors entering.
pub through_at_most : (rs : List Route) (xs : List ℤ) (R : Region) → Within rs xs → through rs xs R ≤ℤ width rs R
through_at_most rs xs R h =
    let a = carried_at_most (leaves R) rs xs h in
    let c = carried_at_least (enters R) rs xs h in
    omega (arith, ints)

-- What a flow sends through a region with home and without port is its delivery.
pub delivery_through : (b : Board) (xs : List ℤ) (R : Region) → Network b → Flow b xs → Separates b R
    → through b.routes xs R ≡ delivery b xs
delivery_through b xs R w fl s =
    let e = flow_through b xs R w fl in
    let x = delivery b xs in
    let y = net b.routes xs b.shape.port in
    let k = s.home in
    let l = s.port in
    grind (arith, ints)

-- Of two numbers either both count or neither does.
pub both_ends : (x y z : ℤ) (s t : Bool) → s ≡ t → x +ℤ y ≡ z → cond s x (pos 0) +ℤ cond t y (pos 0) ≡ cond s z (pos 0)
both_ends x y z s t e k = grind (arith, ints)

-- What a flow sends through a region with both ends or neither is nothing.
pub nothing_through : (b : Board) (xs : List ℤ) (R : Region) → Network b → Flow b xs → Together b R
    → through b.routes xs R ≡ pos 0
nothing_through b xs R w fl s =
    let c = ends_cancel b xs w fl in
    flow_through b xs R w fl
    ∙ both_ends (delivery b xs) (net b.routes xs b.shape.port) (pos 0) (R b.shape.home) (R b.shape.port) s (omega (arith, ints))
    ∙ grind arith

pub width_bounds : WidthBounds
width_bounds b xs R w fl s =
    let e = delivery_through b xs R w fl s in
    let l = through_at_most b.routes xs R fl.within in
    omega (arith, ints)

pub none_overpromised : NoneOverpromised
none_overpromised b xs R w fl s =
    let e = nothing_through b xs R w fl s in
    let l = through_at_most b.routes xs R fl.within in
    omega (arith, ints)
