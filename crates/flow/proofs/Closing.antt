-- A region is closed exactly where as much goes through it as its marks allow.
use Rattle.std.proofs.Common.{◌≡◌, Bool, true, cond, ◌⊎◌, List, [], ◌∷◌, ℤ, pos, ◌+ℤ◌, ◌-ℤ◌, ◌≤ℤ◌, ◌<ℤ◌, sym, refl, ◌∙◌, ap₂, inl, inr, arith}
use Rattle.std.proofs.lemmas.Int.{ints}
use Rattle.board.specs.declared.route.Route.{Route}
use Rattle.flow.proofs.Bounds.{carried_at_most, carried_at_least, nets_sum}
use Rattle.flow.proofs.Sums.{sum_in_same}
use Rattle.flow.specs.Flow.{carried, net, Within}
use Rattle.flow.specs.Laws.{ClosedIsFull, FullIsClosed, StaysClosed}
use Rattle.flow.specs.Regions.{Region, leaves, enters, marks, ceilings, floors}
use Rattle.flow.specs.Residual.{StepBy, Along, Against, Step, Closed}

-- The two things that a closed region says of one route with its share.
record Shut (R : Region) (r : Route) (x : ℤ) : Type 0 where
  along : R r.start ≡ true → x <ℤ r.ceiling → R r.end ≡ true
  against : R r.end ≡ true → r.floor <ℤ x → R r.start ≡ true

shut_first : (R : Region) (r : Route) (rs : List Route) (x : ℤ) (xs : List ℤ) → Closed (r ∷ rs) (x ∷ xs) R → Shut R r x
shut_first R r rs x xs c =
    record {
      along = λ i l. c r.start r.end (inl (Along refl refl l)) i;
      against = λ i l. c r.end r.start (inl (Against refl refl l)) i;
    }

shut_later : (R : Region) (r : Route) (rs : List Route) (x : ℤ) (xs : List ℤ) → Closed (r ∷ rs) (x ∷ xs) R → Closed rs xs R
shut_later R r rs x xs c = λ u v s. c u v (inr s)

-- A sum of shares is a sum of marks, where the mark is the share of each route that counts.
full_by : (R : Region) (p : Route → Bool) (m : Route → ℤ)
    → ((r : Route) (x : ℤ) → r.floor ≤ℤ x → x ≤ℤ r.ceiling → Shut R r x → cond (p r) x (pos 0) ≡ cond (p r) (m r) (pos 0))
    → (rs : List Route) (xs : List ℤ) → Within rs xs → Closed rs xs R → carried p rs xs ≡ marks m p rs
full_by R p m one [] [] h c = refl
full_by R p m one [] (x ∷ xs) h c = absurd h
full_by R p m one (r ∷ rs) [] h c = absurd h
full_by R p m one (r ∷ rs) (x ∷ xs) h c =
    ap₂ ◌+ℤ◌ (one r x h.0 h.1 (shut_first R r rs x xs c)) (full_by R p m one rs xs h.2 (shut_later R r rs x xs c))

-- A route that leaves a closed region is at its ceiling, one that enters it at its floor.
pub closed_is_full : ClosedIsFull
closed_is_full rs xs R h c =
    ap₂ ◌-ℤ◌
    (full_by R (leaves R) (λ r. r.ceiling) (λ r x low high k. grind (arith, ints)) rs xs h c)
    (full_by R (enters R) (λ r. r.floor) (λ r x low high k. grind (arith, ints)) rs xs h c)

-- Where a sum reaches its bound, each part does.
parts_reached : (t : Bool) (x y a c : ℤ) → x ≤ℤ y → a ≤ℤ c → cond t x (pos 0) +ℤ a ≡ cond t y (pos 0) +ℤ c
    → (cond t x (pos 0) ≡ cond t y (pos 0)) × (a ≡ c)
parts_reached t x y a c h k e = (grind (arith, ints), grind (arith, ints))

stays : (R : Region) (rs : List Route) (xs : List ℤ) → Within rs xs
    → carried (leaves R) rs xs ≡ ceilings (leaves R) rs → floors (enters R) rs ≡ carried (enters R) rs xs
    → Closed rs xs R
stays R [] xs h e f u v s i = absurd s
stays R (r ∷ rs) [] h e f u v s i = absurd s
stays R (r ∷ rs) (x ∷ xs) h e f u v s i =
    let out = parts_reached (leaves R r) x r.ceiling (carried (leaves R) rs xs) (ceilings (leaves R) rs) h.1 (carried_at_most (leaves R) rs xs h.2) e in
    let into = parts_reached (enters R r) r.floor x (floors (enters R) rs) (carried (enters R) rs xs) h.0 (carried_at_least (enters R) rs xs h.2) f in
    step out.0 into.0 s (λ k. stays R rs xs h.2 out.1 into.1 u v k i)
  where
    step : cond (leaves R r) x (pos 0) ≡ cond (leaves R r) r.ceiling (pos 0)
        → cond (enters R r) r.floor (pos 0) ≡ cond (enters R r) x (pos 0)
        → StepBy r x u v ⊎ Step rs xs u v → (Step rs xs u v → R v ≡ true) → R v ≡ true
    step o n (inl (Along a b l)) later = grind (arith, ints)
    step o n (inl (Against a b l)) later = grind (arith, ints)
    step o n (inr k) later = later k

pub full_is_closed : FullIsClosed
full_is_closed rs xs R h e =
    let a = carried_at_most (leaves R) rs xs h in
    let c = carried_at_least (enters R) rs xs h in
    stays R rs xs h (omega (arith, ints)) (omega (arith, ints))

pub stays_closed : StaysClosed
stays_closed b xs ys R w hx hy c same =
    let n = b.shape.places in
    let rs = b.routes in
    full_is_closed rs ys R hy
    (sym (nets_sum n rs ys R w.routes) ∙ sum_in_same n R (net rs ys) (net rs xs) same ∙ nets_sum n rs xs R w.routes ∙ closed_is_full rs xs R hx c)
