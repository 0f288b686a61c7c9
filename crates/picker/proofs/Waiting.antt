-- How many places wait, when one of them waits once more or once less.
use Rattle.std.proofs.Common.{◌≡◌, ℕ, zero, suc, ◌+◌, ◌<◌, ◌≤◌, sym, refl, ap, ◌∙◌, arith}
use Rattle.picker.specs.Meaning.{Waits, nowhere, more, less, waiting_below}

pub waiting_nowhere : (n : ℕ) → waiting_below n nowhere ≡ 0
unfolding waiting_below
waiting_nowhere zero = refl
waiting_nowhere (suc n) = omega (arith, waiting_nowhere n)

-- a place that is not counted
more_above : (n p : ℕ) (w : Waits) → n ≤ p → waiting_below n (more p w) ≡ waiting_below n w
unfolding waiting_below
more_above zero p w h = refl
more_above (suc n) p w h = grind (arith, more_above n p w)

pub waiting_more : (n p : ℕ) (w : Waits) → p < n → waiting_below n (more p w) ≡ waiting_below n w + 1
unfolding waiting_below
waiting_more zero p w h = grind arith
waiting_more (suc n) p w h = grind (arith, more_above n p w, waiting_more n p w)

-- what waits once less and then once more waits as often as before
restored : (p v : ℕ) (w : Waits) → 0 < w p → more p (less p w) v ≡ w v
restored p v w h = grind arith

pub waiting_less : (n p : ℕ) (w : Waits) → p < n → 0 < w p → waiting_below n (less p w) + 1 ≡ waiting_below n w
waiting_less n p w h s = sym (waiting_more n p (less p w) h) ∙ ap (waiting_below n) (λ i v. restored p v w s i)

-- a place waits at most as often as all do
pub waits_within : (n v : ℕ) (w : Waits) → v < n → w v ≤ waiting_below n w
unfolding waiting_below
waits_within zero v w h = grind arith
waits_within (suc n) v w h = grind (arith, waits_within n v w)
