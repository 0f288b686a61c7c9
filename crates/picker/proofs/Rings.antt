-- Places in a ring: one more at its end, one less at its start or at its end.
use Rattle.std.proofs.Common.{◌≡◌, ℕ, zero, suc, ◌+◌, ◌-◌, ◌%◌, ◌<◌, List, [], ◌∷◌, ◌++◌, length, get_or, set, reverse, refl, ap, ◌∙◌, add-one, arith}
use Rattle.std.proofs.lemmas.List.{get_or-set_same, get_or-set_other, reverse-append}
use Rattle.picker.specs.Rows.{ring}

pub length_ring : (xs : List ℕ) (i n : ℕ) → length (ring xs i n) ≡ n
unfolding ring
length_ring xs i zero = refl
length_ring xs i (suc n) = ap suc (length_ring xs (suc i) n)

-- where a ring begins counts only up to whole turns
ring_turned : (xs : List ℕ) (i j n : ℕ) → i % 128 ≡ j % 128 → ring xs i n ≡ ring xs j n
unfolding ring
ring_turned xs i j zero e = refl
ring_turned xs i j (suc n) e =
    let first = ap (λ k. get_or xs k 0) e in
    let rest = ring_turned xs (suc i) (suc j) n (omega arith) in
    cc

joins : (xs : List ℕ) (i n k p : ℕ) → length xs ≡ 128 → n < 128 → k ≡ (i + n) % 128 → ring (set xs k p) i (suc n) ≡ ring xs i n ++ p ∷ []
unfolding ring
joins xs i zero k p long h e =
    let at : i % 128 ≡ k = omega arith in
    let read = get_or-set_same xs k p 0 (omega arith) in
    rw at (ap (λ x. x ∷ []) read)
joins xs i (suc n) k p long h e =
    let read = get_or-set_other xs k (i % 128) p 0 (omega arith) in
    let rest = joins xs (suc i) n k p long (omega arith) (omega arith) in
    cc

-- a place written after the last joins at the end
pub ring_put : (xs : List ℕ) (i n p : ℕ) → length xs ≡ 128 → n < 128 → ring (set xs ((i + n) % 128) p) i (n + 1) ≡ ring xs i n ++ p ∷ []
ring_put xs i n p long h = ap (ring _ i) (add-one n) ∙ joins xs i n _ p long h refl

-- the first leaves
pub ring_first : (xs : List ℕ) (i n : ℕ) → i < 128 → 0 < n → ring xs i n ≡ get_or xs i 0 ∷ ring xs ((i + 1) % 128) (n - 1)
unfolding ring
ring_first xs i zero h s = absurd (omega arith)
ring_first xs i (suc n) h s =
    let at : i % 128 ≡ i = omega arith in
    let read = ap (λ k. get_or xs k 0) at in
    let rest = ring_turned xs (suc i) ((i + 1) % 128) n (omega arith) in
    let less : suc n - 1 ≡ n = omega arith in
    cc

-- the last
ends : (xs : List ℕ) (i n : ℕ) → ring xs i (suc n) ≡ ring xs i n ++ get_or xs ((i + n) % 128) 0 ∷ []
unfolding ring
ends xs i zero = let at : i + 0 ≡ i = omega arith in cc
ends xs i (suc n) =
    let rest = ends xs (suc i) n in
    let at : suc i + n ≡ i + suc n = omega arith in
    cc

-- the last leaves
pub ring_last : (xs : List ℕ) (i n : ℕ) → 0 < n
    → reverse (ring xs i n) ≡ get_or xs ((i + (n - 1)) % 128) 0 ∷ reverse (ring xs i (n - 1))
ring_last xs i zero s = absurd (omega arith)
ring_last xs i (suc n) s =
    let less : suc n - 1 ≡ n = omega arith in
    rw less (ap reverse (ends xs i n) ∙ reverse-append (ring xs i n) (get_or xs ((i + n) % 128) 0 ∷ []))
