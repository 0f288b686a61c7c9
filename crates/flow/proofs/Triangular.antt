-- The rule of the pay table, proved at all of its entries by one test that is computed.
use Rattle.std.proofs.Common.{◌≡◌, ℕ, zero, suc, ◌+◌, ◌<◌, Bool, true, false, cond, ◌&&◌, eqb, leb, List, [], ◌∷◌, length, get_or, ℤ, pos, negsuc, nat_abs, refl, ap, ◌∙◌, arith}
use Rattle.std.proofs.lemmas.Int.{ints, clamps}
use Rattle.std.specs.Int.{int_max, int_min}
use Rattle.std.proofs.lemmas.Bool.{and_parts, eqb-true, leb-true, leb-false}
use Rattle.flow.specs.Pay.{up_to, pay_for}

-- Whether each entry is the sum of the whole numbers up to its place, the first of them at place i.
abbrev pub triangular : ℕ → List ℕ → Bool
triangular i [] = true
triangular i (x ∷ xs) = eqb x (up_to i) && triangular (suc i) xs

entry : (i : ℕ) (xs : List ℕ) (k j : ℕ) → triangular i xs ≡ true → k < length xs → i + k ≡ j → get_or xs k 0 ≡ up_to j
entry i [] k j t l e = absurd (omega arith)
entry i (x ∷ xs) zero j t l e = eqb-true x (up_to i) (and_parts (eqb x (up_to i)) (triangular (suc i) xs) t).0 ∙ ap up_to (omega arith)
entry i (x ∷ xs) (suc k) j t l e = entry (suc i) xs k j (and_parts (eqb x (up_to i)) (triangular (suc i) xs) t).1 (omega arith) (omega arith)

-- A delivery that is held between the ends of the track finds its pay there.
pub paid : (xs : List ℕ) (z y : ℤ) → triangular 0 xs ≡ true → length xs ≡ 41 → y ≡ int_max (pos 0) (int_min z (pos 40))
    → get_or xs (nat_abs y) 0 ≡ pay_for z
paid xs (negsuc d) y t n e = rw e (entry 0 xs 0 0 t (omega arith) refl)
paid xs (pos d) y t n e = by (leb d 40) refl
  where
    by : (s : Bool) → leb d 40 ≡ s → get_or xs (nat_abs y) 0 ≡ cond s (up_to d) 820
    by true l = let h = leb-true d 40 l in let at : y ≡ pos d = omega (arith, ints, clamps) in rw at (entry 0 xs d d t (omega arith) (omega arith))
    by false l = let h = leb-false d 40 l in let at : y ≡ pos 40 = omega (arith, ints, clamps) in rw at (entry 0 xs 40 40 t (omega arith) refl)
