-- The bits of bytes, in parts.
use Rattle.std.proofs.Common.{◌≡◌, ℕ, zero, suc, ◌+◌, ◌*◌, ◌≤◌, List, [], ◌∷◌, ◌++◌, length, take, drop, sym, refl, ap, ◌∙◌, arith}
use lib.Seq.{drop-append-add, drop-nil}
use Rattle.std.proofs.lemmas.List.{append_assoc, length-take-le, take-append-drop, take_at}
use Rattle.bits.specs.Bits.{digits, bits_of}
use Rattle.bits.proofs.Bits.{length_digits, length_bits_of}

pub bits_of_append : (xs ys : List ℕ) → bits_of (xs ++ ys) ≡ bits_of xs ++ bits_of ys
unfolding bits_of
bits_of_append [] ys = refl
bits_of_append (x ∷ xs) ys =
    ap (λ (l : List ℕ). digits 8 x ++ l) (bits_of_append xs ys) ∙ sym (append_assoc (digits 8 x) (bits_of xs) (bits_of ys))

pub bits_of_drop : (n : ℕ) (bs : List ℕ) → bits_of (drop n bs) ≡ drop (8 * n) (bits_of bs)
unfolding bits_of
bits_of_drop zero bs = refl
bits_of_drop (suc n) [] = sym (drop-nil (8 * suc n))
bits_of_drop (suc n) (b ∷ bs) =
    let e : 8 * suc n ≡ length (digits 8 b) + 8 * n = omega (arith, length_digits 8 b) in
    rw e (bits_of_drop n bs ∙ sym (drop-append-add (digits 8 b) (bits_of bs) (8 * n)))

pub bits_of_take : (n : ℕ) (bs : List ℕ) → n ≤ length bs → bits_of (take n bs) ≡ take (8 * n) (bits_of bs)
bits_of_take n bs h =
    let e = bits_of_append (take n bs) (drop n bs) in
    let s = take-append-drop n bs in
    let l : length (bits_of (take n bs)) ≡ 8 * n = omega (arith, length_bits_of (take n bs), length-take-le n bs h) in
    let t = take_at (bits_of (take n bs)) (bits_of (drop n bs)) (8 * n) l in
    sym (ap (λ (l : List ℕ). take (8 * n) (bits_of l)) (sym s) ∙ ap (take (8 * n)) e ∙ t)
