-- The bits after the last record: those of a part of the last byte.
use Rattle.std.proofs.Common.{◌≡◌, ℕ, zero, suc, ◌+◌, ◌-◌, ◌*◌, ◌/◌, ◌%◌, ◌^◌, ◌<◌, ◌≤◌, Bool, true, false, cond, ◌&&◌, eqb, ltb, List, [], ◌∷◌, length, get_or, drop, Some, None, Option, sym, refl, ap, ◌∙◌, ap₂, ⊎_elim, pow-suc, arith, pow_mono}
use native.Mathlib.Nat.{zero-div, zero-mod, div-eq_of_lt, div-eq_of_lt-le}
use lib.Count.{count_leading_zeros}
use Rattle.std.proofs.lemmas.Nat.{pow_pos, leading_top, mod_below}
use Rattle.std.proofs.lemmas.List.{append-nil, drop_all, drop_at, drop-drop, drop_more}
use Rattle.std.proofs.lemmas.Bool.{cases_lt, le-ltb, lt-ltb}
use Rattle.board.specs.Questions.{first_no}
use Rattle.bits.proofs.Bits.{length_digits, length_bits_of, digits_append, digits_mod}
use Rattle.bits.proofs.Bytes.{bits_of_drop}
use Rattle.bits.specs.Bits.{digits, bits_of}
use Rattle.bits.specs.Fields.{record_start}
use Rattle.layout.specs.Questions.{all_zero, zeros_before, end_questions}
use Rattle.layout.specs.declared.fault.SheetFault.{SheetFault}
use Rattle.layout.specs.declared.fault.SheetFault.TheVariants.{Trailing, Padding}

drop_digits : (o m x : ℕ) → drop o (digits (o + m) x) ≡ digits m x
drop_digits o m x = ap (drop o) (digits_append o m x) ∙ drop_at (digits o (x / 2 ^ m)) (digits m x) o (length_digits o (x / 2 ^ m))

-- the bits past bit o of the last byte
tail_bits : (bs : List ℕ) (q o : ℕ) → o < 8 → q + 1 ≡ length bs → drop (8 * q + o) (bits_of bs) ≡ digits (8 - o) (get_or bs q 0)
unfolding bits_of
tail_bits bs q o h e =
    let last : drop q bs ≡ get_or bs q 0 ∷ [] =
    drop_more bs q 0 (omega arith) ∙ ap (λ (x : List ℕ). get_or bs q 0 ∷ x) (drop_all (q + 1) bs (omega arith))
    in
    let n : 8 ≡ o + (8 - o) = omega arith in
    sym (drop-drop o (8 * q) (bits_of bs)) ∙ ap (drop o) (sym (bits_of_drop q bs) ∙ ap bits_of last ∙ append-nil (digits 8 (get_or bs q 0)))
    ∙ ap (λ (x : ℕ). drop o (digits x (get_or bs q 0))) n ∙ drop_digits o (8 - o) (get_or bs q 0)

all_zero_lem : (m : ℕ) → all_zero (digits m 0) ≡ true
unfolding digits all_zero
all_zero_lem zero = refl
all_zero_lem (suc m) =
    ap₂ (λ (x : ℕ) (y : Bool). eqb x 0 && y) (ap (λ (x : ℕ). x % 2) (zero-div (2 ^ m)) ∙ zero-mod 2) (all_zero_lem m)

-- the highest bit of a number
FirstOne : ℕ → ℕ → ℕ → Type 0
FirstOne m y j = (all_zero (digits m y) ≡ false) × (zeros_before (digits m y) + suc j ≡ m)

zero_bit : (m y : ℕ) → y < 2 ^ m → y / 2 ^ m % 2 ≡ 0
zero_bit m y h = ap (λ (x : ℕ). x % 2) (div-eq_of_lt h)

one_bit : (m y : ℕ) → 2 ^ m ≤ y → y < 2 ^ suc m → y / 2 ^ m % 2 ≡ 1
one_bit m y l u =
    let v = rw pow-suc at u in
    ap (λ (x : ℕ). x % 2) (div-eq_of_lt-le {k = 1} (2 ^ m) (omega arith) (omega arith))

first_one : (m y j : ℕ) → 2 ^ j ≤ y → y < 2 ^ suc j → j < m → FirstOne m y j
unfolding FirstOne digits all_zero zeros_before
first_one zero y j l u h = absurd (omega arith)
first_one (suc m) y j l u h = ⊎_elim (λ k. later k (first_one m y j l u k)) here (cases_lt j m)
  where
    later : j < m → FirstOne m y j → FirstOne (suc m) y j
    later k ih =
        let small : y < 2 ^ m = omega (arith, pow_mono k) in
        let z = zero_bit m y small in (
          ap (λ (x : ℕ). eqb x 0 && all_zero (digits m y)) z ∙ ih.0,
          ap (λ (x : ℕ). zeros_before (x ∷ digits m y) + suc j) z ∙ omega (arith, ih.1),
        )

    here : m ≤ j → FirstOne (suc m) y j
    here k =
        let e : j ≡ m = omega arith in
        let z = one_bit m y (rw e at l) (rw e at u) in (
          ap (λ (x : ℕ). eqb x 0 && all_zero (digits m y)) z,
          ap (λ (x : ℕ). zeros_before (x ∷ digits m y) + suc j) z ∙ omega arith,
        )

whole_le : (n m : ℕ) → n % 8 ≡ 0 → m ≤ (n + 7) / 8 → 8 * m ≤ n
whole_le n m h l =
    let e : n ≡ 8 * (n / 8) = omega arith in
    let k : (8 * (n / 8) + 7) / 8 ≡ n / 8 = omega arith in
    omega arith

-- what is asked after r records, which end at bit p, over bytes that hold them
module _ (bs : List ℕ) (r p : ℕ) (here : p ≡ record_start r) (held : p ≤ 8 * length bs) where
  abbrev asked : Option SheetFault
  asked = first_no (end_questions (bits_of bs) r)

  by_tests : (few zero_left : Bool) (z : ℕ) → ltb (length (bits_of bs) - p) 8 ≡ few → all_zero (drop p (bits_of bs)) ≡ zero_left
      → zeros_before (drop p (bits_of bs)) ≡ z → asked ≡ cond few (cond zero_left None (Some (Padding r (p + z)))) (Some (Trailing r))
  unfolding end_questions
  by_tests few zero_left z e f g =
      ap
      (λ (x : ℕ). cond (ltb (length (bits_of bs) - x) 8) (cond (all_zero (drop x (bits_of bs))) None (Some (Padding r (x + zeros_before (drop x (bits_of bs)))))) (Some (Trailing r)))
      (sym here)
      ∙ cc

  pub trailing : (p + 7) / 8 < length bs → asked ≡ Some (Trailing r)
  trailing h =
      by_tests false (all_zero (drop p (bits_of bs))) (zeros_before (drop p (bits_of bs)))
      (le-ltb (length (bits_of bs) - p) 8 (omega (arith, length_bits_of bs))) refl refl

  module _ (short : length bs ≤ (p + 7) / 8) where
    few : ltb (length (bits_of bs) - p) 8 ≡ true
    few = lt-ltb (length (bits_of bs) - p) 8 (omega (arith, length_bits_of bs))

    pub whole_bytes : p % 8 ≡ 0 → asked ≡ None
    unfolding all_zero
    whole_bytes h =
        let e = drop_all p (bits_of bs) (omega (arith, length_bits_of bs, whole_le p (length bs) h short)) in
        by_tests true true (zeros_before (drop p (bits_of bs))) few (ap all_zero e) refl

    -- m is the power of two that cuts the last byte
    module _ (part : p % 8 ≡ 0 → ⊥) (m : ℕ) (power : m ≡ 2 ^ (8 - p % 8)) where
      abbrev rest : ℕ
      rest = get_or bs (p / 8) 0 % m

      left : drop p (bits_of bs) ≡ digits (8 - p % 8) rest
      left =
          let e : p ≡ 8 * (p / 8) + p % 8 = omega arith in
          ap (λ (x : ℕ). drop x (bits_of bs)) e ∙ tail_bits bs (p / 8) (p % 8) (omega arith) (omega arith)
          ∙ sym (digits_mod (8 - p % 8) (get_or bs (p / 8) 0))
          ∙ ap (λ (x : ℕ). digits (8 - p % 8) (get_or bs (p / 8) 0 % x)) (sym power)

      pub padded : rest ≡ 0 → asked ≡ None
      padded h =
          by_tests true true (zeros_before (drop p (bits_of bs))) few
          (ap all_zero (left ∙ ap (digits (8 - p % 8)) h) ∙ all_zero_lem (8 - p % 8)) refl

      pub unpadded : 0 < rest → asked ≡ Some (Padding r (p - p % 8 + count_leading_zeros 8 rest))
      unfolding FirstOne
      unpadded h =
          let positive = pow_pos (8 - p % 8) in
          let below = mod_below (get_or bs (p / 8) 0) m (omega arith) in
          let t = leading_top 8 rest h (omega (arith, below, pow_mono {i = 8 - p % 8} {j = 8} (omega arith))) in
          let j : ℕ = t.0 in
          let inside : j < 8 - p % 8 =
          ⊎_elim (λ k. k) (λ k. absurd (omega (arith, below, t.2, pow_mono k))) (cases_lt j (8 - p % 8))
          in
          let f = first_one (8 - p % 8) rest j t.2 t.3 inside in
          let n : p + zeros_before (digits (8 - p % 8) rest) ≡ p - p % 8 + count_leading_zeros 8 rest = omega (arith, t.1, f.1) in
          by_tests true false (zeros_before (digits (8 - p % 8) rest)) few (ap all_zero left ∙ f.0) (ap zeros_before left)
          ∙ ap (λ (x : ℕ). Some (Padding r x)) n
