-- A field lies in a window of three bytes, and is cut out of it by one shift and one mask.
use Rattle.std.proofs.Common.{◌≡◌, ℕ, zero, suc, ◌+◌, ◌-◌, ◌*◌, ◌/◌, ◌%◌, ◌^◌, ◌<◌, ◌≤◌, List, [], ◌∷◌, ◌++◌, length, get_or, sym, refl, ap, ◌∙◌, ap₂, ⊎_elim, one-add, arith}
use native.Mathlib.Nat.{mod-one, zero-div, zero-mod}
use lib.Bits.{bit_and}
use Rattle.std.proofs.lemmas.Nat.{shr-shr, mod-pow-add, shr_high, one_shl, and_mask}
use Rattle.std.proofs.lemmas.List.{get_or_append_left, get_or-append_right}
use Rattle.std.proofs.lemmas.Bool.{cases_lt}
use Rattle.bits.proofs.Bits.{length_digits, length_cut, digits_low}
use Rattle.bits.specs.Bits.{digits, bits_of, value, cut, field_at}

pub get_or_digits : (w n j : ℕ) → j < w → get_or (digits w n) j 0 ≡ n / 2 ^ (w - 1 - j) % 2
unfolding digits
get_or_digits zero n j h = absurd (omega arith)
get_or_digits (suc w) n zero h = ap (λ (x : ℕ). n / 2 ^ x % 2) (omega arith)
get_or_digits (suc w) n (suc j) h = get_or_digits w n j (omega arith) ∙ ap (λ (x : ℕ). n / 2 ^ x % 2) (omega arith)

-- one bit of bytes
pub bit_at : (bs : List ℕ) (i j : ℕ) → j < 8 → get_or (bits_of bs) (8 * i + j) 0 ≡ get_or bs i 0 / 2 ^ (7 - j) % 2
unfolding bits_of
bit_at [] i j h = sym (ap (λ (x : ℕ). x % 2) (zero-div (2 ^ (7 - j))) ∙ zero-mod 2)
bit_at (b ∷ bs) zero j h =
    let l : j < length (digits 8 b) = omega (arith, length_digits 8 b) in
    ap (λ (x : ℕ). get_or (digits 8 b ++ bits_of bs) x 0) (omega arith) ∙ get_or_append_left (digits 8 b) (bits_of bs) 0 j l ∙ get_or_digits 8 b j h
bit_at (b ∷ bs) (suc i) j h =
    get_or-append_right (digits 8 b) (bits_of bs) 8 (8 * suc i + j) 0 (length_digits 8 b) (omega arith)
    ∙ ap (λ (x : ℕ). get_or (bits_of bs) x 0) (omega arith) ∙ bit_at bs i j h

-- three bytes as one number
abbrev pub window : List ℕ → ℕ → ℕ
window bs i = get_or bs i 0 * 65536 + get_or bs (i + 1) 0 * 256 + get_or bs (i + 2) 0

-- bits above a byte do not matter
above : (k b j : ℕ) → j < 8 → (k * 2 ^ 8 + b) / 2 ^ (7 - j) % 2 ≡ b / 2 ^ (7 - j) % 2
above k b j h = sym (get_or_digits 8 (k * 2 ^ 8 + b) j h) ∙ ap (λ (x : List ℕ). get_or x j 0) (digits_low 8 k b) ∙ get_or_digits 8 b j h

-- the bits of each byte of three, in the number that the three are
in_high : (a b c j : ℕ) → b < 256 → c < 256 → j < 8 → (a * 65536 + b * 256 + c) / 2 ^ (23 - j) % 2 ≡ a / 2 ^ (7 - j) % 2
in_high a b c j hb hc h =
    let n : a * 65536 + b * 256 + c ≡ a * 2 ^ 16 + (b * 256 + c) = omega arith in
    let s : 23 - j ≡ 16 + (7 - j) = omega arith in
    ap (λ (x : ℕ). x % 2)
    (ap₂ (λ (x y : ℕ). x / 2 ^ y) n s ∙ sym (shr-shr (a * 2 ^ 16 + (b * 256 + c)) 16 (7 - j))
    ∙ ap (λ (x : ℕ). x / 2 ^ (7 - j)) (shr_high a 16 (b * 256 + c) (omega arith)))

in_middle : (a b c j : ℕ) → c < 256 → j < 8 → (a * 65536 + b * 256 + c) / 2 ^ (15 - j) % 2 ≡ b / 2 ^ (7 - j) % 2
in_middle a b c j hc h =
    let n : a * 65536 + b * 256 + c ≡ (a * 2 ^ 8 + b) * 2 ^ 8 + c = omega arith in
    let s : 15 - j ≡ 8 + (7 - j) = omega arith in
    ap (λ (x : ℕ). x % 2)
    (ap₂ (λ (x y : ℕ). x / 2 ^ y) n s ∙ sym (shr-shr ((a * 2 ^ 8 + b) * 2 ^ 8 + c) 8 (7 - j))
    ∙ ap (λ (x : ℕ). x / 2 ^ (7 - j)) (shr_high (a * 2 ^ 8 + b) 8 c (omega arith)))
    ∙ above a b j h

in_low : (a b c j : ℕ) → j < 8 → (a * 65536 + b * 256 + c) / 2 ^ (7 - j) % 2 ≡ c / 2 ^ (7 - j) % 2
in_low a b c j h =
    let n : a * 65536 + b * 256 + c ≡ (a * 2 ^ 8 + b) * 2 ^ 8 + c = omega arith in
    ap (λ (x : ℕ). x / 2 ^ (7 - j) % 2) n ∙ above (a * 2 ^ 8 + b) c j h

module _ (bs : List ℕ) (i : ℕ) (middle : get_or bs (i + 1) 0 < 256) (low : get_or bs (i + 2) 0 < 256) where
  bit_by : (k o j e : ℕ) → o ≡ 8 * k + j → e ≡ i + k → j < 8 → get_or (bits_of bs) (8 * i + o) 0 ≡ get_or bs e 0 / 2 ^ (7 - j) % 2
  bit_by k o j e p q h =
      ap (λ (x : ℕ). get_or (bits_of bs) x 0) (omega arith) ∙ bit_at bs (i + k) j h ∙ ap (λ (x : ℕ). get_or bs x 0 / 2 ^ (7 - j) % 2) (sym q)

  window_bit : (o : ℕ) → o < 24 → get_or (bits_of bs) (8 * i + o) 0 ≡ window bs i / 2 ^ (23 - o) % 2
  window_bit o h = ⊎_elim first (λ l. ⊎_elim (second l) third (cases_lt o 16)) (cases_lt o 8)
    where
      first : o < 8 → get_or (bits_of bs) (8 * i + o) 0 ≡ window bs i / 2 ^ (23 - o) % 2
      first l = bit_by 0 o o i (omega arith) (omega arith) l ∙ sym (in_high (get_or bs i 0) (get_or bs (i + 1) 0) (get_or bs (i + 2) 0) o middle low l)

      second : 8 ≤ o → o < 16 → get_or (bits_of bs) (8 * i + o) 0 ≡ window bs i / 2 ^ (23 - o) % 2
      second l m =
          let s : 15 - (o - 8) ≡ 23 - o = omega arith in
          bit_by 1 o (o - 8) (i + 1) (omega arith) refl (omega arith)
          ∙ sym (in_middle (get_or bs i 0) (get_or bs (i + 1) 0) (get_or bs (i + 2) 0) (o - 8) low (omega arith))
          ∙ ap (λ (x : ℕ). window bs i / 2 ^ x % 2) s

      third : 16 ≤ o → get_or (bits_of bs) (8 * i + o) 0 ≡ window bs i / 2 ^ (23 - o) % 2
      third l =
          let s : 7 - (o - 16) ≡ 23 - o = omega arith in
          bit_by 2 o (o - 16) (i + 2) (omega arith) refl (omega arith)
          ∙ sym (in_low (get_or bs i 0) (get_or bs (i + 1) 0) (get_or bs (i + 2) 0) (o - 16) (omega arith))
          ∙ ap (λ (x : ℕ). window bs i / 2 ^ x % 2) s

  pub window_field : (w o : ℕ) → o + w ≤ 24 → field_at (bits_of bs) (8 * i + o) w ≡ window bs i / 2 ^ (24 - o - w) % 2 ^ w
  unfolding field_at value cut
  window_field zero o h = sym (mod-one (window bs i / 2 ^ (24 - o - 0)))
  window_field (suc w) o h =
      let t : ℕ = 24 - o - suc w in
      let rest : field_at (bits_of bs) (8 * i + suc o) w ≡ window bs i / 2 ^ t % 2 ^ w =
      window_field w (suc o) (omega arith) ∙ ap (λ (x : ℕ). window bs i / 2 ^ x % 2 ^ w) (omega arith)
      in
      let bit : get_or (bits_of bs) (8 * i + o) 0 ≡ window bs i / 2 ^ t / 2 ^ w % 2 =
      window_bit o (omega arith) ∙ ap (λ (x : ℕ). window bs i / 2 ^ x % 2) (omega arith)
      ∙ ap (λ (x : ℕ). x % 2) (sym (shr-shr (window bs i) t w))
      in
      let here : suc (8 * i + o) ≡ 8 * i + suc o = omega arith in
      let l = length_cut (bits_of bs) (suc (8 * i + o)) w in
      let m = mod-pow-add (window bs i / 2 ^ t) 1 w in
      let parts : get_or (bits_of bs) (8 * i + o) 0 * 2 ^ w + field_at (bits_of bs) (8 * i + suc o) w ≡ window bs i / 2 ^ t % 2 ^ (1 + w) =
      ap₂ (λ (x y : ℕ). x * 2 ^ w + y) bit rest ∙ sym m
      in
      ap₂ (λ (x y : ℕ). get_or (bits_of bs) (8 * i + o) 0 * 2 ^ x + field_at (bits_of bs) y w) l here ∙ parts
      ∙ ap (λ (x : ℕ). window bs i / 2 ^ t % 2 ^ x) (one-add w)

-- the field, as a reader computes it from the three bytes h, m and l
pub window_cut : (bs : List ℕ) (p w h m l : ℕ) → h ≡ get_or bs (p / 8) 0 → m ≡ get_or bs (p / 8 + 1) 0 → l ≡ get_or bs (p / 8 + 2) 0 → m < 256 → l < 256 → w ≤ 16
    → bit_and ((h * 65536 + m * 256 + l) / 2 ^ (24 - p % 8 - w)) ((1 * 2 ^ w) % 2 ^ 32 - 1) ≡ field_at (bits_of bs) p w
window_cut bs p w h m l eh em el hm hl hw =
    let n : h * 65536 + m * 256 + l ≡ window bs (p / 8) = cc in
    let f = window_field bs (p / 8) (omega arith) (omega arith) w (p % 8) (omega arith) in
    let place : 8 * (p / 8) + p % 8 ≡ p = omega arith in
    ap₂ (λ (x y : ℕ). bit_and (x / 2 ^ (24 - p % 8 - w)) (y - 1)) n (one_shl w 32 (omega arith))
    ∙ and_mask (window bs (p / 8) / 2 ^ (24 - p % 8 - w)) w ∙ sym f ∙ ap (λ (x : ℕ). field_at (bits_of bs) x w) place
