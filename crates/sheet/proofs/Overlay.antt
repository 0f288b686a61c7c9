-- Writing a field's bits through a window of 24 bits.
use Rattle.std.proofs.Common.{◌≡◌, ℕ, zero, suc, ◌+◌, ◌-◌, ◌*◌, ◌/◌, ◌%◌, ◌^◌, ◌<◌, ◌≤◌, List, [], ◌∷◌, ◌++◌, length, get_or, take, drop, set, sym, refl, ap, ◌∙◌, subst, ap₂, add-zero, arith, w32}
use native.Mathlib.Nat.{zero-div}
use Rattle.std.specs.Int.{to_be_bytes}
use lib.Bits.{bit_and, bit_or}
use lib.Seq.{take-append-add}
use Rattle.std.proofs.lemmas.Nat.{pow_pos, pow-add, mod_below, shr_high, shl_below, shl-shr, shr_below, shl_whole, one_shl, and_mask, or_shifted, mul-add-lt}
use Rattle.std.proofs.lemmas.List.{append-nil, append_assoc, length-append, length-take-le, take-append-drop, take_at, drop_at, length-drop, drop_more, set_at, take-replicate}
use Rattle.bits.specs.Bits.{digits, bits_of, zeros, fill, written}
use Rattle.bits.specs.Fields.{width}
use Rattle.bits.specs.declared.field.Field.{Field}
use Rattle.sheet.specs.Writing.{window_of, bytes_to, Placed}
use Rattle.bits.proofs.Bits.{length_digits, length_bits_of, digits_append, digits_low, digits_mod}
use Rattle.bits.proofs.Bytes.{bits_of_append, bits_of_take, bits_of_drop}

-- the bits of 0
pub digits_zero : (w : ℕ) → digits w 0 ≡ zeros w
unfolding digits
digits_zero zero = refl
digits_zero (suc w) = ap₂ (λ (x : ℕ) (xs : List ℕ). x ∷ xs) (ap (λ (x : ℕ). x % 2) (zero-div (2 ^ w))) (digits_zero w)

-- a number's bits, shifted up
pub digits_shifted : (w z n : ℕ) → digits (w + z) (n * 2 ^ z) ≡ digits w n ++ zeros z
digits_shifted w z n =
    digits_append w z (n * 2 ^ z)
    ∙ ap₂ (λ (a b : List ℕ). a ++ b) (ap (digits w) (shl-shr n z))
    (ap (digits z) (sym (add-zero (n * 2 ^ z))) ∙ digits_low z n 0 ∙ digits_zero z)

-- two numbers' bits, one after the other, and zeros
pub digits_three : (a b z k n : ℕ) → n < 2 ^ b → digits (a + (b + z)) (k * 2 ^ (b + z) + n * 2 ^ z) ≡ digits a k ++ digits b n ++ zeros z
digits_three a b z k n h =
    let below = shl_below n b z h in
    digits_append a (b + z) (k * 2 ^ (b + z) + n * 2 ^ z)
    ∙ ap₂ (λ (x y : List ℕ). x ++ y) (ap (digits a) (shr_high k (b + z) (n * 2 ^ z) below))
    (digits_low (b + z) k (n * 2 ^ z) ∙ digits_shifted b z n)
    ∙ sym (append_assoc (digits a k) (digits b n) (zeros z))

-- the bits of the window
window_digits : (old o w v : ℕ) → o < 8 → w < 14 → digits 24 (window_of old o w v) ≡ digits o (old / 2 ^ (8 - o)) ++ digits w v ++ zeros (24 - o - w)
window_digits old o w v ho hw =
    let z : ℕ = 24 - o - w in
    let e : o + (w + z) ≡ 24 = omega arith in
    let f : w + z ≡ 24 - o = omega arith in
    let k : ℕ = old / 2 ^ (8 - o) in
    let t = digits_three o w z k (v % 2 ^ w) (mod_below v (2 ^ w) (pow_pos w)) in
    ap (λ (n : ℕ). digits 24 (k * 2 ^ n + v % 2 ^ w * 2 ^ z)) (sym f)
    ∙ ap (λ (n : ℕ). digits n (k * 2 ^ (w + z) + v % 2 ^ w * 2 ^ z)) (sym e)
    ∙ t
    ∙ ap (λ (l : List ℕ). digits o k ++ l ++ zeros z) (digits_mod w v)

-- the front of some bits with zeros after them
take_zeros : (xs : List ℕ) (n z : ℕ) → length xs ≤ n → n ≤ length xs + z → take n (xs ++ zeros z) ≡ xs ++ zeros (n - length xs)
take_zeros xs n z h k =
    let e : n ≡ length xs + (n - length xs) = omega arith in
    let l : n - length xs ≤ z = omega arith in
    ap (λ (m : ℕ). take m (xs ++ zeros z)) e ∙ take-append-add xs (zeros z) (n - length xs)
    ∙ ap (λ (l : List ℕ). xs ++ l) (take-replicate (n - length xs) z 0 l)

window_front : (n old o w v : ℕ) → o < 8 → w < 14 → o + w ≤ n → n ≤ 24 → take n (digits 24 (window_of old o w v)) ≡ digits o (old / 2 ^ (8 - o)) ++ digits w v ++ zeros (n - (o + w))
window_front n old o w v ho hw h k =
    let front : List ℕ = digits o (old / 2 ^ (8 - o)) ++ digits w v in
    let l : length front ≡ o + w =
    length-append (digits o (old / 2 ^ (8 - o))) (digits w v) ∙ ap₂ (λ (x y : ℕ). x + y) (length_digits o (old / 2 ^ (8 - o))) (length_digits w v)
    in
    let t = take_zeros front n (24 - o - w) (omega arith) (omega arith) in
    ap (take n) (window_digits old o w v ho hw) ∙ t ∙ ap (λ (m : ℕ). front ++ zeros (n - m)) l

-- the three bytes of the window
abbrev pub window_bytes : ℕ → List ℕ
window_bytes n = n / 65536 ∷ n / 256 % 256 ∷ n % 256 ∷ []

-- as the bytes of a number of 32 bits
pub three_bytes : (l : List ℕ) (n : ℕ) → n < 2 ^ 24 → l ≡ to_be_bytes w32 n → (get_or l 1 0 ≡ n / 65536) × (get_or l 2 0 ≡ n / 256 % 256) × (get_or l 3 0 ≡ n % 256)
three_bytes l n h e = (
  ap (λ (x : List ℕ). get_or x 1 0) e ∙ omega arith,
  ap (λ (x : List ℕ). get_or x 2 0) e ∙ omega arith,
  ap (λ (x : List ℕ). get_or x 3 0) e ∙ omega arith,
)

bits_of_window : (n : ℕ) → bits_of (window_bytes n) ≡ digits 24 n
unfolding bits_of
bits_of_window n =
    let top : digits 8 (n / 2 ^ 8 / 2 ^ 8) ≡ digits 8 (n / 65536) = ap (digits 8) (omega arith) in
    let e = digits_append 16 8 n in
    let f = digits_append 8 8 (n / 2 ^ 8) in
    let middle = digits_mod 8 (n / 256) in
    let low = digits_mod 8 n in
    let flat : bits_of (window_bytes n) ≡ digits 8 (n / 65536) ++ digits 8 (n / 256 % 256) ++ digits 8 (n % 256) = simp (append-nil, append_assoc) in
    flat ∙ cc

-- a list with some elements written over from index i on
abbrev pub over : List ℕ → ℕ → List ℕ → List ℕ
over bs i xs = take i bs ++ xs ++ drop (i + length xs) bs

pub over_none : (bs : List ℕ) (i : ℕ) → over bs i [] ≡ bs
over_none bs i = rw (append-nil, add-zero) (take-append-drop i bs)

-- one more element written
pub over_more : (bs : List ℕ) (i : ℕ) (xs : List ℕ) (n x : ℕ) → i + length xs ≡ n → n < length bs → set (over bs i xs) n x ≡ over bs i (xs ++ x ∷ [])
over_more bs i xs n x e h =
    let l : length (take i bs ++ xs) ≡ n =
    length-append (take i bs) xs ∙ ap (λ (k : ℕ). k + length xs) (length-take-le i bs (omega arith)) ∙ e
    in
    let d = drop_more bs n 0 h in
    let s = set_at (take i bs ++ xs) (get_or bs n 0) (drop (n + 1) bs) x n l in
    let m : i + length (xs ++ x ∷ []) ≡ n + 1 = omega (arith, length-append xs (x ∷ [])) in
    ap (λ (k : ℕ). set (take i bs ++ xs ++ drop k bs) n x) e
    ∙ ap (λ (l : List ℕ). set (take i bs ++ xs ++ l) n x) d
    ∙ s
    ∙ sym (ap (λ (k : ℕ). take i bs ++ (xs ++ x ∷ []) ++ drop k bs) m ∙ simp append_assoc)

-- what follows the last element written stays
pub drop_over : (bs : List ℕ) (i : ℕ) (xs : List ℕ) (n : ℕ) → i + length xs ≡ n → n ≤ length bs → drop n (over bs i xs) ≡ drop n bs
drop_over bs i xs n e h =
    let l : length (take i bs ++ xs) ≡ n =
    length-append (take i bs) xs ∙ ap (λ (k : ℕ). k + length xs) (length-take-le i bs (omega arith)) ∙ e
    in
    drop_at (take i bs ++ xs) (drop (i + length xs) bs) n l ∙ ap (λ (k : ℕ). drop k bs) e

pub length_over : (bs : List ℕ) (i : ℕ) (xs : List ℕ) → i + length xs ≤ length bs → length (over bs i xs) ≡ length bs
length_over bs i xs h =
    let l = length-take-le i bs (omega arith) in simp (length-append, length-drop) (omega arith)

-- the first bits of a byte
digits_front : (o b : ℕ) → o < 8 → digits 8 b ≡ digits o (b / 2 ^ (8 - o)) ++ digits (8 - o) b
digits_front o b h =
    let e : o + (8 - o) ≡ 8 = omega arith in ap (λ (n : ℕ). digits n b) (sym e) ∙ digits_append o (8 - o) b

-- the bits before bit 8 i + o
take_bits : (bs : List ℕ) (i o : ℕ) → i < length bs → o < 8 → take (8 * i + o) (bits_of bs) ≡ bits_of (take i bs) ++ digits o (get_or bs i 0 / 2 ^ (8 - o))
unfolding bits_of
take_bits bs i o h ho =
    let b : ℕ = get_or bs i 0 in
    let pre : List ℕ = bits_of (take i bs) in
    let kept : List ℕ = digits o (b / 2 ^ (8 - o)) in
    let rest : List ℕ = digits (8 - o) b ++ bits_of (drop (i + 1) bs) in
    let whole : bits_of bs ≡ (pre ++ kept) ++ rest =
    ap bits_of (sym (take-append-drop i bs) ∙ ap (λ (l : List ℕ). take i bs ++ l) (drop_more bs i 0 h))
    ∙ bits_of_append (take i bs) (b ∷ drop (i + 1) bs)
    ∙ ap (λ (l : List ℕ). pre ++ (l ++ bits_of (drop (i + 1) bs))) (digits_front o b ho)
    ∙ simp append_assoc
    in
    let l : length (pre ++ kept) ≡ 8 * i + o =
    length-append pre kept
    ∙ omega (arith, length_bits_of (take i bs), length-take-le i bs (omega arith), length_digits o (b / 2 ^ (8 - o)))
    in
    ap (take (8 * i + o)) whole ∙ take_at (pre ++ kept) rest (8 * i + o) l

-- the window's first bytes over the bytes from index i on: the field's bits are written from bit 8 i + o on
pub over_window : (bs : List ℕ) (i o w v : ℕ) → i < length bs → o < 8 → w < 14 → 0 < w → bits_of (over bs i (take (bytes_to (o + w)) (window_bytes (window_of (get_or bs i 0) o w v)))) ≡ written (bits_of bs) (8 * i + o) (digits w v)
unfolding written
over_window bs i o w v h ho hw pos =
    let n : ℕ = window_of (get_or bs i 0) o w v in
    let m : ℕ = bytes_to (o + w) in
    let xs : List ℕ = take m (window_bytes n) in
    let kept : List ℕ = digits o (get_or bs i 0 / 2 ^ (8 - o)) in
    let new : List ℕ = digits w v in
    let p : ℕ = 8 * i + o in
    let lx : length xs ≡ m = length-take-le m (window_bytes n) (omega arith) in
    let mid : bits_of xs ≡ kept ++ new ++ zeros (8 * m - (o + w)) =
    bits_of_take m (window_bytes n) (omega arith) ∙ ap (take (8 * m)) (bits_of_window n)
    ∙ window_front (8 * m) (get_or bs i 0) o w v ho hw (omega arith) (omega arith)
    in
    let ln : length new ≡ w = length_digits w v in
    let f : 8 * m - (o + w) ≡ fill (p + length new) = omega arith in
    let g : 8 * (i + length xs) ≡ p + length new + fill (p + length new) = omega arith in
    let t = take_bits bs i o h ho in
    bits_of_append (take i bs ++ xs) (drop (i + length xs) bs)
    ∙ ap₂ (λ (a b : List ℕ). a ++ b) (bits_of_append (take i bs) xs ∙ ap (λ (l : List ℕ). bits_of (take i bs) ++ l) (mid ∙ ap (λ (k : ℕ). kept ++ new ++ zeros k) f))
    (bits_of_drop (i + length xs) bs ∙ ap (λ (k : ℕ). drop k (bits_of bs)) g)
    ∙ sym (ap (λ (l : List ℕ). l ++ new ++ zeros (fill (p + length new)) ++ drop (p + length new + fill (p + length new)) (bits_of bs)) t ∙ simp append_assoc)

ap_below : {a i j : ℕ} → a < 2 ^ i → i ≡ j → a < 2 ^ j
ap_below {a} h e = let P : ℕ → Type 0 = λ x. a < 2 ^ x in subst P e h

-- the window by shifts and masks at 32 bits
pub window_is : (old o w v : ℕ) → old < 2 ^ 8 → o < 8 → w < 14 → bit_or ((old / 2 ^ (8 - o)) * 2 ^ (24 - o) % 2 ^ 32) (bit_and v (1 * 2 ^ w % 2 ^ 32 - 1) * 2 ^ (24 - o - w) % 2 ^ 32) ≡ window_of old o w v
window_is old o w v hold ho hw =
    let k : ℕ = old / 2 ^ (8 - o) in
    let n : ℕ = v % 2 ^ w in
    let z : ℕ = 24 - o - w in
    let wide : old < 2 ^ (o + (8 - o)) = ap_below {i = 8} hold (omega arith) in
    let kb : k < 2 ^ o = shr_below old o (8 - o) wide in
    let nb : n < 2 ^ w = mod_below v (2 ^ w) (pow_pos w) in
    let left = shl_whole k o (24 - o) 32 kb (omega arith) in
    let mask = ap (λ (x : ℕ). bit_and v (x - 1)) (one_shl w 32 (omega arith)) ∙ and_mask v w in
    let right = ap (λ (x : ℕ). x * 2 ^ z % 2 ^ 32) mask ∙ shl_whole n w z 32 nb (omega arith) in
    ap₂ (λ (x y : ℕ). bit_or x y) left right ∙ or_shifted k (24 - o) (n * 2 ^ z) (ap_below {i = w + z} (shl_below n w z nb) (omega arith))

pub window_small : (old o w v : ℕ) → old < 2 ^ 8 → o < 8 → w < 14 → window_of old o w v < 2 ^ 24
window_small old o w v hold ho hw =
    let k : ℕ = old / 2 ^ (8 - o) in
    let n : ℕ = v % 2 ^ w in
    let z : ℕ = 24 - o - w in
    let wide : old < 2 ^ (o + (8 - o)) = ap_below {i = 8} hold (omega arith) in
    let kb : k < 2 ^ o = shr_below old o (8 - o) wide in
    let nb : n * 2 ^ z < 2 ^ (24 - o) = ap_below {i = w + z} (shl_below n w z (mod_below v (2 ^ w) (pow_pos w))) (omega arith) in
    let all = mul-add-lt k (2 ^ (24 - o)) (n * 2 ^ z) (2 ^ o) kb nb in
    let sum : 24 - o + o ≡ 24 = omega arith in
    let top : 2 ^ (24 - o) * 2 ^ o ≡ 2 ^ 24 = sym (pow-add 2 (24 - o) o) ∙ ap (λ (x : ℕ). 2 ^ x) sum in
    omega arith

-- one, two and three bytes set
pub set_one : (bs : List ℕ) (i a : ℕ) → i < length bs → set bs i a ≡ over bs i (a ∷ [])
set_one bs i a h = ap (λ (l : List ℕ). set l i a) (sym (over_none bs i)) ∙ over_more bs i [] i a (omega arith) h

pub set_two : (bs : List ℕ) (i a b : ℕ) → i + 1 < length bs → set (set bs i a) (i + 1) b ≡ over bs i (a ∷ b ∷ [])
set_two bs i a b h = ap (λ (l : List ℕ). set l (i + 1) b) (set_one bs i a (omega arith)) ∙ over_more bs i (a ∷ []) (i + 1) b refl h

pub set_three : (bs : List ℕ) (i a b c : ℕ) → i + 2 < length bs → set (set (set bs i a) (i + 1) b) (i + 2) c ≡ over bs i (a ∷ b ∷ c ∷ [])
set_three bs i a b c h =
    ap (λ (l : List ℕ). set l (i + 2) c) (set_two bs i a b (omega arith)) ∙ over_more bs i (a ∷ b ∷ []) (i + 2) c refl h

pub width_some : (f : Field) → (0 < width f) × (width f < 14)
width_some f = (grind arith, grind arith)

-- the first m bytes of the window n set from byte s / 8 on, where the field, u bits wide, ends in the last of them
pub placed_over : (bs : List ℕ) (s : ℕ) (field : Field) (v u n m : ℕ) (out : List ℕ) → s + width field ≤ 8 * length bs → u ≡ width field → n ≡ window_of (get_or bs (s / 8) 0) (s % 8) u v → bytes_to (s % 8 + u) ≡ m → out ≡ over bs (s / 8) (take m (window_bytes n)) → Placed bs s (digits (width field) v) out
placed_over bs s field v u n m out h wide window e is =
    let i : ℕ = s / 8 in
    let o : ℕ = s % 8 in
    let w : ℕ = width field in
    let few = width_some field in
    let xs : List ℕ = take m (window_bytes n) in
    let new : List ℕ = digits w v in
    let ln : length new ≡ w = length_digits w v in
    let f : 8 * i + o ≡ s = omega arith in
    let lx : length xs ≡ m = length-take-le m (window_bytes n) (omega arith) in
    let k : i + length xs ≡ bytes_to (s + length new) = omega arith in
    let bits = over_window bs i o w v (omega arith) (omega arith) few.1 few.0 in
    let same : xs ≡ take (bytes_to (o + w)) (window_bytes (window_of (get_or bs i 0) o w v)) =
    ap (λ (x : ℕ). take x (window_bytes n)) (sym e) ∙ ap (λ (x : ℕ). take (bytes_to (o + u)) (window_bytes x)) window
    ∙ ap (λ (x : ℕ). take (bytes_to (o + x)) (window_bytes (window_of (get_or bs i 0) o x v))) wide
    in
    record {
      room = omega arith;
      bits =
          ap bits_of is ∙ ap (λ (l : List ℕ). bits_of (over bs i l)) same ∙ bits
          ∙ ap (λ (x : ℕ). written (bits_of bs) x new) f;
      later = ap (drop (bytes_to (s + length new))) is ∙ drop_over bs i xs (bytes_to (s + length new)) k (omega arith);
      as_long = ap length is ∙ length_over bs i xs (omega arith);
    }
