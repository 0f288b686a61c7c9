-- The bits of numbers and of bytes, and the numbers that bits state.
use Rattle.std.proofs.Common.{◌≡◌, ℕ, zero, suc, ◌+◌, ◌*◌, ◌/◌, ◌%◌, ◌^◌, ◌<◌, List, [], ◌∷◌, ◌++◌, length, get_or, sym, refl, ap, ◌∙◌, ap₂, le_of_suc-le-suc, mul-le-mul_right, mod-eq_of_lt, add_comm, suc-add, pow-suc, zero-add, one-add, arith, length-append}
use native.Mathlib.Nat.{mod-mod, add-mul-mod_self_right, mod-one}
use Rattle.std.proofs.lemmas.Nat.{pow_pos, pow-add, shr-shr, mod-pow-add, field_of, mod_below, shr_high, mod_low}
use Rattle.std.specs.List.{AllByRecursion}
use Rattle.bits.specs.Bits.{digits, bits_of, value, cut, field_at}

pub length_digits : (w n : ℕ) → length (digits w n) ≡ w
unfolding digits
length_digits zero n = refl
length_digits (suc w) n = ap suc (length_digits w n)

pub length_bits_of : (bs : List ℕ) → length (bits_of bs) ≡ 8 * length bs
unfolding bits_of
length_bits_of [] = refl
length_bits_of (b ∷ bs) = omega (arith, length-append (digits 8 b) (bits_of bs), length_digits 8 b, length_bits_of bs)

pub value_append : (xs ys : List ℕ) → value (xs ++ ys) ≡ value xs * 2 ^ length ys + value ys
unfolding value
value_append [] ys = omega arith
value_append (x ∷ xs) ys =
    let e = value_append xs ys in
    let l = length-append xs ys in
    let p = pow-add 2 (length xs) (length ys) in
    rw (e, l, p) (omega arith)

pub value_digits : (w n : ℕ) → value (digits w n) ≡ n % 2 ^ w
unfolding value digits
value_digits zero n = sym (mod-one n)
value_digits (suc w) n =
    let e = value_digits w n in
    let l = length_digits w n in
    let m = mod-pow-add n 1 w in
    rw (e, l) (sym m ∙ ap (λ (x : ℕ). n % 2 ^ x) (one-add w))

-- a number's bits in two parts
pub digits_append : (a b n : ℕ) → digits (a + b) n ≡ digits a (n / 2 ^ b) ++ digits b n
unfolding digits
digits_append zero b n = rw zero-add refl
digits_append (suc a) b n =
    let e = digits_append a b n in
    let s = shr-shr n b a in
    rw (suc-add a b, e, s, add_comm b a) refl

-- higher bits do not matter
mod_mod_suc : (w n : ℕ) → n % 2 ^ suc w % 2 ^ w ≡ n % 2 ^ w
mod_mod_suc w n =
    ap (λ (x : ℕ). x % 2 ^ w) (ap (λ (x : ℕ). n % 2 ^ x) (sym (one-add w)) ∙ mod-pow-add n 1 w)
    ∙ mod_low (n / 2 ^ w % 2 ^ 1) w (n % 2 ^ w) (mod_below n (2 ^ w) (pow_pos w))

pub digits_mod : (w n : ℕ) → digits w (n % 2 ^ w) ≡ digits w n
unfolding digits
digits_mod zero n = refl
digits_mod (suc w) n =
    let low : digits w (n % 2 ^ suc w) ≡ digits w n =
    sym (digits_mod w (n % 2 ^ suc w)) ∙ ap (digits w) (mod_mod_suc w n) ∙ digits_mod w n
    in
    let top : n % 2 ^ suc w / 2 ^ w % 2 ≡ n / 2 ^ w % 2 =
    ap (λ (x : ℕ). x % 2) (ap (λ (x : ℕ). n % 2 ^ x / 2 ^ w) (sym (one-add w)) ∙ field_of n 1 w) ∙ mod-mod (n / 2 ^ w) 2
    in
    ap₂ (λ (x : ℕ) (xs : List ℕ). x ∷ xs) top low

pub digits_low : (w k n : ℕ) → digits w (k * 2 ^ w + n) ≡ digits w n
digits_low w k n =
    sym (digits_mod w (k * 2 ^ w + n)) ∙ ap (digits w) (ap (λ (x : ℕ). x % 2 ^ w) (add_comm (k * 2 ^ w) n) ∙ add-mul-mod_self_right n k (2 ^ w))
    ∙ digits_mod w n

-- each bit is 0 or 1
abbrev pub Binary : List ℕ → Type 0
Binary bs = AllByRecursion (λ b. b < 2) bs

pub binary_digits : (w n : ℕ) → Binary (digits w n)
unfolding digits
binary_digits zero n = tt
binary_digits (suc w) n = (mod_below (n / 2 ^ w) 2 (omega arith), binary_digits w n)

pub binary_append : (xs ys : List ℕ) → Binary xs → Binary ys → Binary (xs ++ ys)
binary_append [] ys h k = k
binary_append (x ∷ xs) ys h k = (h.0, binary_append xs ys h.1 k)

pub binary_bits_of : (bs : List ℕ) → Binary (bits_of bs)
unfolding bits_of
binary_bits_of [] = tt
binary_bits_of (b ∷ bs) = binary_append (digits 8 b) (bits_of bs) (binary_digits 8 b) (binary_bits_of bs)

pub value_lt : (bs : List ℕ) → Binary bs → value bs < 2 ^ length bs
unfolding value
value_lt [] h = omega arith
value_lt (b ∷ bs) h =
    let l = value_lt bs h.1 in
    let m = mul-le-mul_right (2 ^ length bs) (le_of_suc-le-suc h.0) in
    rw pow-suc (omega arith)

-- the bits of the number that bits state are these bits
pub digits_value : (bs : List ℕ) → Binary bs → digits (length bs) (value bs) ≡ bs
unfolding digits value
digits_value [] h = refl
digits_value (b ∷ bs) h =
    let l = value_lt bs h.1 in
    ap₂ (λ (x : ℕ) (xs : List ℕ). x ∷ xs) (ap (λ (x : ℕ). x % 2) (shr_high b (length bs) (value bs) l) ∙ mod-eq_of_lt h.0)
    (digits_low (length bs) b (value bs) ∙ digits_value bs h.1)

pub length_cut : (bits : List ℕ) (p w : ℕ) → length (cut bits p w) ≡ w
unfolding cut
length_cut bits p zero = refl
length_cut bits p (suc w) = ap suc (length_cut bits (suc p) w)

binary_get_or : (bits : List ℕ) (p : ℕ) → Binary bits → get_or bits p 0 < 2
binary_get_or [] p h = omega arith
binary_get_or (b ∷ bits) zero h = h.0
binary_get_or (b ∷ bits) (suc p) h = binary_get_or bits p h.1

pub binary_cut : (bits : List ℕ) (p w : ℕ) → Binary bits → Binary (cut bits p w)
unfolding cut
binary_cut bits p zero h = tt
binary_cut bits p (suc w) h = (binary_get_or bits p h, binary_cut bits (suc p) w h)

pub field_at_lt : (bits : List ℕ) (p w : ℕ) → Binary bits → field_at bits p w < 2 ^ w
unfolding field_at
field_at_lt bits p w h =
    let l = value_lt (cut bits p w) (binary_cut bits p w h) in
    rw length_cut at l
