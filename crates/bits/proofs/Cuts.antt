-- A field as a part of the list of bits, read off it and put into it.
use Rattle.std.proofs.Common.{◌≡◌, ℕ, zero, suc, ◌+◌, ◌%◌, ◌^◌, ◌<◌, ◌≤◌, List, ◌∷◌, ◌++◌, length, get_or, take, drop, sym, refl, ap, ◌∙◌, ap₂, add-one, arith}
use Rattle.std.proofs.lemmas.List.{drop-drop, drop_more, drop_at, take_at, length-drop, length-append, take-append-drop}
use Rattle.bits.proofs.Bits.{Binary, length_digits, length_cut, binary_cut, digits_value, value_digits}
use Rattle.bits.specs.Bits.{digits, value, cut, field_at}

cut_take : (bits : List ℕ) (p w : ℕ) → p + w ≤ length bits → cut bits p w ≡ take w (drop p bits)
unfolding cut
cut_take bits p zero h = refl
cut_take bits p (suc w) h =
    let e = cut_take bits (suc p) w (omega arith) in
    let d = drop_more bits p 0 (omega arith) in
    sym
    (ap (take (suc w)) d
    ∙ ap (λ (x : ℕ). get_or bits p 0 ∷ take w (drop x bits)) (add-one p)
    ∙ ap (λ (x : List ℕ). get_or bits p 0 ∷ x) (sym e))

-- what is left from a field on is the field's bits, and what is left after it
pub field_bits : (bits : List ℕ) (p w : ℕ) → Binary bits → p + w ≤ length bits → drop p bits ≡ digits w (field_at bits p w) ++ drop (p + w) bits
unfolding field_at
field_bits bits p w b h =
    let c = cut_take bits p w h in
    let v = digits_value (cut bits p w) (binary_cut bits p w b) in
    let l = length_cut bits p w in
    sym (take-append-drop w (drop p bits))
    ∙ ap₂ (λ (x y : List ℕ). x ++ y) (sym c ∙ sym v ∙ ap (λ (x : ℕ). digits x (value (cut bits p w))) l) (drop-drop w p bits)

-- where the bits of a number stand first in what is left, the field is there, states the number, and the rest is left after it
pub field_stands : (bits : List ℕ) (p w n : ℕ) (rest : List ℕ) → 0 < w → drop p bits ≡ digits w n ++ rest
    → (p + w ≤ length bits) × (field_at bits p w ≡ n % 2 ^ w) × (drop (p + w) bits ≡ rest)
unfolding field_at
field_stands bits p w n rest pos e =
    let l = length_digits w n in
    let h : p + w ≤ length bits = omega (arith, length-drop p bits, ap length e, length-append (digits w n) rest) in (
      h,
      ap value (cut_take bits p w h ∙ ap (take w) e ∙ take_at (digits w n) rest w l) ∙ value_digits w n,
      sym (drop-drop w p bits) ∙ ap (drop w) e ∙ drop_at (digits w n) rest w l,
    )
