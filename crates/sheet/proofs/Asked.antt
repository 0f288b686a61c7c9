-- What taking fields one after the other says about the questions on them.
use Rattle.std.proofs.Common.{◌≡◌, ℕ, ◌+◌, ◌^◌, ◌<◌, Bool, true, false, cond, ◌&&◌, leb, ltb, List, [], ◌∷◌, ◌++◌, length, get_or, take, drop, set, map, sum_by, Some, Ok, Err, Option, refl, sym, subst, ap, ◌∙◌, ap₂, arith}
use Rattle.std.proofs.lemmas.Bool.{lt-ltb}
use Rattle.std.proofs.lemmas.List.{drop_more, take_more, take_more_set, map-append}
use Rattle.std.proofs.lemmas.List.Sums.{sum_by_push}
use Rattle.board.specs.Questions.{first_no}
use Rattle.bits.specs.Reading.{moved}
use Rattle.sheet.specs.Taking.{InTurn}
use Rattle.bits.proofs.Bits.{length_bits_of}
use Rattle.bits.proofs.Fields.{width_le, offset_le}
use Rattle.bits.specs.Bits.{bits_of, held}
use Rattle.bits.specs.Cursor.{Cursor}
use Rattle.bits.specs.Fields.{width, offset}
use Rattle.bits.specs.Reading.{taken}
use Rattle.bits.specs.declared.fault.BitFault.{BitFault}
use Rattle.bits.specs.declared.field.Field.{Field}
use Rattle.layout.specs.Questions.{field_questions}
use Rattle.layout.specs.Stated.{stating}

-- the number taken, or the fault, by whether the bits are there
by_held : (b v : Bool) (n : ℕ) (x : ℕ) (f : BitFault) → v ≡ true → Ok n ≡ cond (b && v) (Ok x) (Err f) → (b ≡ true) × (n ≡ x)
by_held b v n x f h t = grind arith

by_missing : (b v : Bool) (x : ℕ) (f e : BitFault) → v ≡ true → Err e ≡ cond (b && v) (Ok x) (Err f) → (b ≡ false) × (e ≡ f)
by_missing b v x f e h t = grind arith

abbrev pub cursor : List ℕ → ℕ → Cursor
cursor bytes n = record { bytes = bytes; position = n }

-- a field of the header or record that begins at bit p, taken where it stands
module _ (bytes : List ℕ) (p q : ℕ) (f : Field) (fs : List Field) (small : p < 2 ^ 32) (here : q ≡ p + offset f) where
  abbrev bits : List ℕ
  bits = bits_of bytes

  abbrev asked : List Field → Option BitFault
  asked gs = first_no (field_questions bits p gs)

  abbrev short : BitFault
  short = record { bit = p + offset f }

  reach : ltb (p + offset f + width f) (2 ^ 64) ≡ true
  reach = lt-ltb (p + offset f + width f) (2 ^ 64) (omega (arith, width_le f, offset_le f))

  -- what a reader there takes, by whether the bits are there
  by_bits : taken (cursor bytes q) (width f)
      ≡ cond (held bits (p + offset f) (width f) && ltb (p + offset f + width f) (2 ^ 64)) (Ok (stating bits p f)) (Err short)
  by_bits = ap (λ (x : ℕ). taken (cursor bytes x) (width f)) here ∙ ap (λ (n : ℕ). cond (leb (p + offset f + width f) n && ltb (p + offset f + width f) (2 ^ 64)) (Ok (stating bits p f)) (Err short)) (sym (length_bits_of bytes))

  pub field_there : (n : ℕ) → Ok n ≡ taken (cursor bytes q) (width f) → (asked (f ∷ fs) ≡ asked fs) × (n ≡ stating bits p f)
  field_there n t =
      let h = by_held (held bits (p + offset f) (width f)) (ltb (p + offset f + width f) (2 ^ 64)) n (stating bits p f) short reach (t ∙ by_bits) in
      (ap (λ (x : Bool). cond x (asked fs) (Some short)) h.0, h.1)

  pub field_missing : (e : BitFault) → Err e ≡ taken (cursor bytes q) (width f) → asked (f ∷ fs) ≡ Some e
  field_missing e t =
      let h = by_missing (held bits (p + offset f) (width f)) (ltb (p + offset f + width f) (2 ^ 64)) (stating bits p f) short e reach (t ∙ by_bits) in
      ap (λ (x : Bool). cond x (asked fs) (Some short)) h.0 ∙ ap (λ (x : BitFault). Some x) (sym h.1)

-- the first k of some fields are taken: the reader stands behind them, their numbers are there, and the first field
-- that is missing is among those that are left
pub record Taking (c : Cursor) (fs : List Field) (k : ℕ) (now : Cursor) (numbers : List ℕ) : Type 0 where
  pub reader : now ≡ moved c (sum_by width (take k fs))
  pub turn : InTurn (sum_by width (take k fs)) (drop k fs)
  pub left : first_no (field_questions (bits_of c.bytes) c.position (drop k fs)) ≡ first_no (field_questions (bits_of c.bytes) c.position fs)
  pub taken_so_far : take k numbers ≡ map (stating (bits_of c.bytes) c.position) (take k fs)

module _ (c : Cursor) (fs : List Field) (k : ℕ) (now : Cursor) (numbers : List ℕ) (d : Field) (so_far : Taking c fs k now numbers) where
  module _ (small : c.position < 2 ^ 32) (inside : k < length fs) where
    abbrev here : Field
    here = get_or fs k d

    abbrev rest : List Field
    rest = drop (k + 1) fs

    split : drop k fs ≡ here ∷ rest
    split = drop_more fs k d inside

    turn : (offset here ≡ sum_by width (take k fs)) × InTurn (sum_by width (take k fs) + width here) rest
    turn = subst (λ (x : List Field). InTurn (sum_by width (take k fs)) x) split so_far.turn

    place : now ≡ cursor c.bytes (c.position + offset here)
    place = so_far.reader ∙ ap (λ (x : ℕ). cursor c.bytes (c.position + x)) (sym turn.0)

    left : first_no (field_questions (bits_of c.bytes) c.position (here ∷ rest)) ≡ first_no (field_questions (bits_of c.bytes) c.position fs)
    left = ap (λ (x : List Field). first_no (field_questions (bits_of c.bytes) c.position x)) (sym split) ∙ so_far.left

    pub taking_stop : (e : BitFault) → Err e ≡ taken now (width here) → first_no (field_questions (bits_of c.bytes) c.position fs) ≡ Some e
    taking_stop e t =
        sym left
        ∙ field_missing c.bytes c.position (c.position + offset here) here rest small refl e
        (t ∙ ap (λ (x : Cursor). taken x (width here)) place)

    pub taking_more : (n : ℕ) → length numbers ≡ length fs → Ok n ≡ taken now (width here) → Taking c fs (k + 1) (moved now (width here)) (set numbers k n)
    taking_more n same t =
        let h =
        field_there c.bytes c.position (c.position + offset here) here rest small refl n
        (t ∙ ap (λ (x : Cursor). taken x (width here)) place)
        in
        let sum = ap (sum_by width) (take_more fs k d inside) ∙ sum_by_push width (take k fs) here in
        let f = stating (bits_of c.bytes) c.position in
        record {
          reader =
              ap (λ (x : Cursor). moved x (width here)) so_far.reader
              ∙ ap (λ (x : ℕ). cursor c.bytes x) (omega (arith, sum));
          turn = subst (λ (x : ℕ). InTurn x rest) (sym sum) turn.1;
          left = sym h.0 ∙ left;
          taken_so_far =
              take_more_set numbers k n (omega arith) ∙ ap₂ (λ (xs : List ℕ) (x : ℕ). xs ++ x ∷ []) so_far.taken_so_far h.1
              ∙ sym (ap (map f) (take_more fs k d inside) ∙ map-append f (take k fs) (here ∷ []));
        }
