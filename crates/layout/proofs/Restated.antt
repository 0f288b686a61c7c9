-- Bits whose questions get a yes each are the sheet of the board that they state, and that board is valid.
use Rattle.std.proofs.Common.{◌≡◌, ℕ, zero, suc, ◌+◌, ◌-◌, ◌*◌, ◌<◌, ◌≤◌, true, eqb, ltb, List, [], ◌∷◌, ◌++◌, length, drop, None, sym, refl, ap, ◌∙◌, add-zero, zero-add, arith}
use Rattle.std.proofs.lemmas.List.{append_assoc, length-drop}
use Rattle.std.proofs.lemmas.Bool.{ltb-true, eqb-true, and_parts}
use Rattle.std.specs.List.{flat_map, AllByRecursion}
use Rattle.board.proofs.First.{first_parts}
use Rattle.board.proofs.Valid.{shape_valid, route_valid}
use Rattle.board.specs.Board.{Shape, ValidShape, ValidRoute, Valid}
use Rattle.board.specs.Questions.{first_no}
use Rattle.bits.proofs.Bits.{Binary, field_at_lt}
use Rattle.bits.proofs.Cuts.{field_bits}
use Rattle.layout.proofs.Format.{length_sheet_bits}
use Rattle.layout.proofs.Held.{yes_first, field_held, header_parts, header_held, record_parts, records_parts, records_held}
use Rattle.layout.proofs.Stated.{length_routes_from}
use Rattle.bits.proofs.TwosComplement.{narrowed_widened}
use Rattle.bits.specs.Bits.{digits, zeros, fill}
use Rattle.bits.specs.Fields.{width, offset, record_start}
use Rattle.layout.specs.Format.{header_bits, record_bits, sheet_bits}
use Rattle.layout.specs.Questions.{field_questions, header_questions, record_questions, records_questions, all_zero, end_questions, sheet_questions, sheet_fault}
use Rattle.layout.specs.Stated.{stating, route_at, routes_from, stated}
use Rattle.bits.specs.declared.field.Field.{Field}
use Rattle.bits.specs.declared.field.Field.TheVariants.{Places, Home, Port, Routes, Start, End, Floor, Ceiling}

module _ (bits : List ℕ) (binary : Binary bits) where
  -- four fields, each beginning where the one before ends
  four_bits : (p : ℕ) (a b c d : Field) → offset a ≡ 0 → offset b ≡ width a → offset c ≡ offset b + width b → offset d ≡ offset c + width c
      → first_no (field_questions bits p (a ∷ b ∷ c ∷ d ∷ [])) ≡ None
      → drop p bits
      ≡ digits (width a) (stating bits p a)
      ++ (digits (width b) (stating bits p b) ++ (digits (width c) (stating bits p c) ++ (digits (width d) (stating bits p d) ++ drop (p + offset d + width d) bits)))
  four_bits p a b c d oa ob oc od e =
      let ha = field_held bits p a (b ∷ c ∷ d ∷ []) e in
      let hb = field_held bits p b (c ∷ d ∷ []) ha.1 in
      let hc = field_held bits p c (d ∷ []) hb.1 in
      let hd = field_held bits p d [] hc.1 in
      let at : (f : Field) (q : ℕ) → q ≡ p + offset f → p + offset f + width f ≤ length bits → drop q bits ≡ digits (width f) (stating bits p f) ++ drop (p + offset f + width f) bits =
      λ f q g h. ap (λ (x : ℕ). drop x bits) g ∙ field_bits bits (p + offset f) (width f) binary h
      in
      rw (at a p (omega arith) ha.0, at b (p + offset a + width a) (omega arith) hb.0, at c (p + offset b + width b) (omega arith) hc.0, at d (p + offset c + width c) (omega arith) hd.0)

  -- one record
  record_again : (s : Shape) (k : ℕ) → first_no (record_questions bits s k) ≡ None
      → (drop (record_start k) bits ≡ record_bits (route_at bits (record_start k)) ++ drop (record_start (suc k)) bits) × ValidRoute s (route_at bits (record_start k))
  unfolding record_bits route_at
  record_again s k e =
      let parts = record_parts bits s k e in
      let f = four_bits (record_start k) Start End Floor Ceiling refl refl refl refl parts.0 in
      let floor = narrowed_widened (stating bits (record_start k) Floor) (field_at_lt bits (record_start k + 14) 13 binary) in
      let next : record_start (suc k) ≡ record_start k + 27 + 12 = omega arith in (
        rw (floor, next) (f ∙ simp append_assoc),
        route_valid s (route_at bits (record_start k)) parts.1,
      )

  records_again : (s : Shape) (k n : ℕ) → first_no (records_questions bits s k n) ≡ None
      → (drop (record_start k) bits ≡ flat_map record_bits (routes_from bits k n) ++ drop (record_start (k + n)) bits) × AllByRecursion (ValidRoute s) (routes_from bits k n)
  unfolding routes_from
  records_again s k zero e = (rw add-zero, tt)
  records_again s k (suc n) e =
      let parts = records_parts bits s k n e in
      let one = record_again s k parts.0 in
      let more = records_again s (suc k) n parts.1 in
      let step : suc k + n ≡ k + suc n = omega arith in (
        rw (one.0, more.0, step) (simp append_assoc),
        (one.1, more.1),
      )

  -- the header
  header_again : (entries : ℕ) → first_no (header_questions entries bits) ≡ None
      → (bits ≡ header_bits (stated bits) ++ drop 32 bits) × ValidShape (stated bits).shape × (stating bits 0 Routes ≤ 512) × (stating bits 0 Routes ≤ entries)
  unfolding header_bits stated
  header_again entries e =
      let parts = header_parts entries bits e in
      let f = four_bits 0 Places Home Port Routes refl refl refl refl parts.0 in (
        rw (length_routes_from bits 0 (stating bits 0 Routes)) (f ∙ simp append_assoc),
        shape_valid (stated bits).shape parts.1,
        parts.2,
        parts.3,
      )

zeros_again : (xs : List ℕ) → all_zero xs ≡ true → xs ≡ zeros (length xs)
unfolding all_zero
zeros_again [] e = refl
zeros_again (x ∷ xs) e =
    let b = and_parts (eqb x 0) (all_zero xs) e in
    rw (eqb-true x 0 b.0) (ap (λ (ys : List ℕ). 0 ∷ ys) (zeros_again xs b.1))

-- what is left after the records
end_again : (bits : List ℕ) (r : ℕ) → first_no (end_questions bits r) ≡ None
    → (length bits - record_start r < 8) × (drop (record_start r) bits ≡ zeros (length bits - record_start r))
unfolding end_questions
end_again bits r e =
    let few = yes_first (ltb (length bits - record_start r) 8) _ _ e in
    let rest = yes_first (all_zero (drop (record_start r) bits)) _ _ few.1 in (
      ltb-true (length bits - record_start r) 8 few.0,
      zeros_again (drop (record_start r) bits) rest.0 ∙ ap zeros (length-drop (record_start r) bits),
    )

-- zero bits that fill the last byte
fills : (n m : ℕ) → n ≤ 8 * m → 8 * m - n < 8 → 8 * m - n ≡ fill n
fills n m h l = omega arith

-- the whole sheet
pub sheet_again : (bits : List ℕ) (entries m : ℕ) → Binary bits → length bits ≡ 8 * m → sheet_fault entries bits ≡ None
    → Valid (stated bits) × (length (stated bits).routes ≤ entries) × (bits ≡ sheet_bits (stated bits) ++ zeros (fill (length (sheet_bits (stated bits)))))
unfolding sheet_bits sheet_questions stated
sheet_again bits entries m binary whole e =
    let n = stating bits 0 Routes in
    let shape = (stated bits).shape in
    let outer = first_parts (header_questions entries bits ++ records_questions bits shape 0 n) (end_questions bits n) e in
    let inner = first_parts (header_questions entries bits) (records_questions bits shape 0 n) outer.0 in
    let header = header_again bits binary entries inner.0 in
    let records = records_again bits binary shape 0 n inner.1 in
    let end = end_again bits n outer.1 in
    let routes = length_routes_from bits 0 n in
    let inside = records_held bits shape 0 n (header_held entries bits inner.0) inner.1 in
    let long : length (sheet_bits (stated bits)) ≡ record_start n = length_sheet_bits (stated bits) ∙ ap record_start routes in
    let pad : length bits - record_start n ≡ fill (length (sheet_bits (stated bits))) =
    ap (λ (x : ℕ). x - record_start n) whole ∙ fills (record_start n) m (omega arith) (omega (arith, end.0)) ∙ ap fill (sym long)
    in (
      record { frame = header.1; few = omega (arith, header.2); each = records.1 },
      omega (arith, header.3),
      header.0 ∙ rw (records.0, zero-add n, end.1, pad) (simp append_assoc),
    )
