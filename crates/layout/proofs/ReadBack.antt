-- The sheet of a valid board states that board, and every question on it gets a yes.
use Rattle.std.proofs.Common.{◌≡◌, ℕ, zero, suc, ◌+◌, ◌-◌, ◌%◌, ◌^◌, ◌<◌, ◌≤◌, true, List, [], ◌∷◌, ◌++◌, length, drop, ℤ, pos, nat_abs, ◌≤ℤ◌, None, sym, refl, ap, ◌∙◌, add-zero, mod-eq_of_lt, zero-add, arith}
use Rattle.std.proofs.lemmas.List.{append_assoc, length-append, length-drop, length-replicate}
use Rattle.std.proofs.lemmas.Int.{ints}
use Rattle.std.proofs.lemmas.Bool.{le-leb, lt-ltb, cond-true}
use Rattle.std.proofs.lemmas.Bool.Decides.{nat_tests}
use Rattle.std.specs.List.{flat_map, AllByRecursion}
use Rattle.board.proofs.First.{first_none, all_handed, handed_on}
use Rattle.board.proofs.Valid.{shape_accepted, route_accepted}
use Rattle.board.specs.Board.{Board, Shape, ValidRoute, Valid}
use Rattle.board.specs.Questions.{first_no, handed_up, frame_questions, route_questions}
use Rattle.board.specs.declared.route.Route.{Route}
use Rattle.bits.proofs.Cuts.{field_stands}
use Rattle.layout.proofs.Format.{length_sheet_bits}
use Rattle.bits.proofs.TwosComplement.{narrowed_lt, widened_narrowed}
use Rattle.bits.specs.Bits.{digits, zeros}
use Rattle.bits.specs.Fields.{width, offset, record_start, header_fields, record_fields}
use Rattle.bits.specs.Signed.{narrowed, widened}
use Rattle.layout.specs.Format.{header_bits, record_bits, sheet_bits}
use Rattle.layout.specs.Questions.{field_questions, limit_questions, header_questions, order_questions, record_questions, records_questions, all_zero, end_questions, sheet_questions, sheet_fault}
use Rattle.layout.specs.Stated.{stating, route_at, routes_from, stated}
use Rattle.layout.specs.declared.fault.SheetFault.TheVariants.{Bits, Frame, Order}
use Rattle.bits.specs.declared.field.Field.{Field}
use Rattle.bits.specs.declared.field.Field.TheVariants.{Places, Home, Port, Routes, Start, End, Floor, Ceiling}

natural : (z : ℤ) → pos 0 ≤ℤ z → z ≤ℤ pos 4095 → (nat_abs z < 4096) × (pos (nat_abs z) ≡ z)
natural z l u = (grind (arith, ints), grind (arith, ints))

field_yes : (bits : List ℕ) (p : ℕ) (f : Field) (fs : List Field) → p + offset f + width f ≤ length bits
    → first_no (field_questions bits p fs) ≡ None → first_no (field_questions bits p (f ∷ fs)) ≡ None
field_yes bits p f fs h e = cond-true _ _ _ (le-leb (p + offset f + width f) (length bits) h) ∙ e

-- four fields that stand one after the other in what is left from bit p on
module _ (bits : List ℕ) (p : ℕ) (a b c d : Field) (na nb nc nd : ℕ) (rest : List ℕ)
    (oa : offset a ≡ 0) (ob : offset b ≡ width a) (oc : offset c ≡ offset b + width b) (od : offset d ≡ offset c + width c)
    (pa : 0 < width a) (pb : 0 < width b) (pc : 0 < width c) (pd : 0 < width d)
    (e : drop p bits ≡ digits (width a) na ++ (digits (width b) nb ++ (digits (width c) nc ++ (digits (width d) nd ++ rest)))) where
  moved : (q q' : ℕ) (xs : List ℕ) → drop q bits ≡ xs → q' ≡ q → drop q' bits ≡ xs
  moved q q' xs h g = rw g h

  pub four_stand :
      (stating bits p a ≡ na % 2 ^ width a) × (stating bits p b ≡ nb % 2 ^ width b) × (stating bits p c ≡ nc % 2 ^ width c) × (stating bits p d ≡ nd % 2 ^ width d)
      × (first_no (field_questions bits p (a ∷ b ∷ c ∷ d ∷ [])) ≡ None)
      × (drop (p + offset d + width d) bits ≡ rest)
  four_stand =
      let ra = digits (width b) nb ++ (digits (width c) nc ++ (digits (width d) nd ++ rest)) in
      let rb = digits (width c) nc ++ (digits (width d) nd ++ rest) in
      let rc = digits (width d) nd ++ rest in
      let sa = field_stands bits (p + offset a) (width a) na ra pa (moved p (p + offset a) (digits (width a) na ++ ra) e (omega arith)) in
      let sb = field_stands bits (p + offset b) (width b) nb rb pb (moved (p + offset a + width a) (p + offset b) ra sa.2 (omega arith)) in
      let sc = field_stands bits (p + offset c) (width c) nc rc pc (moved (p + offset b + width b) (p + offset c) rb sb.2 (omega arith)) in
      let sd = field_stands bits (p + offset d) (width d) nd rest pd (moved (p + offset c + width c) (p + offset d) rc sc.2 (omega arith)) in (
        sa.1,
        sb.1,
        sc.1,
        sd.1,
        field_yes bits p a (b ∷ c ∷ d ∷ []) sa.0
            (field_yes bits p b (c ∷ d ∷ []) sb.0 (field_yes bits p c (d ∷ []) sc.0 (field_yes bits p d [] sd.0 refl))),
        sd.2,
      )

-- one record
record_back : (bits : List ℕ) (s : Shape) (k : ℕ) (r : Route) (rest : List ℕ) → s.places ≤ 128 → ValidRoute s r → drop (record_start k) bits ≡ record_bits r ++ rest
    → (route_at bits (record_start k) ≡ r) × (first_no (record_questions bits s k) ≡ None) × (drop (record_start (suc k)) bits ≡ rest)
unfolding record_bits route_at record_questions
record_back bits s k r rest few v e =
    let c = natural r.ceiling v.ceiling_low v.ceiling_high in
    let top : r.floor ≤ℤ pos 4095 = omega (arith, ints, v.floor_high, v.ceiling_high) in
    let n = narrowed_lt r.floor v.floor_low top in
    let f =
    four_stand bits (record_start k) Start End Floor Ceiling r.start r.end (narrowed r.floor) (nat_abs r.ceiling) rest refl refl refl refl
    (omega arith) (omega arith) (omega arith) (omega arith) (e ∙ simp append_assoc)
    in
    let f₀ = f.0 ∙ mod-eq_of_lt {m = 2 ^ 7} (omega (arith, v.start_inside)) in
    let f₁ = f.1 ∙ mod-eq_of_lt {m = 2 ^ 7} (omega (arith, v.end_inside)) in
    let f₂ = ap widened (f.2 ∙ mod-eq_of_lt {m = 2 ^ 13} n) ∙ widened_narrowed r.floor v.floor_low top in
    let f₃ = ap pos (f.3 ∙ mod-eq_of_lt {m = 2 ^ 12} c.0) ∙ c.1 in
    let route : route_at bits (record_start k) ≡ r = rw (f₀, f₁, f₂, f₃) in (
      route,
      handed_on Bits (field_questions bits (record_start k) record_fields) (handed_up Order (order_questions s k (route_at bits (record_start k)))) f.4
          ∙ all_handed Order (order_questions s k (route_at bits (record_start k)))
          (all_handed (λ g. record { route = k; fault = g }) (route_questions s (route_at bits (record_start k)))
          (ap (λ (x : Route). first_no (route_questions s x)) route ∙ route_accepted s r v)),
      ap (λ (x : ℕ). drop x bits) (omega arith) ∙ f.5,
    )

-- the records, one after the other
records_back : (bits : List ℕ) (s : Shape) (k : ℕ) (rs : List Route) (rest : List ℕ) → s.places ≤ 128 → AllByRecursion (ValidRoute s) rs
    → drop (record_start k) bits ≡ flat_map record_bits rs ++ rest
    → (routes_from bits k (length rs) ≡ rs) × (first_no (records_questions bits s k (length rs)) ≡ None) × (drop (record_start (k + length rs)) bits ≡ rest)
unfolding routes_from records_questions
records_back bits s k [] rest few v e = (refl, refl, rw add-zero e)
records_back bits s k (r ∷ rs) rest few v e =
    let one = record_back bits s k r (flat_map record_bits rs ++ rest) few v.0 (e ∙ append_assoc (record_bits r) (flat_map record_bits rs) rest) in
    let more = records_back bits s (suc k) rs rest few v.1 one.2 in (
      rw (one.0, more.0),
      first_none (record_questions bits s k) (records_questions bits s (suc k) (length rs)) one.1 ∙ more.1,
      ap (λ (x : ℕ). drop (record_start x) bits) (omega arith) ∙ more.2,
    )

-- the header
header_back : (bits : List ℕ) (entries : ℕ) (b : Board) (rest : List ℕ) → Valid b → length b.routes ≤ entries → bits ≡ header_bits b ++ rest
    → (stating bits 0 Routes ≡ length b.routes) × ((stated bits).shape ≡ b.shape) × (first_no (header_questions entries bits) ≡ None) × (drop 32 bits ≡ rest)
unfolding header_bits header_questions stated
header_back bits entries b rest v room e =
    let w = v.frame in
    let f =
    four_stand bits 0 Places Home Port Routes b.shape.places b.shape.home b.shape.port (length b.routes) rest refl refl refl refl
    (omega arith) (omega arith) (omega arith) (omega arith) (e ∙ simp append_assoc)
    in
    let f₀ = f.0 ∙ mod-eq_of_lt {m = 2 ^ 8} (omega (arith, w.few)) in
    let f₁ = f.1 ∙ mod-eq_of_lt {m = 2 ^ 7} (omega (arith, w.few, w.home_inside)) in
    let f₂ = f.2 ∙ mod-eq_of_lt {m = 2 ^ 7} (omega (arith, w.few, w.port_inside)) in
    let f₃ = f.3 ∙ mod-eq_of_lt {m = 2 ^ 10} (omega (arith, v.few)) in
    let shape : (stated bits).shape ≡ b.shape = rw (f₀, f₁, f₂) in
    let n = stating bits 0 Routes in
    let few = v.few in
    let limits : first_no (limit_questions entries n) ≡ None = grind (arith, nat_tests) in
    let fields = field_questions bits 0 header_fields in
    let frames = frame_questions (stated bits).shape in
    let accepted : first_no frames ≡ None = ap (λ (x : Shape). first_no (frame_questions x)) shape ∙ shape_accepted b.shape w in (
      f₃,
      shape,
      first_none (handed_up Bits fields ++ handed_up Frame frames) (limit_questions entries n)
          (handed_on Bits fields (handed_up Frame frames) f.4 ∙ all_handed Frame frames accepted)
          ∙ limits,
      f.5,
    )

all_zeros : (n : ℕ) → all_zero (zeros n) ≡ true
unfolding all_zero
all_zeros zero = refl
all_zeros (suc n) = all_zeros n

-- what is left after the records
end_back : (bits : List ℕ) (r z : ℕ) → z < 8 → record_start r ≤ length bits → drop (record_start r) bits ≡ zeros z → first_no (end_questions bits r) ≡ None
unfolding end_questions
end_back bits r z h l e =
    let n : length bits - record_start r ≡ z = sym (length-drop (record_start r) bits) ∙ ap length e ∙ length-replicate z 0 in
    rw (lt-ltb (length bits - record_start r) 8 (omega arith), ap all_zero e ∙ all_zeros z)

-- the whole sheet
pub sheet_back : (bits : List ℕ) (entries : ℕ) (b : Board) (z : ℕ) → Valid b → length b.routes ≤ entries → z < 8 → bits ≡ sheet_bits b ++ zeros z
    → (sheet_fault entries bits ≡ None) × (stated bits ≡ b)
unfolding sheet_bits stated sheet_questions
sheet_back bits entries b z v room h e =
    let m = length b.routes in
    let n = stating bits 0 Routes in
    let header = header_back bits entries b (flat_map record_bits b.routes ++ zeros z) v room (e ∙ append_assoc (header_bits b) (flat_map record_bits b.routes) (zeros z)) in
    let records = records_back bits b.shape 0 b.routes (zeros z) v.frame.few v.each header.3 in
    let long : record_start m ≤ length bits = omega (arith, ap length e, length-append (sheet_bits b) (zeros z), length_sheet_bits b) in
    let tail : drop (record_start m) bits ≡ zeros z = rw zero-add at records.2 in
    let asked : first_no (records_questions bits (stated bits).shape 0 n) ≡ None = rw (header.1, header.0) records.1 in
    let last : first_no (end_questions bits n) ≡ None = rw header.0 (end_back bits m z h long tail) in (
      first_none (header_questions entries bits ++ records_questions bits (stated bits).shape 0 n) (end_questions bits n)
          (first_none (header_questions entries bits) (records_questions bits (stated bits).shape 0 n) header.2 ∙ asked)
          ∙ last,
      rw (header.1, header.0, records.0),
    )
