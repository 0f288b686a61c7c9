-- Where the questions on fields get a yes each, the bits are there.
use Rattle.std.proofs.Common.{◌≡◌, ℕ, zero, suc, ◌+◌, ◌≤◌, Bool, true, false, cond, leb, List, [], ◌∷◌, ◌++◌, length, Some, None, Option, refl, arith}
use Rattle.std.proofs.lemmas.Bool.{leb-true}
use Rattle.board.proofs.First.{first_parts, none_handed}
use Rattle.board.specs.Board.{Shape}
use Rattle.board.specs.Questions.{first_no, handed_up, frame_questions, route_questions}
use Rattle.bits.specs.Bits.{held}
use Rattle.bits.specs.Fields.{width, offset, record_start, header_fields, record_fields}
use Rattle.layout.specs.Questions.{field_questions, limit_questions, header_questions, order_questions, record_questions, records_questions}
use Rattle.layout.specs.Stated.{stated, stating, route_at}
use Rattle.layout.specs.declared.fault.SheetFault.TheVariants.{Bits, Frame, Order}
use Rattle.bits.specs.declared.field.Field.{Field}
use Rattle.bits.specs.declared.field.Field.TheVariants.{Places, Home, Port, Routes, Start, End, Floor, Ceiling}

pub yes_first : {F : Type 0} (yes : Bool) (o : Option F) (f : F) → cond yes o (Some f) ≡ None → (yes ≡ true) × (o ≡ None)
yes_first true o f e = (refl, e)
yes_first false o f e = absurd cc

pub field_held : (bits : List ℕ) (p : ℕ) (f : Field) (fs : List Field) → first_no (field_questions bits p (f ∷ fs)) ≡ None
    → (p + offset f + width f ≤ length bits) × (first_no (field_questions bits p fs) ≡ None)
field_held bits p f fs e =
    let y = yes_first (held bits (p + offset f) (width f)) _ _ e in
    (leb-true (p + offset f + width f) (length bits) y.0, y.1)

-- the last of four fields
last_held : (bits : List ℕ) (p : ℕ) (a b c d : Field) → first_no (field_questions bits p (a ∷ b ∷ c ∷ d ∷ [])) ≡ None → p + offset d + width d ≤ length bits
last_held bits p a b c d e =
    (field_held bits p d []
    (field_held bits p c (d ∷ []) (field_held bits p b (c ∷ d ∷ []) (field_held bits p a (b ∷ c ∷ d ∷ []) e).1).1).1
    ).0

module _ (entries : ℕ) (bits : List ℕ) where
  -- the header's questions in their parts
  pub header_parts : first_no (header_questions entries bits) ≡ None
      → (first_no (field_questions bits 0 header_fields) ≡ None)
      × (first_no (frame_questions (stated bits).shape) ≡ None)
      × (stating bits 0 Routes ≤ 512)
      × (stating bits 0 Routes ≤ entries)
  unfolding header_questions
  header_parts e =
      let n = stating bits 0 Routes in
      let fields = field_questions bits 0 header_fields in
      let frames = frame_questions (stated bits).shape in
      let outer = first_parts (handed_up Bits fields ++ handed_up Frame frames) (limit_questions entries n) e in
      let inner = first_parts (handed_up Bits fields) (handed_up Frame frames) outer.0 in
      let l = yes_first (leb n 512) _ _ outer.1 in
      let m = yes_first (leb n entries) _ _ l.1 in
      (none_handed Bits fields inner.0, none_handed Frame frames inner.1, leb-true n 512 l.0, leb-true n entries m.0)

  pub header_held : first_no (header_questions entries bits) ≡ None → 32 ≤ length bits
  header_held e = last_held bits 0 Places Home Port Routes (header_parts e).0

-- a record's questions in two parts
pub record_parts : (bits : List ℕ) (s : Shape) (k : ℕ) → first_no (record_questions bits s k) ≡ None
    → (first_no (field_questions bits (record_start k) record_fields) ≡ None) × (first_no (route_questions s (route_at bits (record_start k))) ≡ None)
unfolding record_questions
record_parts bits s k e =
    let fields = field_questions bits (record_start k) record_fields in
    let route = route_at bits (record_start k) in
    let parts = first_parts (handed_up Bits fields) (handed_up Order (order_questions s k route)) e in (
      none_handed Bits fields parts.0,
      none_handed (λ f. record { route = k; fault = f }) (route_questions s route) (none_handed Order (order_questions s k route) parts.1),
    )

pub record_held : (bits : List ℕ) (s : Shape) (k : ℕ) → first_no (record_questions bits s k) ≡ None → record_start (suc k) ≤ length bits
record_held bits s k e = omega (arith, last_held bits (record_start k) Start End Floor Ceiling (record_parts bits s k e).0)

pub records_parts : (bits : List ℕ) (s : Shape) (k n : ℕ) → first_no (records_questions bits s k (suc n)) ≡ None
    → (first_no (record_questions bits s k) ≡ None) × (first_no (records_questions bits s (suc k) n) ≡ None)
unfolding records_questions
records_parts bits s k n e = first_parts (record_questions bits s k) (records_questions bits s (suc k) n) e

pub records_held : (bits : List ℕ) (s : Shape) (k n : ℕ) → record_start k ≤ length bits → first_no (records_questions bits s k n) ≡ None
    → record_start (k + n) ≤ length bits
records_held bits s k zero h e = omega arith
records_held bits s k (suc n) h e =
    let q = records_parts bits s k n e in
    omega (arith, records_held bits s (suc k) n (record_held bits s k q.0) q.1)
