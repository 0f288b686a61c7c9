-- One record: what its fields and its route say about the questions on it.
use Rattle.std.proofs.Common.{◌≡◌, ℕ, suc, ◌+◌, ◌-◌, ◌^◌, ◌<◌, ◌≤◌, List, ◌++◌, get_or, map, Some, None, Ok, Err, Option, sym, ap, ◌∙◌, add-one, arith}
use Rattle.board.proofs.First.{first_none, first_some, some_handed, all_handed, handed_no, handed_on, refusal, acceptance}
use Rattle.board.specs.Board.{Shape}
use Rattle.board.specs.Questions.{Question, first_no, handed_up, answer}
use Rattle.board.specs.declared.route.Route.{Route}
use Rattle.bits.proofs.Bits.{binary_bits_of, field_at_lt}
use Rattle.bits.specs.Bits.{bits_of}
use Rattle.bits.specs.Cursor.{Cursor}
use Rattle.bits.specs.Fields.{record_start, record_fields}
use Rattle.sheet.specs.Taking.{fields_answer, route_of, order_answer}
use Rattle.sheet.proofs.Asked.{cursor}
use Rattle.layout.specs.Questions.{field_questions, order_questions, record_questions, records_questions}
use Rattle.layout.specs.Stated.{stating, route_at}
use Rattle.bits.specs.declared.fault.BitFault.{BitFault}
use Rattle.layout.specs.declared.fault.OrderFault.{OrderFault}
use Rattle.layout.specs.declared.fault.SheetFault.{SheetFault}
use Rattle.layout.specs.declared.fault.SheetFault.TheVariants.{Bits, Order}

-- a reader at the record of route k
module _ (c : Cursor) (k : ℕ) (s : Shape) (here : c.position ≡ record_start k) where
  abbrev route : Route
  route = route_at (bits_of c.bytes) (record_start k)

  abbrev fields : List (Question BitFault)
  fields = field_questions (bits_of c.bytes) (record_start k) record_fields

  abbrev asked : Option SheetFault
  asked = first_no (record_questions (bits_of c.bytes) s k)

  at_record : fields_answer c record_fields ≡ fields_answer (cursor c.bytes (record_start k)) record_fields
  at_record = ap (λ (p : ℕ). fields_answer (cursor c.bytes p) record_fields) here

  pub fields_refused : (e : BitFault) → Err e ≡ fields_answer c record_fields → asked ≡ Some (Bits e)
  unfolding record_questions
  fields_refused e t =
      handed_no Bits fields (handed_up Order (order_questions s k route)) e (refusal (first_no fields) _ e (t ∙ at_record))

  -- the numbers that the four fields state
  module _ (x : List ℕ) (t : Ok x ≡ fields_answer c record_fields) where
    read : (first_no fields ≡ None) × (x ≡ map (stating (bits_of c.bytes) (record_start k)) record_fields)
    read = acceptance (first_no fields) (map (stating (bits_of c.bytes) (record_start k)) record_fields) x (t ∙ at_record)

    same : route_of x ≡ route
    unfolding route_at
    same = ap route_of read.1

    past_fields : asked ≡ first_no (handed_up Order (order_questions s k (route_of x)))
    unfolding record_questions
    past_fields =
        handed_on Bits fields (handed_up Order (order_questions s k route)) read.0
        ∙ ap (λ (r : Route). first_no (handed_up Order (order_questions s k r))) (sym same)

    -- 13 bits are below 2 ^ 13
    pub floor_fits : get_or x 2 0 < 2 ^ 13
    floor_fits =
        rw (ap (λ (l : List ℕ). get_or l 2 0) read.1) (field_at_lt (bits_of c.bytes) (record_start k + 14) 13 (binary_bits_of c.bytes))

    pub route_refused : (e : OrderFault) → Err e ≡ order_answer s k (route_of x) → asked ≡ Some (Order e)
    route_refused e u =
        past_fields ∙ some_handed Order (order_questions s k (route_of x)) e (refusal (first_no (order_questions s k (route_of x))) (route_of x) e u)

    pub route_accepted : (r : Route) → Ok r ≡ order_answer s k (route_of x) → asked ≡ None
    route_accepted r u =
        past_fields ∙ all_handed Order (order_questions s k (route_of x)) (acceptance (first_no (order_questions s k (route_of x))) (route_of x) r u).0

-- the records from route k on, one by one: `whole` is what they decide together
module _ (bits : List ℕ) (s : Shape) (k n : ℕ) (whole : Option SheetFault) (left : first_no (records_questions bits s k (n - k)) ≡ whole) where
  one_more : k < n → whole ≡ first_no (record_questions bits s k ++ records_questions bits s (k + 1) (n - (k + 1)))
  unfolding records_questions
  one_more h =
      let e : n - k ≡ suc (n - (k + 1)) = omega arith in
      sym left ∙ ap (λ (x : ℕ). first_no (records_questions bits s k x)) e
      ∙ ap (λ (x : ℕ). first_no (record_questions bits s k ++ records_questions bits s x (n - (k + 1)))) (sym (add-one k))

  pub records_stop : k < n → (f : SheetFault) → Err f ≡ answer {X = Unit {0}} (first_no (record_questions bits s k)) tt → whole ≡ Some f
  records_stop h f t =
      one_more h
      ∙ first_some (record_questions bits s k) (records_questions bits s (k + 1) (n - (k + 1))) f
      (refusal (first_no (record_questions bits s k)) tt f t)

  pub records_on : k < n → Ok tt ≡ answer {X = Unit {0}} (first_no (record_questions bits s k)) tt
      → first_no (records_questions bits s (k + 1) (n - (k + 1))) ≡ whole
  records_on h t =
      sym
      (one_more h
      ∙ first_none (record_questions bits s k) (records_questions bits s (k + 1) (n - (k + 1)))
      (acceptance (first_no (record_questions bits s k)) tt tt t).0)

  pub records_end : n ≤ k → whole ≡ None
  unfolding records_questions
  records_end h = let e : n - k ≡ 0 = omega arith in sym left ∙ ap (λ (x : ℕ). first_no (records_questions bits s k x)) e
