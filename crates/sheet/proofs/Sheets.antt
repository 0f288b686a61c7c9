-- The questions on a whole sheet: the header, the records and the end, one after the other.
use Rattle.std.proofs.Common.{◌≡◌, ℕ, ◌*◌, ◌≤◌, List, ◌++◌, length, Some, None, Ok, Err, sym, ap, ◌∙◌, arith}
use Rattle.board.proofs.First.{first_none, first_some, refusal, acceptance}
use Rattle.board.specs.Questions.{Question, first_no, answer}
use Rattle.bits.proofs.Bits.{length_bits_of}
use Rattle.layout.proofs.Held.{header_held, records_held}
use Rattle.bits.specs.Bits.{bits_of}
use Rattle.bits.specs.Fields.{record_start}
use Rattle.sheet.specs.Header.{Numbers, stated_header}
use Rattle.layout.specs.Questions.{header_questions, records_questions, end_questions, sheet_questions, sheet_fault}
use Rattle.layout.specs.Stated.{stated, stating}
use Rattle.layout.specs.declared.fault.SheetFault.{SheetFault}
use Rattle.bits.specs.declared.field.Field.TheVariants.{Routes}

module _ (bytes : List ℕ) (entries : ℕ) where
  abbrev bits : List ℕ
  bits = bits_of bytes

  abbrev header : List (Question SheetFault)
  header = header_questions entries bits

  abbrev records : List (Question SheetFault)
  records = records_questions bits (stated bits).shape 0 (stating bits 0 Routes)

  abbrev end : List (Question SheetFault)
  end = end_questions bits (stating bits 0 Routes)

  pub header_refused : (f : SheetFault) → Err f ≡ answer (first_no header) (stated_header bits) → sheet_fault entries bits ≡ Some f
  unfolding sheet_questions
  header_refused f t = first_some (header ++ records) end f (first_some header records f (refusal (first_no header) (stated_header bits) f t))

  -- h is the header as it was read
  module _ (h : Numbers) (t : Ok h ≡ answer (first_no header) (stated_header bits)) where
    accepted : (first_no header ≡ None) × (h ≡ stated_header bits)
    accepted = acceptance (first_no header) (stated_header bits) h t

    as_read : first_no records ≡ first_no (records_questions bits h.shape 0 h.routes)
    as_read = ap (λ (x : Numbers). first_no (records_questions bits x.shape 0 x.routes)) (sym accepted.1)

    pub records_refused : (f : SheetFault) → Err f ≡ answer {X = Unit {0}} (first_no (records_questions bits h.shape 0 h.routes)) tt
        → sheet_fault entries bits ≡ Some f
    unfolding sheet_questions
    records_refused f u =
        first_some (header ++ records) end f
        (first_none header records accepted.0 ∙ as_read ∙ refusal (first_no (records_questions bits h.shape 0 h.routes)) tt f u)

    module _ (u : Ok tt ≡ answer {X = Unit {0}} (first_no (records_questions bits h.shape 0 h.routes)) tt) where
      all_yes : first_no records ≡ None
      all_yes = as_read ∙ (acceptance (first_no (records_questions bits h.shape 0 h.routes)) tt tt u).0

      pub records_inside : record_start h.routes ≤ 8 * length bytes
      records_inside =
          let first = header_held entries bits accepted.0 in
          let l = records_held bits (stated bits).shape 0 (stating bits 0 Routes) first all_yes in
          let n : h.routes ≡ stating bits 0 Routes = ap (λ (x : Numbers). x.routes) accepted.1 in
          omega (arith, length_bits_of bytes)

      pub end_decides : sheet_fault entries bits ≡ first_no (end_questions bits h.routes)
      unfolding sheet_questions
      end_decides =
          first_none (header ++ records) end (first_none header records accepted.0 ∙ all_yes)
          ∙ ap (λ (x : Numbers). first_no (end_questions bits x.routes)) (sym accepted.1)
