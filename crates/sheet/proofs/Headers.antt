-- The header: what its fields and its frame say about the questions on it.
use Rattle.std.proofs.Common.{◌≡◌, ℕ, ◌<◌, ◌≤◌, Bool, true, false, cond, leb, List, ◌++◌, get_or, map, Some, None, Ok, Err, Option, sym, refl, ap, ◌∙◌, ap₂}
use Rattle.std.proofs.lemmas.List.{append_assoc}
use Rattle.std.proofs.lemmas.Bool.{lt-leb, le-leb}
use Rattle.board.proofs.First.{first_some, handed_no, handed_on, refusal, acceptance}
use Rattle.board.specs.Board.{Shape}
use Rattle.board.specs.Questions.{Question, first_no, handed_up, frame_questions, frame_answer}
use Rattle.board.specs.declared.fault.FrameFault.{FrameFault}
use Rattle.bits.specs.Bits.{bits_of}
use Rattle.bits.specs.Cursor.{Cursor}
use Rattle.bits.specs.Fields.{header_fields}
use Rattle.sheet.specs.Taking.{fields_answer}
use Rattle.sheet.proofs.Asked.{cursor}
use Rattle.layout.specs.Questions.{field_questions, limit_questions, header_questions}
use Rattle.layout.specs.Stated.{stating, stated}
use Rattle.bits.specs.declared.fault.BitFault.{BitFault}
use Rattle.layout.specs.declared.fault.SheetFault.{SheetFault}
use Rattle.layout.specs.declared.fault.SheetFault.TheVariants.{Bits, Frame, RouteLimit, EntryLimit}
use Rattle.bits.specs.declared.field.Field.TheVariants.{Routes}

-- a reader at the beginning
module _ (c : Cursor) (entries : ℕ) (here : c.position ≡ 0) where
  abbrev fields : List (Question BitFault)
  fields = field_questions (bits_of c.bytes) 0 header_fields

  abbrev frames : List (Question FrameFault)
  frames = frame_questions (stated (bits_of c.bytes)).shape

  abbrev limits : List (Question SheetFault)
  limits = limit_questions entries (stating (bits_of c.bytes) 0 Routes)

  abbrev asked : Option SheetFault
  asked = first_no (header_questions entries (bits_of c.bytes))

  at_start : fields_answer c header_fields ≡ fields_answer (cursor c.bytes 0) header_fields
  at_start = ap (λ (p : ℕ). fields_answer (cursor c.bytes p) header_fields) here

  pub fields_refused : (e : BitFault) → Err e ≡ fields_answer c header_fields → asked ≡ Some (Bits e)
  unfolding header_questions
  fields_refused e t =
      first_some (handed_up Bits fields ++ handed_up Frame frames) limits (Bits e)
      (handed_no Bits fields (handed_up Frame frames) e (refusal (first_no fields) _ e (t ∙ at_start)))

  -- the numbers that the four fields state
  module _ (x : List ℕ) (t : Ok x ≡ fields_answer c header_fields) where
    abbrev given : Shape
    given = record { places = get_or x 0 0; home = get_or x 1 0; port = get_or x 2 0 }

    abbrev routes : ℕ
    routes = get_or x 3 0

    read : (first_no fields ≡ None) × (x ≡ map (stating (bits_of c.bytes) 0) header_fields)
    read = acceptance (first_no fields) (map (stating (bits_of c.bytes) 0) header_fields) x (t ∙ at_start)

    shape_is : given ≡ (stated (bits_of c.bytes)).shape
    unfolding stated
    shape_is = ap (λ (l : List ℕ). record { places = get_or l 0 0; home = get_or l 1 0; port = get_or l 2 0 }) read.1

    routes_are : routes ≡ stating (bits_of c.bytes) 0 Routes
    routes_are = ap (λ (l : List ℕ). get_or l 3 0) read.1

    past_fields : asked ≡ first_no (handed_up Frame frames ++ limits)
    unfolding header_questions
    past_fields =
        ap first_no (append_assoc (handed_up Bits fields) (handed_up Frame frames) limits)
        ∙ handed_on Bits fields (handed_up Frame frames ++ limits) read.0

    pub frame_refused : (e : FrameFault) → Err e ≡ frame_answer given.places given.home given.port → asked ≡ Some (Frame e)
    frame_refused e f =
        let no : first_no frames ≡ Some e = ap (λ (s : Shape). first_no (frame_questions s)) (sym shape_is) ∙ refusal (first_no (frame_questions given)) given e f in
        past_fields ∙ handed_no Frame frames limits e no

    module _ (s : Shape) (f : Ok s ≡ frame_answer given.places given.home given.port) where
      -- past the frame the two limits are left
      pub frame_accepted : (asked ≡ first_no limits) × (s ≡ (stated (bits_of c.bytes)).shape) × (routes ≡ stating (bits_of c.bytes) 0 Routes)
      frame_accepted =
          let y = acceptance (first_no (frame_questions given)) given s f in
          let all : first_no frames ≡ None = ap (λ (z : Shape). first_no (frame_questions z)) (sym shape_is) ∙ y.0 in
          (past_fields ∙ handed_on Frame frames limits all, y.1 ∙ shape_is, routes_are)

      by_limits : (few room : Bool) → leb routes 512 ≡ few → leb routes entries ≡ room
          → asked ≡ cond few (cond room None (Some EntryLimit)) (Some RouteLimit)
      by_limits few room p q =
          frame_accepted.0
          ∙ ap (λ (n : ℕ). first_no (limit_questions entries n)) (sym routes_are)
          ∙ ap₂ (λ (y z : Bool). cond y (cond z None (Some EntryLimit)) (Some RouteLimit)) p q

      pub over_limit : 512 < routes → asked ≡ Some RouteLimit
      over_limit h = by_limits false (leb routes entries) (lt-leb routes 512 h) refl

      pub over_entries : routes ≤ 512 → entries < routes → asked ≡ Some EntryLimit
      over_entries h k = by_limits true false (le-leb routes 512 h) (lt-leb routes entries k)

      pub within_limits : routes ≤ 512 → routes ≤ entries → asked ≡ None
      within_limits h k = by_limits true true (le-leb routes 512 h) (le-leb routes entries k)
