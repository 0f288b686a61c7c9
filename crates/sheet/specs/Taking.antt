-- Fields that stand one after the other, and the route that a record's four state.
--   InTurn          each field begins where the one before ends
--   fields_answer   the numbers that fields state, or the first of them whose bits are not all there
--   route_of        the route that a record's four numbers state
--   order_answer    a route with its number, or the first question that it fails
use Rattle.std.specs.Prelude.{◌≡◌, ℕ, ◌+◌, List, [], ◌∷◌, map, pos, Result, slice_index}
use Rattle.board.specs.Board.{Shape}
use Rattle.board.specs.Questions.{first_no, answer}
use Rattle.board.specs.declared.route.Route.{Route}
use Rattle.bits.specs.Bits.{bits_of}
use Rattle.bits.specs.Cursor.{Cursor}
use Rattle.bits.specs.Fields.{width, offset}
use Rattle.bits.specs.Signed.{widened}
use Rattle.bits.specs.declared.fault.BitFault.{BitFault}
use Rattle.bits.specs.declared.field.Field.{Field}
use Rattle.layout.specs.Questions.{field_questions, order_questions}
use Rattle.layout.specs.Stated.{stating}
use Rattle.layout.specs.declared.fault.OrderFault.{OrderFault}

-- The first of the fields has o bits before it, and each other begins where the one before ends.
abbrev pub InTurn : ℕ → List Field → Type 0
InTurn o [] = Unit {0}
InTurn o (f ∷ fs) = (offset f ≡ o) × InTurn (o + width f) fs

-- The numbers that the fields state, of the header or of the record that begins where the reader stands; or the first
-- of them whose bits are not all there.
abbrev pub fields_answer : Cursor → List Field → Result (List ℕ) BitFault
fields_answer c fs = answer (first_no (field_questions (bits_of c.bytes) c.position fs)) (map (stating (bits_of c.bytes) c.position) fs)

-- The route that four numbers state: start, end, floor in two's complement, ceiling.
abbrev pub route_of : List ℕ → Route
route_of l =
    record {
      start = slice_index l 0;
      end = slice_index l 1;
      floor = widened (slice_index l 2);
      ceiling = pos (slice_index l 3);
    }

-- The route of number k, if it is one of the frame.
abbrev pub order_answer : Shape → ℕ → Route → Result Route OrderFault
order_answer s k r = answer (first_no (order_questions s k r)) r
