-- The questions that a sheet is asked, in their order.
--   field_questions    are all bits of these fields there?
--   limit_questions    are there few enough routes?
--   header_questions   what the header is asked
--   order_questions    what a route is asked, with its number
--   record_questions   what the record of a route is asked       records_questions   all records, in their order
--   all_zero           whether bits are all 0                    zeros_before        how many 0s stand first
--   end_questions      what is asked of the bits after the last record
--   sheet_questions    all of them
--   sheet_fault        the first question that gets a no
use Rattle.std.specs.Prelude.{ℕ, zero, suc, ◌+◌, ◌-◌, Bool, true, ◌&&◌, List, [], ◌∷◌, ◌++◌, length, drop, Option, ◌==◌, nat_le, nat_lt}
use Rattle.board.specs.Board.{Shape}
use Rattle.board.specs.Questions.{Question, first_no, handed_up, frame_questions, route_questions}
use Rattle.board.specs.declared.route.Route.{Route}
use Rattle.bits.specs.Bits.{held}
use Rattle.bits.specs.Fields.{width, offset, record_start, header_fields, record_fields}
use Rattle.layout.specs.Stated.{stated, stating, route_at}
use Rattle.layout.specs.declared.fault.OrderFault.{OrderFault}
use Rattle.layout.specs.declared.fault.SheetFault.{SheetFault}
use Rattle.layout.specs.declared.fault.SheetFault.TheVariants.{Bits, Frame, Order, RouteLimit, EntryLimit, Trailing, Padding}
use Rattle.bits.specs.declared.fault.BitFault.{BitFault}
use Rattle.bits.specs.declared.field.Field.{Field}
use Rattle.bits.specs.declared.field.Field.TheVariants.{Routes}

-- Are all bits of these fields there, of the header (from bit 0 on) or of the record that begins at bit p?
abbrev pub field_questions : List ℕ → ℕ → List Field → List (Question BitFault)
field_questions bits p [] = []
field_questions bits p (f ∷ fs) =
    (held bits (p + offset f) (width f), record { bit = p + offset f }) ∷ field_questions bits p fs

-- Is this a route of the frame? It is the route of number k.
abbrev pub order_questions : Shape → ℕ → Route → List (Question OrderFault)
order_questions s k r = handed_up (λ f. record { route = k; fault = f }) (route_questions s r)

-- Are there at most 512 routes, and no more than the entries?
abbrev pub limit_questions : ℕ → ℕ → List (Question SheetFault)
limit_questions entries n = (nat_le n 512, RouteLimit) ∷ (nat_le n entries, EntryLimit) ∷ []

-- The header: are its four fields there, do they state a frame, and are the routes within the limits?
unfoldable pub header_questions : ℕ → List ℕ → List (Question SheetFault)
header_questions entries bits =
    handed_up Bits (field_questions bits 0 header_fields)
    ++ handed_up Frame (frame_questions (stated bits).shape)
    ++ limit_questions entries (stating bits 0 Routes)

-- The record of route k: are its four fields there, and do they state a route of the frame?
unfoldable pub record_questions : List ℕ → Shape → ℕ → List (Question SheetFault)
record_questions bits s k =
    handed_up Bits (field_questions bits (record_start k) record_fields)
    ++ handed_up Order (order_questions s k (route_at bits (record_start k)))

-- The records of n routes, from route k on.
unfoldable pub records_questions : List ℕ → Shape → ℕ → ℕ → List (Question SheetFault)
records_questions bits s k zero = []
records_questions bits s k (suc n) = record_questions bits s k ++ records_questions bits s (suc k) n

-- Whether all bits are 0.
unfoldable pub all_zero : List ℕ → Bool
all_zero [] = true
all_zero (b ∷ bs) = b == 0 && all_zero bs

-- How many bits stand before the first that is not 0.
unfoldable pub zeros_before : List ℕ → ℕ
zeros_before [] = 0
zeros_before (zero ∷ bs) = suc (zeros_before bs)
zeros_before (suc b ∷ bs) = 0

-- After r records: are fewer than 8 bits left, and are they all 0?
unfoldable pub end_questions : List ℕ → ℕ → List (Question SheetFault)
end_questions bits r =
    (nat_lt (length bits - record_start r) 8, Trailing r)
    ∷ (all_zero (drop (record_start r) bits), Padding r (record_start r + zeros_before (drop (record_start r) bits)))
    ∷ []

-- All questions that a sheet is asked, in their order: the header, each record, the end.
unfoldable pub sheet_questions : ℕ → List ℕ → List (Question SheetFault)
sheet_questions entries bits =
    header_questions entries bits
    ++ records_questions bits (stated bits).shape 0 (stating bits 0 Routes)
    ++ end_questions bits (stating bits 0 Routes)

-- The first question that gets a no.
abbrev pub sheet_fault : ℕ → List ℕ → Option SheetFault
sheet_fault entries bits = first_no (sheet_questions entries bits)
