-- The sheet of a board, written forward: each field's bits, one after the other.
--   header_bits    the header of a board
--   record_bits    the record of a route
--   sheet_bits     the header and all records
--   IsSheet        the bytes that are a board's sheet
--   sheet_length   how many bytes a sheet with so many routes has
use Rattle.std.specs.Prelude.{◌≡◌, ℕ, ◌+◌, ◌/◌, List, ◌++◌, length, unsigned_abs}
use Rattle.std.specs.List.{flat_map}
use Rattle.board.specs.Board.{Board}
use Rattle.board.specs.declared.route.Route.{Route}
use Rattle.bits.specs.Bits.{digits, bits_of, zeros, fill}
use Rattle.bits.specs.Signed.{narrowed}
use Rattle.bits.specs.Fields.{width, record_start}
use Rattle.bits.specs.declared.field.Field.TheVariants.{Places, Home, Port, Routes, Start, End, Floor, Ceiling}

-- The header: how many places, home, port, and how many routes.
unfoldable pub header_bits : Board → List ℕ
header_bits b =
    digits (width Places) b.shape.places ++ digits (width Home) b.shape.home ++ digits (width Port) b.shape.port
    ++ digits (width Routes) (length b.routes)

-- The record of a route: start, end, floor and ceiling.
unfoldable pub record_bits : Route → List ℕ
record_bits r =
    digits (width Start) r.start ++ digits (width End) r.end ++ digits (width Floor) (narrowed r.floor)
    ++ digits (width Ceiling) (unsigned_abs r.ceiling)

-- The header, and then the record of each route in the order of their numbers.
unfoldable pub sheet_bits : Board → List ℕ
sheet_bits b = header_bits b ++ flat_map record_bits b.routes

-- These bytes are the sheet of the board: its bits, and zero bits that fill the last byte.
abbrev pub IsSheet : Board → List ℕ → Type 0
IsSheet b bytes = bits_of bytes ≡ sheet_bits b ++ zeros (fill (length (sheet_bits b)))

-- How many bytes a sheet with r routes has.
abbrev pub sheet_length : ℕ → ℕ
sheet_length r = (record_start r + 7) / 8
