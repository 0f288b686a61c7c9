-- The board that bits state, field by field.
--   stating       the number that a field states
--   route_at      the route that a record states
--   routes_from   the routes of so many records
--   stated        the board that a sheet's bits state
use Rattle.std.specs.Prelude.{ℕ, zero, suc, ◌+◌, List, [], ◌∷◌, pos}
use Rattle.board.specs.Board.{Board}
use Rattle.board.specs.declared.route.Route.{Route}
use Rattle.bits.specs.Bits.{field_at}
use Rattle.bits.specs.Fields.{width, offset, record_start}
use Rattle.bits.specs.Signed.{widened}
use Rattle.bits.specs.declared.field.Field.{Field}
use Rattle.bits.specs.declared.field.Field.TheVariants.{Places, Home, Port, Routes, Start, End, Floor, Ceiling}

-- The number that a field states, of the header (from bit 0 on) or of the record that begins at bit p.
abbrev pub stating : List ℕ → ℕ → Field → ℕ
stating bits p f = field_at bits (p + offset f) (width f)

-- The route that the record from bit p on states.
unfoldable pub route_at : List ℕ → ℕ → Route
route_at bits p =
    record {
      start = stating bits p Start;
      end = stating bits p End;
      floor = widened (stating bits p Floor);
      ceiling = pos (stating bits p Ceiling);
    }

-- The routes that n records state, the first of them that of route k.
unfoldable pub routes_from : List ℕ → ℕ → ℕ → List Route
routes_from bits k zero = []
routes_from bits k (suc n) = route_at bits (record_start k) ∷ routes_from bits (suc k) n

-- The board that a sheet's bits state.
unfoldable pub stated : List ℕ → Board
stated bits =
    record {
      shape = record { places = stating bits 0 Places; home = stating bits 0 Home; port = stating bits 0 Port };
      routes = routes_from bits 0 (stating bits 0 Routes);
    }
