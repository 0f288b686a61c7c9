-- The fields of a sheet.
--   width                          how many bits a field has
--   offset                         how many bits of the header, or of the record, stand before it
--   record_start                   the bit where the record of a route begins
--   header_fields, record_fields   the fields of the header, and of a record, in their order
use Rattle.std.specs.Prelude.{ℕ, ◌+◌, ◌*◌, List, [], ◌∷◌}
use Rattle.bits.specs.declared.field.Field.{Field}
use Rattle.bits.specs.declared.field.Field.TheVariants.{Places, Home, Port, Routes, Start, End, Floor, Ceiling}

-- How many bits a field has.
abbrev pub width : Field → ℕ
width Places = 8
width Home = 7
width Port = 7
width Routes = 10
width Start = 7
width End = 7
width Floor = 13
width Ceiling = 12

-- How many bits of the header, or of its record, stand before the field.
abbrev pub offset : Field → ℕ
offset Places = 0
offset Home = 8
offset Port = 15
offset Routes = 22
offset Start = 0
offset End = 7
offset Floor = 14
offset Ceiling = 27

-- The bit where the record of route k begins: after the header's 32 bits and 39 bits for each route before it.
abbrev pub record_start : ℕ → ℕ
record_start k = 32 + 39 * k

-- The fields of the header, in their order.
abbrev pub header_fields : List Field
header_fields = Places ∷ Home ∷ Port ∷ Routes ∷ []

-- The fields of a record, in their order.
abbrev pub record_fields : List Field
record_fields = Start ∷ End ∷ Floor ∷ Ceiling ∷ []
