-- What a bit reader answers, and where it stands then.
--   taken   the number that a field states, or the bit where it begins where its bits are not all there
--   moved   so many bits further on
use Rattle.std.specs.Prelude.{ℕ, ◌+◌, ◌*◌, cond, length, Ok, Err, Result}
use Rattle.bits.specs.Bits.{bits_of, field_at, within}
use Rattle.bits.specs.Cursor.{Cursor}
use Rattle.bits.specs.declared.fault.BitFault.{BitFault}

-- The number that the next w bits state; or where they begin, where they are not all there.
abbrev pub taken : Cursor → ℕ → Result ℕ BitFault
taken c w =
    cond (within (8 * length c.bytes) c.position w) (Ok (field_at (bits_of c.bytes) c.position w)) (Err (record { bit = c.position }))

-- The next field begins w bits further on.
abbrev pub moved : Cursor → ℕ → Cursor
moved c w = record { bytes = c.bytes; position = c.position + w }
