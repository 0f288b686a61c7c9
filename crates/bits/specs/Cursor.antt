-- Where reading stands.
--   Cursor      bytes, and the bit where the next field begins
--   cursor_of   the bytes that a reader goes over, and where it stands
use Rattle.std.specs.Prelude.{ℕ, List}
use Rattle.bits.specs.declared.reader.BitReader.{BitReader}

-- The bytes that are read, and the bit of them where the next field begins.
pub record Cursor : Type 0 where
  pub bytes : List ℕ
  pub position : ℕ

-- The bytes that a reader goes over, and where it stands.
abbrev pub cursor_of : BitReader → Cursor
cursor_of r = record { bytes = r.bytes.now; position = r.position }
