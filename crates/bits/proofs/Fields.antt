-- How wide fields are.
use Rattle.std.proofs.Common.{◌≤◌, arith}
use Rattle.bits.specs.Fields.{width, offset}
use Rattle.bits.specs.declared.field.Field.{Field}

-- a field lies in three bytes, wherever it begins
pub width_le : (f : Field) → width f ≤ 16
width_le f = grind arith

pub offset_le : (f : Field) → offset f ≤ 27
offset_le f = grind arith
