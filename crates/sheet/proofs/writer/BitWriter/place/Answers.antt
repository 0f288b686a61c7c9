-- As many bits as the field is wide.
use Rattle.std.proofs.Common.{arith}
use Rattle.bits.proofs.Bits.{length_digits}
use Rattle.bits.specs.Fields.{width}
use Rattle.sheet.proofs.writer.BitWriter.place.Goals as goal

pub returns : goal.returns
returns c =
    let l = length_digits (width c.args.field) c.args.value in
    record { placed = c.put_at.ensures; position = omega (arith, c.width.ensures); same = search }
