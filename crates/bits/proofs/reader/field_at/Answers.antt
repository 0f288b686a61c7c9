-- The shift and the mask cut the field out of three bytes.
use Rattle.std.proofs.Common.{◌≡◌, ◌+◌, ◌*◌, ap, ◌∙◌, arith}
use Rattle.bits.proofs.Bits.{binary_bits_of, field_at_lt}
use Rattle.bits.proofs.Fields.{width_le}
use Rattle.bits.proofs.Window.{window_cut}
use Rattle.bits.specs.Bits.{bits_of, field_at}
use Rattle.bits.specs.Fields.{width}
use Rattle.bits.proofs.reader.field_at.Goals as goal

pub returns : goal.returns
returns c =
    let three : c.from_be_bytes-window.result ≡ c.byte_at-high.result * 65536 + c.byte_at-middle.result * 256 + c.byte_at-low.result = omega (arith, c.from_be_bytes-window.ensures) in
    let e =
    window_cut c.args.bytes.now c.args.start c.width-width.result c.byte_at-high.result c.byte_at-middle.result
    c.byte_at-low.result c.byte_at-high.ensures c.byte_at-middle.ensures c.byte_at-low.ensures (search) (search)
    (rw c.width-width.ensures (width_le c.args.field))
    ∙ ap (field_at (bits_of c.args.bytes.now) c.args.start) c.width-width.ensures
    in
    rw three (record { value = e; bound = rw e (field_at_lt (bits_of c.args.bytes.now) c.args.start (width c.args.field) (binary_bits_of c.args.bytes.now)) })
