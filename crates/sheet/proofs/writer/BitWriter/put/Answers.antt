use Rattle.std.proofs.Common.{rules}
use Rattle.bits.specs.Fields.{width}
use Rattle.bits.proofs.Bits.{length_digits}
use Rattle.sheet.proofs.writer.BitWriter.put.Goals as goal

pub returns : goal.returns
returns c =
    let p = c.place.ensures.placed in
    let l = length_digits (width c.args.field) c.args.value in
    record {
      answer = search rules;
      position = search rules;
      bits = p.bits;
      later = simp l at p.later;
      refused = search rules;
      length = p.as_long;
      same = c.place.ensures.same;
    }
