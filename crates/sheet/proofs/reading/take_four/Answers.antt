-- Each field is taken where it stands; the first that is missing decides.
use Rattle.std.proofs.Common.{ap, ◌∙◌, arith}
use Rattle.bits.specs.Cursor.{Cursor}
use Rattle.std.proofs.lemmas.List.{length-set}
use Rattle.std.proofs.lemmas.Result.{err_from_is_err_and}
use Rattle.bits.specs.declared.field.Field.TheVariants.{Places}
use Rattle.sheet.proofs.Asked.{taking_stop, taking_more}
use Rattle.sheet.proofs.Exits.{refused_by}
use Rattle.sheet.proofs.reading.take_four.Goals as goal

pub returns-in_err-numbers : goal.returns-in_err-numbers
returns-in_err-numbers c =
    let p = err_from_is_err_and c.from_residual.result c.from_residual.ensures.1 in
    let e = taking_stop _ _ _ _ _ Places c.loop-k.invariant.0 c.requires.start (omega arith) _ c.in_err-numbers.ensures.answer in
    record {
      answer = refused_by _ _ _ _ _ p.1 p.2 e;
      reader = rw p.1 tt;
      bytes = ap (λ (x : Cursor). x.bytes) (c.in_err-numbers.ensures.reader ∙ c.loop-k.invariant.0.reader);
    }

pub loop-k-preserved : goal.loop-k-preserved
loop-k-preserved c =
    let more = taking_more _ _ _ _ _ Places c.loop-k.invariant.0 c.requires.start (omega arith) c.in_ok-numbers.field-0 (omega arith) c.in_ok-numbers.ensures.answer in
    (rw c.in_ok-numbers.ensures.reader more, rw length-set (omega arith))
