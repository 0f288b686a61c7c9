-- A record that gets a no decides; one that gets a yes leaves the question to the later ones.
use Rattle.std.proofs.Common.{sym, ap, ◌∙◌, arith}
use Rattle.std.proofs.lemmas.Result.{err_from_is_err_and}
use Rattle.board.specs.Questions.{answer}
use Rattle.bits.specs.Reading.{moved}
use Rattle.bits.specs.Cursor.{Cursor}
use Rattle.sheet.proofs.Asked.{cursor}
use Rattle.sheet.proofs.Exits.{refused_by}
use Rattle.sheet.proofs.Records.{records_stop, records_on, records_end}
use Rattle.sheet.proofs.reading.check_records.Goals as goal

pub returns-in_err-check_record : goal.returns-in_err-check_record
returns-in_err-check_record c =
    let p = err_from_is_err_and c.from_residual.result c.from_residual.ensures.1 in
    let i = c.loop-route.invariant in
    let a = rw (ap (λ (x : Cursor). x.bytes) i.0) at c.in_err-check_record.ensures.answer in
    refused_by _ _ _ _ tt p.1 p.2 (records_stop _ _ _ _ _ i.1 c.loop-route-test.true _ a)

pub loop-route-preserved : goal.loop-route-preserved
loop-route-preserved c =
    let i = c.loop-route.invariant in
    let a = rw (ap (λ (x : Cursor). x.bytes) i.0) at c.in_ok-check_record.ensures.answer in (
      c.in_ok-check_record.ensures.reader ∙ ap (λ (x : Cursor). moved x 39) i.0 ∙ ap (cursor c.args.reader.now.bytes.now) (omega arith),
      records_on _ _ _ _ _ i.1 c.loop-route-test.true a,
    )

pub returns : goal.returns
returns c = ap (λ x. answer x tt) (sym (records_end _ _ _ _ _ c.loop-route.invariant.1 c.loop-route-test.false))
