-- The header, the records and the end are asked in their order, and the first no decides.
use Rattle.std.proofs.Common.{sym, refl, ap, ◌∙◌}
use Rattle.std.proofs.lemmas.Result.{err_from_is_err_and}
use Rattle.board.proofs.First.{refusal, acceptance}
use Rattle.board.specs.Questions.{first_no, answer}
use Rattle.sheet.proofs.Exits.{refused_through}
use Rattle.layout.proofs.Theorems.{reads}
use Rattle.sheet.proofs.Sheets.{header_refused, records_refused, records_inside, end_decides}
use Rattle.bits.specs.Bits.{bits_of}
use Rattle.bits.specs.Cursor.{Cursor}
use Rattle.layout.specs.Questions.{end_questions}
use Rattle.layout.specs.Stated.{stated}
use Rattle.sheet.specs.View.{board_of}
use Rattle.sheet.proofs.view.Sheet.read.Goals as goal

pub returns-in_err-header : goal.returns-in_err-header
returns-in_err-header c =
    let p = err_from_is_err_and c.from_residual.result c.from_residual.ensures.1 in
    let same = ap (λ (x : Cursor). x.bytes) c.new-reader.ensures in
    let t = rw same at c.in_err-header.ensures.answer in
    let a = refused_through board_of _ _ _ _ _ p.1 p.2 (header_refused c.args.bytes.now c.args.entries _ t) in
    record { answer = a; lent = rw p.1 tt; reads = reads c.args.entries c.args.bytes.now _ a }

-- the reader behind the header holds the same bytes
pub returns-in_err-check_records : goal.returns-in_err-check_records
returns-in_err-check_records c =
    let p = err_from_is_err_and c.from_residual-in_err-check_records.result c.from_residual-in_err-check_records.ensures.1 in
    let same = ap (λ (x : Cursor). x.bytes) c.new-reader.ensures in
    let t = rw same at c.in_ok-header.ensures.answer in
    let u = simp (c.in_ok-header.ensures.bytes, same) at c.in_err-check_records.ensures in
    let a = refused_through board_of _ _ _ _ _ p.1 p.2 (records_refused c.args.bytes.now c.args.entries _ t _ u) in
    record { answer = a; lent = rw p.1 tt; reads = reads c.args.entries c.args.bytes.now _ a }

pub check_end-requires : goal.check_end-requires
check_end-requires c =
    let same = ap (λ (x : Cursor). x.bytes) c.new-reader.ensures in
    let t = rw same at c.in_ok-header.ensures.answer in
    let u = simp (c.in_ok-header.ensures.bytes, same) at c.in_ok-check_records.ensures in
    records_inside c.args.bytes.now c.args.entries _ t u

pub returns-in_err-check_end : goal.returns-in_err-check_end
returns-in_err-check_end c =
    let p = err_from_is_err_and c.from_residual-in_err-check_end.result c.from_residual-in_err-check_end.ensures.1 in
    let same = ap (λ (x : Cursor). x.bytes) c.new-reader.ensures in
    let t = rw same at c.in_ok-header.ensures.answer in
    let u = simp (c.in_ok-header.ensures.bytes, same) at c.in_ok-check_records.ensures in
    let e = end_decides c.args.bytes.now c.args.entries _ t u in
    let a =
    refused_through board_of _ _ _ _ _ p.1 p.2
    (e
    ∙ refusal (first_no (end_questions (bits_of c.args.bytes.now) c.in_ok-header.header.routes)) tt c.in_err-check_end.field-0.0
    c.in_err-check_end.ensures)
    in
    record { answer = a; lent = rw p.1 tt; reads = reads c.args.entries c.args.bytes.now _ a }

pub returns : goal.returns
returns c =
    let same = ap (λ (x : Cursor). x.bytes) c.new-reader.ensures in
    let t = rw same at c.in_ok-header.ensures.answer in
    let u = simp (c.in_ok-header.ensures.bytes, same) at c.in_ok-check_records.ensures in
    let e = end_decides c.args.bytes.now c.args.entries _ t u in
    let a =
    acceptance (first_no (end_questions (bits_of c.args.bytes.now) c.in_ok-header.header.routes)) tt tt
    c.in_ok-check_end.ensures
    in
    let r = ap (λ x. answer x (stated (bits_of c.args.bytes.now))) (sym (e ∙ a.0)) in
    record { answer = r; lent = refl; reads = reads c.args.entries c.args.bytes.now _ r }
