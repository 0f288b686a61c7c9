-- The header's fields are taken, its frame is made, and the limits are asked: the first no decides.
use Rattle.std.proofs.Common.{Ok, sym, ap, ◌∙◌, ap₂, arith}
use Rattle.std.proofs.lemmas.Result.{err_from_is_err_and}
use Rattle.board.specs.Questions.{answer}
use Rattle.bits.specs.Bits.{bits_of}
use Rattle.sheet.proofs.Exits.{refused_through}
use Rattle.sheet.proofs.Headers.{fields_refused, frame_refused, frame_accepted, over_limit, over_entries, within_limits}
use Rattle.sheet.specs.Header.{stated_of, stated_header}
use Rattle.sheet.proofs.reading.read_header.Goals as goal

pub returns-in_err-places-clause-answer : goal.returns-in_err-places-clause-answer
returns-in_err-places-clause-answer c =
    let p = err_from_is_err_and c.from_residual.result c.from_residual.ensures.1 in
    refused_through stated_of _ _ _ _ _ p.1 p.2 (fields_refused _ c.args.entries c.requires _ c.in_err-places.ensures.answer)

pub returns-in_err-frame-clause-answer : goal.returns-in_err-frame-clause-answer
returns-in_err-frame-clause-answer c =
    let p = err_from_is_err_and c.from_residual-in_err-frame.result c.from_residual-in_err-frame.ensures.1 in
    let f = simp (c.from.ensures, c.from-2.ensures, c.from-3.ensures) at c.in_err-frame.ensures.answer in
    refused_through stated_of _ _ _ _ _ p.1 p.2 (frame_refused _ c.args.entries c.requires _ c.in_ok-places.ensures.answer _ f)

pub returns-then-count-gt-ROUTE_LIMIT-clause-answer : goal.returns-then-count-gt-ROUTE_LIMIT-clause-answer
returns-then-count-gt-ROUTE_LIMIT-clause-answer c =
    let f = simp (c.from.ensures, c.from-2.ensures, c.from-3.ensures) at c.in_ok-frame.ensures.answer in
    let e = over_limit _ c.args.entries c.requires _ c.in_ok-places.ensures.answer _ f (omega arith) in
    ap (λ z. answer z (stated_header (bits_of c.args.reader.now.bytes.now))) (sym e)

pub returns-then-count-entries-clause-answer : goal.returns-then-count-entries-clause-answer
returns-then-count-entries-clause-answer c =
    let f = simp (c.from.ensures, c.from-2.ensures, c.from-3.ensures) at c.in_ok-frame.ensures.answer in
    let e = over_entries _ c.args.entries c.requires _ c.in_ok-places.ensures.answer _ f (omega arith) (omega arith) in
    ap (λ z. answer z (stated_header (bits_of c.args.reader.now.bytes.now))) (sym e)

pub returns-clause-answer : goal.returns-clause-answer
returns-clause-answer c =
    let f = simp (c.from.ensures, c.from-2.ensures, c.from-3.ensures) at c.in_ok-frame.ensures.answer in
    let e = within_limits _ c.args.entries c.requires _ c.in_ok-places.ensures.answer _ f (omega arith) (omega arith) in
    let a = frame_accepted _ c.args.entries c.requires _ c.in_ok-places.ensures.answer _ f in
    ap₂ (λ s n. Ok (record { shape = s; routes = n })) a.1 a.2
    ∙ ap (λ z. answer z (stated_header (bits_of c.args.reader.now.bytes.now))) (sym e)
