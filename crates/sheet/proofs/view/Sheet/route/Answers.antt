-- Below the number of routes, the record of a number is that of its route; from there on there is none.
use Rattle.std.proofs.Common.{◌<◌, Some, sym, ap, ◌∙◌, zero-add, arith}
use Rattle.layout.proofs.Stated.{length_routes_from, slice_get-routes_from}
use Rattle.bits.specs.Bits.{bits_of}
use Rattle.bits.specs.Fields.{record_start}
use Rattle.layout.specs.Stated.{stated, stating, route_at}
use Rattle.bits.specs.declared.field.Field.TheVariants.{Routes}
use Rattle.sheet.proofs.view.Sheet.route.Goals as goal

pub returns-then-number-len : goal.returns-then-number-len
unfolding stated
returns-then-number-len c =
    let bits = bits_of c.args.self.now.bytes.now in
    let n = stating bits 0 Routes in
    let l : c.args.number < n = omega (arith, c.len.ensures.value, length_routes_from bits 0 n) in
    ap Some (c.route_at.ensures ∙ ap (route_at bits) c.record_start.ensures)
    ∙ ap (λ x. Some (route_at bits (record_start x))) (sym (zero-add c.args.number))
    ∙ sym (slice_get-routes_from bits 0 n c.args.number l)
