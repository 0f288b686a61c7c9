-- The record's four fields, one behind the other.
use Rattle.std.proofs.Common.{◌≡◌, ◌∙◌, w16, SFits, arith, rules}
use Rattle.std.proofs.lemmas.Int.{to_z-of_z}
use Rattle.bits.specs.Signed.{narrowed, narrowed_any}
use Rattle.bits.proofs.Bits.{length_digits}
use Rattle.bits.proofs.TwosComplement.{narrowed_any_lem}
use Rattle.layout.specs.Format.{record_bits}
use Rattle.sheet.proofs.Placed.{wrote_more}
use Rattle.sheet.proofs.checked.write_record.Goals as goal

pub place-requires-2 : goal.place-requires-2
place-requires-2 c = grind (arith, length_digits)

pub place-requires-3 : goal.place-requires-3
place-requires-3 c = grind (arith, length_digits)

pub returns : goal.returns
unfolding record_bits
returns c =
    let ff : SFits w16 c.args.route.floor = search rules in
    let fc : SFits w16 c.args.route.ceiling = search rules in
    let low : c.narrow.result ≡ narrowed_any c.args.route.floor = simp to_z-of_z at c.narrow.ensures in
    let e : c.narrow.result ≡ narrowed c.args.route.floor = low ∙ narrowed_any_lem c.args.route.floor c.requires.floor in
    let all = wrote_more _ _ _ _ _ (wrote_more _ _ _ _ _ (wrote_more _ _ _ _ _ c.place.ensures c.place-2.ensures) c.place-3.ensures) c.place-4.ensures in
    simp (e, c.from.ensures, c.from-2.ensures, to_z-of_z) at all
