-- The header's four fields, one behind the other.
use Rattle.layout.specs.Format.{header_bits}
use Rattle.sheet.proofs.Placed.{wrote_more}
use Rattle.sheet.proofs.checked.Checked.write_header.Goals as goal

pub returns-clause-wrote : goal.returns-clause-wrote
unfolding header_bits
returns-clause-wrote c =
    let all = wrote_more _ _ _ _ _ (wrote_more _ _ _ _ _ (wrote_more _ _ _ _ _ c.place.ensures c.place-2.ensures) c.place-3.ensures) c.place-4.ensures in
    simp (c.places.ensures.value, c.home.ensures, c.port.ensures) at all
