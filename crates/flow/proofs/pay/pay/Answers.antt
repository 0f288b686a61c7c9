-- What a delivery is held to is a place of the table, and the entry there is its pay.
use Rattle.std.proofs.Common.{◌≡◌, pos, w32, to_z, of_z, rules, arith}
use Rattle.std.proofs.lemmas.Int.{ints, clamps}
use Rattle.std.specs.Int.{int_max, int_min}
use Rattle.flow.proofs.Triangular.{paid}
use Rattle.flow.proofs.pay.pay.Goals as goal

pub returns : goal.returns
returns c =
    let held : to_z w32 (of_z w32 c.clamp.result) ≡ int_max (pos 0) (int_min c.args.delivery (pos 40)) = omega (arith, ints, clamps) in
    search (rules, paid)
