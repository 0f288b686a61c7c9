use Rattle.std.proofs.Common.{ℤ, ◌∙◌, ◌-ℤ◌, to_z, of_z, w32, rules}
use Rattle.labelling.proofs.Ways.{along, against}
use Rattle.labelling.proofs.way.way_on.Goals as goal

-- a number that fits in 32 bits, as the code holds it
abbrev word : ℤ → ℤ
word x = to_z w32 (of_z w32 x)

pub returns-then-route-from : goal.returns-then-route-from
returns-then-route-from c =
    let a = c.args in
    let room : ℤ = word (word c.from.result -ℤ word a.share) in
    c.opened.ensures ∙ along a.from a.number a.route a.share room c.if-route-from.true (search rules)

pub returns-then-route-from-2 : goal.returns-then-route-from-2
returns-then-route-from-2 c =
    let a = c.args in
    let room : ℤ = word (word a.share -ℤ word c.from-then-route-from-2.result) in
    c.opened-then-route-from-2.ensures
    ∙ against a.from a.number a.route a.share room c.if-route-from.false c.if-route-from-2.true (search rules)
