-- What taking one place after another comes to.
use Rattle.std.proofs.Common.{◌≡◌, ℕ, ◌+◌, ◌<◌, ◌≤◌, min, Some, None, ap, ◌∙◌, arith}
use Rattle.picker.specs.Meaning.{Meaning, waiting, waiting_below, Took, Inside, drained}
use Rattle.picker.proofs.Waiting.{waiting_nowhere, waiting_less}

-- where no place at or above 128 waits, a place that waits is below it
pub below_128 : (m : Meaning) (p : ℕ) → Inside m.waits → 0 < m.waits p → p < 128
below_128 m p inside h = grind (arith, inside p, h)

-- one less waits
pub took_one : (m n : Meaning) (p : ℕ) → p < 128 → Took m (Some p) n → waiting n + 1 ≡ waiting m
took_one m n p known t = omega (arith, ap waiting t.1, waiting_less 128 p m.waits known t.0)

-- what is left in the end is the same before and after
pub drained_again : (m n : Meaning) (p : ℕ) → p < 128 → Took m (Some p) n → drained n ≡ drained m
drained_again m n p known t =
    let l = took_one m n p known t in
    let c = ap (λ (k : Meaning). k.count) t.1 in
    let same : min (n.count + waiting n) 65535 ≡ min (m.count + waiting m) 65535 = omega arith in
    let room = ap (λ (k : Meaning). k.room) t.1 in
    cc

-- and where none is taken it is reached
pub drained_now : (m n : Meaning) → m.count ≤ 65535 → Took m None n → n ≡ drained m
drained_now m n b t =
    let none : waiting m ≡ 0 = ap (waiting_below 128) t.0 ∙ waiting_nowhere 128 in
    let count : m.count ≡ min (m.count + waiting m) 65535 = omega arith in
    t.1 ∙ (λ i. record { waits = t.0 i; room = m.room; count = count i })
