-- After the last record: whole bytes too many, none, or a part of a byte that is 0 or has a first 1.
use Rattle.std.proofs.Common.{◌≡◌, ℕ, ◌-◌, ◌*◌, ◌%◌, ◌^◌, sym, ap, arith}
use Rattle.std.proofs.lemmas.Nat.{one_shl}
use Rattle.board.specs.Questions.{answer}
use Rattle.sheet.proofs.Ends.{trailing, whole_bytes, padded, unpadded}
use Rattle.sheet.proofs.reading.check_end.Goals as goal

pub returns-then-bytes-div_ceil : goal.returns-then-bytes-div_ceil
returns-then-bytes-div_ceil c =
    ap (λ x. answer x tt)
    (sym (trailing c.args.bytes.now c.args.routes c.record_start-end.result c.record_start-end.ensures (omega arith) (omega arith)))

pub returns-then-end-eq0 : goal.returns-then-end-eq0
returns-then-end-eq0 c =
    ap (λ x. answer x tt)
    (sym
    (whole_bytes c.args.bytes.now c.args.routes c.record_start-end.result c.record_start-end.ensures (omega arith)
    (omega (arith, c.if-bytes-div_ceil.false, c.div_ceil.ensures)) c.if-end-eq0.true))

-- a shift by at most 7 within a byte
power : (p : ℕ) → (p % 8 ≡ 0 → ⊥) → (1 * 2 ^ (8 - p % 8)) % 256 ≡ 2 ^ (8 - p % 8)
power p h = one_shl (8 - p % 8) 8 (omega arith)

pub returns-then-rest-eq0 : goal.returns-then-rest-eq0
returns-then-rest-eq0 c =
    ap (λ x. answer x tt)
    (sym
    (padded c.args.bytes.now c.args.routes c.record_start-end.result c.record_start-end.ensures (omega arith) (omega (arith, c.if-bytes-div_ceil.false, c.div_ceil.ensures))
    c.if-end-eq0.false _ (power c.record_start-end.result c.if-end-eq0.false) c.if-rest-eq0.true))

pub returns : goal.returns
returns c =
    ap (λ x. answer x tt)
    (sym
    (unpadded c.args.bytes.now c.args.routes c.record_start-end.result c.record_start-end.ensures (omega arith) (omega (arith, c.if-bytes-div_ceil.false, c.div_ceil.ensures))
    c.if-end-eq0.false _ (power c.record_start-end.result c.if-end-eq0.false) (omega (arith, c.if-rest-eq0.false))))
