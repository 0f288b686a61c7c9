-- What a bit writer answers, and what it leaves in the buffer.
--   bytes_to     how many bytes so many bits touch
--   window_of    24 bits: some bits of an old byte, a field's bits, and then 0
--   put_answer   what a bit writer answers
--   put_bits     the bits of the buffer after that
--   SameFrom     the bytes from one on are what they were
--   Placed       bytes before and after bits were written over them
--   HasRoom      whether a writer has room for so many bits
--   Wrote        a writer before and after it wrote bits
use Rattle.std.specs.Prelude.{◌≡◌, ℕ, ◌+◌, ◌-◌, ◌*◌, ◌/◌, ◌%◌, ◌^◌, ◌≤◌, Bool, true, cond, List, length, drop, Ok, Err, Result}
use Rattle.bits.specs.Bits.{digits, bits_of, within, written}
use Rattle.bits.specs.declared.fault.BitFault.{BitFault}
use Rattle.sheet.specs.declared.writer.BitWriter.{BitWriter}

-- How many bytes the first n bits touch: the last byte may be touched in part.
abbrev pub bytes_to : ℕ → ℕ
bytes_to n = (n + 7) / 8

-- The number whose 24 bits are the o highest bits of a byte, the w lowest bits of a value, and then 0.
abbrev pub window_of : ℕ → ℕ → ℕ → ℕ → ℕ
window_of old o w value = old / 2 ^ (8 - o) * 2 ^ (24 - o) + value % 2 ^ w * 2 ^ (24 - o - w)

-- Accepted where n bits hold the w bits from bit p on; else refused at bit p.
abbrev pub put_answer : ℕ → ℕ → ℕ → Result (Unit {0}) BitFault
put_answer n p w = cond (within n p w) (Ok tt) (Err (record { bit = p }))

-- The bits after the w lowest bits of a value were put at bit p: written over where that was accepted, else as before.
abbrev pub put_bits : Bool → List ℕ → ℕ → ℕ → ℕ → List ℕ
put_bits accepted before p w value = cond accepted (written before p (digits w value)) before

-- From byte n on the bytes are what they were.
abbrev pub SameFrom : ℕ → List ℕ → List ℕ → Type 0
SameFrom n before after = drop n after ≡ drop n before

-- The new bits fit from bit p on; they are written over the bits before, and the rest of the last byte is cleared;
-- the bytes after it stay, and there are as many bytes as before.
pub record Placed (before : List ℕ) (p : ℕ) (new after : List ℕ) : Type 0 where
  pub room : p + length new ≤ 8 * length before
  pub bits : bits_of after ≡ written (bits_of before) p new
  pub later : SameFrom (bytes_to (p + length new)) before after
  pub as_long : length after ≡ length before

-- The next n bits from where a writer stands are all in its buffer.
abbrev pub HasRoom : BitWriter → ℕ → Type 0
HasRoom w n = within (8 * length w.buffer.now) w.position n ≡ true

-- A writer wrote bits from where it stood: they are placed there, it stands behind them, and its buffer is the one that
-- was lent.
pub record Wrote (before : BitWriter) (new : List ℕ) (after : BitWriter) : Type 0 where
  pub placed : Placed before.buffer.now before.position new after.buffer.now
  pub position : after.position ≡ before.position + length new
  pub same : after.buffer.ghost_name ≡ before.buffer.ghost_name
