use Rattle.sheet.proofs.Asked.{Taking}
use Rattle.bits.specs.Cursor.{cursor_of}
use Rattle.std.proofs.Common.{◌≡◌, length}
use Rattle.sheet.proofs.reading.take_four.Given as goal

abbrev pub invariant-loop-k : goal.invariant-loop-k
invariant-loop-k l = Taking (cursor_of l.initial.reader) l.field-items l.k (cursor_of l.reader) l.numbers × (length l.numbers ≡ 4)
