-- What is left to ask from this route on decides as all records do.
use Rattle.std.proofs.Common.{◌≡◌, ◌-◌}
use Rattle.board.specs.Board.{shape_of}
use Rattle.board.specs.Questions.{first_no}
use Rattle.bits.specs.Bits.{bits_of}
use Rattle.bits.specs.Cursor.{cursor_of}
use Rattle.bits.specs.Fields.{record_start}
use Rattle.layout.specs.Questions.{records_questions}
use Rattle.sheet.proofs.reading.check_records.Given as goal

abbrev pub invariant-loop-route : goal.invariant-loop-route
invariant-loop-route l =
    (cursor_of l.reader ≡ record { bytes = l.initial.reader.bytes.now; position = record_start l.route })
    × (first_no (records_questions (bits_of l.initial.reader.bytes.now) (shape_of l.header.frame) l.route (l.header.routes - l.route))
    ≡ first_no (records_questions (bits_of l.initial.reader.bytes.now) (shape_of l.header.frame) 0 l.header.routes))
