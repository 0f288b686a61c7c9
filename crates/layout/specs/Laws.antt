-- What holds of every sheet.
--   SheetOf     these bytes are the sheet of a valid board with at most so many routes
--   Reads       what the answer to bytes says of the boards whose sheet they are
--   OneBoard    no two valid boards have the same sheet
--   ReadsBack   the sheet of a valid board reads back as that board
use Rattle.std.specs.Prelude.{◌≡◌, ℕ, ◌≤◌, List, length, Ok, Err, Result}
use Rattle.board.specs.Board.{Board, Valid}
use Rattle.board.specs.Questions.{answer}
use Rattle.bits.specs.Bits.{bits_of}
use Rattle.layout.specs.Format.{IsSheet}
use Rattle.layout.specs.Questions.{sheet_fault}
use Rattle.layout.specs.Stated.{stated}
use Rattle.layout.specs.declared.fault.SheetFault.{SheetFault}

-- The board is valid, has at most so many routes, and these bytes are its sheet.
pub record SheetOf (entries : ℕ) (b : Board) (bytes : List ℕ) : Type 0 where
  pub valid : Valid b
  pub few : length b.routes ≤ entries
  pub sheet : IsSheet b bytes

-- An accepted sheet is that of the board shown; a refused one is that of no valid board with so few routes.
abbrev pub Reads : ℕ → List ℕ → Result Board SheetFault → Type 0
Reads entries bytes (Ok b) = SheetOf entries b bytes
Reads entries bytes (Err f) = (b : Board) → SheetOf entries b bytes → ⊥

-- Two valid boards with the same sheet are the same board.
abbrev pub OneBoard : Type 0
OneBoard = (a b : Board) (bytes : List ℕ) → Valid a → Valid b → IsSheet a bytes → IsSheet b bytes → a ≡ b

-- Into any number of entries that suffices, the sheet of a valid board is read as that board.
abbrev pub ReadsBack : Type 0
ReadsBack =
    (b : Board) (bytes : List ℕ) (entries : ℕ) → SheetOf entries b bytes
    → answer (sheet_fault entries (bits_of bytes)) (stated (bits_of bytes)) ≡ Ok b
