-- The theorems about every sheet.
use Rattle.std.proofs.Common.{◌≡◌, ℕ, List, length, Some, None, Ok, Err, Option, Result, sym, refl, ◌∙◌, arith}
use Rattle.board.specs.Board.{Board, Valid}
use Rattle.board.specs.Questions.{answer}
use Rattle.bits.proofs.Bits.{binary_bits_of, length_bits_of}
use Rattle.layout.proofs.ReadBack.{sheet_back}
use Rattle.layout.proofs.Restated.{sheet_again}
use Rattle.bits.specs.Bits.{bits_of, fill}
use Rattle.layout.specs.Format.{sheet_bits, IsSheet}
use Rattle.layout.specs.Laws.{SheetOf, Reads, OneBoard, ReadsBack}
use Rattle.layout.specs.Questions.{sheet_fault}
use Rattle.layout.specs.Stated.{stated}
use Rattle.layout.specs.declared.fault.SheetFault.{SheetFault}

back : (entries : ℕ) (b : Board) (bytes : List ℕ) → SheetOf entries b bytes → (sheet_fault entries (bits_of bytes) ≡ None) × (stated (bits_of bytes) ≡ b)
back entries b bytes s =
    sheet_back (bits_of bytes) entries b (fill (length (sheet_bits b))) s.valid s.few (omega arith) s.sheet

pub reads_back : ReadsBack
reads_back b bytes entries s =
    let e = back entries b bytes s in
    rw (e.0, e.1)

pub one_board : OneBoard
one_board a b bytes va vb sa sb =
    let from : (c : Board) → Valid c → IsSheet c bytes → stated (bits_of bytes) ≡ c =
    λ c v s. (back (length c.routes) c bytes (record { valid = v; few = omega arith; sheet = s })).1
    in
    sym (from a va sa) ∙ from b vb sb

pub reads : (entries : ℕ) (bytes : List ℕ) (r : Result Board SheetFault) → r ≡ answer (sheet_fault entries (bits_of bytes)) (stated (bits_of bytes))
    → Reads entries bytes r
reads entries bytes (Ok b) e = accepted (sheet_fault entries (bits_of bytes)) refl e
  where
    accepted : (o : Option SheetFault) → sheet_fault entries (bits_of bytes) ≡ o → Ok b ≡ answer o (stated (bits_of bytes)) → SheetOf entries b bytes
    accepted None f g =
        let s = sheet_again (bits_of bytes) entries (length bytes) (binary_bits_of bytes) (length_bits_of bytes) f in
        let same : stated (bits_of bytes) ≡ b = cc in
        let read : SheetOf entries (stated (bits_of bytes)) bytes = record { valid = s.0; few = s.1; sheet = s.2 } in
        rw same at read
    accepted (Some x) f g = absurd cc
reads entries bytes (Err f) e = λ b s. let g = e ∙ reads_back b bytes entries s in cc
