-- The board is asked, then the buffer, and then the sheet is written.
use Rattle.std.proofs.Common.{◌≡◌, ℕ, ◌≤◌, length, None, Ok, sym, subst, refl, ap, ◌∙◌, arith, rules}
use Rattle.std.proofs.lemmas.Bool.{true≢false}
use Rattle.std.proofs.lemmas.Result.{err_from_is_err_and}
use Rattle.board.proofs.First.{refusal, acceptance}
use Rattle.board.specs.Board.{Board}
use Rattle.board.specs.Questions.{first_no}
use Rattle.layout.specs.Format.{sheet_bits, sheet_length}
use Rattle.sheet.specs.Checked.{board_of}
use Rattle.sheet.specs.Saving.{board_with, board_questions}
use Rattle.sheet.specs.Writing.{Placed}
use Rattle.sheet.proofs.Placed.{ends_with_sheet, ends_as_before}
use Rattle.sheet.proofs.Saving.{frame_shape, write_refused, write_short, write_fits, refused_decides, accepted_decides}
use Rattle.sheet.proofs.writing.write.Goals as goal
use Rattle.sheet.proofs.writing.write.Goals.{In_ok-board}

pub returns-in_err-board : goal.returns-in_err-board
returns-in_err-board c =
    let b : Board = board_with c.args.frame.now c.args.routes.now in
    let n : ℕ = length c.args.buffer.now in
    let e = write_refused b n _ (refusal (first_no (board_questions b)) b _ c.in_err-board.ensures) in
    let p = err_from_is_err_and c.from_residual.result c.from_residual.ensures.1 in
    rw (p.1, p.2) (record { answer = sym e; sheet = tt; later = tt; refused = λ _. refl; valid = refused_decides b n _ e })

-- the board that was accepted is the one that was asked about
accepted : (c : In_ok-board) → (let b : Board = board_with c.args.frame.now c.args.routes.now in (first_no (board_questions b) ≡ None) × (board_of c.in_ok-board.board ≡ b))
accepted c = let b : Board = board_with c.args.frame.now c.args.routes.now in acceptance (first_no (board_questions b)) b _ c.in_ok-board.ensures

pub returns-then-buffer-length : goal.returns-then-buffer-length
returns-then-buffer-length c =
    let b : Board = board_with c.args.frame.now c.args.routes.now in
    let n : ℕ = length c.args.buffer.now in
    let a = accepted (goal.at.returns-then-buffer-length c).In_ok-board in
    let l = c.sheet_length-length.ensures ∙ ap (λ (x : Board). sheet_length (length x.routes)) a.1 in
    let e = write_short b n a.0 (omega arith) in
    record { answer = sym e; sheet = tt; later = tt; refused = λ _. refl; valid = refused_decides b n _ e }

pub returns : goal.returns
returns c =
    let b : Board = board_with c.args.frame.now c.args.routes.now in
    let n : ℕ = length c.args.buffer.now in
    let a = accepted (goal.at.returns c).In_ok-board in
    let l = c.sheet_length-length.ensures ∙ ap (λ (x : Board). sheet_length (length x.routes)) a.1 in
    let fits : sheet_length (length b.routes) ≤ n = omega arith in
    let e = write_fits b n a.0 fits in
    let w : Placed c.new-writer.result.buffer.now c.new-writer.result.position (sheet_bits b) c.write.new.writer.buffer.now =
    subst (λ (x : Board). Placed c.new-writer.result.buffer.now c.new-writer.result.position (sheet_bits x) c.write.new.writer.buffer.now) a.1 c.write.ensures.wrote.placed
    in
    let placed : Placed c.args.buffer.now 0 (sheet_bits b) c.write.new.writer.buffer.now =
    simp (c.new-writer.ensures.buffer, c.new-writer.ensures.position) at w
    in
    record {
      answer = ap Ok l ∙ sym e;
      sheet = ends_with_sheet b _ placed l (search rules);
      later = ends_as_before b _ placed l (search rules);
      refused = λ h. absurd (true≢false h);
      valid = accepted_decides b n (frame_shape c.args.frame.now) a.0 fits;
    }
