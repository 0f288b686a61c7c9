-- One, two or three bytes are set, as many as the field's bits touch.
use Rattle.std.proofs.Common.{ℕ, ◌+◌, ◌/◌, ◌%◌, List, set, ap₂, ◌∙◌, arith}
use Rattle.sheet.proofs.Overlay.{three_bytes, width_some, set_one, set_two, set_three, placed_over}
use Rattle.sheet.proofs.writer.put_at.Goals as goal
use Rattle.sheet.proofs.writer.put_at.Goals.{then-offset-width-gt8, else-offset-width-gt8}

pub returns-then-offset-width-gt16 : goal.returns-then-offset-width-gt16
returns-then-offset-width-gt16 c =
    let a = c.args in
    let bs : List ℕ = a.buffer.now in
    let i : ℕ = a.start / 8 in
    let n : ℕ = c.window-window.result in
    let few = width_some a.field in
    elim c.if-offset-width-gt8.branch [
      | then-offset-width-gt8 w ↦
          let b = three_bytes c.to_be_bytes.result n c.window-window.ensures.small c.to_be_bytes.ensures in
          let is = ap₂ (λ (l : List ℕ) (x : ℕ). set l (i + 2) x) (simp (b.0, b.1) at w.buffer-is) b.2 ∙ set_three bs i (n / 65536) (n / 256 % 256) (n % 256) (omega arith) in
          placed_over bs a.start a.field a.value _ n 3 _ c.requires c.width-width.ensures c.window-window.ensures.value (omega arith) is
      | else-offset-width-gt8 w ↦ absurd (omega arith)
    ]

pub returns-else-offset-width-gt16 : goal.returns-else-offset-width-gt16
returns-else-offset-width-gt16 c =
    let a = c.args in
    let bs : List ℕ = a.buffer.now in
    let i : ℕ = a.start / 8 in
    let n : ℕ = c.window-window.result in
    let few = width_some a.field in
    elim c.if-offset-width-gt8.branch [
      | then-offset-width-gt8 w ↦
          let b = three_bytes c.to_be_bytes.result n c.window-window.ensures.small c.to_be_bytes.ensures in
          let is = (simp (b.0, b.1) at w.buffer-is) ∙ set_two bs i (n / 65536) (n / 256 % 256) (omega arith) in
          placed_over bs a.start a.field a.value _ n 2 _ c.requires c.width-width.ensures c.window-window.ensures.value (omega arith) is
      | else-offset-width-gt8 w ↦
          let b = three_bytes c.to_be_bytes.result n c.window-window.ensures.small c.to_be_bytes.ensures in
          let is = (simp b.0 at w.buffer-is) ∙ set_one bs i (n / 65536) (omega arith) in
          placed_over bs a.start a.field a.value _ n 1 _ c.requires c.width-width.ensures c.window-window.ensures.value (omega arith) is
    ]
