use Rattle.std.proofs.Common.{◌^◌, ◌<◌, arith}
use Rattle.sheet.proofs.Overlay.{window_is, window_small}
use Rattle.sheet.proofs.writer.window.Goals as goal

pub returns : goal.returns
returns c =
    let a = c.args in
    let fits : a.old < 2 ^ 8 = omega arith in
    let e = window_is a.old a.offset a.width a.value fits c.requires.offset c.requires.width in
    let s = window_small a.old a.offset a.width a.value fits c.requires.offset c.requires.width in
    rw (c.from.ensures, c.from-2.ensures) (record { value = e; small = omega arith })
