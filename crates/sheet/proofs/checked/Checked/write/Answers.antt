use Rattle.std.proofs.Common.{take, arith}
use Rattle.std.proofs.lemmas.List.{take_all, length-take-le}
use Rattle.std.proofs.lemmas.Int.{ints}
use Rattle.std.proofs.lemmas.Bool.Decides.{nat_tests}
use Rattle.layout.specs.Format.{sheet_bits}
use Rattle.sheet.specs.Checked.{board_of}
use Rattle.sheet.proofs.Saving.{blank}
use Rattle.layout.proofs.Format.{length_header_bits, length_records}
use Rattle.sheet.proofs.Placed.{wrote_none, wrote_record, wrote_more}
use Rattle.sheet.proofs.checked.Checked.write.Goals as goal

pub loop-route-init : goal.loop-route-init
loop-route-init c =
    let h = c.write_header.ensures.wrote in
    let l = h.placed.as_long in
    let n = length_header_bits (board_of c.args.self.now) in
    wrote_none c.write_header.new.writer (omega (arith, h.position)) (omega (arith, h.position))

pub write_record-requires : goal.write_record-requires
write_record-requires c =
    let v = c.args.self.now.each c.loop-route.route-index c.loop-route-test.true in
    let h = c.write_header.ensures.wrote in
    let n = length_header_bits (board_of c.args.self.now) in
    let m = length_records (take c.loop-route.route-index c.args.self.now.routes.now) in
    let t = length-take-le c.loop-route.route-index c.args.self.now.routes.now (omega arith) in
    record {
      floor = (omega (arith, ints), omega (arith, ints));
      ceiling = v.ceiling_low;
      room = grind (arith, nat_tests, h.position, h.placed.as_long, c.loop-route.invariant.position, c.loop-route.invariant.placed.as_long);
    }

pub loop-route-preserved : goal.loop-route-preserved
loop-route-preserved c =
    wrote_record _ _ _ c.args.self.now.routes.now c.loop-route.route-index blank c.loop-route-test.true c.loop-route.invariant c.write_record.ensures

pub returns-clause-wrote : goal.returns-clause-wrote
unfolding sheet_bits
returns-clause-wrote c =
    let t = take_all c.loop-route.route-index c.args.self.now.routes.now c.loop-route-test.false in
    let rest = c.loop-route.invariant in
    wrote_more _ _ _ _ _ c.write_header.ensures.wrote (simp t at rest)
