-- The records so far are written behind the header.
use Rattle.std.proofs.Common.{take}
use Rattle.std.specs.List.{flat_map}
use Rattle.layout.specs.Format.{record_bits}
use Rattle.sheet.specs.Writing.{Wrote}
use Rattle.sheet.proofs.checked.Checked.write.Given as goal

abbrev pub invariant-loop-route : goal.invariant-loop-route
invariant-loop-route l = Wrote l.initial.writer (flat_map record_bits (take l.route-index l.self.routes.now)) l.writer
