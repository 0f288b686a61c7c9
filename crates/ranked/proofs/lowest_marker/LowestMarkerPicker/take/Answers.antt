use Rattle.std.proofs.Common.{◌≡◌, option_map, rules}
use Rattle.ranked.proofs.Taken.{blank, derived_by_marker, popped_each, lowest_taken}
use Rattle.ranked.specs.Orders.{Marked}
use Rattle.ranked.proofs.lowest_marker.LowestMarkerPicker.take.Goals as goal

pub invariant_of-self : goal.invariant_of-self
invariant_of-self c =
    let p = c.args.self.now in
    record { marked = popped_each (Marked p.markers.now) blank derived_by_marker _ _ c.take.result c.take.ensures.first p.marked }

pub returns-clause-lowest : goal.returns-clause-lowest
returns-clause-lowest c =
    let p = c.args.self.now in
    let same : c.map.result ≡ option_map (λ e. e.place) c.take.result = search rules in
    rw same (lowest_taken p.markers.now _ _ c.take.result c.take.ensures.first p.waiting.ordered p.marked)
