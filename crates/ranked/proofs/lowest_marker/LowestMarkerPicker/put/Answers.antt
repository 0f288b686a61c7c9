use Rattle.ranked.proofs.Taken.{blank, joined_each, joined_places}
use Rattle.ranked.specs.Orders.{Marked}
use Rattle.ranked.proofs.lowest_marker.LowestMarkerPicker.put.Goals as goal

pub invariant_of-self : goal.invariant_of-self
invariant_of-self c =
    let p = c.args.self.now in
    record { marked = joined_each (Marked p.markers.now) blank _ _ _ c.put.result c.put.ensures.entries c.marker-rank.ensures p.marked }

pub returns-clause-places : goal.returns-clause-places
returns-clause-places c = joined_places (λ e. e.place) _ _ _ c.put.result c.put.ensures.entries
