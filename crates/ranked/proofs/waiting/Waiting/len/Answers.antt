use Rattle.std.proofs.Common.{sym, ◌∙◌}
use Rattle.heap.specs.Held.{held}
use Rattle.ranked.proofs.Places.{waiting_places}
use Rattle.ranked.proofs.waiting.Waiting.len.Goals as goal

pub returns : goal.returns
returns g c = c.len.ensures ∙ sym (waiting_places (λ e. e.place) (held c.args.self.now.heap) c.args.self.now.inside)
