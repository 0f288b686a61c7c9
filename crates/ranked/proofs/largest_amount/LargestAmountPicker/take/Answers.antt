use Rattle.std.proofs.Common.{◌≡◌, option_map, rules}
use Rattle.ranked.proofs.Taken.{largest_taken}
use Rattle.ranked.proofs.largest_amount.LargestAmountPicker.take.Goals as goal

pub returns-clause-largest : goal.returns-clause-largest
returns-clause-largest c =
    let same : c.map.result ≡ option_map (λ e. e.place) c.take.result = search rules in
    rw same (largest_taken _ _ c.take.result c.take.ensures.first c.args.self.now.waiting.ordered)
