-- Each step up exchanges the rising entry with its parent.
use Rattle.std.proofs.Common.{◌≡◌, false, arith}
use Rattle.std.proofs.lemmas.List.Elements.{pair_read}
use Rattle.std.proofs.lemmas.List.Sorted.{IsPermutation-trans}
use Rattle.heap.specs.Order.{parent}
use Rattle.heap.proofs.Rising.{parent_may_rise}
use Rattle.heap.proofs.sifting.sift_up.Goals as goal

pub loop-at-preserved : goal.loop-at-preserved
loop-at-preserved g c =
    let l = c.loop-at in
    let kept = l.invariant in
    let done = c.swap.ensures in
    let before = g.E.Entry.before in
    let earlier = pair_read l.entries (λ u v. before u v ≡ false) (parent l.at) l.at _ _ (omega arith) kept.within c.index-entries-above.is c.index-entries-at.is cc in
    record {
      within = omega arith;
      same = IsPermutation-trans _ _ _ kept.same done.permutation;
      rises = λ r. parent_may_rise before g.met.E.Entry.total g.met.E.Entry.transitive l.entries _ l.at c.loop-at-test.true kept.within done.after earlier (kept.rises r);
    }
