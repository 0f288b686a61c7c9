-- Each step down exchanges the sinking entry with the earlier of its children.
use Rattle.std.proofs.Common.{◌≡◌, false, arith}
use Rattle.std.proofs.lemmas.List.Elements.{pair_read}
use Rattle.std.proofs.lemmas.List.Sorted.{IsPermutation-trans}
use Rattle.heap.proofs.Sinking.{child_may_sink}
use Rattle.heap.proofs.sifting.sift_down.Goals as goal

pub loop-child-preserved : goal.loop-child-preserved
loop-child-preserved g c =
    let l = c.loop-child in
    let kept = l.invariant in
    let child = c.in-Some.ensures in
    let done = c.swap.ensures in
    let before = g.E.Entry.before in
    let later = pair_read l.entries (λ u v. before u v ≡ false) l.at c.in-Some.child _ _ (omega arith) child.1 c.index-entries-at.is c.index-entries-child.is cc in
    record {
      same = IsPermutation-trans _ _ _ kept.same done.permutation;
      sinks = λ s. child_may_sink before g.met.E.Entry.total l.entries _ l.at c.in-Some.child child done.after later (kept.sinks s);
    }
