-- The entry is put behind those held, and rises.
use Rattle.std.proofs.Common.{◌≡◌, ◌+◌, ◌-◌, ◌++◌, ◌∷◌, [], set, take, arith}
use Rattle.std.proofs.lemmas.List.{length-set, take_more_set}
use Rattle.std.proofs.lemmas.List.Sorted.{IsPermutation-trans}
use Rattle.heap.specs.Held.{held}
use Rattle.heap.proofs.Moves.{shuffled_push, front_again, front_of}
use Rattle.heap.proofs.Rising.{last_may_rise}
use Rattle.heap.proofs.heap.Heap.push.Goals as goal

pub returns-clause-held : goal.returns-clause-held
returns-clause-held g c =
    let h = c.args.self.now in
    let x = c.args.entry in
    let len = c.len-len.result in
    let told = c.sift_up.ensures in
    let behind : take (len + 1 - 0) (set h.entries.now len x) ≡ held h ++ x ∷ [] =
    grind (arith, take_more_set h.entries.now len x c.if-len-self.false, front_again h.entries.now h.len len c.len-len.ensures) in
    let all = front_of c.sift_up.new.entries _ (len + 1) _ (omega arith) c.sift_up.auto.entries (omega (arith, length-set {A = g.row.E.Denot})) in
    rw all (
      IsPermutation-trans _ _ _ (shuffled_push (held h) _ x behind) told.held,
      λ o. told.order (last_may_rise g.E.Entry.before (held h) _ x len c.len-len.ensures behind o),
    )
