-- The first leaves, and the last, put in its place, sinks.
use Rattle.std.proofs.Common.{refl, arith}
use Rattle.std.proofs.lemmas.List.{length-set}
use Rattle.std.proofs.lemmas.List.Sorted.{IsPermutation-cons, IsPermutation-trans}
use Rattle.heap.proofs.Moves.{shuffled_pop, front_of}
use Rattle.heap.proofs.Sinking.{first_may_sink}
use Rattle.heap.proofs.sifting.remove_first.Goals as goal

pub returns-clause-held : goal.returns-clause-held
returns-clause-held g c =
    let xs = c.args.entries.now in
    let rest = front_of c.sift_down.new.entries _ _ _ refl c.sift_down.auto.entries (omega (arith, length-set {A = g.row.E.Denot})) in
    let taken = shuffled_pop xs _ _ _ refl c.requires c.index-entries-0.is c.index-entries-last.is in
    rw rest (IsPermutation-trans _ _ _ taken (IsPermutation-cons _ _ _ c.sift_down.ensures.held))

pub returns-clause-order : goal.returns-clause-order
returns-clause-order g c =
    let xs = c.args.entries.now in
    let rest = front_of c.sift_down.new.entries _ _ _ refl c.sift_down.auto.entries (omega (arith, length-set {A = g.row.E.Denot})) in
    rw rest (λ o. c.sift_down.ensures.order (first_may_sink g.E.Entry.before xs _ _ _ refl refl o))
