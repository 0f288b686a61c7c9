-- The places that wait, each with its rank.
--   Joined            putting: one more in a list, or the list as it was
--   entries           the entries of the places that wait
--   waiting_meaning   what they mean as what waits in a picker
use Rattle.std.specs.Prelude.{◌≡◌, List, ◌∷◌, map, Ok, Err, Result}
use Rattle.std.specs.List.Sorted.{IsPermutation}
use Rattle.heap.specs.Held.{held, room}
use Rattle.picker.specs.Meaning.{Meaning, meaning_of}
use Rattle.ranked.specs.declared.entry.Ranked.{Ranked}
use Rattle.ranked.specs.declared.waiting.Waiting.{Waiting}

-- Putting x: accepted, it joins what waits, wherever; refused, what waits stays.
abbrev pub Joined : {X F : Type 0} → List X → X → Result (Unit {0}) F → List X → Type 0
Joined xs x (Ok done) ys = IsPermutation (x ∷ xs) ys
Joined xs x (Err fault) ys = ys ≡ xs

-- The places that wait, each with its rank, in no order.
abbrev pub entries : {R : Type 0} {ord : _} {eq : _} {partial : _} → Waiting R ord eq partial → List (Ranked R)
entries w = held w.heap

-- What they mean: these places wait, and there is room for as many as entries are lent.
abbrev pub waiting_meaning : {R : Type 0} {ord : _} {eq : _} {partial : _} → Waiting R ord eq partial → Meaning
waiting_meaning w = meaning_of (map (λ e. e.place) (entries w)) (room w.heap) w.count.number
