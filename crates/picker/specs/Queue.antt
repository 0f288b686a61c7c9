-- The pickers that keep places in the order in which they were put.
--   queue           the places that wait in such a picker, in the order in which they are taken
--   queue_meaning   what it means
use Rattle.std.specs.Prelude.{ℕ, List}
use Rattle.picker.specs.Meaning.{Meaning, meaning_of}
use Rattle.picker.specs.declared.queue.Queue.{Queue}

-- The places that wait, in the order in which they are taken, the next of them first.
abbrev pub queue : {E : _} {G : _} → Queue E G → List ℕ
queue {G = G} p = G.order p.row

-- What it means: these places wait, and there is room for 128.
abbrev pub queue_meaning : {E : _} {G : _} → Queue E G → Meaning
queue_meaning p = meaning_of (queue p) 128 p.count.number
