-- What a picker means. A picker is the worklist of a graph search.
--   Waits           how often each place waits
--   Meaning         how often each place waits, the room, and the count
--   nowhere         no place waits
--   once            1 at one place, 0 elsewhere
--   more, less      the same places, one of them waiting once more, or once less
--   waiting_below   how many of the places below a number wait, each as often as it does
--   waiting         how many wait
--   put_answer      the first question about a place that gets a no, or that it is accepted
--   put_to          what putting a place leaves
--   counted         the count after one more
--   Took            what taking may answer, and what it leaves
--   fresh, emptied  what making and emptying leave
--   drained         what taking out all places leaves
--   Inside          no place at or above 128 waits
--   Lawful          no place at or above 128 waits, and the count stops
--   occurs          how often each place stands in a list
--   meaning_of      the meaning of a list of places that wait
use Rattle.std.specs.Prelude.{◌≡◌, ℕ, zero, suc, ◌+◌, ◌-◌, ◌<◌, ◌≤◌, min, cond, List, is_ok, Some, None, count_by, Option, Result, ◌==◌, nat_eq}
use Rattle.picker.specs.declared.fault.PutFault.{PutFault}
use Rattle.picker.specs.Fault.{put_check}

-- How often each place waits.
abbrev pub Waits : Type 0
Waits = ℕ → ℕ

-- A picker's meaning: how often each place waits, how many may wait, and how many places were taken out since it was
-- last emptied, a count that stops at 65,535.
pub record Meaning : Type 0 where
  pub waits : Waits
  pub room : ℕ
  pub count : ℕ

-- No place waits.
abbrev pub nowhere : Waits
nowhere v = 0

-- 1 at place p, and 0 elsewhere.
abbrev pub once : ℕ → Waits
once p v = cond (v == p) 1 0

-- Place p waits once more.
abbrev pub more : ℕ → Waits → Waits
more p w v = w v + once p v

-- Place p waits once less.
abbrev pub less : ℕ → Waits → Waits
less p w v = w v - once p v

-- How many of the places 0 to n - 1 wait, each as often as it does.
unfoldable pub waiting_below : ℕ → Waits → ℕ
waiting_below zero w = 0
waiting_below (suc n) w = w n + waiting_below n w

-- How many wait in a picker: the places are those below 128.
abbrev pub waiting : Meaning → ℕ
waiting m = waiting_below 128 m.waits

-- The first question that gets a no: is the place below 128? Do fewer wait than the room?
abbrev pub put_answer : Meaning → ℕ → Result (Unit {0}) PutFault
put_answer m p = put_check p (waiting m) m.room

-- What putting place p leaves: accepted, it waits once more and nothing else changes; refused, nothing changes.
abbrev pub put_to : Meaning → ℕ → Meaning
put_to m p = cond (is_ok (put_answer m p)) (record { waits = more p m.waits; room = m.room; count = m.count }) m

-- The count after one more place was taken out.
abbrev pub counted : ℕ → ℕ
counted c = min (c + 1) 65535

-- Taking: none exactly where nothing waits, and then nothing changes; otherwise a place that waits, which then waits
-- once less, and the count is one more. Nothing is said of which.
abbrev pub Took : Meaning → Option ℕ → Meaning → Type 0
Took m None n = (m.waits ≡ nowhere) × (n ≡ m)
Took m (Some p) n =
    (0 < m.waits p) × (n ≡ record { waits = less p m.waits; room = m.room; count = counted m.count })

-- A picker in which nothing waits, with count 0: made so with its room.
abbrev pub fresh : ℕ → Meaning
fresh room = record { waits = nowhere; room = room; count = 0 }

-- What emptying leaves: as made.
abbrev pub emptied : Meaning → Meaning
emptied m = fresh m.room

-- What is left when places were taken out until none waited: each of them counts.
abbrev pub drained : Meaning → Meaning
drained m = record { waits = nowhere; room = m.room; count = min (m.count + waiting m) 65535 }

-- No place at or above 128 waits.
abbrev pub Inside : Waits → Type 0
Inside w = (v : ℕ) → 128 ≤ v → w v ≡ 0

-- What holds of the meaning of every value of a picker's type: no place at or above 128 waits, and the count is at
-- most 65,535.
pub record Lawful {P : Type 0} (meaning : P → Meaning) : Type 0 where
  pub inside : (p : P) → Inside (meaning p).waits
  pub stops : (p : P) → (meaning p).count ≤ 65535

-- How often each place stands in a list.
abbrev pub occurs : List ℕ → Waits
occurs xs v = count_by (λ x. nat_eq v x) xs

-- The meaning of a picker in which the places of a list wait.
abbrev pub meaning_of : List ℕ → ℕ → ℕ → Meaning
meaning_of xs room count = record { waits = occurs xs; room = room; count = count }
