-- The questions that a place is asked before it is taken in.
--   put_number   the number of each refusal
--   put_check    the first question that gets a no, or that the place is taken in
use Rattle.std.specs.Prelude.{ℕ, cond, Ok, Err, Result, nat_lt}
use Rattle.picker.specs.declared.fault.PutFault.{PutFault}
use Rattle.picker.specs.declared.fault.PutFault.TheVariants.{PlaceUnknown, RoomFull}

-- The number of a place that is not taken in.
abbrev pub put_number : PutFault → ℕ
put_number PlaceUnknown = 41
put_number RoomFull = 42

-- The first question about a place that gets a no, where so many wait and there is so much room: is the place below
-- 128? Do fewer wait than the room?
abbrev pub put_check : ℕ → ℕ → ℕ → Result (Unit {0}) PutFault
put_check place waits room = cond (nat_lt place 128) (cond (nat_lt waits room) (Ok tt) (Err RoomFull)) (Err PlaceUnknown)
