-- How many places have no label.
use Rattle.std.proofs.Common.{◌≡◌, ℕ, zero, suc, ◌+◌, ◌<◌, ◌≤◌, Bool, true, false, min, List, length, set, Some, None, Option, refl, arith}
use Rattle.std.proofs.lemmas.List.{get_or-set_same, get_or-set_other}
use Rattle.labelling.specs.declared.label.Label.{Label}
use Rattle.labelling.specs.Labels.{label_of}
use Rattle.picker.specs.Meaning.{Meaning, waiting}
use Rattle.labelling.specs.declared.way.Way.{Way}
use Rattle.labelling.specs.Trying.{Tried, is_goal, reached, joined_by, unlabelled}
use Rattle.labelling.proofs.Joins.{waiting_joined, waiting_same}

module _ (ls : List (Option Label)) (p : ℕ) (l : Label) (inside : p < length ls) where
  -- the places below another one are not touched
  unlabelled_above : (n : ℕ) → n ≤ p → unlabelled n (set ls p (Some l)) ≡ unlabelled n ls
  unfolding unlabelled
  unlabelled_above zero h = refl
  unlabelled_above (suc n) h = rw (get_or-set_other ls p n (Some l) None (omega arith), unlabelled_above n (omega arith)) refl

  -- a place that had no label has one
  pub unlabelled_less : label_of ls p ≡ None → (n : ℕ) → p < n → unlabelled n (set ls p (Some l)) + 1 ≡ unlabelled n ls
  unfolding unlabelled
  unlabelled_less none zero h = absurd (omega arith)
  unlabelled_less none (suc n) h =
      grind (arith, unlabelled_above n, unlabelled_less none n, get_or-set_same ls p (Some l) None inside, get_or-set_other ls p n (Some l) None, none)

module _ (demand : List ℕ) (ls : List (Option Label)) (w : Way) (a n : ℕ) (m : Meaning) (below : w.place < n) (few : n ≤ 128) (long : length ls ≡ 128)
    (room : waiting m + unlabelled n ls ≤ m.room) where
  -- where the place has no label, one more may wait
  pub room_for : label_of ls w.place ≡ None → waiting m < m.room
  room_for none =
      let less = unlabelled_less ls w.place (record { via = w.via; amount = a }) (omega arith) none n below in
      omega (arith, less)

  abbrev after : Tried
  after = reached demand ls w a

  room_by : (o : Option Label) → label_of ls w.place ≡ o → (g : Bool) → is_goal demand w.place ≡ g
      → waiting (joined_by m after.joins) + unlabelled n after.labels ≤ (joined_by m after.joins).room
  room_by (Some l) e g f = rw e (rw (waiting_same m) room)
  room_by None e true f =
      let less = unlabelled_less ls w.place (record { via = w.via; amount = min a w.step }) (omega arith) e n below in
      rw (e, f) (rw (waiting_same m) (omega (arith, less)))
  room_by None e false f =
      let less = unlabelled_less ls w.place (record { via = w.via; amount = min a w.step }) (omega arith) e n below in
      let more = waiting_joined m w.place (omega arith) in
      rw (e, f) (omega (arith, less, more))

  -- a place that joins has lost its place among those without a label
  pub room_kept : waiting (joined_by m after.joins) + unlabelled n after.labels ≤ (joined_by m after.joins).room
  room_kept = room_by (label_of ls w.place) refl (is_goal demand w.place) refl
