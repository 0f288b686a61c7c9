-- The places that entries stand for: what pushing and popping an entry do to a picker's meaning.
use Rattle.std.proofs.Common.{◌≡◌, ℕ, Bool, ◌∷◌, List, map, length, Some, Ok, Err, Result, is_ok, ltb, refl, ap, ◌∙◌, arith}
use Rattle.std.specs.List.Sorted.{IsPermutation}
use Rattle.std.proofs.lemmas.List.{length-map}
use Rattle.std.proofs.lemmas.List.Sorted.{IsPermutation-map}
use Rattle.heap.specs.Order.{Ordered, Pushed}
use Rattle.picker.specs.Fault.{put_check}
use Rattle.picker.specs.Meaning.{waiting_below, put_answer, put_to, counted, Took, Inside, occurs, meaning_of}
use Rattle.picker.proofs.Listed.{waiting_occurs, taken_in, asked_accepted, joined_inside, took_some}

module _ {E : Type 0} (place : E → ℕ) where
  -- As many wait as entries are held.
  pub waiting_places : (xs : List E) → Inside (occurs (map place xs)) → waiting_below 128 (occurs (map place xs)) ≡ length xs
  waiting_places xs all = waiting_occurs (map place xs) all ∙ length-map xs place

  module _ (xs ys : List E) (room after count : ℕ) (same : after ≡ room) where
    -- Where both questions got a yes, the entry is pushed, and its place waits.
    pub put_pushed : (before : E → E → Bool) (x : E) (waits most : ℕ) (r : Result (Unit {0}) E) → Inside (occurs (map place xs))
        → waits ≡ waiting_below 128 (occurs (map place xs))
        → most ≡ room
        → Ok tt ≡ put_check (place x) waits most
        → is_ok r ≡ ltb (length xs) room
        → Pushed before xs x r ys
        → (r ≡ Ok tt) × (Ok tt ≡ put_answer (meaning_of (map place xs) room count) (place x))
        × (Ordered before xs → Ordered before ys)
        × Inside (occurs (map place ys))
        × (meaning_of (map place ys) after count ≡ put_to (meaning_of (map place xs) room count) (place x))
    put_pushed before x waits most (Ok tt) all w m asked free joined =
        let told = taken_in (place x) waits most asked in
        let moved = IsPermutation-map place (x ∷ xs) ys joined.0 in
        let long : put_check (place x) waits most ≡ put_check (place x) (length (map place xs)) room = rw (w, m, waiting_occurs (map place xs) all) refl in
        let put = asked_accepted (map place xs) room count (place x) (map place ys) all (asked ∙ long) moved in
        (refl, put.0, joined.1, joined_inside (place x) (map place xs) (map place ys) all told.0 moved, ap (λ n. meaning_of (map place ys) n count) same ∙ put.1)
    put_pushed before x waits most (Err y) all w m asked free joined =
        let long = waiting_places xs all in
        let told = taken_in (place x) waits most asked in
        absurd (grind (arith, told.1, long, w, m, free))

    -- An entry leaves, and its place with it.
    pub took_popped : (x : E) (next : ℕ) → IsPermutation xs (x ∷ ys) → next ≡ counted count
        → Took (meaning_of (map place xs) room count) (Some (place x)) (meaning_of (map place ys) after next)
    took_popped x next left n =
        let told = took_some (map place xs) room count (place x) (map place ys) next (IsPermutation-map place xs (x ∷ ys) left) n in
        (told.0, ap (λ m. meaning_of (map place ys) m next) same ∙ told.1)
