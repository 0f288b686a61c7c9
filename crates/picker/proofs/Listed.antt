-- The places of a list that wait: what inserting one and removing one do to the meaning.
use Rattle.std.proofs.Common.{◌≡◌, ℕ, ◌<◌, cond, eqb, List, [], ◌∷◌, ◌++◌, length, Some, Ok, sym, ap, ◌∙◌, subst, arith, rules}
use Rattle.std.specs.List.Sorted.{IsPermutation}
use Rattle.std.proofs.lemmas.List.Sorted.{sum_by-IsPermutation, IsPermutation-sym, IsPermutation-to_front}
use Rattle.std.proofs.lemmas.List.Sums.{sum_by-cons}
use Rattle.picker.specs.Meaning.{more, less, waiting_below, put_answer, put_to, counted, Took, Inside, occurs, meaning_of}
use Rattle.picker.specs.Fault.{put_check}
use Rattle.picker.proofs.Waiting.{waiting_nowhere, waiting_more}

occurs_at : (x : ℕ) (xs : List ℕ) (v : ℕ) → occurs (x ∷ xs) v ≡ more x (occurs xs) v
occurs_at x xs v = let e = sum_by-cons (λ y. cond (eqb v y) 1 0) x xs in omega arith

occurs_cons : (x : ℕ) (xs : List ℕ) → occurs (x ∷ xs) ≡ more x (occurs xs)
occurs_cons x xs = λ i v. occurs_at x xs v i

occurs_shuffled : (xs ys : List ℕ) → IsPermutation xs ys → occurs ys ≡ occurs xs
occurs_shuffled xs ys s = λ i v. sum_by-IsPermutation (λ y. cond (eqb v y) 1 0) xs ys s i

-- all places of a list are below 128 where no other waits
first_inside : (x : ℕ) (xs : List ℕ) → Inside (occurs (x ∷ xs)) → x < 128
first_inside x xs h = grind (arith, h x, occurs_at x xs x)

pub rest_inside : (x : ℕ) (xs : List ℕ) → Inside (occurs (x ∷ xs)) → Inside (occurs xs)
rest_inside x xs h v o = omega (arith, h v o, occurs_at x xs v)

-- as many wait as the list has
pub waiting_occurs : (xs : List ℕ) → Inside (occurs xs) → waiting_below 128 (occurs xs) ≡ length xs
waiting_occurs [] h = waiting_nowhere 128
waiting_occurs (x ∷ xs) h =
    ap (waiting_below 128) (occurs_cons x xs) ∙ waiting_more 128 x (occurs xs) (first_inside x xs h) ∙ (let t = waiting_occurs xs (rest_inside x xs h) in omega arith)

-- no other place waits in another order, after one joined, and after one left
pub shuffled_inside : (xs ys : List ℕ) → IsPermutation xs ys → Inside (occurs xs) → Inside (occurs ys)
shuffled_inside xs ys s = subst Inside (sym (occurs_shuffled xs ys s))

pub joined_inside : (p : ℕ) (xs ys : List ℕ) → Inside (occurs xs) → p < 128 → IsPermutation (p ∷ xs) ys → Inside (occurs ys)
joined_inside p xs ys h b s = shuffled_inside (p ∷ xs) ys s (λ v o. grind (arith, h v o, occurs_at p xs v))

pub left_inside : (p : ℕ) (xs ys : List ℕ) → Inside (occurs xs) → IsPermutation xs (p ∷ ys) → Inside (occurs ys)
left_inside p xs ys h s = rest_inside p ys (shuffled_inside xs (p ∷ ys) s h)

-- what both questions gave a yes to
pub taken_in : (p waits room : ℕ) → Ok tt ≡ put_check p waits room → (p < 128) × (waits < room)
taken_in p waits room e = grind (arith, rules)

module _ (xs : List ℕ) (room count p : ℕ) where
  -- no question got a no, and the place joins the list, wherever
  pub asked_accepted : (ys : List ℕ) → Inside (occurs xs) → Ok tt ≡ put_check p (length xs) room → IsPermutation (p ∷ xs) ys
      → (Ok tt ≡ put_answer (meaning_of xs room count) p) × (meaning_of ys room count ≡ put_to (meaning_of xs room count) p)
  asked_accepted ys all e s =
      let told : Ok tt ≡ put_answer (meaning_of xs room count) p = e ∙ ap (λ n. put_check p n room) (sym (waiting_occurs xs all)) in
      let w = occurs_shuffled (p ∷ xs) ys s ∙ occurs_cons p xs in
      (told, rw (sym told) (ap (λ u. record { waits = u; room = room; count = count }) w))

  -- taken: the place leaves the list, wherever it was
  pub took_some : (ys : List ℕ) (next : ℕ) → IsPermutation xs (p ∷ ys) → next ≡ counted count
      → Took (meaning_of xs room count) (Some p) (meaning_of ys room next)
  took_some ys next s n =
      let w : occurs xs ≡ more p (occurs ys) = sym (occurs_shuffled xs (p ∷ ys) s) ∙ occurs_cons p ys in
      let left : (v : ℕ) → occurs ys v ≡ less p (occurs xs) v = λ v. omega (arith, ap (λ u. u v) w) in
      let rest : occurs ys ≡ less p (occurs xs) = λ i v. left v i in
      (grind (arith, ap (λ u. u p) w), rw n (ap (λ u. record { waits = u; room = room; count = counted count }) rest))

-- a place joins at the end of a list
pub joined_last : (xs ys : List ℕ) (p : ℕ) → ys ≡ xs ++ p ∷ [] → IsPermutation (p ∷ xs) ys
joined_last xs ys p e = subst (IsPermutation (p ∷ xs)) (sym e) (IsPermutation-sym _ _ (IsPermutation-to_front xs p))
