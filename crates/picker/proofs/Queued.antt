-- Places in the order in which they leave a row.
use Rattle.std.proofs.Common.{◌≡◌, ℕ, ◌≤◌, List, [], ◌∷◌, ◌++◌, length, Some, None, sym, ap, ◌∙◌, subst, arith}
use Rattle.std.specs.List.Sorted.{IsPermutation}
use Rattle.std.proofs.lemmas.List.{nil_from_length}
use Rattle.std.proofs.lemmas.List.Sorted.{IsPermutation-refl, IsPermutation-sym, IsPermutation-trans, IsPermutation-cons, length_permutation}
use Rattle.picker.specs.Meaning.{waiting_below, counted, Took, fresh, Inside, occurs, meaning_of}
use Rattle.picker.specs.Rows.{head_of, tail_of}
use Rattle.picker.proofs.Listed.{waiting_occurs, rest_inside, joined_last, took_some}

headless : (xs : List ℕ) → None ≡ head_of xs → xs ≡ []
headless [] e = cc
headless (x ∷ xs) e = absurd (cc)

headed : (xs : List ℕ) (p : ℕ) → Some p ≡ head_of xs → xs ≡ p ∷ tail_of xs
headed [] p e = absurd (cc)
headed (x ∷ xs) p e = cc

tail_inside : (xs : List ℕ) → Inside (occurs xs) → Inside (occurs (tail_of xs))
tail_inside [] h = h
tail_inside (x ∷ xs) h = rest_inside x xs h

tail_few : (n : ℕ) (xs : List ℕ) → length xs ≤ n → length (tail_of xs) ≤ n
tail_few n [] h = h
tail_few n (x ∷ xs) h = omega arith

module _ (order : List ℕ → List ℕ) (xs ys : List ℕ) (rest : order ys ≡ tail_of (order xs)) where
  -- no other place waits after the next left, and no more of them
  pub left_inside : Inside (occurs (order xs)) → Inside (occurs (order ys))
  left_inside h = subst (λ l. Inside (occurs l)) (sym rest) (tail_inside (order xs) h)

  pub left_few : (n : ℕ) → length (order xs) ≤ n → length (order ys) ≤ n
  left_few n h = subst (λ l. length l ≤ n) (sym rest) (tail_few n (order xs) h)

  module _ (room count : ℕ) where
    -- none was taken: there were none, and there are none
    pub took_nothing : None ≡ head_of (order xs) → Took (meaning_of (order xs) room count) None (meaning_of (order ys) room count)
    took_nothing e =
        let no = headless (order xs) e in
        (ap occurs no, ap (λ l. meaning_of l room count) (rest ∙ ap tail_of no ∙ sym no))

    -- the next was taken
    pub took_next : (p next : ℕ) → Some p ≡ head_of (order xs) → next ≡ counted count
        → Took (meaning_of (order xs) room count) (Some p) (meaning_of (order ys) room next)
    took_next p next e n =
        let split : order xs ≡ p ∷ order ys = headed (order xs) p e ∙ ap (λ l. p ∷ l) (sym rest) in
        took_some (order xs) room count p (order ys) next (subst (IsPermutation (order xs)) split (IsPermutation-refl (order xs))) n

module _ (order : List ℕ → List ℕ) (same : (xs : List ℕ) → IsPermutation xs (order xs)) where
  -- no places, in the row or in the order
  pub none_ordered : (xs : List ℕ) → xs ≡ [] → order xs ≡ []
  none_ordered xs e = nil_from_length (order xs) (length_permutation xs (order xs) (same xs) ∙ ap length e)

  module _ (xs : List ℕ) (e : xs ≡ []) where
    pub none_inside : Inside (occurs (order xs))
    none_inside v h = ap (λ l. occurs l v) (none_ordered xs e)

    pub none_few : length (order xs) ≤ 128
    none_few = let none = ap length (none_ordered xs e) in omega arith

    pub none_means : (count : ℕ) → count ≡ 0 → meaning_of (order xs) 128 count ≡ fresh 128
    none_means count z = λ i. meaning_of (none_ordered xs e i) 128 (z i)

  -- as many wait as the row has
  pub waiting_ordered : (xs : List ℕ) → Inside (occurs (order xs)) → waiting_below 128 (occurs (order xs)) ≡ length xs
  waiting_ordered xs h = waiting_occurs (order xs) h ∙ length_permutation xs (order xs) (same xs)

  -- a place that joins behind the last joins the order, wherever
  pub joined_ordered : (xs ys : List ℕ) (p : ℕ) → ys ≡ xs ++ p ∷ [] → IsPermutation (p ∷ order xs) (order ys)
  joined_ordered xs ys p e =
      let back = IsPermutation-cons p (order xs) xs (IsPermutation-sym xs (order xs) (same xs)) in
      IsPermutation-trans (p ∷ order xs) (p ∷ xs) (order ys) back (IsPermutation-trans (p ∷ xs) ys (order ys) (joined_last xs ys p e) (same ys))
