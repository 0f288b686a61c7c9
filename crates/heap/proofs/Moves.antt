-- A list with one more behind it, and a list that lost its first.
use Rattle.std.proofs.Common.{◌≡◌, ℕ, ◌+◌, ◌-◌, ◌<◌, ◌≤◌, List, [], ◌∷◌, ◌++◌, length, get_or, take, drop, set, take_at, ap, ◌∙◌, subst, arith}
use Rattle.std.specs.List.Sorted.{IsPermutation}
use Rattle.std.proofs.lemmas.List.{length-take, take_all, take_min, take_more}
use Rattle.std.proofs.lemmas.List.Sorted.{IsPermutation-refl, IsPermutation-sym, IsPermutation-cons, IsPermutation-to_front}

module _ {E : Type 0} where
  -- As many of a list as a front of it has are that front.
  pub front_again : (zs : List E) (n m : ℕ) → m ≡ length (take n zs) → take m zs ≡ take n zs
  front_again zs n m e = ap (λ (k : ℕ). take k zs) (e ∙ length-take n zs) ∙ take_min n zs

  -- What was written to the front of a list, read from the whole.
  pub front_of : (xs zs : List E) (n m : ℕ) → n ≡ m → length xs ≡ length (take m zs) → m ≤ length zs → take n (xs ++ drop m zs) ≡ xs
  front_of xs zs n m same e l = take_at xs (drop m zs) n (omega (arith, length-take m zs))

  -- A list with one more behind it.
  pub shuffled_push : (xs ys : List E) (x : E) → ys ≡ xs ++ x ∷ [] → IsPermutation (x ∷ xs) ys
  shuffled_push xs ys x is = rw is (IsPermutation-sym (xs ++ x ∷ []) (x ∷ xs) (IsPermutation-to_front xs x))

  -- The last of a list in front of the others.
  last_in_front : (xs : List E) (x d : E) → x ≡ get_or (d ∷ xs) (length xs) x → IsPermutation xs (take (length xs) (x ∷ xs))
  last_in_front [] x d e = IsPermutation-refl []
  last_in_front (y ∷ xs) x d e =
      let ys = take (length xs) (y ∷ xs) in
      let m = take_more (y ∷ xs) (length xs) x (omega arith) in
      let a = take_all (length xs + 1) (y ∷ xs) (omega arith) in
      let s : ys ++ x ∷ [] ≡ y ∷ xs = cc in
      subst (λ (zs : List E). IsPermutation zs (x ∷ ys)) s (IsPermutation-to_front ys x)

  -- The first leaves, and the last takes its place.
  pub shuffled_pop : (xs : List E) (m : ℕ) (x y : E) → m ≡ length xs → 0 < m → x ≡ get_or xs 0 x → y ≡ get_or xs (m - 1) y
      → IsPermutation xs (x ∷ take (m - 1) (set xs 0 y))
  shuffled_pop [] m x y n l e f = absurd (omega arith)
  shuffled_pop (z ∷ xs) m x y n l e f =
      let p : m - 1 ≡ length xs = omega arith in
      rw (p, e) (IsPermutation-cons z xs (take (length xs) (y ∷ xs)) (last_in_front xs y z (rw p at f)))
