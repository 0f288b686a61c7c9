-- What holds of all regions of a board follows from a test of finitely many.
use Rattle.std.proofs.Common.{◌≡◌, ℕ, zero, suc, ◌<◌, Bool, true, false, cond, ◌&&◌, eqb, ap, ⊎_elim, arith}
use Rattle.std.proofs.lemmas.Bool.{and_parts, cases_eq}
use Rattle.std.proofs.lemmas.Bool.Decides.{nat_tests}
use Rattle.flow.specs.Regions.{Region}

-- A region with place n put in or left out.
abbrev pub put : ℕ → Bool → Region → Region
put n t R v = cond (eqb v n) t (R v)

-- Whether each of the regions of the first n places passes a test.
abbrev pub every : ℕ → (Region → Bool) → Bool
every zero p = p (λ v. false)
every (suc n) p = every n (λ R. p (put n true R)) && every n (λ R. p (put n false R))

-- The first n places of a region.
abbrev cut : ℕ → Region → Region
cut zero S v = false
cut (suc n) S v = put n (S n) (cut n S) v

every_cut : (n : ℕ) (p : Region → Bool) (S : Region) → every n p ≡ true → p (cut n S) ≡ true
every_cut zero p S h = h
every_cut (suc n) p S h =
    let t = and_parts (every n (λ R. p (put n true R))) _ h in
    by (S n) (every_cut n (λ R. p (put n true R)) S t.0) (every_cut n (λ R. p (put n false R)) S t.1)
  where
    by : (t : Bool) → p (put n true (cut n S)) ≡ true → p (put n false (cut n S)) ≡ true → p (put n t (cut n S)) ≡ true
    by true h k = h
    by false h k = k

cut_same : (n : ℕ) (S : Region) (v : ℕ) → v < n → cut n S v ≡ S v
cut_same zero S v h = absurd (omega arith)
cut_same (suc n) S v h =
    ⊎_elim
    (λ e. let p = ap S e in grind (arith, nat_tests))
    (λ k. let e = cut_same n S v (omega arith) in grind (arith, nat_tests))
    (cases_eq v n)

-- A region that passes a test, and agrees with S on the first n places.
pub record Tested (n : ℕ) (p : Region → Bool) (S : Region) : Type 0 where
  pub part : Region
  pub passes : p part ≡ true
  pub same : (v : ℕ) → v < n → part v ≡ S v

-- If all regions of the first n places pass, there is such a region for each.
pub tested : (n : ℕ) (p : Region → Bool) → every n p ≡ true → (S : Region) → Tested n p S
tested n p h S = record { part = cut n S; passes = every_cut n p S h; same = cut_same n S }
