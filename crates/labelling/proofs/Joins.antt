-- Places that join those that wait.
use Rattle.std.proofs.Common.{◌≡◌, ℕ, ◌+◌, ◌<◌, cond, eqb, List, [], ◌∷◌, ◌++◌, ap, ◌∙◌, arith}
use Rattle.std.proofs.lemmas.List.Sums.{sum_by-append, sum_by-cons}
use Rattle.picker.specs.Meaning.{Meaning, Waits, waiting, waiting_below, more, occurs}
use Rattle.picker.proofs.Waiting.{waiting_more}
use Rattle.labelling.specs.Trying.{joined_by}

-- what one more place does to how often each waits
joined_one : (w : Waits) (p v : ℕ) → w v + occurs (p ∷ []) v ≡ more p w v
joined_one w p v = let e = sum_by-cons (λ y. cond (eqb v y) 1 0) p [] in omega arith

pub waiting_joined : (m : Meaning) (p : ℕ) → p < 128 → waiting (joined_by m (p ∷ [])) ≡ waiting m + 1
waiting_joined m p b = ap (waiting_below 128) (λ i v. joined_one m.waits p v i) ∙ waiting_more 128 p m.waits b

pub waiting_same : (m : Meaning) → joined_by m [] ≡ m
waiting_same m =
    let none : (v : ℕ) → m.waits v + occurs [] v ≡ m.waits v = λ v. omega arith in
    λ i. record { waits = λ v. none v i; room = m.room; count = m.count }

pub joined_twice : (m : Meaning) (ps qs : List ℕ) → joined_by (joined_by m ps) qs ≡ joined_by m (ps ++ qs)
joined_twice m ps qs =
    let both : (v : ℕ) → m.waits v + occurs ps v + occurs qs v ≡ m.waits v + occurs (ps ++ qs) v =
    λ v. let e = sum_by-append (λ y. cond (eqb v y) 1 0) ps qs in omega arith
    in
    λ i. record { waits = λ v. both v i; room = m.room; count = m.count }
