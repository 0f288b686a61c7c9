-- The first question of two lists that gets a no.
use Rattle.std.proofs.Common.{◌≡◌, ℕ, Bool, true, false, cond, List, [], ◌∷◌, ◌++◌, Some, None, Ok, Err, Option, sym, refl, ap, ◌∙◌, arith}
use Rattle.std.specs.Option.{option_map}
use Rattle.board.specs.Questions.{Question, first_no, handed_up, answer}

-- the fault, or else that of the second list
abbrev or_else : {F : Type 0} → Option F → Option F → Option F
or_else None o = o
or_else (Some f) o = Some f

step : {F : Type 0} (yes : Bool) (x a o : Option F) (f : F) → x ≡ or_else a o → cond yes x (Some f) ≡ or_else (cond yes a (Some f)) o
step true x a o f e = e
step false x a o f e = refl

first_append : {F : Type 0} (xs ys : List (Question F)) → first_no (xs ++ ys) ≡ or_else (first_no xs) (first_no ys)
first_append [] ys = refl
first_append (q ∷ qs) ys = step q.0 (first_no (qs ++ ys)) (first_no qs) (first_no ys) q.1 (first_append qs ys)

-- where the first list gets a yes each, the second decides
pub first_none : {F : Type 0} (xs ys : List (Question F)) → first_no xs ≡ None → first_no (xs ++ ys) ≡ first_no ys
first_none xs ys e = rw (first_append xs ys, e) refl

-- where the first list gets a no, that decides
pub first_some : {F : Type 0} (xs ys : List (Question F)) (f : F) → first_no xs ≡ Some f → first_no (xs ++ ys) ≡ Some f
first_some xs ys f e = rw (first_append xs ys, e) refl

none_parts : {F : Type 0} (a o : Option F) → or_else a o ≡ None → (a ≡ None) × (o ≡ None)
none_parts None o e = (refl, e)
none_parts (Some f) o e = let z : ◌≡◌ {A = ℕ} 0 1 = cc in absurd (omega arith)

-- where both lists together get a yes each, so does each of them
pub first_parts : {F : Type 0} (xs ys : List (Question F)) → first_no (xs ++ ys) ≡ None → (first_no xs ≡ None) × (first_no ys ≡ None)
first_parts xs ys e = none_parts (first_no xs) (first_no ys) (rw (first_append xs ys) at e)

handed_step : {F G : Type 0} (g : F → G) (yes : Bool) (x : Option G) (o : Option F) (f : F) → x ≡ option_map g o
    → cond yes x (Some (g f)) ≡ option_map g (cond yes o (Some f))
handed_step g true x o f e = e
handed_step g false x o f e = refl

first_handed_up : {F G : Type 0} (g : F → G) (qs : List (Question F)) → first_no (handed_up g qs) ≡ option_map g (first_no qs)
first_handed_up g [] = refl
first_handed_up g (q ∷ qs) = handed_step g q.0 (first_no (handed_up g qs)) (first_no qs) q.1 (first_handed_up g qs)

none_mapped : {F G : Type 0} (g : F → G) (o : Option F) → option_map g o ≡ None → o ≡ None
none_mapped g None e = refl
none_mapped g (Some f) e = let z : ◌≡◌ {A = ℕ} 0 1 = cc in absurd (omega arith)

-- questions that are handed up get the same answers: the first no, handed up; a yes each; and only then
pub some_handed : {F G : Type 0} (g : F → G) (qs : List (Question F)) (f : F) → first_no qs ≡ Some f → first_no (handed_up g qs) ≡ Some (g f)
some_handed g qs f e = first_handed_up g qs ∙ ap (option_map g) e

pub all_handed : {F G : Type 0} (g : F → G) (qs : List (Question F)) → first_no qs ≡ None → first_no (handed_up g qs) ≡ None
all_handed g qs e = first_handed_up g qs ∙ ap (option_map g) e

pub none_handed : {F G : Type 0} (g : F → G) (qs : List (Question F)) → first_no (handed_up g qs) ≡ None → first_no qs ≡ None
none_handed g qs e = none_mapped g (first_no qs) (sym (first_handed_up g qs) ∙ e)

-- questions that are handed up, and then more
pub handed_no : {F G : Type 0} (g : F → G) (qs : List (Question F)) (more : List (Question G)) (f : F) → first_no qs ≡ Some f
    → first_no (handed_up g qs ++ more) ≡ Some (g f)
handed_no g qs more f e = first_some (handed_up g qs) more (g f) (some_handed g qs f e)

pub handed_on : {F G : Type 0} (g : F → G) (qs : List (Question F)) (more : List (Question G)) → first_no qs ≡ None
    → first_no (handed_up g qs ++ more) ≡ first_no more
handed_on g qs more e = first_none (handed_up g qs) more (all_handed g qs e)

-- what an answer says of the first question that gets a no
pub refusal : {X F : Type 0} (o : Option F) (x : X) (f : F) → Err f ≡ answer o x → o ≡ Some f
refusal None x f t = let z : ◌≡◌ {A = ℕ} 0 1 = cc in absurd (omega arith)
refusal (Some g) x f t = cc

pub acceptance : {X F : Type 0} (o : Option F) (x y : X) → Ok y ≡ answer o x → (o ≡ None) × (y ≡ x)
acceptance None x y t = (refl, cc)
acceptance (Some g) x y t = let z : ◌≡◌ {A = ℕ} 0 1 = cc in absurd (omega arith)
