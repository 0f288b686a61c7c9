-- What is left of trying the routes.
use Rattle.std.proofs.Common.{◌≡◌, ℕ, ◌+◌, ◌<◌, ◌≤◌, List, ◌++◌, length, get_or, drop, ℤ, pos, Some, None, Option, refl, sym, subst, ap, ◌∙◌, arith}
use Rattle.std.proofs.lemmas.List.{drop_more, drop_all}
use Rattle.board.specs.declared.route.Route.{Route}
use Rattle.picker.specs.Meaning.{Meaning}
use Rattle.labelling.specs.declared.label.Label.{Label}
use Rattle.labelling.specs.declared.way.Way.{Way}
use Rattle.labelling.specs.Trying.{Tried, reached, joined_by, untouched, followed, then_on, scanned}
use Rattle.labelling.specs.Ways.{way_on}
use Rattle.labelling.proofs.Joins.{waiting_same, joined_twice}

-- What is read of an index past the end.
abbrev pub blank : Route
blank = record { start = 0; end = 0; floor = pos 0; ceiling = pos 0 }

-- one thing, and no goal: then the other
on_done : (t : Tried) (on : List (Option Label) → Tried) → t.goal ≡ None
    → then_on t on ≡ record { labels = (on t.labels).labels; joins = t.joins ++ (on t.labels).joins; goal = (on t.labels).goal }
on_done t on e = rw e refl

-- one thing, and a goal: nothing else
on_goal : (t : Tried) (on : List (Option Label) → Tried) (g : ℕ) → t.goal ≡ Some g → then_on t on ≡ t
on_goal t on g e = rw e refl

module _ (demand : List ℕ) (p a : ℕ) (rs : List Route) (xs : List ℤ) (whole : Tried) (before : Meaning) where
  abbrev rest : ℕ → List (Option Label) → Tried
  rest k now = scanned demand p a k (drop k rs) (drop k xs) now

  -- Trying the routes from number k on, with these labels and this picker, comes to the same as the whole.
  pub record Left (k : ℕ) (now : List (Option Label)) (m : Meaning) : Type 0 where
    pub labels : (rest k now).labels ≡ whole.labels
    pub goal : (rest k now).goal ≡ whole.goal
    pub meaning : joined_by m (rest k now).joins ≡ joined_by before whole.joins

  module _ (k : ℕ) (now : List (Option Label)) (m : Meaning) (left : Left k now m) where
    module _ (inside : k < length rs) (long : length rs ≤ length xs) where
      abbrev one : Tried
      one = followed demand now (way_on p k (get_or rs k blank) (get_or xs k (pos 0))) a

      split : rest k now ≡ then_on one (rest (k + 1))
      unfolding scanned
      split = rw (drop_more rs k blank inside, drop_more xs k (pos 0) (omega arith)) refl

      pub left_more : one.goal ≡ None → Left (k + 1) one.labels (joined_by m one.joins)
      left_more e =
          let s = split ∙ on_done one (rest (k + 1)) e in
          record {
            labels = sym (ap (λ (t : Tried). t.labels) s) ∙ left.labels;
            goal = sym (ap (λ (t : Tried). t.goal) s) ∙ left.goal;
            meaning = joined_twice m one.joins (rest (k + 1) one.labels).joins ∙ sym (ap (λ (t : Tried). joined_by m t.joins) s) ∙ left.meaning;
          }

      pub left_goal : (g : ℕ) → one.goal ≡ Some g
          → (Some g ≡ whole.goal) × (one.labels ≡ whole.labels) × (joined_by m one.joins ≡ joined_by before whole.joins)
      left_goal g e =
          let s = split ∙ on_goal one (rest (k + 1)) g e in (
            sym e ∙ sym (ap (λ (t : Tried). t.goal) s) ∙ left.goal,
            sym (ap (λ (t : Tried). t.labels) s) ∙ left.labels,
            sym (ap (λ (t : Tried). joined_by m t.joins) s) ∙ left.meaning,
          )

      -- no way leads on
      pub left_skip : None ≡ way_on p k (get_or rs k blank) (get_or xs k (pos 0)) → Left (k + 1) now m
      left_skip e =
          let none : one ≡ untouched now = ap (λ (w : Option Way). followed demand now w a) (sym e) in
          let on = subst (λ (t : Tried). Left (k + 1) t.labels (joined_by m t.joins)) none (left_more (ap (λ (t : Tried). t.goal) none)) in
          subst (Left (k + 1) now) (waiting_same m) on

      module _ (w : Way) (e : Some w ≡ way_on p k (get_or rs k blank) (get_or xs k (pos 0))) where
        followed_is : one ≡ reached demand now w a
        followed_is = ap (λ (o : Option Way). followed demand now o a) (sym e)

        -- a way was followed, and no goal labelled
        pub left_step : None ≡ (reached demand now w a).goal
            → Left (k + 1) (reached demand now w a).labels (joined_by m (reached demand now w a).joins)
        left_step h =
            subst (λ (t : Tried). Left (k + 1) t.labels (joined_by m t.joins)) followed_is
            (left_more (ap (λ (t : Tried). t.goal) followed_is ∙ sym h))

        -- a goal was labelled
        pub left_stop : (g : ℕ) → Some g ≡ (reached demand now w a).goal
            → (Some g ≡ whole.goal) × ((reached demand now w a).labels ≡ whole.labels)
            × (joined_by m (reached demand now w a).joins ≡ joined_by before whole.joins)
        left_stop g h =
            let s = left_goal g (ap (λ (t : Tried). t.goal) followed_is ∙ sym h) in (
              s.0,
              sym (ap (λ (t : Tried). t.labels) followed_is) ∙ s.1,
              sym (ap (λ (t : Tried). joined_by m t.joins) followed_is) ∙ s.2,
            )

    ended : length rs ≤ k → rest k now ≡ untouched now
    unfolding scanned
    ended h = rw (drop_all k rs h) refl

    pub left_end : length rs ≤ k → (None ≡ whole.goal) × (now ≡ whole.labels) × (m ≡ joined_by before whole.joins)
    left_end h =
        let s = ended h in (
          sym (ap (λ (t : Tried). t.goal) s) ∙ left.goal,
          sym (ap (λ (t : Tried). t.labels) s) ∙ left.labels,
          sym (waiting_same m) ∙ sym (ap (λ (t : Tried). joined_by m t.joins) s) ∙ left.meaning,
        )
