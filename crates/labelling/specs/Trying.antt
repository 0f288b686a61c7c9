-- What trying the ways on from a place does.
--   Tried       the labels, the places that join what waits, and the goal that was labelled
--   is_goal     whether a place is a goal: it has a demand
--   reached     what following one way does
--   joined_by   a picker's meaning when places joined it
--   untouched   where nothing was done
--   followed    what following a way does, if there is one
--   then_on     one thing, and then another unless a goal was labelled
--   scanned     what trying the routes from a place does
--   Carries     routes of a frame, each with a share within its marks
--   unlabelled  how many places have no label
--   amount_of   the amount of a label, and 0 where there is none
--   left_by     a picker's meaning when a place was taken out
--   Examines    what examining a place may answer, and what it leaves
use Rattle.std.specs.Prelude.{◌≡◌, ℕ, zero, suc, ◌+◌, ◌<◌, ◌≤◌, Bool, cond, List, [], ◌∷◌, ◌++◌, length, ℤ, pos, Some, None, Option, is_some, nat_lt, slice_index_or}
use Rattle.board.specs.Board.{Shape, ValidShape, ValidRoute}
use Rattle.board.specs.declared.route.Route.{Route}
use Rattle.picker.specs.Meaning.{Meaning, nowhere, less, counted, occurs}
use Rattle.labelling.specs.declared.examining.Examined.{Examined}
use Rattle.labelling.specs.declared.label.Label.{Label}
use Rattle.labelling.specs.declared.way.Way.{Way}
use Rattle.labelling.specs.Labels.{label_of, labelled}
use Rattle.labelling.specs.Ways.{Holds, way_on}

-- The labels, the places that join those that wait, in order, and the goal that was labelled, if one was.
pub record Tried : Type 0 where
  pub labels : List (Option Label)
  pub joins : List ℕ
  pub goal : Option ℕ

-- A goal is a place with a demand above 0.
abbrev pub is_goal : List ℕ → ℕ → Bool
is_goal demand v = nat_lt 0 (slice_index_or demand v 0)

-- Following a way: a place that has a label is left alone; another one is labelled, and joins those that wait unless it
-- is a goal.
abbrev pub reached : List ℕ → List (Option Label) → Way → ℕ → Tried
reached demand ls w a =
    cond (is_some (label_of ls w.place)) (record { labels = ls; joins = []; goal = None })
    (cond (is_goal demand w.place) (record { labels = labelled ls w a; joins = []; goal = Some w.place })
    (record { labels = labelled ls w a; joins = w.place ∷ []; goal = None }))

-- The same picker, in which these places wait too.
abbrev pub joined_by : Meaning → List ℕ → Meaning
joined_by m ps = record { waits = λ v. m.waits v + occurs ps v; room = m.room; count = m.count }

-- Nothing was done.
abbrev pub untouched : List (Option Label) → Tried
untouched ls = record { labels = ls; joins = []; goal = None }

-- Following a way, if there is one.
abbrev pub followed : List ℕ → List (Option Label) → Option Way → ℕ → Tried
followed demand ls None a = untouched ls
followed demand ls (Some w) a = reached demand ls w a

-- What was done, and then what comes of the labels, unless a goal was labelled.
abbrev pub then_on : Tried → (List (Option Label) → Tried) → Tried
then_on t on =
    cond (is_some t.goal) t
    (record { labels = (on t.labels).labels; joins = t.joins ++ (on t.labels).joins; goal = (on t.labels).goal })

-- Trying each route from place p, which has amount a: the routes are those from number k on. The first goal ends it.
unfoldable pub scanned : List ℕ → ℕ → ℕ → ℕ → List Route → List ℤ → List (Option Label) → Tried
scanned demand p a k [] xs ls = untouched ls
scanned demand p a k (r ∷ rs) [] ls = untouched ls
scanned demand p a k (r ∷ rs) (x ∷ xs) ls =
    then_on (followed demand ls (way_on p k r x) a) (scanned demand p a (k + 1) rs xs)

-- At most 512 routes of a frame of this shape, and a share within its marks for each.
pub record Carries (s : Shape) (rs : List Route) (xs : List ℤ) : Type 0 where
  pub frame : ValidShape s
  pub few : length rs ≤ 512
  pub long : length rs ≤ length xs
  pub each : (k : ℕ) → k < length rs → ValidRoute s (slice_index_or rs k (record { start = 0; end = 0; floor = pos 0; ceiling = pos 0 }))
  pub within : (k : ℕ) → k < length rs
      → Holds (slice_index_or rs k (record { start = 0; end = 0; floor = pos 0; ceiling = pos 0 })) (slice_index_or xs k (pos 0))

-- How many of the places 0 to n - 1 have no label.
unfoldable pub unlabelled : ℕ → List (Option Label) → ℕ
unlabelled zero ls = 0
unlabelled (suc n) ls = cond (is_some (label_of ls n)) 0 1 + unlabelled n ls

-- The amount of a label; 0 where there is none.
abbrev pub amount_of : Option Label → ℕ
amount_of None = 0
amount_of (Some l) = l.amount

-- The same picker when place p was taken out of it.
abbrev pub left_by : Meaning → ℕ → Meaning
left_by m p = record { waits = less p m.waits; room = m.room; count = counted m.count }

-- Examining: nothing where nothing waits, and then all stays. Otherwise a place that waits leaves, whichever it is, and
-- the routes are tried from it: the labels, the goal and the places that join are those that trying them gives.
abbrev pub Examines : List Route → List ℤ → List ℕ → Meaning → List (Option Label) → Option Examined → Meaning → List (Option Label) → Type 0
Examines rs xs demand m ls None n ks = (m.waits ≡ nowhere) × (n ≡ m) × (ks ≡ ls)
Examines rs xs demand m ls (Some e) n ks =
    let t = scanned demand e.place (amount_of (label_of ls e.place)) 0 rs xs ls in
    (0 < m.waits e.place) × (e.goal ≡ t.goal) × (ks ≡ t.labels) × (n ≡ joined_by (left_by m e.place) t.joins)
