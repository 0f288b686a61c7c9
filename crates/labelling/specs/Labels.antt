-- The labels of the places: a list with a label, or none, for each place from 0 on.
--   label_of   the label of a place
--   labelled   the labels after a way was tried
use Rattle.std.specs.Prelude.{ℕ, min, cond, List, Some, None, Option, is_some, slice_index_or, slice_set}
use Rattle.labelling.specs.declared.label.Label.{Label}
use Rattle.labelling.specs.declared.way.Way.{Way}

-- The label of place v, if it has one.
abbrev pub label_of : List (Option Label) → ℕ → Option Label
label_of ls v = slice_index_or ls v None

-- Where a way leads to a place without a label, it gets one: the way, and the smaller of the amount and the step.
abbrev pub labelled : List (Option Label) → Way → ℕ → List (Option Label)
labelled ls w a =
    cond (is_some (label_of ls w.place)) ls (slice_set ls w.place (Some (record { via = w.via; amount = min a w.step })))
