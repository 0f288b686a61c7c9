-- Several places put one after the other.
--   put_all   what putting them leaves
use Rattle.std.specs.Prelude.{ℕ, List, fold}
use Rattle.picker.specs.Meaning.{Meaning, put_to}

-- What putting each of these places, with its amount, leaves: one after the other.
abbrev pub put_all : Meaning → List (ℕ × ℕ) → Meaning
put_all m places = fold (λ n x. put_to n x.0) m places
