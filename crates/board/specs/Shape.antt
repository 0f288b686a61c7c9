-- The numbers of a frame.
--   Shape        how many places, which is home, which is port
--   ValidShape   what holds of the numbers of every frame
use Rattle.std.specs.Prelude.{◌≡◌, ℕ, ◌<◌, ◌≤◌}

-- The numbers of a frame: how many places (nodes) there are, which one is home (the source), which is port (the sink).
pub record Shape : Type 0 where
  pub places : ℕ
  pub home : ℕ
  pub port : ℕ

-- There are 2 to 128 places, numbered from 0; home and port are places, and they differ.
pub record ValidShape (s : Shape) : Type 0 where
  pub several : 2 ≤ s.places
  pub few : s.places ≤ 128
  pub home_inside : s.home < s.places
  pub port_inside : s.port < s.places
  pub apart : s.port ≡ s.home → ⊥
