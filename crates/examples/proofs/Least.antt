-- The least of the narrowest regions of a kind, by a test of all regions.
use Rattle.std.proofs.Common.{◌≡◌, ℕ, zero, suc, ◌<◌, Bool, true, cond, not, ◌&&◌, ℤ, neg_ℤ, ◌≤ℤ◌, Decides, sym, refl, ◌∙◌, ap₂, arith}
use lib.Signed.{le_z}
use Rattle.std.proofs.lemmas.Int.{ints}
use Rattle.std.proofs.lemmas.Bool.{and_parts}
use Rattle.std.proofs.lemmas.Bool.Decides.{Decides-below_and}
use Rattle.board.specs.Board.{Board}
use Rattle.flow.proofs.Sums.{width_same}
use Rattle.flow.specs.Flow.{Network}
use Rattle.flow.specs.Regions.{Region, width, Separates, Inside, Narrowest, MostOverpromised}
use Rattle.examples.proofs.Finite.{every, Tested, tested}

-- If the one then the other.
abbrev pub implies : Bool → Bool → Bool
implies a c = cond a c true

decides_implies : (a c : Bool) → Decides (implies a c) (a ≡ true → c ≡ true)
decides_implies a c = ((λ h e. grind arith), (λ f. grind arith))

pub implied : (a c : Bool) → implies a c ≡ true → a ≡ true → c ≡ true
implied a c = (decides_implies a c).0

-- Whether each of the first n places that is in R is in S.
abbrev pub subset : ℕ → Region → Region → Bool
subset zero R S = true
subset (suc n) R S = implies (R n) (S n) && subset n R S

pub subset_inside : (n : ℕ) (R S : Region) → subset n R S ≡ true → (v : ℕ) → v < n → R v ≡ true → S v ≡ true
subset_inside n R S =
    (Decides-below_and
    (λ v. implies (R v) (S v))
    (λ v. R v ≡ true → S v ≡ true)
    (λ m. subset m R S)
    (λ v. decides_implies (R v) (S v))
    refl
    (λ _. refl)
    n
    ).0

pub at_most : (a b : ℤ) → le_z a b ≡ true → a ≤ℤ b
at_most a b h = grind (arith, ints)

pub at_most_test : (a b : ℤ) → a ≤ℤ b → le_z a b ≡ true
at_most_test a b h = grind (arith, ints)

-- A kind of regions, by whether home and whether port are inside.
abbrev pub Kind : Type 0
Kind = Bool → Bool → Bool

abbrev pub separating : Kind
separating home port = home && not port

abbrev pub together : Kind
together home port = cond home port (not port)

abbrev pub is : Kind → Board → Region → Bool
is k b S = k (S b.shape.home) (S b.shape.port)

-- Whether all regions of a kind pass a test.
abbrev pub all : Kind → Board → (Region → Bool) → Bool
all k b g = every b.shape.places (λ S. implies (is k b S) (g S))

pub all_tested : (k : Kind) (b : Board) (g : Region → Bool) → Network b → all k b g ≡ true → (S : Region) → is k b S ≡ true
    → Tested b.shape.places g S
all_tested k b g net h S e =
    let t = tested b.shape.places (λ P. implies (is k b P) (g P)) h S in
    let same = ap₂ k (t.same b.shape.home net.home) (t.same b.shape.port net.port) in
    record { part = t.part; passes = implied (is k b t.part) (g t.part) t.passes (same ∙ e); same = t.same }

-- R is of a kind and w wide; no region of the kind is narrower, and each that is as narrow contains R.
pub record Least (k : Kind) (b : Board) (R : Region) (w : ℤ) : Type 0 where
  pub kind : is k b R ≡ true
  pub wide : width b.routes R ≡ w
  pub least : (S : Region) → is k b S ≡ true → w ≤ℤ width b.routes S
  pub inside : (S : Region) → is k b S ≡ true → width b.routes S ≡ w → Inside b R S

-- What is asked of every region of the kind.
abbrev above : Board → Region → ℤ → Region → Bool
above b R w S = le_z w (width b.routes S) && implies (le_z (width b.routes S) w) (subset b.shape.places R S)

abbrev pub is_least : Kind → Board → Region → ℤ → Bool
is_least k b R w = is k b R && (le_z (width b.routes R) w && all k b (above b R w))

pub least_tested : (k : Kind) (b : Board) (R : Region) (w : ℤ) → Network b → is_least k b R w ≡ true → Least k b R w
least_tested k b R w net h =
    let p = and_parts (is k b R) _ h in
    let q = and_parts (le_z (width b.routes R) w) _ p.1 in
    let high = at_most (width b.routes R) w q.0 in
    let low = (by q.1 R p.0).0 in
    record {
      kind = p.0;
      wide = omega (arith, ints);
      least = λ S e. (by q.1 S e).0;
      inside = λ S e. (by q.1 S e).1;
    }
  where
    by : all k b (above b R w) ≡ true → (S : Region) → is k b S ≡ true
        → (w ≤ℤ width b.routes S) × (width b.routes S ≡ w → Inside b R S)
    by g S e =
        let t = all_tested k b (above b R w) net g S e in
        let same = width_same b.shape.places b.routes t.part S net.routes t.same in
        let p = and_parts (le_z w (width b.routes t.part)) _ t.passes in
        let low = at_most w (width b.routes t.part) p.0 in (
          omega (arith, ints),
          λ eq v l r.
              sym (t.same v l)
              ∙ subset_inside b.shape.places R t.part (implied _ _ p.1 (at_most_test _ w (omega (arith, ints)))) v l r,
        )

pub separates_test : (b : Board) (S : Region) → Separates b S → is separating b S ≡ true
separates_test b S s = grind arith

pub narrowest : (b : Board) (R : Region) (d : ℤ) → Network b → is_least separating b R d ≡ true → Narrowest b R d
narrowest b R d net h =
    let t = least_tested separating b R d net h in
    let k = t.kind in
    record {
      separates = record { home = grind arith; port = grind arith };
      wide = t.wide;
      least = λ S s. t.least S (separates_test b S s);
      inside = λ S s. t.inside S (separates_test b S s);
    }

decides_together : (s t : Bool) → Decides (together s t) (s ≡ t)
decides_together s t = ((λ h. grind arith), (λ e. grind arith))

pub most_overpromised : (b : Board) (R : Region) (x : ℤ) → Network b → is_least together b R (neg_ℤ x) ≡ true → MostOverpromised b R x
most_overpromised b R x net h =
    let t = least_tested together b R (neg_ℤ x) net h in
    let w = t.wide in
    let decided = λ (S : Region). decides_together (S b.shape.home) (S b.shape.port) in
    record {
      together = (decided R).0 t.kind;
      over = omega (arith, ints);
      most = λ S e. let l = t.least S ((decided S).1 e) in omega (arith, ints);
      inside = λ S e o. t.inside S ((decided S).1 e) (omega (arith, ints));
    }
