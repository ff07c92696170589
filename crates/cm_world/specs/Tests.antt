-- The tests of a pair: one for each signature that a commuting world has.
use Rattle.std.specs.Prelude.{◌≡◌, ℕ, ◌<◌, ◌≤◌, Bool, true, false, List, [], ◌∷◌, map, length, get_or, ℤ, ◌≤ℤ◌, IsTrue}
use Rattle.std.specs.Prelude.{if◌then◌else◌}
use Rattle.cm_model.specs.Tables.{Tables}
use Rattle.cm_model.specs.declared.pair.Pair.{Pair}
use Rattle.cm_value.specs.Least.{least_of}
use Rattle.cm_world.specs.declared.world.World.{World}
use Rattle.cm_world.specs.declared.pair_tests.PairTests.{PairTests}
use Rattle.cm_world.specs.declared.pair_tests.PairTests.TheVariants as tests
use Rattle.cm_world.specs.World.{IsWorldOf}
use Rattle.cm_world.specs.Order.{touched_cells}
use Rattle.cm_world.specs.Commuting.{Commutes}
use Rattle.cm_world.specs.Over.{AreDistinct, IsOver, IsOverBy}
use Rattle.cm_world.specs.Lexicographic.{comes_before}
use Rattle.cm_world.specs.Shape.{Mark, Element, Presence, Number, Signature, signature_of, marks_of_world}

-- a commuting world with this signature
pub record HasSignature (t : Tables) (p : Pair) (g : Signature) (w : World) : Type 0 where
  pub is_world : IsWorldOf t p w
  pub commutes : Commutes t p w
  pub is : signature_of t p w ≡ g

-- what the shape would be if each element were its number
abbrev pub own_numbers : List Mark → List ℕ
own_numbers [] = []
own_numbers (Element s n ∷ ms) = n ∷ own_numbers ms
own_numbers (Presence d ∷ ms) = d ∷ own_numbers ms
own_numbers (Number n ∷ ms) = own_numbers ms

-- the integers and the numbers of variants
abbrev pub integers : List Mark → List ℤ
integers [] = []
integers (Element s n ∷ ms) = integers ms
integers (Presence d ∷ ms) = integers ms
integers (Number n ∷ ms) = n ∷ integers ms

-- each is at most the other one at its place
abbrev pub AreAtMost : List ℤ → List ℤ → Type 0
AreAtMost [] [] = Unit {0}
AreAtMost [] (n ∷ ns) = ⊥
AreAtMost (m ∷ ms) [] = ⊥
AreAtMost (m ∷ ms) (n ∷ ns) = (m ≤ℤ n) × AreAtMost ms ns

-- the least commuting world with this signature
pub record IsTestOf (t : Tables) (p : Pair) (g : Signature) (w : World) : Type 0 where
  pub has : HasSignature t p g w
  -- elements are their numbers in the shape
  pub elements : own_numbers (marks_of_world t p w) ≡ g.shape
  -- integers and variants are least
  pub least : (v : World) → HasSignature t p g v → AreAtMost (integers (marks_of_world t p w))
      (integers (marks_of_world t p v))
  pub defaults : w.init.defaults ≡ map (λ d. least_of t d.value) t.states
  -- the exceptions are the touched cells in the order of first touch
  pub exceptions : map (λ e. e.cell) w.init.exceptions ≡ touched_cells t p w

-- by path, and then by shape
abbrev pub signature_before : Signature → Signature → Bool
signature_before g h =
    if comes_before g.path h.path then true else if comes_before h.path g.path then false else comes_before
    g.shape h.shape

abbrev pub are_ascending : List Signature → Bool
are_ascending [] = true
are_ascending (g ∷ []) = true
are_ascending (g ∷ h ∷ gs) = if signature_before g h then are_ascending (h ∷ gs) else false

-- one of the worlds has the signature
pub record IsAmong (t : Tables) (p : Pair) (ws : List World) (g : Signature) : Type 0 where
  pub place : ℕ
  pub within : place < length ws
  pub is : (d : World) → signature_of t p (get_or ws place d) ≡ g

-- the tests of all signatures that a commuting world has, in order
pub record AreAllTests (t : Tables) (p : Pair) (ws : List World) : Type 0 where
  pub each : (i : ℕ) (d : World) → i < length ws → IsTestOf t p (signature_of t p (get_or ws i d)) (get_or ws i d)
  pub all : (w : World) → IsWorldOf t p w → Commutes t p w → IsAmong t p ws (signature_of t p w)
  pub ascending : IsTrue (are_ascending (map (signature_of t p) ws))

-- more different signatures of commuting worlds than so many
pub record TooManyTests (t : Tables) (p : Pair) (most : ℕ) : Type 0 where
  pub worlds : List World
  pub distinct : AreDistinct (map (signature_of t p) worlds)
  pub are : (i : ℕ) (d : World) → i < length worlds → IsWorldOf t p (get_or worlds i d)
      × Commutes t p (get_or worlds i d)
  pub many : most < length worlds

-- the tests of a pair, for a limit on paths and one on tests
abbrev pub AreTestsOf : Tables → Pair → ℕ → ℕ → PairTests → Type 0
AreTestsOf t p paths most (tests.Over x) = IsOverBy t p paths x
AreTestsOf t p paths most tests.TooMany = (IsOver t p paths → ⊥) × TooManyTests t p most
AreTestsOf t p paths most (tests.Worlds ws) = (IsOver t p paths → ⊥) × AreAllTests t p ws × (length ws ≤ most)
