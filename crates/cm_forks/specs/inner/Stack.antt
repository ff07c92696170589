-- What a stack of forks has still to give.
use Rattle.std.specs.Prelude.{◌≡◌, ◌≢◌, ◌⊎◌, ◌<◌, ◌≤◌, ◌↔◌, ℕ, List, [], ◌∷◌, ◌++◌, length, Option, Some, None, IfSome}
use Rattle.std.specs.List.{AllByRecursion}
use Rattle.cm_ctx.specs.Masks.{Has}
use Rattle.cm_forks.specs.Paths.{Path, Before, StartsWith, Begins, Covers}
use Rattle.cm_forks.specs.Counts.{IsOpen}

-- a beginning, the outcomes that it has, and the least of them that is still to be taken
pub record Fork : Type 0 where
  pub front : Path
  pub mask : ℕ
  pub from : ℕ

-- the decisions after the outcome that is taken next
abbrev pub next_of : Fork → Path
next_of k = k.front ++ k.from ∷ []

-- what is left at a fork: what begins with this outcome or with a greater one
abbrev pub LeftAt : Fork → Path → Type 0
LeftAt k q = (d : ℕ) × (k.from ≤ d) × StartsWith q (k.front ++ d ∷ [])

-- what is left at one of these forks
abbrev pub LeftIn : List Fork → Path → Type 0
LeftIn [] q = ⊥
LeftIn (k ∷ ks) q = LeftAt k q ⊎ LeftIn ks q

-- what begins as the node in hand does
abbrev pub InHand : Option Path → Path → Type 0
InHand None q = ⊥
InHand (Some front) q = StartsWith q front

-- all that is still to be given
abbrev pub Remains : Option Path → List Fork → Path → Type 0
Remains hand ks q = InHand hand q ⊎ LeftIn ks q

-- the same paths
pub record Same (P A B : Path → Type 0) : Type 0 where
  pub paths : (q : Path) → P q → A q ↔ B q

-- the paths of the one set come before those of the other
abbrev pub AllBefore : (Path → Type 0) → (Path → Type 0) → (Path → Type 0) → Type 0
AllBefore P A B = (p q : Path) → P p → P q → A p → B q → Before p q

-- what is left at a fork comes after all that is left above it; the top stands last
abbrev pub Stacked : (Path → Type 0) → List Fork → Type 0
Stacked P [] = Unit {0}
Stacked P (k ∷ ks) = AllBefore P (LeftIn ks) (LeftAt k) × Stacked P ks

-- a fork knows its outcomes, and has the next one and another
pub record Live (P : Path → Type 0) (k : Fork) : Type 0 where
  pub covers : Covers P k.front k.mask
  pub begins : Begins P (next_of k)
  pub other : (d : ℕ) × (d ≢ k.from) × Begins P (k.front ++ d ∷ [])

-- each comes before those that stand in front of it
abbrev pub Falling : List Path → Type 0
Falling [] = Unit {0}
Falling (x ∷ xs) = AllByRecursion (λ y. Before y x) xs × Falling xs

abbrev pub AllAhead : List Path → Fork → Type 0
AllAhead opens k = AllByRecursion (λ o. Before o (next_of k)) opens

abbrev pub UpTo : Path → Path → Type 0
UpTo o front = (o ≡ front) ⊎ Before o front

-- each addition was that of an open prefix, the last one first, and none of them comes again
pub record Counted (P : Path → Type 0) (hand : Option Path) (ks : List Fork) (added : ℕ) : Type 0 where
  pub opens : List Path
  pub many : length opens ≡ added
  pub all : AllByRecursion (IsOpen P) opens
  pub falling : Falling opens
  pub behind : IfSome hand (λ front. AllByRecursion (λ o. UpTo o front) opens)
  pub ahead : AllByRecursion (AllAhead opens) ks

-- it can go on: what is in hand begins a path and comes first, the forks are live and in order, and additions counted
pub record Ready (P : Path → Type 0) (hand : Option Path) (ks : List Fork) (added : ℕ) : Type 0 where
  pub begins : IfSome hand (Begins P)
  pub before : AllBefore P (InHand hand) (LeftIn ks)
  pub stacked : Stacked P ks
  pub live : AllByRecursion (Live P) ks
  pub counted : Counted P hand ks added

-- the fork without the outcome that is taken now, if another one is left
abbrev pub Kept : Fork → List Fork → List Fork → Type 0
Kept k old new =
    (((d : ℕ) → k.from < d → Has k.mask d → ⊥) × (new ≡ old))
    ⊎ ((next : ℕ) × (k.from < next) × Has k.mask next × ((d : ℕ) → k.from < d → Has k.mask d → next ≤ d)
    × (new ≡ old ++ record { front = k.front; mask = k.mask; from = next } ∷ []))
