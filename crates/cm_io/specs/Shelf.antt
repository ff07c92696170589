-- What a shelf tells of its files, what a fetch gives of one, and its counts of faults.
use Rattle.std.specs.Prelude.{◌≡◌, ℕ, ◌<◌, ◌≤◌, List, length, take, drop, ⊤, None, Some, Result, IfOk, IsErr}
use Rattle.std.specs.declared.option.Option.{Option}

-- the buffer begins with n bytes of the file from this place on; none, where there is room, only at its end
pub record GivesFrom (file : List ℕ) (from n : ℕ) (buf : List ℕ) : Type 0 where
  pub bytes : take n buf ≡ take n (drop from file)
  pub within : n ≤ length (drop from file)
  pub ends : n ≡ 0 → 0 < length buf → length file ≤ from

-- what a fetch answers where nothing is told of the file, where it is told missing, and where its bytes are told
abbrev pub Fetches : {E : Type 0} → Option (Option (List ℕ)) → ℕ → Result ℕ E → List ℕ → Type 0
Fetches None from r buf = ⊤
Fetches (Some None) from r buf = IsErr r
Fetches (Some (Some file)) from r buf = IfOk r (λ n. GivesFrom file from n buf)

-- the counts of faults, by name: none falls
abbrev pub NoneFalls : (List ℕ → ℕ) → (List ℕ → ℕ) → Type 0
NoneFalls before now = (name : List ℕ) → before name ≤ now name

-- what is told of each file stays
abbrev pub SameFiles : (List ℕ → Option (Option (List ℕ))) → (List ℕ → Option (Option (List ℕ))) → Type 0
SameFiles before now = (name : List ℕ) → now name ≡ before name
