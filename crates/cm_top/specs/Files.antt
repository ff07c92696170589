-- The files of a task: what is told of them, and their bytes.
use Rattle.std.specs.Prelude.{◌≡◌, ◌⊎◌, ℕ, ◌≤◌, List, [], ◌∷◌, length, Some}
use Rattle.std.specs.declared.option.Option.{Option}
use Rattle.std.specs.List.{AllZip}
use Rattle.cm_top.specs.Fetch.{OfFile}

-- a file that a task reads, and the most bytes that it may have
pub record Input : Type 0 where
  pub name : List ℕ
  pub most : ℕ

-- so it is for one of them
abbrev pub SomeInput : (Input → Type 0) → List Input → Type 0
SomeInput P [] = ⊥
SomeInput P (i ∷ is) = P i ⊎ SomeInput P is

-- the bytes of the files are so, where they are all told; a file that is told to be missing has none
abbrev pub OfFiles : (List ℕ → Option (Option (List ℕ))) → List Input → (List (List ℕ) → Type 0) → Type 0
OfFiles held [] P = P []
OfFiles held (i ∷ is) P = OfFile (held i.name) (λ bytes. OfFiles held is (λ files. P (bytes ∷ files)))

-- these are told to be their bytes
abbrev pub AreHeld : (List ℕ → Option (Option (List ℕ))) → List Input → List (List ℕ) → Type 0
AreHeld held inputs files = AllZip (λ i bytes. held i.name ≡ Some (Some bytes)) inputs files

-- none is too long
abbrev pub AreWithin : List Input → List (List ℕ) → Type 0
AreWithin inputs files = AllZip (λ i bytes. length bytes ≤ i.most) inputs files

-- the bytes of the only file are so
abbrev pub OfOne : (List ℕ → Type 0) → List (List ℕ) → Type 0
OfOne P [] = ⊥
OfOne P (bytes ∷ []) = P bytes
OfOne P (bytes ∷ more ∷ files) = ⊥
