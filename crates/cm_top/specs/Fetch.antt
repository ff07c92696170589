-- A file as far as it was fetched, and as far as it is told.
use Rattle.std.specs.Prelude.{◌≡◌, ◌⊎◌, ℕ, ◌≤◌, List, [], length, take, ⊤, None, Some}
use Rattle.std.specs.declared.option.Option.{Option}
use Rattle.cm_top.specs.declared.stop.Stop.{Stop}
use Rattle.cm_top.specs.declared.stop.Stop.TheVariants.{ReadFault, TooLong, Memory}

-- the bytes are the front of the file, where it is told
abbrev pub HoldsFront : Option (Option (List ℕ)) → List ℕ → Type 0
HoldsFront None bytes = ⊤
HoldsFront (Some None) bytes = bytes ≡ []
HoldsFront (Some (Some file)) bytes = (bytes ≡ take (length bytes) file) × (length bytes ≤ length file)

-- the bytes are the file's, where it is told
abbrev pub HoldsBytes : Option (Option (List ℕ)) → List ℕ → Type 0
HoldsBytes None bytes = ⊤
HoldsBytes (Some None) bytes = ⊥
HoldsBytes (Some (Some file)) bytes = bytes ≡ file

-- the file's bytes are so, where it is told; a file that is told to be missing has none
abbrev pub OfFile : Option (Option (List ℕ)) → (List ℕ → Type 0) → Type 0
OfFile None P = ⊤
OfFile (Some None) P = ⊥
OfFile (Some (Some bytes)) P = P bytes

-- a piece could not be fetched, or not be kept
abbrev pub IsFetchStop : Stop → Type 0
IsFetchStop stop = (stop ≡ ReadFault) ⊎ (stop ≡ Memory)

-- a file could not be read, is too long, or could not be kept
abbrev pub IsReadStop : Stop → Type 0
IsReadStop stop = (stop ≡ ReadFault) ⊎ (stop ≡ TooLong) ⊎ (stop ≡ Memory)
