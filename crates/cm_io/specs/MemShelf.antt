-- A shelf in memory: what it holds, what a fetch answers, and its counts of faults.
use Rattle.std.specs.Prelude.{◌≡◌, ℕ, ◌+◌, ◌-◌, ◌^◌, ◌==◌, min, zero, suc, List, length, drop, Bool, true, None}
use Rattle.std.specs.Prelude.{is_some, if◌then◌else◌}
use Rattle.std.specs.declared.option.Option.{Option}
use Rattle.std.specs.List.{find, list_any}
use Rattle.std.specs.Option.{option_map}
use Rattle.std.specs.Str.{bytes_eq}
use Rattle.cm_io.specs.Causes.{one_more}
use Rattle.cm_io.specs.declared.mem_shelf.MemFile.{MemFile}

-- its files, the most bytes of a fetch, the numbers of the calls that fail, how many calls there were, and how many of
-- them asked for a name that it doesn't hold
pub record ShelfState : Type 0 where
  pub files : List MemFile
  pub most : ℕ
  pub fails : List ℕ
  pub calls : ℕ
  pub missing : ℕ

-- the bytes of the file of this name
abbrev pub bytes_of : List MemFile → List ℕ → Option (List ℕ)
bytes_of files name = option_map (λ file. file.bytes) (find (λ file. bytes_eq file.name name) files)

-- whether the call of this number, from 1, is one of those that fail
abbrev pub is_named : List ℕ → ℕ → Bool
is_named fails number = list_any (λ call. call == number) fails

-- how many of the first calls failed since they are named
abbrev pub named_among : List ℕ → ℕ → ℕ
named_among fails zero = 0
named_among fails (suc calls) = named_among fails calls + (if is_named fails (suc calls) then 1 else 0)

-- the count of a name: the calls that were made to fail, and for a name that it doesn't hold the fetches of such names;
-- it stands at its last value
abbrev pub faults_of : ShelfState → List ℕ → ℕ
faults_of s name =
    min (named_among s.fails s.calls + (if is_some (bytes_of s.files name) then 0 else s.missing)) (2 ^ 64 - 1)

-- how many bytes a fetch gives into a buffer with this room: all from the place on, or as many as it gives at once
-- or as have room; nothing where the call is made to fail or there is no such file
abbrev pub given_of : ShelfState → List ℕ → ℕ → ℕ → Option ℕ
given_of s name from room =
    if is_named s.fails (s.calls + 1) then None
    else option_map (λ file. min (min (length (drop from file)) s.most) room) (bytes_of s.files name)

-- the shelf after a fetch of this name
abbrev pub after_fetch : ShelfState → List ℕ → ShelfState
after_fetch s name =
    record s {
      calls = one_more s.calls;
      missing = if is_some (bytes_of s.files name) then s.missing
          else one_more s.missing;
    }

-- the count of each name that it holds is 0
abbrev pub IsQuiet : ShelfState → Type 0
IsQuiet s = (name : List ℕ) → is_some (bytes_of s.files name) ≡ true → faults_of s name ≡ 0
