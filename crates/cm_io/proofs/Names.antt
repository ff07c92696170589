-- Files whose names are different.
use Rattle.std.proofs.Common.{◌≡◌, ◌≢◌, ℕ, ◌+◌, ◌<◌, List, length, get_or, take, sym, ap, ◌∙◌, arith, length-take}
use Rattle.std.proofs.lemmas.List.{take_more, get_or_default, get_or-take}
use Rattle.std.proofs.lemmas.List.Quantifiers.{all_pairs_push}
use Rattle.std.specs.List.{AllPairs, Any}
use Rattle.cm_io.specs.declared.mem_shelf.MemFile.{MemFile}

abbrev pub Apart : MemFile → MemFile → Type 0
Apart a b = a.name ≢ b.name

abbrev pub HasName : List ℕ → List MemFile → Type 0
HasName name files = Any (λ (file : MemFile). file.name ≡ name) files

-- one more file, whose name is new
pub apart-more : (files : List MemFile) (at : ℕ) (file : MemFile) (name : List ℕ) → at < length files
    → file ≡ get_or files at file → name ≡ file.name
    → AllPairs Apart (take at files) → (HasName name (take at files) → ⊥) → AllPairs Apart (take (at + 1) files)
apart-more files at file name within is named apart fresh =
    let pushed =
    all_pairs_push Apart (take at files) file apart
    (λ k d below same. fresh (
      k,
      get_or (take at files) k d,
      below,
      get_or_default (take at files) k _ d below,
      same ∙ sym named,
    )) in
    rw (take_more files at file within, ← is) pushed

-- a file whose name an earlier one has
pub apart-not : (files : List MemFile) (at : ℕ) (file : MemFile) (name : List ℕ) → at < length files
    → file ≡ get_or files at file → name ≡ file.name
    → HasName name (take at files) → AllPairs Apart files → ⊥
apart-not files at file name within is named (k, x, below, here, same) apart =
    let early : k < at = omega (arith, length-take at files) in
    let name_of = λ (f : MemFile). f.name in
    apart k at x early within
    (ap name_of (sym (get_or-take at files k x early) ∙ here) ∙ same ∙ named
    ∙ ap name_of (is ∙ get_or_default files at file x within))
