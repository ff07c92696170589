-- A file, fetched from its beginning on.
use Rattle.std.proofs.Common.{arith, ◌≡◌, ℕ, ◌<◌, ◌≤◌, List, [], ◌∷◌, ◌++◌, length, take, drop, None, Some, Ok, Option}
use Rattle.std.proofs.Common.{ap, sym, subst, ◌∙◌, length-append, append_assoc}
use Rattle.std.proofs.lemmas.List.{append-nil, length-take, length-drop, take_at, take-append-drop}
use Rattle.cm_io.specs.Shelf.{GivesFrom, Fetches}
use Rattle.cm_io.specs.declared.Failed.{Failed}
use Rattle.cm_top.specs.Fetch.{HoldsBytes, HoldsFront, OfFile}

-- a file's front, with what stands behind it
longer : (file bytes buf : List ℕ) (n : ℕ) → bytes ≡ take (length bytes) file → length bytes ≤ length file
    → GivesFrom file (length bytes) n buf
    → (bytes ++ take n buf ≡ take (length (bytes ++ take n buf)) file) × (length (bytes ++ take n buf) ≤ length file)
longer file bytes buf n is within gives =
    let rest = drop (length bytes) file in
    let size : length (take n buf) ≡ n = omega (arith, ap length gives.bytes, length-take n rest, gives.within) in
    let whole : file ≡ (bytes ++ take n buf) ++ drop n rest =
    sym (take-append-drop (length bytes) file)
    ∙ ap (λ l. l ++ rest) (sym is)
    ∙ ap (λ l. bytes ++ l) (sym (take-append-drop n rest) ∙ ap (λ l. l ++ drop n rest) (sym gives.bytes))
    ∙ sym (append_assoc bytes (take n buf) (drop n rest)) in
    let total = length-append bytes (take n buf) in (
      sym (subst (λ f. take (length (bytes ++ take n buf)) f ≡ bytes ++ take n buf) (sym whole)
          (take_at (bytes ++ take n buf) (drop n rest) (length (bytes ++ take n buf)) (omega arith))),
      omega (arith, total, size, gives.within, length-drop (length bytes) file, within),
    )

pub front_more : (told : Option (Option (List ℕ))) (bytes buf : List ℕ) (n from : ℕ) → length bytes ≡ from
    → Fetches {E = Failed} told from (Ok n) buf → HoldsFront told bytes → HoldsFront told (bytes ++ take n buf)
front_more None bytes buf n from size fetched front = tt
front_more (Some None) bytes buf n from size fetched front = let no : ⊥ = cc in absurd no
front_more (Some (Some file)) bytes buf n from size fetched front =
    longer file bytes buf n front.0 front.1 (subst (λ k. GivesFrom file k n buf) (sym size) fetched)

pub of_file : (told : Option (Option (List ℕ))) (P : List ℕ → Type 0) (bytes : List ℕ) → HoldsBytes told bytes
    → P bytes → OfFile told P
of_file None P bytes holds p = tt
of_file (Some None) P bytes holds p = absurd holds
of_file (Some (Some file)) P bytes holds p = subst P holds p

-- a file with a longer front than this is longer
pub longer_file : (told : Option (Option (List ℕ))) (bytes : List ℕ) (limit : ℕ) → HoldsFront told bytes
    → limit < length bytes → OfFile told (λ file. limit < length file)
longer_file None bytes limit front long = tt
longer_file (Some None) bytes limit front long = omega (arith, ap length front, long)
longer_file (Some (Some file)) bytes limit front long = omega (arith, front.1, long)

pub no_bytes : (bytes more : List ℕ) → length more ≡ 0 → bytes ++ more ≡ bytes
no_bytes bytes [] none = append-nil bytes
no_bytes bytes (x ∷ more) none = absurd (omega arith)

-- a buffer that was written keeps its length
pub same_length : (items new : List ℕ) (len : ℕ) → len ≡ length items → length new ≡ length items
    → length (take len (new ++ drop (length new) items)) ≡ length items
same_length items new len size same =
    omega (
      arith,
      length-take len (new ++ drop (length new) items),
      length-append new
          (drop (length new) items),
      length-drop (length new) items,
      size,
      same,
    )
