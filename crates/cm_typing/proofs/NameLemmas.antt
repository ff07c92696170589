-- A name among names.
use Rattle.std.proofs.Common.{String, Global, string_bytes, ◌≡◌, ◌||◌, ℕ, Bool, cond, List, [], ◌∷◌, ◌++◌, false}
use Rattle.std.proofs.Common.{is_some, true, if◌then◌else◌, map, Option, Some, None, refl, sym, ap, ◌∙◌}
use Rattle.std.specs.List.{list_any}
use Rattle.std.specs.Str.{bytes_eq}
use Rattle.std.specs.Map.{lookup}
use Rattle.std.proofs.lemmas.Map.Made.{is_some-lookup}
use Rattle.indexmap.specs.IndexMap.{insert_entry}
use Rattle.cm_typing.specs.declared.names.Entry.{Entry}
use Rattle.cm_typing.specs.Names.{look, is_taken}

list_any-map : {X Y : Type 0} (p : Y → Bool) (f : X → Y) (xs : List X) → list_any p (map f xs) ≡ list_any (λ x.
    p (f x)) xs
list_any-map p f [] = refl
list_any-map p f (x ∷ xs) = ap (λ b. p (f x) || b) (list_any-map p f xs)

abbrev pub seen : String Global × Entry → List ℕ × Entry
seen e = (string_bytes e.0, e.1)

module _ (n : List ℕ) where
  pub found : (es : List (String Global × Entry)) → lookup (λ k. bytes_eq n (string_bytes k)) es ≡ look n (map seen es)
  unfolding look
  found [] = refl
  found (e ∷ es) = ap (cond (bytes_eq n (string_bytes e.0)) (Some e.1)) (found es)

  pub there : (es : List (String Global × Entry))
      → is_some (lookup (λ k. bytes_eq n (string_bytes k)) es) ≡ is_taken n (map seen es)
  unfolding is_taken
  there es =
      is_some-lookup (λ k. bytes_eq n (string_bytes k)) es
      ∙ list_any-map (λ k. bytes_eq n (string_bytes k)) (λ e. e.0) es
      ∙ sym (list_any-map (λ (e : List ℕ × Entry). bytes_eq n e.0) seen es)

or_false : (a b : Bool) → (a || b) ≡ false → (a ≡ false) × (b ≡ false)
or_false true b h = absurd cc
or_false false b h = (refl, h)

-- a table with a key that is new
pub grown : (n : List ℕ) (k : String Global) (v : Entry) → string_bytes k ≡ n → (es : List (String Global × Entry))
    → is_taken n (map seen es) ≡ false
    → map seen (insert_entry (λ a b. bytes_eq (string_bytes a) (string_bytes b)) es k v) ≡ map seen es ++ (n, v) ∷ []
unfolding is_taken
grown n k v text [] absent = ap (λ (t : List ℕ). let e : List ℕ × Entry = (t, v) in e ∷ []) text
grown n k v text (e ∷ es) absent =
    let h = or_false (bytes_eq n (string_bytes e.0)) (list_any (λ (e : List ℕ
    × Entry). bytes_eq n e.0) (map seen es)) absent in
    let other : bytes_eq (string_bytes k) (string_bytes e.0) ≡ false = ap (λ t.
    bytes_eq t (string_bytes e.0)) text ∙ h.0 in
    ap (λ b. map seen (if b then (e.0, v) ∷ es else e ∷ insert_entry (λ a b. bytes_eq (string_bytes a)
    (string_bytes b)) es k v)) other
    ∙ ap (λ l. seen e ∷ l) (grown n k v text es h.1)

pub none_taken : (n : List ℕ) → is_taken n [] ≡ false
unfolding is_taken
none_taken n = refl
