-- What well typed tables say of each state.
use Rattle.std.proofs.Common.{◌≡◌, ℕ, zero, suc, ◌<◌, Bool, true, ◌&&◌, leb, List, [], ◌∷◌, length, get_or, arith}
use Rattle.std.specs.List.{list_all}
use Rattle.std.proofs.lemmas.Bool.{and_parts}
use Rattle.cm_model.specs.Tables.{Tables}
use Rattle.cm_model.specs.Types.{IsType, is_type_before, is_type_in_use, width_of, integers_of}
use Rattle.cm_model.specs.WellTyped.{IsWellTyped, is_state, is_key_type, is_invariant}
use Rattle.cm_model.specs.declared.body.StateDecl.{StateDecl}

pub all_get : {X : Type 0} (p : X → Bool) (xs : List X) (i : ℕ) (d : X) → list_all p xs ≡ true → i < length xs
    → p (get_or xs i d) ≡ true
all_get p [] i d h lt = absurd (omega arith)
all_get p (x ∷ xs) zero d h lt = (and_parts (p x) (list_all p xs) h).0
all_get p (x ∷ xs) (suc i) d h lt = all_get p xs i d (and_parts (p x) (list_all p xs) h).1 (omega arith)

pub cell_type : (t : Tables) → IsWellTyped t → (i : ℕ) (d : StateDecl) → i < length t.states
    → IsType t (get_or t.states i d).value
cell_type t typed i d lt =
    let s : StateDecl = get_or t.states i d in
    let whole = and_parts (is_key_type t s.key) _ (all_get (is_state t) t.states i d typed.cells lt) in
    let value = and_parts (is_type_in_use t s.value) (is_invariant t s.value s.inv) whole.1 in
    (and_parts (is_type_before t (length t.records) s.value) (leb (width_of t s.value) 32
    && leb (integers_of t s.value) 6) value.0).0
