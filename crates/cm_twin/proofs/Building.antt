-- A world that is built with two elements exchanged: its lists one by one, and what is so of the whole.
use Rattle.std.proofs.Common.{◌≡◌, ℕ, zero, suc, ◌+◌, ◌<◌, Bool, true, false, ◌&&◌, List, [], ◌∷◌, ◌++◌, map, drop}
use Rattle.std.proofs.Common.{length, get_or, Option, Some, None, slice_get, IsTrue, refl, sym, ap, ◌∙◌, subst, arith}
use Rattle.std.proofs.Common.{append_assoc}
use Rattle.std.specs.Prelude.{option_map}
use Rattle.std.proofs.lemmas.List.{drop_more}
use Rattle.std.proofs.lemmas.Option.{slice_get_read}
use Rattle.cm_model.specs.Tables.{Tables}
use Rattle.cm_model.specs.WellTyped.{IsWellTyped}
use Rattle.cm_model.specs.declared.ty.Ty.{Ty}
use Rattle.cm_model.specs.declared.ty.Part.{Part}
use Rattle.cm_model.specs.declared.pair.Pair.{Pair}
use Rattle.cm_model.specs.declared.body.Call.{Call}
use Rattle.cm_model.specs.declared.body.StateDecl.{StateDecl}
use Rattle.cm_model.specs.Kinds.{given}
use Rattle.cm_value.specs.declared.value.Swap.{Swap}
use Rattle.cm_value.specs.declared.value.Value.{Value}
use Rattle.cm_value.specs.Membership.{is_value_of, are_values_of}
use Rattle.cm_value.specs.Relabelling.{each_relabelled}
use Rattle.cm_eval.specs.declared.log.CellName.{CellName}
use Rattle.cm_eval.specs.declared.state.Except.{Except}
use Rattle.cm_eval.specs.State.{Store, store}
use Rattle.cm_world.specs.declared.world.World.{World}
use Rattle.cm_world.specs.World.{IsWorldOf, are_arguments, are_arguments_in}
use Rattle.cm_twin.specs.Names.{Naming, Names, named, cell_named, key_type, value_type, exchange, exchanged}
use Rattle.cm_twin.specs.Twins.{except_named, state_named, arguments_named, world_named, world_relabelled}
use Rattle.cm_twin.specs.Twins.{LooksNamed, Undoes, IsRelabelled, DoAlike}
use Rattle.cm_twin.proofs.Everywhere.{twin_of, look_up_named, renamed_is, exchange_undoes, relabelled_alike}

both_parts : (a b : Bool) → (a && b) ≡ true → (a ≡ true) × (b ≡ true)
both_parts true b e = (refl, e)
both_parts false b e = absurd (cc)

abbrev pub cell_type : StateDecl → Ty
cell_type d = d.value

abbrev pub part_type : Part → Ty
part_type p = p.ty

-- values are made one after another, each by the type of what is declared in its place
module _ {A : Type 0} (t : Tables) (f : Naming) (type_of : A → Ty) where
  abbrev pub made : List A → List Value → List Value
  made ds vs = each_relabelled (map (named t f) vs) (map type_of ds)

  abbrev pub AreTyped : List A → List Value → Type 0
  AreTyped ds vs = IsTrue (are_values_of t (map type_of ds) vs)

  parts : (d : A) (ds : List A) (v : Value) (vs : List Value) → AreTyped (d ∷ ds) (v ∷ vs)
      → IsTrue (is_value_of t (type_of d) v) × AreTyped ds vs
  parts d ds v vs typed = both_parts (is_value_of t (type_of d) v) (are_values_of t (map type_of ds) vs) typed

  as_many : (ds : List A) (vs : List Value) → AreTyped ds vs → length vs ≡ length ds
  as_many [] [] typed = refl
  as_many [] (v ∷ vs) typed = absurd (cc)
  as_many (d ∷ ds) [] typed = absurd (cc)
  as_many (d ∷ ds) (v ∷ vs) typed = ap suc (as_many ds vs (parts d ds v vs typed).1)

  -- something is declared in the place of each value
  pub within : (ds : List A) (vs : List Value) (i : ℕ) → AreTyped ds vs → i < length vs → i < length ds
  within ds vs i typed = subst (λ n. i < n) (as_many ds vs typed)

  at : (ds : List A) (vs : List Value) (i : ℕ) (d : A) (v : Value) → AreTyped ds vs → i < length vs
      → IsTrue (is_value_of t (type_of (get_or ds i d)) (get_or vs i v))
  at ds [] i d v typed lt = absurd (omega arith)
  at [] (w ∷ vs) i d v typed lt = absurd (cc)
  at (e ∷ ds) (w ∷ vs) zero d v typed lt = (parts e ds w vs typed).0
  at (e ∷ ds) (w ∷ vs) (suc i) d v typed lt = at ds vs i d v (parts e ds w vs typed).1 (omega arith)

  -- the value in a place is of the type of that place
  pub is_typed : (ds : List A) (vs : List Value) (i : ℕ) (d : A) (v : Value) → AreTyped ds vs → i < length vs
      → v ≡ get_or vs i v → IsTrue (is_value_of t (type_of (get_or ds i d)) v)
  is_typed ds vs i d v typed lt is =
      subst (λ w. IsTrue (is_value_of t (type_of (get_or ds i d)) w)) (sym is) (at ds vs i d v typed lt)

  -- one more is made
  pub one_more : (ds : List A) (vs : List Value) (i : ℕ) (d : A) (v w : Value) (others new whole : List Value)
      → AreTyped ds vs → i < length vs → v ≡ get_or vs i v → w ≡ named t f v (Some (type_of (get_or ds i d)))
      → new ≡ others ++ w ∷ [] → others ++ made (drop i ds) (drop i vs) ≡ whole
      → new ++ made (drop (i + 1) ds) (drop (i + 1) vs) ≡ whole
  one_more ds vs i d v w others new whole typed lt is_v is_w pushed before =
      let rest : List Value = made (drop (i + 1) ds) (drop (i + 1) vs) in
      let one : made (drop i ds) (drop i vs) ≡ w ∷ rest =
      ap (λ es. made es (drop i vs)) (drop_more ds i d (within ds vs i typed lt))
      ∙ ap (made (get_or ds i d ∷ drop (i + 1) ds)) (drop_more vs i v lt)
      ∙ ap (λ u. named t f u (Some (type_of (get_or ds i d))) ∷ rest) (sym is_v)
      ∙ ap (λ u. u ∷ rest) (sym is_w) in
      ap (λ us. us ++ rest) pushed ∙ append_assoc others (w ∷ []) rest ∙ ap (λ us. others ++ us) (sym one) ∙ before

-- the old names give the world back
module _ (t : Tables) (names : Names) (undoes : Undoes names) where
  value_back : (o : Option Ty) (v : Value) → named t names.back (named t names.there v o) o ≡ v
  value_back o v = (twin_of t names undoes o v).1

  values_back : (vs : List Value) (tys : List Ty)
      → each_relabelled (map (named t names.back) (each_relabelled (map (named t names.there) vs) tys)) tys ≡ vs
  values_back [] tys = refl
  values_back (v ∷ vs) [] =
      ap (λ w. w ∷ each_relabelled (map (named t names.back) (each_relabelled (map (named t names.there) vs) [])) [])
      (value_back None v)
      ∙ ap (λ ws. v ∷ ws) (values_back vs [])
  values_back (v ∷ vs) (u ∷ tys) =
      ap (λ w. w ∷ each_relabelled (map (named t names.back) (each_relabelled (map (named t names.there) vs) tys)) tys)
      (value_back (Some u) v)
      ∙ ap (λ ws. v ∷ ws) (values_back vs tys)

  key_back : (o : Option Ty) (k : Option Value)
      → option_map (λ v. named t names.back v o) (option_map (λ v. named t names.there v o) k) ≡ k
  key_back o None = refl
  key_back o (Some v) = ap Some (value_back o v)

  cell_back : (c : CellName) → cell_named t names.back (cell_named t names.there c) ≡ c
  cell_back c = ap (λ k. record c { key = k }) (key_back (key_type t c.state) c.key)

  except_back : (e : Except) → except_named t names.back (except_named t names.there e) ≡ e
  except_back e =
      let o : Option Ty = value_type t e.cell.state in
      ap (λ c. record e { cell = c; value = named t names.back (named t names.there e.value o) o }) (cell_back e.cell)
      ∙ ap (λ v. record e { value = v }) (value_back o e.value)

  excepts_back : (es : List Except)
      → map (except_named t names.back) (map (except_named t names.there) es) ≡ es
  excepts_back [] = refl
  excepts_back (e ∷ es) =
      ap (λ d. d ∷ map (except_named t names.back) (map (except_named t names.there) es)) (except_back e)
      ∙ ap (λ ds. e ∷ ds) (excepts_back es)

  state_back : (s : Store) → state_named t names.back (state_named t names.there s) ≡ s
  state_back s =
      ap (λ ds. store ds (map (except_named t names.back) (map (except_named t names.there) s.exceptions)))
      (values_back s.defaults (map (λ d. d.value) t.states))
      ∙ ap (store s.defaults) (excepts_back s.exceptions)

  arguments_back : (o : Option Call) (vs : List Value)
      → arguments_named t names.back o (arguments_named t names.there o vs) ≡ vs
  arguments_back (Some d) vs = values_back vs (map (λ p. p.ty) d.params)
  arguments_back None vs = refl

  world_back : (p : Pair) (w : World) → world_named t p names.back (world_named t p names.there w) ≡ w
  world_back p w =
      let u : World = world_named t p names.back (world_named t p names.there w) in
      ap (λ s. record u { init = s }) (state_back w.init)
      ∙ ap (λ vs. record u { init = w.init; a = record { vals = vs } })
      (arguments_back (slice_get t.calls p.a) w.a.vals)
      ∙ ap (λ vs. record w { b = record { vals = vs } }) (arguments_back (slice_get t.calls p.b) w.b.vals)

-- a world that was built by its parts
module _ (t : Tables) (p : Pair) (by : Swap) (w u : World) (new : IsRelabelled t p by w u) where
  pub built_is : u ≡ world_relabelled t p by w
  built_is =
      ap (λ s. record u { init = s }) new.init
      ∙ ap (λ vs. record u { init = state_named t (exchange by) w.init; a = record { vals = vs } }) new.a
      ∙ ap (λ vs. record (world_relabelled t p by w) { b = record { vals = vs } }) new.b

  pub built_world : IsWorldOf t p w → IsWorldOf t p u
  built_world is = renamed_is t (exchanged by) (exchange_undoes by) p w u is new

  pub built_looks : LooksNamed t (exchange by) w.init u.init
  built_looks = subst (LooksNamed t (exchange by) w.init) (sym new.init)
      (look_up_named t (exchanged by) (exchange_undoes by) w.init)

  pub built_back : world_relabelled t p by u ≡ w
  built_back = ap (world_relabelled t p by) built_is ∙ world_back t (exchanged by) (exchange_undoes by) p w

-- an exception that was built by the declaration of its state
pub except_built : (t : Tables) (f : Naming) (e : Except) (d : StateDecl) (k : Option Value) (v : Value)
    → slice_get t.states e.cell.state ≡ Some d → k ≡ option_map (λ w. named t f w d.key) e.cell.key
    → v ≡ named t f e.value (Some d.value)
    → record { cell = record { state = e.cell.state; key = k }; value = v } ≡ except_named t f e
except_built t f e d k v at is_k is_v =
    let key : d.key ≡ key_type t e.cell.state = ap (λ o. given o (λ (d : StateDecl). d.key)) (sym at) in
    let ty : Some d.value ≡ value_type t e.cell.state = ap (option_map (λ (d : StateDecl). d.value)) (sym at) in
    ap (λ l. record { cell = record { state = e.cell.state; key = l }; value = v })
    (is_k ∙ ap (λ o. option_map (λ w. named t f w o) e.cell.key) key)
    ∙ ap (λ w. record { cell = cell_named t f e.cell; value = w }) (is_v ∙ ap (named t f e.value) ty)

-- arguments of a call that is declared
pub arguments_typed : (t : Tables) (i : ℕ) (d : Call) (vs : List Value) → slice_get t.calls i ≡ Some d
    → IsTrue (are_arguments t i vs) → IsTrue (are_values_of t (map (λ p. p.ty) d.params) vs)
arguments_typed t i d vs at = subst (λ o. IsTrue (are_arguments_in t o vs)) at

-- the world with two elements exchanged does alike
pub relabelled_does : (t : Tables) → IsWellTyped t → (p : Pair) (by : Swap) (w u : World) → IsWorldOf t p w
    → u ≡ world_relabelled t p by w → DoAlike t p (exchanged by) w u
relabelled_does t typed p by w u is new =
    subst (DoAlike t p (exchanged by) w) (sym new)
    (relabelled_alike t typed p by w (world_relabelled t p by w) is (record { init = refl; a = refl; b = refl })).1

-- what was found in its place
pub found : {A : Type 0} (xs ys zs : List A) (i j : ℕ) (x : A) → zs ≡ ys → ys ≡ xs → j ≡ i → j < length zs
    → x ≡ get_or zs j x → slice_get xs i ≡ Some x
found xs ys zs i j x is_z is_y is_j lt is =
    ap (slice_get xs) (sym is_j) ∙ ap (λ l. slice_get l j) (sym (is_z ∙ is_y))
    ∙ slice_get_read zs (length zs) j x refl lt is
