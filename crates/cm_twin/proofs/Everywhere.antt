-- A world with other names everywhere is a twin, and two elements of a sort may be exchanged.
use Rattle.std.proofs.Common.{◌≡◌, ℕ, zero, suc, ◌==◌, Bool, true, false, not, ◌&&◌, List, [], ◌∷◌, map, Option, Some}
use Rattle.std.proofs.Common.{None, slice_get, IsTrue, refl, sym, ap, ◌∙◌, subst, if◌then◌else◌, arith}
use Rattle.std.specs.Prelude.{option_map}
use Rattle.std.specs.List.{list_all}
use Rattle.std.proofs.Math.Path.{fun_ext}
use Rattle.std.proofs.lemmas.Bool.{eqb-true}
use Rattle.std.proofs.lemmas.Bool.Decides.{nat_tests}
use Rattle.cm_model.specs.Tables.{Tables}
use Rattle.cm_model.specs.WellTyped.{IsWellTyped}
use Rattle.cm_value.specs.Relabelling as relabelling
use Rattle.cm_world.specs.Order as orders
use Rattle.cm_model.specs.declared.ty.Ty.{Ty, out-Ty}
use Rattle.cm_model.specs.declared.ty.Ty.TheOpen.{Ty-F}
use Rattle.cm_model.specs.declared.ty.RecDecl.{RecDecl}
use Rattle.cm_model.specs.declared.pair.Pair.{Pair}
use Rattle.cm_model.specs.declared.body.Call.{Call}
use Rattle.cm_model.specs.declared.body.StateDecl.{StateDecl}
use Rattle.cm_value.specs.declared.value.Swap.{Swap}
use Rattle.cm_value.specs.declared.value.Value.{Value}
use Rattle.cm_value.specs.declared.value.Value.TheVariants as value
use Rattle.cm_value.specs.declared.value.Value.TheOpen.{Value-F}
use Rattle.cm_value.specs.declared.value.Value.TheFolds.{fold-Value}
use Rattle.cm_value.specs.Membership.{Member, field_types, member_of, are_members, is_value_of, are_values_of}
use Rattle.cm_value.specs.Membership.{is_some_of, is_record_of, has_fields}
use Rattle.cm_value.specs.Relabelling.{Relabel, relabelled, relabel_step, each_relabelled, types_of_fields}
use Rattle.cm_value.specs.Relabelling.{type_of_payload, swapped, is_of_sort}
use Rattle.cm_value.proofs.Members.{member-elem, member-rec, member-some}
use Rattle.cm_value.proofs.Induction.{Each, value_ind}
use Rattle.cm_eval.specs.declared.log.CellName.{CellName}
use Rattle.cm_eval.specs.declared.state.Except.{Except}
use Rattle.cm_eval.specs.State.{Store, look_up, exception_of, same_cell, same_key, or_default}
use Rattle.cm_world.specs.declared.world.World.{World}
use Rattle.cm_world.specs.World.{IsWorldOf, IsStateOf, is_cell, is_cell_in, fits_key, is_exception, is_value_in}
use Rattle.cm_world.specs.World.{is_there, are_apart, are_arguments, are_arguments_in}
use Rattle.cm_relation.specs.Relation.{IfBoth, AreAll}
use Rattle.cm_twin.specs.Names.{Naming, Names, name_in, name_form, named, named_step, AreTwins, value_type, key_type}
use Rattle.cm_twin.specs.Names.{cell_named, exchange, exchanged}
use Rattle.cm_twin.specs.Twins.{AreTwinArguments, AreTwinsAt, IsTwin, DoAlike, except_named, state_named}
use Rattle.cm_twin.specs.Twins.{arguments_named, IsRenamed, IsRelabelled, Undoes}
use Rattle.cm_twin.proofs.Renamed.{named-elem, named-int, named-tag, named-rec, named-none, named-some}
use Rattle.cm_twin.proofs.Alike.{same_under}
use Rattle.cm_twin.proofs.Twins.{twin_alike}

-- with whatever names, a value is of the same types
module _ (t : Tables) (f : Naming) where
  abbrev Alike : Value → Type 0
  Alike v = (o : Option Ty) (u : Ty) → is_value_of t u (named t f v o) ≡ is_value_of t u v

  all_alike : (vs : List Value) (tys us : List Ty) → Each Alike vs
      → are_members (map (member_of t) (each_relabelled (map (named t f) vs) tys)) us
      ≡ are_members (map (member_of t) vs) us
  all_alike [] tys us alike = refl
  all_alike (v ∷ vs) [] [] alike = refl
  all_alike (v ∷ vs) (w ∷ tys) [] alike = refl
  all_alike (v ∷ vs) [] (u ∷ us) alike =
      ap (λ b. b && are_members (map (member_of t) (each_relabelled (map (named t f) vs) [])) us) (alike.0 None u)
      ∙ ap (λ b. is_value_of t u v && b) (all_alike vs [] us alike.1)
  all_alike (v ∷ vs) (w ∷ tys) (u ∷ us) alike =
      ap (λ b. b && are_members (map (member_of t) (each_relabelled (map (named t f) vs) tys)) us) (alike.0 (Some w) u)
      ∙ ap (λ b. is_value_of t u v && b) (all_alike vs tys us alike.1)

  same_record : (ms ns : List Member) → ((us : List Ty) → are_members ms us ≡ are_members ns us) → (x : Ty-F Ty)
      → is_record_of t x ms ≡ is_record_of t x ns
  same_record ms ns same (Ty-F.Sort s) = refl
  same_record ms ns same (Ty-F.Int i) = refl
  same_record ms ns same (Ty-F.Enum e) = refl
  same_record ms ns same (Ty-F.Rec r) = fields (slice_get t.records r)
    where
      fields : (d : Option RecDecl) → has_fields d ms ≡ has_fields d ns
      fields (Some d) = same (field_types d)
      fields None = refl
  same_record ms ns same (Ty-F.Option payload) = refl

  same_some : (m n : Member) → ((u : Ty) → m u ≡ n u) → (x : Ty-F Ty) → is_some_of x m ≡ is_some_of x n
  same_some m n same (Ty-F.Sort s) = refl
  same_some m n same (Ty-F.Int i) = refl
  same_some m n same (Ty-F.Enum e) = refl
  same_some m n same (Ty-F.Rec r) = refl
  same_some m n same (Ty-F.Option payload) = same payload

  pub named_alike : (v : Value) → Alike v
  named_alike = value_ind Alike
      (λ n o u. ap (is_value_of t u) (named-elem t f o n) ∙ member-elem t u (name_in f o n) ∙ sym (member-elem t u n))
      (λ n o u. ap (is_value_of t u) (named-int t f o n))
      (λ n o u. ap (is_value_of t u) (named-tag t f o n))
      (λ vs alike o u. ap (is_value_of t u) (named-rec t f o vs)
      ∙ member-rec t u (each_relabelled (map (named t f) vs) (types_of_fields t o))
      ∙ same_record (map (member_of t) (each_relabelled (map (named t f) vs) (types_of_fields t o)))
      (map (member_of t) vs) (λ us. all_alike vs (types_of_fields t o) us alike) (out-Ty u)
      ∙ sym (member-rec t u vs))
      (λ o u. ap (is_value_of t u) (named-none t f o))
      (λ v alike o u. ap (is_value_of t u) (named-some t f o v) ∙ member-some t u (named t f v (type_of_payload o))
      ∙ same_some (member_of t (named t f v (type_of_payload o))) (member_of t v) (alike (type_of_payload o)) (out-Ty u)
      ∙ sym (member-some t u v))

  each_alike : (vs : List Value) → Each Alike vs
  each_alike [] = tt
  each_alike (v ∷ vs) = (named_alike v, each_alike vs)

  -- so are lists of values
  pub lists_alike : (vs : List Value) (tys us : List Ty)
      → are_values_of t us (each_relabelled (map (named t f) vs) tys) ≡ are_values_of t us vs
  lists_alike vs tys us = all_alike vs tys us (each_alike vs)

  keys_fit : (d o : Option Ty) (key : Option Value)
      → fits_key t d (option_map (λ v. named t f v o) key) ≡ fits_key t d key
  keys_fit None o None = refl
  keys_fit None o (Some v) = refl
  keys_fit (Some u) o None = refl
  keys_fit (Some u) o (Some v) = named_alike v o u

  pub cell_alike : (c : CellName) → is_cell t (cell_named t f c) ≡ is_cell t c
  cell_alike c = by (slice_get t.states c.state)
    where
      by : (o : Option StateDecl) → is_cell_in t o (cell_named t f c) ≡ is_cell_in t o c
      by (Some d) = keys_fit d.key (key_type t c.state) c.key
      by None = refl

  exception_alike : (e : Except) → is_exception t (except_named t f e) ≡ is_exception t e
  exception_alike e =
      ap (λ b. b && is_value_in t (slice_get t.states e.cell.state) (named t f e.value (value_type t e.cell.state)))
      (cell_alike e.cell)
      ∙ ap (λ b. is_cell t e.cell && b) (by (slice_get t.states e.cell.state))
    where
      by : (o : Option StateDecl)
          → is_value_in t o (named t f e.value (value_type t e.cell.state)) ≡ is_value_in t o e.value
      by (Some d) = named_alike e.value (value_type t e.cell.state) d.value
      by None = refl

  exceptions_alike : (es : List Except)
      → list_all (is_exception t) (map (except_named t f) es) ≡ list_all (is_exception t) es
  exceptions_alike [] = refl
  exceptions_alike (e ∷ es) =
      ap (λ b. b && list_all (is_exception t) (map (except_named t f) es)) (exception_alike e)
      ∙ ap (λ b. is_exception t e && b) (exceptions_alike es)

  pub arguments_alike : (o : Option Call) (vs : List Value)
      → are_arguments_in t o (arguments_named t f o vs) ≡ are_arguments_in t o vs
  arguments_alike (Some d) vs = lists_alike vs (map (λ p. p.ty) d.params) (map (λ p. p.ty) d.params)
  arguments_alike None vs = refl

module _ (t : Tables) (names : Names) (undoes : Undoes names) where
  name_back : (o : Option Ty) (n : ℕ) → name_in names.back o (name_in names.there o n) ≡ n
  name_back None n = refl
  name_back (Some u) n = by (out-Ty u)
    where
      by : (z : Ty-F Ty) → name_form names.back z (name_form names.there z n) ≡ n
      by (Ty-F.Sort s) = undoes s n
      by (Ty-F.Int i) = refl
      by (Ty-F.Enum e) = refl
      by (Ty-F.Rec r) = refl
      by (Ty-F.Option v) = refl

  abbrev Back : Value → Type 0
  Back v = (o : Option Ty) → named t names.back (named t names.there v o) o ≡ v

  all_back : (vs : List Value) (tys : List Ty) → Each Back vs
      → each_relabelled (map (named t names.back) (each_relabelled (map (named t names.there) vs) tys)) tys ≡ vs
  all_back [] tys back = refl
  all_back (v ∷ vs) [] back =
      ap (λ w. w ∷ each_relabelled (map (named t names.back) (each_relabelled (map (named t names.there) vs) [])) [])
      (back.0 None)
      ∙ ap (λ ws. v ∷ ws) (all_back vs [] back.1)
  all_back (v ∷ vs) (u ∷ tys) back =
      ap (λ w. w ∷ each_relabelled (map (named t names.back) (each_relabelled (map (named t names.there) vs) tys)) tys)
      (back.0 (Some u))
      ∙ ap (λ ws. v ∷ ws) (all_back vs tys back.1)

  abbrev again : Option Ty → Value → Value
  again o v = named t names.back v o

  named_back : (v : Value) → Back v
  named_back = value_ind Back
      (λ n o. ap (again o) (named-elem t names.there o n) ∙ named-elem t names.back o (name_in names.there o n)
      ∙ ap value.Elem (name_back o n))
      (λ n o. ap (again o) (named-int t names.there o n) ∙ named-int t names.back o n)
      (λ n o. ap (again o) (named-tag t names.there o n) ∙ named-tag t names.back o n)
      (λ vs back o. ap (again o) (named-rec t names.there o vs)
      ∙ named-rec t names.back o (each_relabelled (map (named t names.there) vs) (types_of_fields t o))
      ∙ ap value.Rec (all_back vs (types_of_fields t o) back))
      (λ o. ap (again o) (named-none t names.there o) ∙ named-none t names.back o)
      (λ v back o. ap (again o) (named-some t names.there o v)
      ∙ named-some t names.back o (named t names.there v (type_of_payload o))
      ∙ ap value.Some (back (type_of_payload o)))

  -- each value and that with the new names are twins
  pub twin_of : (o : Option Ty) (v : Value) → AreTwins t names o v (named t names.there v o)
  twin_of o v = (refl, named_back v o)

  keys_same : (o : Option Ty) (c d : Option Value)
      → same_key (option_map (λ v. named t names.there v o) c) (option_map (λ v. named t names.there v o) d)
      ≡ same_key c d
  keys_same o None None = refl
  keys_same o None (Some w) = refl
  keys_same o (Some v) None = refl
  keys_same o (Some v) (Some w) =
      same_under t names o v (named t names.there v o) w (named t names.there w o) (twin_of o v) (twin_of o w)

  pub cells_same : (c d : CellName)
      → same_cell (cell_named t names.there c) (cell_named t names.there d) ≡ same_cell c d
  cells_same c d = by (c.state == d.state) refl
    where
      by : (b : Bool) → (c.state == d.state) ≡ b
          → (b && same_key (cell_named t names.there c).key (cell_named t names.there d).key)
          ≡ (b && same_key c.key d.key)
      by true e =
          ap (λ s. same_key (cell_named t names.there c).key
          (option_map (λ v. named t names.there v (key_type t s)) d.key))
          (sym (eqb-true c.state d.state e))
          ∙ keys_same (key_type t c.state) c.key d.key
      by false e = refl

  abbrev value_named : ℕ → Option Value → Option Value
  value_named s = option_map (λ v. named t names.there v (value_type t s))

  same_means : (c d : CellName) → same_cell c d ≡ true → c.state ≡ d.state
  same_means c d e = by (c.state == d.state) refl e
    where
      by : (b : Bool) → (c.state == d.state) ≡ b → (b && same_key c.key d.key) ≡ true → c.state ≡ d.state
      by true h e = eqb-true c.state d.state h
      by false h e = absurd (cc)

  exception_named : (es : List Except) (c : CellName)
      → exception_of (map (except_named t names.there) es) (cell_named t names.there c)
      ≡ value_named c.state (exception_of es c)
  exception_named [] c = refl
  exception_named (e ∷ es) c =
      ap (λ b. if b then Some (named t names.there e.value (value_type t e.cell.state))
      else exception_of (map (except_named t names.there) es) (cell_named t names.there c)) (cells_same e.cell c)
      ∙ by (exception_named es c) (same_cell e.cell c) refl
    where
      by : exception_of (map (except_named t names.there) es) (cell_named t names.there c)
          ≡ value_named c.state (exception_of es c)
          → (b : Bool) → same_cell e.cell c ≡ b
          → (if b then Some (named t names.there e.value (value_type t e.cell.state))
          else exception_of (map (except_named t names.there) es) (cell_named t names.there c))
          ≡ value_named c.state (if b then Some e.value else exception_of es c)
      by rest true h = ap (λ s. Some (named t names.there e.value (value_type t s))) (same_means e.cell c h)
      by rest false h = rest

  default_named : (vs : List Value) (ds : List StateDecl) (s : ℕ)
      → slice_get (each_relabelled (map (named t names.there) vs) (map (λ (d : StateDecl). d.value) ds)) s
      ≡ option_map (λ v. named t names.there v (option_map (λ (d : StateDecl). d.value) (slice_get ds s)))
      (slice_get vs s)
  default_named [] ds s = refl
  default_named (v ∷ vs) [] zero = refl
  default_named (v ∷ vs) (d ∷ ds) zero = refl
  default_named (v ∷ vs) [] (suc s) = default_named vs [] s
  default_named (v ∷ vs) (d ∷ ds) (suc s) = default_named vs ds s

  pub look_up_named : (s : Store) (c : CellName)
      → look_up (state_named t names.there s) (cell_named t names.there c) ≡ value_named c.state (look_up s c)
  look_up_named s c =
      ap (λ o. or_default o (slice_get (state_named t names.there s).defaults c.state)) (exception_named s.exceptions c)
      ∙ ap (or_default (value_named c.state (exception_of s.exceptions c))) (default_named s.defaults t.states c.state)
      ∙ by (exception_of s.exceptions c)
    where
      by : (o : Option Value) → or_default (value_named c.state o) (value_named c.state (slice_get s.defaults c.state))
          ≡ value_named c.state (or_default o (slice_get s.defaults c.state))
      by (Some v) = refl
      by None = refl

  twins_at : (s : Store) (cs : List CellName) → AreTwinsAt t names s (state_named t names.there s) cs
  twins_at s [] = tt
  twins_at s (c ∷ cs) = (
    subst (IfBoth (AreTwins t names (value_type t c.state)) (look_up s c)) (sym (look_up_named s c))
        (by (look_up s c)),
    twins_at s cs,
  )
    where
      by : (o : Option Value) → IfBoth (AreTwins t names (value_type t c.state)) o (value_named c.state o)
      by (Some v) = twin_of (value_type t c.state) v
      by None = tt

  none_more : (es : List Except) (c : CellName)
      → is_there (exception_of (map (except_named t names.there) es) (cell_named t names.there c))
      ≡ is_there (exception_of es c)
  none_more es c = ap is_there (exception_named es c) ∙ by (exception_of es c)
    where
      by : (o : Option Value) → is_there (value_named c.state o) ≡ is_there o
      by (Some v) = refl
      by None = refl

  apart_named : (es : List Except) → are_apart (map (except_named t names.there) es) ≡ are_apart es
  apart_named [] = refl
  apart_named (e ∷ es) =
      ap (λ b. not b && are_apart (map (except_named t names.there) es)) (none_more es e.cell)
      ∙ ap (λ b. not (is_there (exception_of es e.cell)) && b) (apart_named es)

  state_is : (s : Store) → IsStateOf t s → IsStateOf t (state_named t names.there s)
  state_is s is = record {
    defaults = lists_alike t names.there s.defaults (map (λ d. d.value) t.states) (map (λ d. d.value) t.states)
        ∙ is.defaults;
    exceptions = exceptions_alike t names.there s.exceptions ∙ is.exceptions;
    apart = apart_named s.exceptions ∙ is.apart;
  }

  arguments_twin : (us : List Ty) (vs : List Value) → IsTrue (are_values_of t us vs)
      → AreAll (λ u v w. AreTwins t names (Some u) v w) us vs (each_relabelled (map (named t names.there) vs) us)
  arguments_twin [] [] are = tt
  arguments_twin [] (v ∷ vs) are = absurd (cc)
  arguments_twin (u ∷ us) [] are = absurd (cc)
  arguments_twin (u ∷ us) (v ∷ vs) are = (twin_of (Some u) v, arguments_twin us vs (rest (is_value_of t u v) are))
    where
      rest : (b : Bool) → (b && are_values_of t us vs) ≡ true → are_values_of t us vs ≡ true
      rest true e = e
      rest false e = absurd (cc)

  arguments_are : (i : ℕ) (vs : List Value) → IsTrue (are_arguments t i vs)
      → AreTwinArguments t names (slice_get t.calls i) vs (arguments_named t names.there (slice_get t.calls i) vs)
  arguments_are i vs is = by (slice_get t.calls i) is
    where
      by : (o : Option Call) → IsTrue (are_arguments_in t o vs)
          → AreTwinArguments t names o vs (arguments_named t names.there o vs)
      by (Some d) are = arguments_twin (map (λ p. p.ty) d.params) vs are
      by None are = absurd (cc)

  -- a world with other names everywhere is a world of the pair
  pub renamed_is : (p : Pair) (w u : World) → IsWorldOf t p w → IsRenamed t p names.there w u → IsWorldOf t p u
  renamed_is p w u is new = record {
    init = subst (IsStateOf t) (sym new.init) (state_is w.init is.init);
    a = ap (are_arguments t p.a) new.a ∙ arguments_alike t names.there (slice_get t.calls p.a) w.a.vals ∙ is.a;
    b = ap (are_arguments t p.b) new.b ∙ arguments_alike t names.there (slice_get t.calls p.b) w.b.vals ∙ is.b;
  }

  -- and a twin
  pub renamed_twin : (p : Pair) (w u : World) → IsWorldOf t p w → IsRenamed t p names.there w u → IsTwin t p names w u
  renamed_twin p w u is new = record {
    a = subst (AreTwinArguments t names (slice_get t.calls p.a) w.a.vals) (sym new.a) (arguments_are p.a w.a.vals is.a);
    b = subst (AreTwinArguments t names (slice_get t.calls p.b) w.b.vals) (sym new.b) (arguments_are p.b w.b.vals is.b);
    cells = subst (λ s. AreTwinsAt t names w.init s (orders.touched_cells t p w)) (sym new.init)
        (twins_at w.init (orders.touched_cells t p w));
  }

  pub renamed_alike : IsWellTyped t → (p : Pair) (w u : World) → IsWorldOf t p w → IsRenamed t p names.there w u
      → DoAlike t p names w u
  renamed_alike typed p w u is new =
      twin_alike t names typed p w u is (renamed_is p w u is new) (renamed_twin p w u is new)

swapped_twice : (x y n : ℕ) → swapped x y (swapped x y n) ≡ n
swapped_twice x y n = grind (arith, nat_tests)

pub exchange_undoes : (by : Swap) → Undoes (exchanged by)
exchange_undoes by s n = twice (s == by.sort)
  where
    twice : (b : Bool) → (if b then swapped by.x by.y (if b then swapped by.x by.y n else n)
        else (if b then swapped by.x by.y n else n)) ≡ n
    twice true = swapped_twice by.x by.y n
    twice false = refl

-- a world with two elements of a sort exchanged everywhere is a world, and does alike
pub relabelled_alike : (t : Tables) → IsWellTyped t → (p : Pair) (by : Swap) (w u : World) → IsWorldOf t p w
    → IsRelabelled t p by w u → IsWorldOf t p u × DoAlike t p (exchanged by) w u
relabelled_alike t typed p by w u is new = (
  renamed_is t (exchanged by) (exchange_undoes by) p w u is new,
  renamed_alike t (exchanged by) (exchange_undoes by) typed p w u is new,
)

-- the exchange is that of the function that relabels a value
pub relabelled_is : (t : Tables) (by : Swap) (u : Ty) (v : Value)
    → relabelled t by u v ≡ named t (exchange by) v (Some u)
relabelled_is t by u v =
    ap (λ step. fold-Value Relabel step v (Some u)) (fun_ext (λ y. fun_ext (λ o. step_same y o)))
  where
    name_same : (o : Option Ty) (n : ℕ)
        → (if is_of_sort by.sort o then swapped by.x by.y n else n) ≡ name_in (exchange by) o n
    name_same None n = refl
    name_same (Some u) n = form (out-Ty u)
      where
        form : (z : Ty-F Ty) → (if relabelling.is_sort_form by.sort z then swapped by.x by.y n else n)
            ≡ name_form (exchange by) z n
        form (Ty-F.Sort s) = refl
        form (Ty-F.Int i) = refl
        form (Ty-F.Enum e) = refl
        form (Ty-F.Rec r) = refl
        form (Ty-F.Option w) = refl

    step_same : (y : Value-F Relabel) (o : Option Ty) → relabel_step t by y o ≡ named_step t (exchange by) y o
    step_same (Value-F.Elem n) o = ap value.Elem (name_same o n)
    step_same (Value-F.Int n) o = refl
    step_same (Value-F.Tag n) o = refl
    step_same (Value-F.Rec ms) o = refl
    step_same Value-F.None o = refl
    step_same (Value-F.Some m) o = refl
