-- A tree in which no rule fails has well typed tables.
use Rattle.std.proofs.Common.{◌≡◌, ℕ, zero, suc, ◌+◌, ◌≤◌, ◌⊎◌, inl, inr, ltb, leb, Bool, true, IsTrue, List, [], ◌∷◌}
use Rattle.std.proofs.Common.{◌++◌, length, slice_get, codes, Some, None, refl, sym, ap, ◌∙◌, subst, arith}
use Rattle.std.proofs.Common.{append_assoc}
use Rattle.std.specs.List.{list_all}
use Rattle.std.proofs.lemmas.Bool.{and_parts, and_from, le-leb, lt-ltb}
use Rattle.std.proofs.lemmas.List.{length-append, append-nil}
use Rattle.cm_model.specs.Tables.{Tables}
use Rattle.cm_model.specs.Limits.{declaration_limit, function_limit, call_limit, variant_limit}
use Rattle.cm_model.specs.Types.{is_type_in_use}
use Rattle.cm_model.specs.Names.{is_name, part_names}
use Rattle.cm_model.specs.Weights.{body_weight, fun_weights}
use Rattle.cm_model.specs.WellTyped as well
use Rattle.cm_model.specs.WellTyped.{IsWellTyped}
use Rattle.cm_model.specs.declared.place.Place.{Place}
use Rattle.cm_model.specs.declared.ty.IntDecl.{IntDecl}
use Rattle.cm_model.specs.declared.ty.EnumDecl.{EnumDecl}
use Rattle.cm_model.specs.declared.ty.RecDecl.{RecDecl}
use Rattle.cm_model.specs.declared.ty.Part.{Part as ModelPart}
use Rattle.cm_model.specs.declared.body.StateDecl.{StateDecl}
use Rattle.cm_syntax.specs.declared.tree.Num.{Num}
use Rattle.cm_syntax.specs.declared.tree.Part.{Part}
use Rattle.cm_syntax.specs.declared.tree.«Type».{«Type» as TypeTree}
use Rattle.cm_syntax.specs.declared.tree.Expr.{Expr}
use Rattle.cm_syntax.specs.declared.tree.Block.{Block}
use Rattle.cm_syntax.specs.declared.tree.Decl.{Decl}
use Rattle.cm_syntax.specs.declared.tree.Decl.TheVariants as decl
use Rattle.cm_syntax.specs.declared.tree.Tree.{Tree}
use Rattle.cm_typing.specs.declared.names.Entry.{Entry}
use Rattle.cm_typing.specs.declared.names.Entry.TheVariants as entry
use Rattle.cm_typing.specs.declared.scope.Scope.{Scope}
use Rattle.cm_typing.specs.declared.scope.Draft.{Draft}
use Rattle.cm_typing.specs.Told.{rule}
use Rattle.cm_typing.specs.Rules as rules
use Rattle.cm_typing.specs.Flats.{is_small, widths_of, integers_of, record_flat, record_of, ty_of}
use Rattle.cm_typing.specs.Types.{type_told}
use Rattle.cm_typing.specs.Expressions.{number_in}
use Rattle.cm_typing.specs.Declarations.{next_named, is_range, declare, fields_told, no_params, key_of, map_types_told}
use Rattle.cm_typing.specs.Declarations.{map_entry, invariant_told, inside, routine_told, decl_told, decls_told}
use Rattle.cm_typing.specs.Declarations.{no_names, no_tables, tables_in, tables_of, faults_of}
use Rattle.cm_types.proofs.Items.{Each, each_as, each_more, GoesOn, added, below, no_more, holds, all_more, length_map}
use Rattle.cm_types.proofs.Measured.{IsFlat}
use Rattle.cm_types.proofs.Recorded.{flat_parts, record_fits}
use Rattle.cm_types.proofs.Standing.{FitsEntry, IsField, ScopeFits, fits_wider, fields_wider}
use Rattle.cm_types.proofs.TypedParts.{BoolFirst}
use Rattle.cm_types.proofs.TypedRecords.{fields_fit, no_fields, entries_fit, FieldAt, record_is}
use Rattle.cm_types.proofs.TypedRoutines.{names_in}
use Rattle.cm_types.proofs.TypedDecls.{each_from_more, one_within, few_of, variants_fit, variants_leave, declared}
use Rattle.cm_types.proofs.TypedDecls.{invariant_fits, cell_fits, map_fits, weights_more, fits_routine, call_is}
use Rattle.cm_types.proofs.Growing.{Within, decls_within, as_many}
use Rattle.cm_types.proofs.FromText.{FromText}
use Rattle.cm_types.proofs.DistinctNames.{decls_once}

-- what the tables so far have that well typed ones have, where the whole tables are these
record IsGood (t : Tables) (d : Draft) : Type 0 where
  few_sorts : length d.sorts ≤ declaration_limit
  few_ints : length d.ints ≤ declaration_limit
  few_enums : length d.enums ≤ declaration_limit + 1
  few_records : length d.records ≤ declaration_limit
  few_states : length d.states ≤ declaration_limit
  few_funs : length d.funs ≤ function_limit
  few_calls : length d.calls ≤ call_limit
  ranges : list_all well.is_range d.ints ≡ true
  variants : list_all well.is_enum d.enums ≡ true
  fields : well.each_from (well.is_record t) 0 d.records ≡ true
  cells : list_all (well.is_state t) d.states ≡ true
  functions : well.each_from (well.is_fun t) 0 d.funs ≡ true
  bodies : list_all (well.is_call t (length t.funs)) d.calls ≡ true

-- the names and the tables so far
record StandsFor (t : Tables) (s : Scope) (d : Draft) : Type 0 where
  scope : ScopeFits t (length d.records) (length d.funs) s
  counted : length s.records ≡ length d.records
  weights : s.weights ≡ fun_weights d.funs
  good : IsGood t d

is_so : (b : Bool) → b ≡ true → IsTrue b
is_so b e = e

behind_name : (n : List ℕ) (ns : List (List ℕ)) → list_all is_name (n ∷ ns) ≡ true → list_all is_name ns ≡ true
behind_name n ns h = (and_parts (is_name n) (list_all is_name ns) h).1

-- what stands in a list with one more
at_last : {X : Type 0} (xs : List X) (x : X) (i : ℕ) (y : X) → slice_get (xs ++ x ∷ []) i ≡ Some y
    → (slice_get xs i ≡ Some y) ⊎ ((i ≡ length xs) × (x ≡ y))
at_last [] x zero y h = inr (refl, cc)
at_last [] x (suc i) y h = absurd cc
at_last (z ∷ xs) x zero y h = inl h
at_last (z ∷ xs) x (suc i) y h = elim (at_last xs x i y h) [ inl p ↦ inl p | inr p ↦ inr (ap suc p.0, p.1) ]

module _ (t : Tables) (has_bool : BoolFirst t) where
  abbrev Step : Decl → Scope → Draft → Type 0
  Step x s d = FromText x → StandsFor t s d → Within (decl_told x s d).0.1 t → (decl_told x s d).1 ≡ []
      → StandsFor t (decl_told x s d).0.0 (decl_told x s d).0.1

  sort_fits : (at : Place) (n : List ℕ) (s : Scope) (d : Draft) → Step (decl.Sort at n) s d
  sort_fits at n s d k v w h =
      let few = as_many d.records t.records w.records in
      let p = no_more (next_named at n (length d.sorts) declaration_limit s).1 [] h in
      let lt = few_of at n (length d.sorts) declaration_limit s p.0 in
      let g = v.good in
      record {
        scope = declared t (length d.records) (length d.funs) has_bool few s n (entry.Sort (length d.sorts)) v.scope
            (below d.sorts n t.sorts w.sorts);
        counted = v.counted;
        weights = v.weights;
        good = record {
          few_sorts = one_within d.sorts n declaration_limit lt;
          few_ints = g.few_ints;
          few_enums = g.few_enums;
          few_records = g.few_records;
          few_states = g.few_states;
          few_funs = g.few_funs;
          few_calls = g.few_calls;
          ranges = g.ranges;
          variants = g.variants;
          fields = g.fields;
          cells = g.cells;
          functions = g.functions;
          bodies = g.bodies;
        };
      }

  int_fits : (at : Place) (n : List ℕ) (low high : Num) (s : Scope) (d : Draft) → Step (decl.Int at n low high) s d
  int_fits at n low high s d k v w h =
      let few = as_many d.records t.records w.records in
      let y : IntDecl = record { name = n; lo = number_in low; hi = number_in high } in
      let p = no_more (next_named at n (length d.ints) declaration_limit s).1 _ h in
      let q = no_more (rule (is_range low high) rules.numbers at).1 [] p.1 in
      let lt = few_of at n (length d.ints) declaration_limit s p.0 in
      let g = v.good in
      record {
        scope = declared t (length d.records) (length d.funs) has_bool few s n (entry.Int (length d.ints)) v.scope
            (below d.ints y t.ints w.ints);
        counted = v.counted;
        weights = v.weights;
        good = record {
          few_sorts = g.few_sorts;
          few_ints = one_within d.ints y declaration_limit lt;
          few_enums = g.few_enums;
          few_records = g.few_records;
          few_states = g.few_states;
          few_funs = g.few_funs;
          few_calls = g.few_calls;
          ranges = all_more well.is_range d.ints y g.ranges (holds (is_range low high) rules.numbers at q.0);
          variants = g.variants;
          fields = g.fields;
          cells = g.cells;
          functions = g.functions;
          bodies = g.bodies;
        };
      }

  enum_fits : (at : Place) (n m : List ℕ) (ms : List (List ℕ)) (s : Scope) (d : Draft) → Step (decl.Enum at n m ms) s d
  enum_fits at n m ms s d k v w h =
      let few = as_many d.records t.records w.records in
      let e = length d.enums in
      let y : EnumDecl = record { name = n; variants = m ∷ ms } in
      let p = no_more (next_named at n e (declaration_limit + 1) s).1 _ h in
      let q = no_more (rule (leb (length (m ∷ ms)) variant_limit) rules.variants at).1 _ p.1 in
      let lt = few_of at n e (declaration_limit + 1) s p.0 in
      let one = declared t (length d.records) (length d.funs) has_bool few s n (entry.Enum e) v.scope
      (below d.enums y t.enums w.enums) in
      let all = variants_fit t (length d.records) (length d.funs) at e y (added d.enums y t.enums w.enums) (m ∷ ms) 0
      (declare s n (entry.Enum e)) (omega arith) one in
      let leaves = variants_leave at e (m ∷ ms) 0 (declare s n (entry.Enum e)) in
      let g = v.good in
      record {
        scope = all;
        counted = ap length leaves.0 ∙ v.counted;
        weights = leaves.1 ∙ v.weights;
        good = record {
          few_sorts = g.few_sorts;
          few_ints = g.few_ints;
          few_enums = one_within d.enums y (declaration_limit + 1) lt;
          few_records = g.few_records;
          few_states = g.few_states;
          few_funs = g.few_funs;
          few_calls = g.few_calls;
          ranges = g.ranges;
          variants =
              all_more well.is_enum d.enums y g.variants
              (and_from (leb 1 (length (m ∷ ms))) (leb (length (m ∷ ms)) variant_limit) (le-leb 1 (length (m ∷ ms))
              (omega arith))
              (holds (leb (length (m ∷ ms)) variant_limit) rules.variants at q.0));
          fields = g.fields;
          cells = g.cells;
          functions = g.functions;
          bodies = g.bodies;
        };
      }

  record_fits_in : (at : Place) (n : List ℕ) (p : Part) (ps : List Part) (s : Scope) (d : Draft)
      → Step (decl.Record at n p ps) s d
  record_fits_in at n p ps s d k v w h =
      let m = length d.records in
      let b = length d.funs in
      let told = fields_told at no_params (p ∷ ps) s [] in
      let done = told.0.0 in
      let y : RecDecl = record { name = n; fields = done.parts } in
      let most : suc m ≤ length t.records = longer d.records y (as_many (d.records ++ y ∷ []) t.records w.records) in
      let few : m ≤ length t.records = omega (arith, most) in
      let q = no_more (next_named at n m declaration_limit s).1 _ h in
      let r = no_more told.1 _ q.1 in
      let o = no_more (record_of at m done.types).1 [] r.1 in
      let z = no_more (rule (is_small (widths_of done.types + 1) (integers_of done.types)) rules.wide at).1 [] o.0 in
      let small = holds (is_small (widths_of done.types + 1) (integers_of done.types)) rules.wide at z.0 in
      let x = fields_fit t m b has_bool few s v.scope at (p ∷ ps) no_params []
      (no_fields t m b has_bool few s v.scope) r.0 in
      let lt = few_of at n m declaration_limit s q.0 in
      let f = record_flat m done.types in
      let fits : IsFlat t (length (d.records ++ y ∷ [])) f =
      subst (λ i. IsFlat t i f) (sym (one_longer d.records y))
      (record_fits t d.records y w.records done.types x.0.flats small) in
      let there = added d.records y t.records w.records in
      let le : m ≤ length (d.records ++ y ∷ []) = omega (arith, one_longer d.records y) in
      let names : list_all is_name (part_names done.parts) ≡ true =
      ap (list_all is_name) x.1 ∙ behind_name n (names_in (p ∷ ps)) k.names in
      let some : leb 1 (length done.parts) ≡ true = le-leb 1 (length done.parts) (enough done.parts p ps x.1) in
      let g = v.good in
      record {
        scope = record {
          names =
              each_more (λ (e : List ℕ × Entry). FitsEntry t (length (d.records ++ y ∷ [])) b [] e.1) s.names
              (n, entry.Record m (Some f) done.types)
              (fits_wider t m b (length (d.records ++ y ∷ [])) b le (omega arith) [] s.names v.scope.names)
              (f, y, refl, fits, refl, there, flat_parts t m done.types done.parts x.0.flats);
          records = λ i fields e. elim (at_last s.records told.0.1 i fields e) [
            | inl a ↦ fields_wider t m b (length (d.records ++ y ∷ [])) b le (omega arith) s.records v.scope.records i
                fields a
            | inr a ↦ subst (λ i. Each (λ (e : List ℕ × Entry). IsField t (length (d.records ++ y ∷ [])) b i e.1)
                fields) (sym (a.0 ∙ v.counted))
                (subst (λ ns. Each (λ (e : List ℕ × Entry). IsField t (length (d.records ++ y ∷ [])) b m e.1) ns) a.1
                (each_as (λ (e : List ℕ × Entry). FieldAt t m b has_bool few s v.scope done.parts e.1)
                (λ e. IsField t (length (d.records ++ y ∷ [])) b m e.1)
                (λ z h. entries_fit t m (length (d.records ++ y ∷ [])) b has_bool few s v.scope le m y there z.1 h)
                told.0.1 x.0.entries))
          ];
        };
        counted = omega (arith, v.counted, one_longer s.records told.0.1, one_longer d.records y);
        weights = v.weights;
        good = record {
          few_sorts = g.few_sorts;
          few_ints = g.few_ints;
          few_enums = g.few_enums;
          few_records = one_within d.records y declaration_limit lt;
          few_states = g.few_states;
          few_funs = g.few_funs;
          few_calls = g.few_calls;
          ranges = g.ranges;
          variants = g.variants;
          fields =
              each_from_more (well.is_record t) 0 d.records y g.fields
              (ap (λ i. well.is_record t i y) (nought m) ∙ record_is t d.records y w.records few most done.types
              x.0.flats small some x.0.distinct names);
          cells = g.cells;
          functions = g.functions;
          bodies = g.bodies;
        };
      }
    where
      one_longer : {X : Type 0} (xs : List X) (x : X) → length (xs ++ x ∷ []) ≡ suc (length xs)
      one_longer xs x = omega (arith, length-append xs (x ∷ []))

      longer : {X : Type 0} (xs : List X) (x : X) {n : ℕ} → length (xs ++ x ∷ []) ≤ n → suc (length xs) ≤ n
      longer xs x le = omega (arith, le, length-append xs (x ∷ []))

      nought : (n : ℕ) → 0 + n ≡ n
      nought n = omega arith

      enough : (parts : List ModelPart) (p : Part) (ps : List Part) → part_names parts ≡ names_in (p ∷ ps)
          → 1 ≤ length parts
      enough [] p ps e = absurd cc
      enough (q ∷ parts) p ps e = omega arith

  -- a state more
  state_fits : (at : Place) (n : List ℕ) (y : StateDecl) (e : Entry) (s : Scope) (d : Draft) → StandsFor t s d
      → length d.records ≤ length t.records
      → FitsEntry t (length d.records) (length d.funs) [] e → ltb (length d.states) declaration_limit ≡ true
      → well.is_state t y ≡ true
      → StandsFor t (declare s n e) (record d { states = d.states ++ y ∷ [] })
  state_fits at n y e s d v few fits lt so =
      let g = v.good in
      record {
        scope = declared t (length d.records) (length d.funs) has_bool few s n e v.scope fits;
        counted = v.counted;
        weights = v.weights;
        good = record {
          few_sorts = g.few_sorts;
          few_ints = g.few_ints;
          few_enums = g.few_enums;
          few_records = g.few_records;
          few_states = one_within d.states y declaration_limit lt;
          few_funs = g.few_funs;
          few_calls = g.few_calls;
          ranges = g.ranges;
          variants = g.variants;
          fields = g.fields;
          cells = all_more (well.is_state t) d.states y g.cells so;
          functions = g.functions;
          bodies = g.bodies;
        };
      }

  cell_in : (at : Place) (n : List ℕ) (o : TypeTree) (s : Scope) (d : Draft) → Step (decl.Cell at n o) s d
  cell_in at n o s d k v w h =
      let few = as_many d.records t.records w.records in
      let p = no_more (next_named at n (length d.states) declaration_limit s).1 _ h in
      let q = no_more (type_told o s.names).1 [] p.1 in
      let x = cell_fits t (length d.records) (length d.funs) has_bool few o s v.scope q.0 in
      let y : StateDecl = record { name = n; key = None; value = ty_of (type_told o s.names).0; inv = None } in
      state_fits at n y (entry.Cell (length d.states) (type_told o s.names).0) s d v few
      (x.flat, y, x.is, x.fits, added d.states y t.states w.states, refl, ap ty_of x.is)
      (few_of at n (length d.states) declaration_limit s p.0)
      (and_from (is_type_in_use t y.value) true x.used refl)

  cell_where_in : (at : Place) (n : List ℕ) (o : TypeTree) (e : Expr) (s : Scope) (d : Draft)
      → Step (decl.CellWhere at n o e) s d
  cell_where_in at n o e s d k v w h =
      let m = length d.records in
      let b = length d.funs in
      let few = as_many d.records t.records w.records in
      let u = (type_told o s.names).0 in
      let i = entry.Cell (length d.states) u in
      let p = no_more (next_named at n (length d.states) declaration_limit s).1 _ h in
      let q = no_more (type_told o s.names).1 _ p.1 in
      let r = no_more (invariant_told at u e (declare s n i)).1 [] q.1 in
      let x = cell_fits t m b has_bool few o s v.scope q.0 in
      let y : StateDecl = record {
        name = n;
        key = None;
        value = ty_of u;
        inv =
            Some (invariant_told at u e (declare s n i)).0;
      } in
      let fits : FitsEntry t m b [] i = (
        x.flat,
        y,
        x.is,
        x.fits,
        added d.states y t.states w.states,
        refl,
        ap ty_of x.is,
      ) in
      let inv = invariant_fits t m b has_bool few at u x.flat e (declare s n i)
      (declared t m b has_bool few s n i v.scope fits) x.is x.fits k.shallow r.0 in
      state_fits at n y i s d v few fits (few_of at n (length d.states) declaration_limit s p.0)
      (and_from (is_type_in_use t y.value) (well.is_invariant t y.value y.inv) x.used
      (ap (λ z. well.is_invariant t (ty_of z) y.inv) x.is ∙ inv))

  map_in : (at : Place) (n : List ℕ) (a o : TypeTree) (s : Scope) (d : Draft) → Step (decl.Map at n a o) s d
  map_in at n a o s d k v w h =
      let m = length d.records in
      let b = length d.funs in
      let few = as_many d.records t.records w.records in
      let u = (map_types_told at (length d.states) a o s).0 in
      let p = no_more (next_named at n (length d.states) declaration_limit s).1 _ h in
      let q = no_more (map_types_told at (length d.states) a o s).1 [] p.1 in
      let x = map_fits t m b has_bool few at (length d.states) a o s v.scope q.0 in
      let y : StateDecl = record { name = n; key = key_of (Some u.key); value = ty_of u.value; inv = None } in
      state_fits at n y (map_entry u) s d v few (
        x.key,
        x.value.flat,
        y,
        x.key_is,
        x.value.is,
        x.value.fits,
        added d.states y t.states w.states,
        ap
            (λ z. Some (ty_of z)) x.key_is,
        ap ty_of x.value.is,
      )
      (few_of at n (length d.states) declaration_limit s p.0)
      (and_from (well.is_key_type t y.key) _ x.good (and_from (is_type_in_use t y.value) true x.value.used refl))

  map_where_in : (at : Place) (n : List ℕ) (a o : TypeTree) (e : Expr) (s : Scope) (d : Draft)
      → Step (decl.MapWhere at n a o e) s d
  map_where_in at n a o e s d k v w h =
      let m = length d.records in
      let b = length d.funs in
      let few = as_many d.records t.records w.records in
      let u = (map_types_told at (length d.states) a o s).0 in
      let i = map_entry u in
      let p = no_more (next_named at n (length d.states) declaration_limit s).1 _ h in
      let q = no_more (map_types_told at (length d.states) a o s).1 _ p.1 in
      let r = no_more (invariant_told at u.value e (declare s n i)).1 [] q.1 in
      let x = map_fits t m b has_bool few at (length d.states) a o s v.scope q.0 in
      let c = x.value in
      let y : StateDecl = record {
        name = n;
        key = key_of (Some u.key);
        value = ty_of u.value;
        inv =
            Some (invariant_told at u.value e (declare s n i)).0;
      } in
      let fits : FitsEntry t m b [] i = (
        x.key,
        c.flat,
        y,
        x.key_is,
        c.is,
        c.fits,
        added d.states y t.states w.states,
        ap
            (λ z. Some (ty_of z)) x.key_is,
        ap ty_of c.is,
      ) in
      let inv = invariant_fits t m b has_bool few at u.value c.flat e (declare s n i)
      (declared t m b has_bool few s n i v.scope fits) c.is c.fits k.shallow r.0 in
      state_fits at n y i s d v few fits (few_of at n (length d.states) declaration_limit s p.0)
      (and_from (well.is_key_type t y.key) _ x.good
      (and_from (is_type_in_use t y.value) (well.is_invariant t y.value y.inv) c.used
      (ap (λ z. well.is_invariant t (ty_of z) y.inv) c.is ∙ inv)))

  function_in : (at : Place) (n : List ℕ) (ps : List Part) (r : TypeTree) (x : Block) (s : Scope) (d : Draft)
      → Step (decl.Function at n ps r x) s d
  function_in at n ps r x s d k v w h =
      let m = length d.records in
      let b = length d.funs in
      let few = as_many d.records t.records w.records in
      let f = (routine_told n ps [] r x (inside s at n)).0 in
      let c = f.call in
      let p = no_more (next_named at n b function_limit s).1 _ h in
      let q = no_more (routine_told n ps [] r x (inside s at n)).1 [] p.1 in
      let i = fits_routine t m b has_bool few s at n v.scope ps [] r x q.0 in
      let goes : GoesOn d.funs t.funs = (c ∷ w.funs.0, w.funs.1 ∙ append_assoc d.funs (c ∷ []) w.funs.0) in
      let names : list_all is_name (names_in ps ++ []) ≡ true =
      ap (list_all is_name) (append-nil (names_in ps)) ∙ behind_name n (names_in ps) k.names in
      let so = call_is t m b has_bool few s at n v.scope b d.funs ps [] r x i i.typed v.weights refl goes names
      k.shallow in
      let all : leb (length c.params) c.outer ≡ true =
      le-leb (length c.params) c.outer (counted c.params ps c.outer i.names i.outer) in
      let le : b ≤ length (d.funs ++ c ∷ []) = omega (arith, length-append d.funs (c ∷ [])) in
      let g = v.good in
      record {
        scope = record {
          names =
              each_more (λ (e : List ℕ × Entry). FitsEntry t m (length (d.funs ++ c ∷ [])) [] e.1) s.names
              (n, entry.Function b f.types f.reply)
              (fits_wider t m b m (length (d.funs ++ c ∷ [])) (omega arith) le [] s.names v.scope.names) (
                i.reply.0,
                c,
                i.reply.1,
                i.reply.3,
                added d.funs c t.funs w.funs,
                lt-ltb b (length (d.funs ++ c ∷ []))
                    (omega (arith, length-append d.funs (c ∷ []))),
                flat_parts t m f.types c.params i.flats,
                i.reply.2,
              );
          records = fields_wider t m b m (length (d.funs ++ c ∷ [])) (omega arith) le s.records v.scope.records;
        };
        counted = v.counted;
        weights =
            ap (λ ws. ws ++ f.weight ∷ []) v.weights ∙ ap (λ k. fun_weights d.funs ++ k ∷ []) (i.weight
            ∙ ap (λ ws. body_weight ws c.body) v.weights)
            ∙ sym (weights_more [] d.funs c);
        good = record {
          few_sorts = g.few_sorts;
          few_ints = g.few_ints;
          few_enums = g.few_enums;
          few_records = g.few_records;
          few_states = g.few_states;
          few_funs = one_within d.funs c function_limit (few_of at n b function_limit s p.0);
          few_calls = g.few_calls;
          ranges = g.ranges;
          variants = g.variants;
          fields = g.fields;
          cells = g.cells;
          functions =
              each_from_more (well.is_fun t) 0 d.funs c g.functions
              (ap (λ z. well.is_fun t z c) (nought b) ∙ and_from (leb (length c.params) c.outer)
              (well.is_call t b c) all so);
          bodies = g.bodies;
        };
      }
    where
      nought : (n : ℕ) → 0 + n ≡ n
      nought n = omega arith

      counted : (params : List ModelPart) (ps : List Part) (outer : ℕ) → part_names params ≡ names_in ps ++ []
          → outer ≡ length ps → length params ≤ outer
      counted params ps outer e o =
          omega (
            arith,
            o,
            ap length (e ∙ append-nil (names_in ps)),
            length_map (λ (p : ModelPart). p.name) params,
            length_map (λ (p : Part). p.name) ps,
          )

  call_in : (at : Place) (n : List ℕ) (ps qs : List Part) (r : TypeTree) (x : Block) (s : Scope) (d : Draft)
      → Step (decl.Call at n ps qs r x) s d
  call_in at n ps qs r x s d k v w h =
      let m = length d.records in
      let b = length d.funs in
      let all = length t.funs in
      let few = as_many d.records t.records w.records in
      let less = as_many d.funs t.funs w.funs in
      let f = (routine_told n ps qs r x (inside s at n)).0 in
      let c = f.call in
      let p = no_more (next_named at n (length d.calls) call_limit s).1 _ h in
      let q = no_more (routine_told n ps qs r x (inside s at n)).1 [] p.1 in
      let wide : ScopeFits t m all s = record {
        names = fits_wider t m b m all (omega arith) less [] s.names v.scope.names;
        records = fields_wider t m b m all (omega arith) less s.records v.scope.records;
      } in
      let i = fits_routine t m b has_bool few s at n v.scope ps qs r x q.0 in
      let j = fits_routine t m all has_bool few s at n wide ps qs r x q.0 in
      let so = call_is t m b has_bool few s at n v.scope all d.funs ps qs r x i j.typed v.weights refl w.funs
      (behind_name n (names_in ps ++ names_in qs) k.names) k.shallow in
      let g = v.good in
      record {
        scope = declared t m b has_bool few s n entry.Unusable v.scope tt;
        counted = v.counted;
        weights = v.weights;
        good = record {
          few_sorts = g.few_sorts;
          few_ints = g.few_ints;
          few_enums = g.few_enums;
          few_records = g.few_records;
          few_states = g.few_states;
          few_funs = g.few_funs;
          few_calls = one_within d.calls c call_limit (few_of at n (length d.calls) call_limit s p.0);
          ranges = g.ranges;
          variants = g.variants;
          fields = g.fields;
          cells = g.cells;
          functions = g.functions;
          bodies = all_more (well.is_call t all) d.calls c g.bodies so;
        };
      }

  decl_fits : (x : Decl) (s : Scope) (d : Draft) → Step x s d
  decl_fits (decl.Sort at n) s d = sort_fits at n s d
  decl_fits (decl.Int at n low high) s d = int_fits at n low high s d
  decl_fits (decl.Enum at n m ms) s d = enum_fits at n m ms s d
  decl_fits (decl.Record at n p ps) s d = record_fits_in at n p ps s d
  decl_fits (decl.Cell at n o) s d = cell_in at n o s d
  decl_fits (decl.CellWhere at n o e) s d = cell_where_in at n o e s d
  decl_fits (decl.Map at n a o) s d = map_in at n a o s d
  decl_fits (decl.MapWhere at n a o e) s d = map_where_in at n a o e s d
  decl_fits (decl.Function at n ps r x) s d = function_in at n ps r x s d
  decl_fits (decl.Call at n ps qs r x) s d = call_in at n ps qs r x s d

  decls_fit : (xs : List Decl) (s : Scope) (d : Draft) → Each FromText xs → StandsFor t s d
      → tables_in (decls_told xs s d).0.1 ≡ t
      → (decls_told xs s d).1 ≡ [] → StandsFor t (decls_told xs s d).0.0 (decls_told xs s d).0.1
  decls_fit [] s d k v e h = v
  decls_fit (x ∷ xs) s d k v e h =
      let y = (decl_told x s d).0 in
      let p = no_more (decl_told x s d).1 _ h in
      let w : Within y.1 t = subst (Within y.1) e (decls_within xs y.0 y.1) in
      decls_fit xs y.0 y.1 k.1 (decl_fits x s d k.0 v w p.0) e p.1

-- bool is still the first enum of tables that go on from it
bool_first : (es : List EnumDecl) → GoesOn no_tables.enums es → well.begins_with_bool es ≡ true
bool_first es g = ap well.begins_with_bool g.1

-- A TREE OF A TEXT IN WHICH NO RULE FAILS HAS WELL TYPED TABLES.
pub well_typed : (tree : Tree) → Each FromText (tree.first ∷ tree.more) → faults_of tree ≡ []
    → IsWellTyped (tables_of tree)
well_typed tree k h =
    let t = tables_of tree in
    let xs = tree.first ∷ tree.more in
    let w = decls_within xs (no_names tree.at) no_tables in
    let bool : EnumDecl = record { name = codes "bool"; variants = codes "false" ∷ codes "true" ∷ [] } in
    let has_bool : BoolFirst t = (bool, ap (λ es. slice_get es 0) w.enums.1, refl) in
    let start : StandsFor t (no_names tree.at) no_tables = record {
      scope = record { names = tt; records = λ r fields e. absurd cc };
      counted = refl;
      weights = refl;
      good = record {
        few_sorts = omega arith;
        few_ints = omega arith;
        few_enums = omega arith;
        few_records = omega arith;
        few_states = omega arith;
        few_funs = omega arith;
        few_calls = omega arith;
        ranges = refl;
        variants = refl;
        fields = refl;
        cells = refl;
        functions = refl;
        bodies = refl;
      };
    } in
    let g = (decls_fit t has_bool xs (no_names tree.at) no_tables k start refl h).good in
    let once = decls_once xs (no_names tree.at) no_tables k (bool, [], refl) (record {
      distinct = refl;
      names =
          refl;
      taken = λ n e. absurd cc;
    }) h in
    record {
      few_sorts = g.few_sorts;
      few_ints = g.few_ints;
      few_enums = g.few_enums;
      few_records = g.few_records;
      few_states = g.few_states;
      few_funs = g.few_funs;
      few_calls = g.few_calls;
      distinct = once.distinct;
      names = once.names;
      ranges = g.ranges;
      bool = bool_first t.enums w.enums;
      variants = g.variants;
      fields = g.fields;
      cells = g.cells;
      functions = g.functions;
      bodies = g.bodies;
    }
