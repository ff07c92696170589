-- A declaration in which no rule fails becomes a well typed one.
use Rattle.std.proofs.Common.{◌≡◌, ℕ, suc, ◌+◌, ◌<◌, ◌≤◌, ◌&&◌, inr, ltb, leb, not, Bool, true, false, List, [], ◌∷◌}
use Rattle.std.proofs.Common.{◌++◌, map, length, slice_get, Option, Some, refl, sym, ap, ◌∙◌, arith}
use Rattle.std.specs.List.{list_all}
use Rattle.std.proofs.lemmas.Bool.{and_parts, and_from, le-leb, lt-ltb, ltb-true}
use Rattle.std.proofs.lemmas.List.{length-append}
use Rattle.std.proofs.lemmas.Slice.Eq.{bytes_eq-Decides}
use Rattle.cm_model.specs.Tables.{Tables}
use Rattle.cm_model.specs.Limits.{invariant_weight_limit, body_weight_limit, shift_limit}
use Rattle.cm_model.specs.Types as types
use Rattle.cm_model.specs.Types.{is_type_in_use}
use Rattle.cm_model.specs.Kinds as kinds
use Rattle.cm_model.specs.Plain.{is_plain}
use Rattle.cm_model.specs.Names.{is_name, is_among, are_distinct, part_names}
use Rattle.cm_model.specs.Blocks.{is_body, always_returns}
use Rattle.cm_model.specs.Weights.{expr_weight, body_weight, weights_from, fun_weights, shifts_of, body_shifts}
use Rattle.cm_model.specs.WellTyped as well
use Rattle.cm_model.specs.declared.place.Place.{Place}
use Rattle.cm_model.specs.declared.ty.EnumDecl.{EnumDecl}
use Rattle.cm_model.specs.declared.ty.Part.{Part as ModelPart}
use Rattle.cm_model.specs.declared.body.Call.{Call}
use Rattle.cm_model.proofs.Larger.{weights_kept}
use Rattle.cm_syntax.specs.declared.tree.Part.{Part}
use Rattle.cm_syntax.specs.declared.tree.«Type».{«Type» as TypeTree}
use Rattle.cm_syntax.specs.declared.tree.Expr.{Expr}
use Rattle.cm_syntax.specs.declared.tree.Block.{Block}
use Rattle.cm_typing.specs.declared.flat.Flat.{Flat}
use Rattle.cm_typing.specs.declared.names.Entry.{Entry}
use Rattle.cm_typing.specs.declared.names.Entry.TheVariants as entry
use Rattle.cm_typing.specs.declared.scope.Scope.{Scope}
use Rattle.cm_typing.specs.declared.told.FoundMap.{FoundMap}
use Rattle.cm_typing.specs.Told.{rule}
use Rattle.cm_typing.specs.Rules as rules
use Rattle.cm_typing.specs.Flats.{is_bool, is_key, ty_of, ty_of_flat}
use Rattle.cm_typing.specs.Types.{type_told}
use Rattle.cm_typing.specs.Expressions.{as_condition, expr_told}
use Rattle.cm_typing.specs.Declarations.{new_name, next_named, declare, variants_told, key_of, map_types_told}
use Rattle.cm_typing.specs.Declarations.{invariant_told, inside, routine_told}
use Rattle.cm_types.proofs.Items.{each_more, GoesOn, no_more, holds, length_map}
use Rattle.cm_types.proofs.DistinctLists.{taken_more}
use Rattle.cm_types.proofs.Measured.{IsFlat, in_use, option_is}
use Rattle.cm_types.proofs.Standing.{FitsEntry, ScopeFits}
use Rattle.cm_types.proofs.TypedParts.{BoolFirst, type_sound, bool_is}
use Rattle.cm_types.proofs.TypedExprs.{expr_sound}
use Rattle.cm_types.proofs.PlainExprs.{its, expr_plain}
use Rattle.cm_types.proofs.PlainKinds.{plain_kind}
use Rattle.cm_types.proofs.Weighing.{body_same}
use Rattle.cm_types.proofs.FromText.{IsShallowExpr, IsShallowBlock}
use Rattle.cm_types.proofs.TypedRoutines.{names_in, IsRoutine, routine_fits}

-- one more at the end of a list, where each is asked with its number
pub each_from_more : {X : Type 0} (p : ℕ → X → Bool) (n : ℕ) (xs : List X) (x : X) → well.each_from p n xs ≡ true
    → p (n + length xs) x ≡ true → well.each_from p n (xs ++ x ∷ []) ≡ true
each_from_more p n [] x h e = ap (λ c. c && true) (ap (λ k. p k x) (nought n) ∙ e)
  where
    nought : (n : ℕ) → n ≡ n + 0
    nought n = omega arith
each_from_more p n (y ∷ xs) x h e =
    let q = and_parts (p n y) (well.each_from p (n + 1) xs) h in
    and_from (p n y) (well.each_from p (n + 1) (xs ++ x ∷ [])) q.0
    (each_from_more p (n + 1) xs x q.1 (ap (λ k. p k x) (moved n (length xs)) ∙ e))
  where
    moved : (n k : ℕ) → n + 1 + k ≡ n + suc k
    moved n k = omega arith

-- a number within its limit leaves room for one more
pub one_within : {X : Type 0} (xs : List X) (x : X) (limit : ℕ) → ltb (length xs) limit ≡ true
    → length (xs ++ x ∷ []) ≤ limit
one_within xs x limit h = omega (arith, ltb-true (length xs) limit h, length-append xs (x ∷ []))

pub few_of : (at : Place) (n : List ℕ) (before limit : ℕ) (s : Scope) → (next_named at n before limit s).1 ≡ []
    → ltb before limit ≡ true
few_of at n before limit s h =
    let p = no_more (new_name at n s).1 _ h in
    let q = no_more (rule (ltb before limit) rules.many at).1 [] p.1 in
    holds (ltb before limit) rules.many at q.0

-- Variants

pub variants_fit : (t : Tables) (m b : ℕ) (at : Place) (e : ℕ) (x : EnumDecl) → slice_get t.enums e ≡ Some x
    → (vs : List (List ℕ)) (i : ℕ)
    (s : Scope) → i + length vs ≤ length x.variants → ScopeFits t m b s → ScopeFits t m b (variants_told at e i vs s).0
variants_fit t m b at e x g [] i s le f = f
variants_fit t m b at e x g (v ∷ vs) i s le f =
    variants_fit t m b at e x g vs (i + 1) (declare s v (entry.Variant e i)) (omega (arith, le)) (record {
      names =
          each_more (λ (y : List ℕ × Entry). FitsEntry t m b [] y.1) s.names (v, entry.Variant e i) f.names
          (x, g, lt-ltb i (length x.variants) (omega (arith, le)));
      records = f.records;
    })

-- what the variants leave of a scope
pub variants_leave : (at : Place) (e : ℕ) (vs : List (List ℕ)) (i : ℕ) (s : Scope)
    → ((variants_told at e i vs s).0.records ≡ s.records) × ((variants_told at e i vs s).0.weights ≡ s.weights)
variants_leave at e [] i s = (refl, refl)
variants_leave at e (v ∷ vs) i s = variants_leave at e vs (i + 1) (declare s v (entry.Variant e i))

module _ (t : Tables) (m b : ℕ) (has_bool : BoolFirst t) (few : m ≤ length t.records) where
  -- one name more
  pub declared : (s : Scope) (n : List ℕ) (e : Entry) → ScopeFits t m b s → FitsEntry t m b [] e → ScopeFits t m b
      (declare s n e)
  declared s n e f h = record {
    names = each_more (λ (y : List ℕ × Entry). FitsEntry t m b [] y.1) s.names (n, e) f.names h;
    records = f.records;
  }

  -- States

  key_fits : (k : Flat) → IsFlat t m k → is_key (Some k) ≡ true → well.is_key_type t (Some (ty_of_flat k)) ≡ true
  key_fits k h so =
      and_from (is_type_in_use t (ty_of_flat k)) (not (types.holds_option t (ty_of_flat k))) (in_use t m k h few)
      (ap not (option_is t m k h) ∙ so)

  -- an invariant of values of a type
  pub invariant_fits : (at : Place) (o : Option Flat) (x : Flat) (e : Expr) (s : Scope) → ScopeFits t m b s
      → o ≡ Some x → IsFlat t m x
      → IsShallowExpr e → (invariant_told at o e s).1 ≡ []
      → well.is_invariant t (ty_of_flat x) (Some (invariant_told at o e s).0) ≡ true
  invariant_fits at o x e s f is fits shallow h =
      let l = its o in
      let v = (expr_told e s l).0 in
      let p = no_more (expr_told e s l).1 _ h in
      let q = no_more (as_condition v).1 _ p.1 in
      let r = no_more (rule (leb (expr_weight [] v.expr) invariant_weight_limit) rules.invariant at).1 [] q.1 in
      let a = no_more (rule (is_bool v.kind) rules.condition v.at).1 [] q.0 in
      let there : slice_get (ty_of o ∷ []) 0 ≡ Some (ty_of_flat x) = ap (λ (z : Option Flat). Some (ty_of z)) is in
      let typed = expr_sound t m b has_bool few e s l f ((x, is, fits, there), tt) p.0 in
      let plain = expr_plain e s o p.0 in
      let kind = kinds.kind_of (kinds.scope t 0 (ty_of_flat x ∷ [])) v.expr in
      let so : kinds.is_bool kind ≡ true =
      ap kinds.is_bool (plain_kind t 0 b (ty_of_flat x ∷ []) v.expr plain)
      ∙ ap (λ u. kinds.is_bool (kinds.kind_of (kinds.scope t b (u ∷ [])) v.expr)) (sym (ap ty_of is))
      ∙ bool_is t m b l v typed (holds (is_bool v.kind) rules.condition v.at a.0) in
      and_from (kinds.is_bool kind) _ so
      (and_from (is_plain v.expr) _ plain
      (and_from (leb (expr_weight [] v.expr) invariant_weight_limit) (leb (shifts_of v.expr) shift_limit)
      (holds (leb (expr_weight [] v.expr) invariant_weight_limit) rules.invariant at r.0) (shallow s l)))

  pub record CellFits (o : Option Flat) : Type 0 where
    pub flat : Flat
    pub is : o ≡ Some flat
    pub fits : IsFlat t m flat
    pub used : is_type_in_use t (ty_of o) ≡ true

  pub cell_fits : (v : TypeTree) (s : Scope) → ScopeFits t m b s → (type_told v s.names).1 ≡ []
      → CellFits (type_told v s.names).0
  cell_fits v s f h =
      let x = type_sound t m b has_bool few v s.names f.names h in
      record {
        flat = x.0;
        is = x.1;
        fits = x.2;
        used = ap (λ z. is_type_in_use t (ty_of z)) x.1
            ∙ in_use t m x.0 x.2 few;
      }

  pub record MapFits (x : FoundMap) : Type 0 where
    pub key : Flat
    pub key_is : x.key ≡ Some key
    pub value : CellFits x.value
    pub good : well.is_key_type t (key_of (Some x.key)) ≡ true

  pub map_fits : (at : Place) (c : ℕ) (k v : TypeTree) (s : Scope) → ScopeFits t m b s → (map_types_told at c k v s).1
      ≡ []
      → MapFits (map_types_told at c k v s).0
  map_fits at c k v s f h =
      let key = (type_told k s.names).0 in
      let p = no_more (type_told k s.names).1 _ h in
      let q = no_more (type_told v s.names).1 _ p.1 in
      let r = no_more (rule (is_key key) rules.key at).1 [] q.1 in
      let x = type_sound t m b has_bool few k s.names f.names p.0 in
      let so : is_key (Some x.0) ≡ true = sym (ap is_key x.1) ∙ holds (is_key key) rules.key at r.0 in
      record {
        key = x.0;
        key_is = x.1;
        value = cell_fits v s f q.0;
        good = ap (λ z. well.is_key_type t (Some (ty_of z))) x.1 ∙ key_fits x.0 x.2 so;
      }

-- Functions and calls

pub weights_more : (before : List ℕ) (fs : List Call) (c : Call)
    → weights_from before (fs ++ c ∷ []) ≡ weights_from before fs ++ body_weight (weights_from before fs) c.body ∷ []
weights_more before [] c = refl
weights_more before (f ∷ fs) c = weights_more (before ++ body_weight before f.body ∷ []) fs c

module _ (t : Tables) (m b : ℕ) (has_bool : BoolFirst t) (few : m ≤ length t.records) (s : Scope) (at : Place)
    (n : List ℕ)
    (f : ScopeFits t m b s) where
  pub inside_fits : ScopeFits t m b (inside s at n)
  inside_fits = record {
    names = each_more (λ (y : List ℕ × Entry). FitsEntry t m b [] y.1) s.names (n, entry.Unusable) f.names tt;
    records = f.records;
  }

  pub fits_routine : (ps qs : List Part) (r : TypeTree) (x : Block) → (routine_told n ps qs r x (inside s at n)).1 ≡ []
      → IsRoutine t m b has_bool few (inside s at n) inside_fits n ps qs (routine_told n ps qs r x (inside s at n)).0
  fits_routine ps qs r x h = routine_fits t m b has_bool few (inside s at n) inside_fits n ps qs r x h

  -- what a model asks of it, where its typing is over the first c functions
  pub call_is : (c : ℕ) (fs : List Call) (ps qs : List Part) (r : TypeTree) (x : Block)
      → IsRoutine t m b has_bool few (inside s at n) inside_fits n ps qs (routine_told n ps qs r x (inside s at n)).0
      → is_body t c (routine_told n ps qs r x (inside s at n)).0.call.reply
      (map (λ p. p.ty) (routine_told n ps qs r x (inside s at n)).0.call.params)
      (routine_told n ps qs r x (inside s at n)).0.call.body ≡ true
      → s.weights ≡ fun_weights fs → b ≡ length fs → GoesOn fs t.funs
      → list_all is_name (names_in ps ++ names_in qs) ≡ true → IsShallowBlock x
      → well.is_call t c (routine_told n ps qs r x (inside s at n)).0.call ≡ true
  call_is c fs ps qs r x k typed weights count goes names shallow =
      let d = (routine_told n ps qs r x (inside s at n)).0.call in
      let parts = part_names d.params in
      let ts = map (λ (p : ModelPart). p.ty) d.params in
      let own : is_among n parts ≡ false = k.apart n (taken_more n n s.names entry.Unusable
      (inr ((bytes_eq-Decides n n).1 refl))) in
      let distinct : are_distinct (d.name ∷ parts) ≡ true = and_from (not (is_among d.name parts)) (are_distinct parts)
      (ap (λ z. not (is_among z parts)) k.name ∙ ap not own) k.distinct in
      let longer : length ps ≤ length d.params = counted d.params ps qs k.names in
      let outer : leb d.outer (length d.params) ≡ true = ap (λ z. leb z (length d.params)) k.outer
      ∙ le-leb (length ps) (length d.params) longer in
      let reply : is_type_in_use t d.reply ≡ true = ap (is_type_in_use t) k.reply.2
      ∙ in_use t m k.reply.0 k.reply.3 few in
      let same : (i : ℕ) → i < b → slice_get (fun_weights t.funs) i ≡ slice_get s.weights i =
      λ i lt. ap (λ z. slice_get (fun_weights z) i) goes.1 ∙ weights_kept fs goes.0 i (omega (arith, lt, count))
      ∙ ap (λ z. slice_get z i) (sym weights) in
      let light : leb (body_weight (fun_weights t.funs) d.body) body_weight_limit ≡ true =
      ap (λ w. leb w body_weight_limit) (body_same t b (fun_weights t.funs) s.weights same d.reply d.body ts k.typed)
      ∙ k.light in
      and_from (well.are_parameters t ts && (are_distinct (d.name ∷ parts) && list_all is_name parts)) _
      (and_from (well.are_parameters t ts) _ k.parameters
      (and_from (are_distinct (d.name ∷ parts)) (list_all is_name parts) distinct (ap (list_all is_name) k.names
      ∙ names)))
      (and_from (leb d.outer (length d.params) && is_type_in_use t d.reply) _
      (and_from (leb d.outer (length d.params)) (is_type_in_use t d.reply) outer reply)
      (and_from (is_body t c d.reply ts d.body && always_returns d.body) _
      (and_from (is_body t c d.reply ts d.body) (always_returns d.body) typed k.returns)
      (and_from (leb (body_weight (fun_weights t.funs) d.body) body_weight_limit)
      (leb (body_shifts d.body) shift_limit) light (shallow _ _))))
    where
      counted : (params : List ModelPart) (ps qs : List Part) → part_names params ≡ names_in ps ++ names_in qs
          → length ps ≤ length params
      counted params ps qs e =
          omega (
            arith,
            ap length e,
            length-append (names_in ps) (names_in qs),
            length_map
                (λ (p : ModelPart). p.name) params,
            length_map (λ (p : Part). p.name) ps,
          )
