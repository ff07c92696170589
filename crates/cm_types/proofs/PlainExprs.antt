-- An invariant in which no rule fails holds no state's name, no call of a function and no conversion.
use Rattle.std.proofs.Common.{◌≡◌, ℕ, ℤ, pos, neg_ℤ, Bool, true, false, cond, List, [], ◌∷◌, ◌++◌, map, length, Option}
use Rattle.std.proofs.Common.{Some, None, refl, sym, ap, ◌∙◌, subst}
use Rattle.std.specs.List.{list_all}
use Rattle.std.specs.Str.{bytes_eq}
use Rattle.std.proofs.lemmas.Bool.{and_from}
use Rattle.cm_model.specs.Plain.{plain_step, is_plain}
use Rattle.cm_model.specs.declared.place.Place.{Place}
use Rattle.cm_model.specs.declared.body.Expr.{Expr as Made}
use Rattle.cm_model.specs.declared.body.Expr.TheOpen.{SetField-F}
use Rattle.cm_model.specs.declared.body.SetField.{SetField, roll-SetField}
use Rattle.cm_syntax.specs.declared.tree.Expr.{Expr}
use Rattle.cm_syntax.specs.declared.tree.Cmp.TheOpen as layer
use Rattle.cm_typing.specs.declared.flat.Flat.{Flat}
use Rattle.cm_typing.specs.declared.flat.Kind.{Kind}
use Rattle.cm_typing.specs.declared.names.Entry.{Entry}
use Rattle.cm_typing.specs.declared.names.Entry.TheVariants as entry
use Rattle.cm_typing.specs.declared.scope.Scope.{Scope}
use Rattle.cm_typing.specs.declared.told.Typed.{Typed}
use Rattle.cm_typing.specs.declared.told.Sets.{Sets}
use Rattle.cm_typing.specs.Told.{Told, Broken, rule, fails}
use Rattle.cm_typing.specs.Names.{Names, look, is_taken, it_name, in_invariant, is_state, allowed, found}
use Rattle.cm_typing.specs.Rules as rules
use Rattle.cm_typing.specs.Types.{type_told}
use Rattle.cm_typing.specs.Flats.{wanted, ty_of}
use Rattle.cm_typing.specs.Expressions.{Meaning, named, number_in, it_told, value_named, map_named, map_told}
use Rattle.cm_typing.specs.Expressions.{as_condition, operands_told, type_at, args_told, counted_told, loose_told}
use Rattle.cm_typing.specs.Expressions.{applied_told, apply_told, at_path, expr_at, no_path, path_told, set_field}
use Rattle.cm_typing.specs.Expressions.{set_value, next_set_told, sets_told, no_sets, with_told, shift_told, op_of}
use Rattle.cm_typing.specs.Expressions.{prim_step, post_step, unary_step, sum_step, cmp_step, expr_step, expr_told}
use Rattle.cm_types.proofs.Items.{no_more, all_more, map_more}
use Rattle.cm_types.proofs.ModelForms as forms
use Rattle.cm_types.proofs.ExprRules.{Held, HeldSet, bare_cmp, bare_expr, bare_prim, bare_sum, bare_unary, bare_post}
use Rattle.cm_types.proofs.ExprRules.{expr_keeps}

-- the locals of an invariant
abbrev pub its : Option Flat → Names
its o = (it_name, entry.Local 0 o) ∷ []

inside : (o : Option Flat) → in_invariant (its o) ≡ true
unfolding is_taken
inside o = refl

abbrev set_value_of : SetField-F Bool Bool → Bool
set_value_of x = x.value

abbrev PlainAt : Meaning → Type 0
PlainAt n = (s : Scope) (o : Option Flat) → (n s (its o)).1 ≡ [] → is_plain (n s (its o)).0.expr ≡ true

abbrev all_so : List Bool → Bool
all_so = list_all (λ b. b)

abbrev are_plain : List Made → Bool
are_plain es = all_so (map is_plain es)

plain_more : (es : List Made) (e : Made) → are_plain es ≡ true → is_plain e ≡ true → are_plain (es ++ e ∷ []) ≡ true
plain_more es e h p = ap all_so (map_more is_plain es e) ∙ all_more (λ b. b) (map is_plain es) (is_plain e) h p

-- a name at whose use no rule fails is no state's
abbrev NoState : Told (Option Entry) → Type 0
NoState x = (e : Entry) × (x.0 ≡ Some e) × (is_state e ≡ false)

named_plain : (at : Place) (n : List ℕ) (s : Scope) (o : Option Flat) → (named at n s (its o)).1 ≡ []
    → NoState (named at n s (its o))
unfolding look
named_plain at n s o h = by (bytes_eq n it_name) (look n s.names) (in_invariant (its o)) (inside o) h
  where
    barred : (e : Entry) (c : Bool) → is_state e ≡ c → (allowed at c e).1 ≡ [] → NoState (allowed at c e)
    barred e true is h = absurd cc
    barred e false is h = (e, refl, is)

    by : (c : Bool) (d : Option Entry) (i : Bool) → i ≡ true → (found at i (cond c (Some (entry.Local 0 o)) None) d).1
        ≡ []
        → NoState (found at i (cond c (Some (entry.Local 0 o)) None) d)
    by true d i is h = (entry.Local 0 o, refl, refl)
    by false None i is h = absurd cc
    by false (Some e) true is h = barred e (is_state e) refl h
    by false (Some e) false is h = absurd cc

value_plain : (at : Place) (e : Entry) → is_state e ≡ false → (value_named at (Some e)).1 ≡ []
    → is_plain (value_named at (Some e)).0.expr ≡ true
value_plain at (entry.Local i o) k h = forms.of_Local plain_step set_value_of i
value_plain at (entry.Variant e i) k h = forms.of_Tag plain_step set_value_of e i
value_plain at (entry.Cell c o) k h = absurd cc
value_plain at (entry.Sort n) k h = absurd cc
value_plain at (entry.Int n) k h = absurd cc
value_plain at (entry.Enum n) k h = absurd cc
value_plain at (entry.Record r o os) k h = absurd cc
value_plain at (entry.Map c g o) k h = absurd cc
value_plain at (entry.Function i os o) k h = absurd cc
value_plain at entry.Unusable k h = absurd cc
value_plain at (entry.Field i o) k h = absurd cc

map_absurd : {X : Type 0} (at : Place) (e : Entry) → is_state e ≡ false → (map_named at (Some e)).1 ≡ [] → X
map_absurd at (entry.Map c g o) k h = absurd cc
map_absurd at (entry.Local i o) k h = absurd cc
map_absurd at (entry.Variant e i) k h = absurd cc
map_absurd at (entry.Cell c o) k h = absurd cc
map_absurd at (entry.Sort n) k h = absurd cc
map_absurd at (entry.Int n) k h = absurd cc
map_absurd at (entry.Enum n) k h = absurd cc
map_absurd at (entry.Record r o os) k h = absurd cc
map_absurd at (entry.Function i os o) k h = absurd cc
map_absurd at entry.Unusable k h = absurd cc
map_absurd at (entry.Field i o) k h = absurd cc

it_plain : (at : Place) (o : Option Entry) → (it_told at o).1 ≡ [] → is_plain (it_told at o).0.expr ≡ true
it_plain at (Some (entry.Local i o)) h = forms.of_Local plain_step set_value_of i
it_plain at (Some (entry.Variant e i)) h = absurd cc
it_plain at (Some (entry.Cell c o)) h = absurd cc
it_plain at (Some (entry.Sort n)) h = absurd cc
it_plain at (Some (entry.Int n)) h = absurd cc
it_plain at (Some (entry.Enum n)) h = absurd cc
it_plain at (Some (entry.Record r o os)) h = absurd cc
it_plain at (Some (entry.Map c g o)) h = absurd cc
it_plain at (Some (entry.Function i os o)) h = absurd cc
it_plain at (Some entry.Unusable) h = absurd cc
it_plain at (Some (entry.Field i o)) h = absurd cc
it_plain at None h = absurd cc

abbrev H : Type 0
H = Held PlainAt

abbrev HS : Type 0
HS = HeldSet PlainAt

abbrev bare : List H → List Meaning
bare ms = map (λ n. n.0) ms

module _ (s : Scope) (o : Option Flat) where
  abbrev l : Names
  l = its o

  operands_plain : (ms : List H) (done : List Made) → are_plain done ≡ true → (operands_told done (bare ms) s l).1 ≡ []
      → are_plain (operands_told done (bare ms) s l).0 ≡ true
  operands_plain [] done k h = k
  operands_plain (n ∷ ms) done k h =
      let v = (n.0 s l).0 in
      let p = no_more ((n.0 s l).1 ++ ((as_condition v).1 ++ [])) _ h in
      let q = no_more (n.0 s l).1 _ p.0 in
      operands_plain ms (done ++ v.expr ∷ []) (plain_more done v.expr k (n.1 s o q.0)) p.1

  args_plain : (ms : List H) (types : List (Option Flat)) (done : List Made) → are_plain done ≡ true
      → (args_told done (bare ms) types s l).1 ≡ [] → are_plain (args_told done (bare ms) types s l).0 ≡ true
  args_plain [] types done k h = k
  args_plain (n ∷ ms) types done k h =
      let v = (n.0 s l).0 in
      let p = no_more (n.0 s l).1 _ h in
      let q = no_more (wanted (type_at types (length done)) v.at v.kind).1 _ p.1 in
      args_plain ms types (done ++ v.expr ∷ []) (plain_more done v.expr k (n.1 s o p.0)) q.1

  loose_absurd : {X : Type 0} (at : Place) (code : ℕ) (ms : List Meaning) → (loose_told at code ms s l).1 ≡ [] → X
  loose_absurd at code ms h = absurd (let p = no_more (fails code at).1 _ h in let e = p.0 in cc)

  applied_plain : (at : Place) (e : Entry) (ms : List H) → (applied_told at e true (bare ms) s l).1 ≡ []
      → is_plain (applied_told at e true (bare ms) s l).0.expr ≡ true
  applied_plain at (entry.Record r q os) ms h =
      let p = no_more (counted_told at os (bare ms) s l).1 [] h in
      let a = no_more (rule _ rules.count at).1 _ p.0 in
      forms.of_Make plain_step set_value_of r (counted_told at os (bare ms) s l).0 ∙ args_plain ms os [] refl a.1
  applied_plain at (entry.Int i) ms h = loose_absurd at rules.invariant (bare ms) h
  applied_plain at (entry.Function i os q) ms h = loose_absurd at rules.invariant (bare ms) h
  applied_plain at (entry.Sort n) ms h = loose_absurd at rules.unknown (bare ms) h
  applied_plain at (entry.Enum n) ms h = loose_absurd at rules.unknown (bare ms) h
  applied_plain at (entry.Variant e i) ms h = loose_absurd at rules.unknown (bare ms) h
  applied_plain at (entry.Cell c q) ms h = loose_absurd at rules.unknown (bare ms) h
  applied_plain at (entry.Map c g q) ms h = loose_absurd at rules.unknown (bare ms) h
  applied_plain at entry.Unusable ms h = loose_absurd at rules.unknown (bare ms) h
  applied_plain at (entry.Local i q) ms h = loose_absurd at rules.unknown (bare ms) h
  applied_plain at (entry.Field i q) ms h = loose_absurd at rules.unknown (bare ms) h

  apply_plain : (at : Place) (x : Option Entry) (fs : List Broken) (e : Entry) (ms : List H) → x ≡ Some e
      → (apply_told at (x, fs) (bare ms) s l).1 ≡ [] → is_plain (apply_told at (x, fs) (bare ms) s l).0.expr ≡ true
  apply_plain at None fs e ms is h = absurd cc
  apply_plain at (Some y) fs e ms is h =
      subst (λ i. (applied_told at y i (bare ms) s l).1 ≡ [] → is_plain (applied_told at y i (bare ms) s l).0.expr
      ≡ true)
      (sym (inside o)) (applied_plain at y ms) (no_more fs _ h).1

  abbrev set_plain : SetField → Bool
  set_plain = forms.set_of plain_step set_value_of

  sets_plain : (ns : List HS) (k : Option Kind) (d : Sets) → all_so (map set_plain d.sets) ≡ true
      → (sets_told d (map (λ n. n.0) ns) k s l).1 ≡ []
      → all_so (map set_plain (sets_told d (map (λ n. n.0) ns) k s l).0.sets) ≡ true
  unfolding next_set_told
  sets_plain [] k d g h = g
  sets_plain (n ∷ ns) k d g h =
      let x = (set_field n.0.0 n.0.1 d.taken k s).0 in
      let v = (n.0.2 s l).0 in
      let p = no_more (next_set_told d n.0 k s l).1 _ h in
      let q = no_more (set_field n.0.0 n.0.1 d.taken k s).1 _ p.0 in
      let r = no_more (set_value n.0.2 x s l).1 [] q.1 in
      let e = no_more (n.0.2 s l).1 _ r.0 in
      let one : SetField = roll-SetField (record { field = x.index; value = v.expr }) in
      let so : set_plain one ≡ true = forms.of_set plain_step set_value_of x.index v.expr ∙ n.1 s o e.0 in
      sets_plain ns k (next_set_told d n.0 k s l).0
      (ap all_so (map_more set_plain d.sets one) ∙ all_more (λ b. b) (map set_plain d.sets) (set_plain one) g so) p.1

  with_plain : (v : Typed) → is_plain v.expr ≡ true → (ns : List HS) → (with_told v (map (λ n. n.0) ns) s l).1 ≡ []
      → is_plain (with_told v (map (λ n. n.0) ns) s l).0.expr ≡ true
  with_plain v k [] h = k
  with_plain v k (n ∷ ns) h =
      let all = map (λ (x : HS). x.0) (n ∷ ns) in
      let p = no_more (sets_told no_sets all v.kind s l).1 [] h in
      forms.of_With plain_step set_value_of v.expr (sets_told no_sets all v.kind s l).0.sets
      ∙ and_from (is_plain v.expr) (all_so (map set_plain (sets_told no_sets all v.kind s l).0.sets)) k
      (sets_plain (n ∷ ns) v.kind no_sets refl p.0)

path_plain : (e : Made) → is_plain e ≡ true → (is : List ℕ) → is_plain (expr_at e is) ≡ true
path_plain e h [] = h
path_plain e h (i ∷ is) = forms.of_Fields plain_step set_value_of e (i ∷ is) ∙ h

prim_plain : (y : layer.Primary-F H H H H H H HS) → PlainAt (prim_step (bare_prim PlainAt y))
prim_plain (layer.Number at n) s o h = forms.of_Num plain_step set_value_of (number_in n)
prim_plain (layer.True at) s o h = forms.of_Tag plain_step set_value_of 0 1
prim_plain (layer.False at) s o h = forms.of_Tag plain_step set_value_of 0 0
prim_plain (layer.It at) s o h = it_plain at (look it_name (its o)) h
prim_plain (layer.Name at n) s o h =
    let p = no_more (named at n s (its o)).1 _ h in
    let x = named_plain at n s o p.0 in
    subst (λ z. (value_named at z).1 ≡ [] → is_plain (value_named at z).0.expr ≡ true) (sym x.1)
    (value_plain at x.0 x.2) p.1
prim_plain (layer.Entry at n k) s o h =
    let p = no_more (map_told at n s (its o)).1 _ h in
    let q = no_more (named at n s (its o)).1 _ p.0 in
    let x = named_plain at n s o q.0 in
    map_absurd at x.0 x.2 (sym (ap (λ z. (map_named at z).1) x.1) ∙ q.1)
prim_plain (layer.Apply at n ms) s o h =
    let e = named at n s (its o) in
    let x = named_plain at n s o (no_more e.1 _ h).0 in
    apply_plain s o at e.0 e.1 x.0 ms x.1 h
prim_plain (layer.NoneOf at ty) s o h = forms.of_NoneOf plain_step set_value_of (ty_of (type_told ty s.names).0)
prim_plain (layer.SomeOf at k) s o h =
    forms.of_SomeOf plain_step set_value_of (k.0 s (its o)).0.expr ∙ k.1 s o (no_more (k.0 s (its o)).1 _ h).0
prim_plain (layer.Group at k) s o h = k.1 s o (no_more (k.0 s (its o)).1 [] h).0

post_plain : (y : layer.Post-F H H H H H H HS) → PlainAt (post_step (bare_post PlainAt y))
post_plain y s o h =
    let v = (y.prim.0 s (its o)).0 in
    let p = no_more (y.prim.0 s (its o)).1 _ h in
    let q = no_more (path_told y.at (no_path v.kind) y.fields s).1 _ p.1 in
    let path = (path_told y.at (no_path v.kind) y.fields s).0 in
    with_plain s o (at_path v path) (path_plain v.expr (y.prim.1 s o p.0) path.path) y.sets q.1

unary_plain : (y : layer.Unary-F H H H H H H HS) → PlainAt (unary_step (bare_unary PlainAt y))
unary_plain (layer.Bare at k) s o h = k.1 s o h
unary_plain (layer.Not at k) s o h =
    forms.of_Not plain_step set_value_of (k.0 s (its o)).0.expr ∙ k.1 s o (no_more (k.0 s (its o)).1 _ h).0

shift_plain : (at : Place) (k : H) (z : ℤ) → PlainAt (shift_told at k.0 z)
shift_plain at k z s o h =
    forms.of_Shift plain_step set_value_of (k.0 s (its o)).0.expr z ∙ k.1 s o (no_more (k.0 s (its o)).1 _ h).0

sum_plain : (y : layer.Sum-F H H H H H H HS) → PlainAt (sum_step (bare_sum PlainAt y))
sum_plain (layer.Term at k) s o h = k.1 s o h
sum_plain (layer.Plus at k n) s o h = shift_plain at k (pos n) s o h
sum_plain (layer.Minus at k n) s o h = shift_plain at k (neg_ℤ (pos n)) s o h

cmp_plain : (y : layer.Cmp-F H H H H H H HS) → PlainAt (cmp_step (bare_cmp PlainAt y))
cmp_plain (layer.Side at k) s o h = k.1 s o h
cmp_plain (layer.Compared at k r n) s o h =
    let v = (k.0 s (its o)).0 in
    let w = (n.0 s (its o)).0 in
    let p = no_more (k.0 s (its o)).1 _ h in
    let q = no_more (n.0 s (its o)).1 _ p.1 in
    forms.of_Compare plain_step set_value_of (op_of r) v.expr w.expr
    ∙ and_from (is_plain v.expr) (is_plain w.expr) (k.1 s o p.0) (n.1 s o q.0)

expr_step_plain : (y : layer.Expr-F H H H H H H HS) → PlainAt (expr_step (bare_expr PlainAt y))
expr_step_plain (layer.Single at k) s o h = k.1 s o h
expr_step_plain (layer.All at k n ms) s o h =
    forms.of_All plain_step set_value_of (operands_told [] (bare (k ∷ n ∷ ms)) s (its o)).0
    ∙ operands_plain s o (k ∷ n ∷ ms) [] refl (no_more (operands_told [] (bare (k ∷ n ∷ ms)) s (its o)).1 [] h).0
expr_step_plain (layer.Any at k n ms) s o h =
    forms.of_Any plain_step set_value_of (operands_told [] (bare (k ∷ n ∷ ms)) s (its o)).0
    ∙ operands_plain s o (k ∷ n ∷ ms) [] refl (no_more (operands_told [] (bare (k ∷ n ∷ ms)) s (its o)).1 [] h).0

-- THE INVARIANT IS PLAIN.
pub expr_plain : (e : Expr) → PlainAt (expr_told e)
expr_plain = expr_keeps PlainAt (record {
  cmps = cmp_plain;
  exprs = expr_step_plain;
  prims = prim_plain;
  sums = sum_plain;
  unarys = unary_plain;
  posts = post_plain;
  sets = λ y. y.value.1;
})
