-- What expressions are told to be: a line an alternative of the grammar.
use Rattle.std.specs.Prelude.{ℕ, ◌==◌, ℤ, pos, neg_ℤ, ltb, Bool, true, false, not, ◌&&◌, ◌||◌, if◌then◌else◌, List, []}
use Rattle.std.specs.Prelude.{◌∷◌, ◌++◌, length, slice_get, Option, Some, None}
use Rattle.std.specs.List.{list_any}
use Rattle.cm_model.specs.Limits.{is_number}
use Rattle.cm_model.specs.declared.place.Place.{Place}
use Rattle.cm_model.specs.declared.body.Op.{Op}
use Rattle.cm_model.specs.declared.body.Op.TheVariants as op
use Rattle.cm_model.specs.declared.body.Expr.{Expr as Made}
use Rattle.cm_model.specs.declared.body.Expr.TheVariants as expr
use Rattle.cm_model.specs.declared.body.SetField.{SetField, roll-SetField}
use Rattle.cm_syntax.specs.declared.tree.Num.{Num}
use Rattle.cm_syntax.specs.declared.tree.Num.TheVariants.{Digits, Negative}
use Rattle.cm_syntax.specs.declared.tree.Relation.{Relation}
use Rattle.cm_syntax.specs.declared.tree.Relation.TheVariants as relation
use Rattle.cm_syntax.specs.declared.tree.«Type».{«Type» as TypeTree}
use Rattle.cm_syntax.specs.declared.tree.Cmp.{Cmp}
use Rattle.cm_syntax.specs.declared.tree.Expr.{Expr}
use Rattle.cm_syntax.specs.declared.tree.Primary.{Primary}
use Rattle.cm_syntax.specs.declared.tree.Sum.{Sum}
use Rattle.cm_syntax.specs.declared.tree.Unary.{Unary}
use Rattle.cm_syntax.specs.declared.tree.Post.{Post}
use Rattle.cm_syntax.specs.declared.tree.Set.{Set}
use Rattle.cm_syntax.specs.declared.tree.Cmp.TheOpen as layer
use Rattle.cm_syntax.specs.declared.tree.Cmp.TheFolds.{fold-Cmp, fold-Expr, fold-Primary, fold-Sum, fold-Unary}
use Rattle.cm_syntax.specs.declared.tree.Cmp.TheFolds.{fold-Post, fold-Set}
use Rattle.cm_typing.specs.declared.flat.Base.{Base}
use Rattle.cm_typing.specs.declared.flat.Base.TheVariants.{Record}
use Rattle.cm_typing.specs.declared.flat.Flat.{Flat}
use Rattle.cm_typing.specs.declared.flat.Kind.{Kind}
use Rattle.cm_typing.specs.declared.flat.Kind.TheVariants.{Number, Of}
use Rattle.cm_typing.specs.declared.names.Entry.{Entry}
use Rattle.cm_typing.specs.declared.names.Entry.TheVariants as entry
use Rattle.cm_typing.specs.declared.scope.Scope.{Scope}
use Rattle.cm_typing.specs.declared.told.Typed.{Typed}
use Rattle.cm_typing.specs.declared.told.FoundMap.{FoundMap}
use Rattle.cm_typing.specs.declared.told.FoundField.{FoundField}
use Rattle.cm_typing.specs.declared.told.FieldPath.{FieldPath}
use Rattle.cm_typing.specs.declared.told.Sets.{Sets}
use Rattle.cm_typing.specs.Told.{Told, fine, given, rule, refused, fails}
use Rattle.cm_typing.specs.Names.{Names, look, in_invariant, it_name, found}
use Rattle.cm_typing.specs.Flats.{int_flat, enum_flat, bool_kind, kind_of, value_of, is_value, is_bool, is_integer}
use Rattle.cm_typing.specs.Flats.{are_equal_kinds, wanted, option_of, ty_of}
use Rattle.cm_typing.specs.Types.{type_told}
use Rattle.cm_typing.specs.Rules as rules

abbrev pub typed : Place → Made → Option Kind → Typed
typed at e k = record { at = at; expr = e; kind = k }

-- where the declared names and the locals are these
abbrev pub Meaning : Type 0
Meaning = Scope → Names → Told Typed

-- what stands in the tables where a rule took the expression
abbrev pub no_expr : Made
no_expr = expr.Num (pos 0)

abbrev pub named : Place → List ℕ → Scope → Names → Told (Option Entry)
named at n s l = found at (in_invariant l) (look n l) (look n s.names)

-- Names by themselves, and with a key

abbrev pub value_named : Place → Option Entry → Told Typed
value_named at None = fine (typed at no_expr None)
value_named at (Some (entry.Local i t)) = fine (typed at (expr.Local i) (kind_of t))
value_named at (Some (entry.Variant e j)) = fine (typed at (expr.Tag e j) (kind_of (Some (enum_flat e))))
value_named at (Some (entry.Cell c t)) = fine (typed at (expr.Cell c None) (kind_of t))
value_named at (Some _) = refused (typed at no_expr None) rules.unknown at

abbrev pub no_map : FoundMap
no_map = record { state = 0; key = None; value = None }

abbrev pub map_named : Place → Option Entry → Told FoundMap
map_named at None = fine no_map
map_named at (Some (entry.Map m k t)) = fine (record { state = m; key = k; value = t })
map_named at (Some _) = refused no_map rules.unknown at

-- a state that is a map
abbrev pub map_told : Place → List ℕ → Scope → Names → Told FoundMap
map_told at n s l = given (named at n s l) (map_named at)

-- `it` is a local of invariants alone
abbrev pub it_told : Place → Option Entry → Told Typed
it_told at (Some (entry.Local i t)) = fine (typed at (expr.Local i) (kind_of t))
it_told at _ = refused (typed at no_expr None) rules.it at

-- Operands and arguments

-- a condition's expression
abbrev pub as_condition : Typed → Told Made
as_condition v = given (rule (is_bool v.kind) rules.condition v.at) (λ u. fine v.expr)

-- an operand of `and` or `or`, behind those that are done
abbrev pub operand_told : List Made → Meaning → Scope → Names → Told (List Made)
operand_told done m s l = given (m s l) (λ v. given (as_condition v) (λ e. fine (done ++ e ∷ [])))

abbrev pub operands_told : List Made → List Meaning → Scope → Names → Told (List Made)
operands_told done [] s l = fine done
operands_told done (m ∷ ms) s l = given (operand_told done m s l) (λ es. operands_told es ms s l)

-- the type that stands at a place, where it is there
abbrev pub type_at : List (Option Flat) → ℕ → Option Flat
type_at types i = known (slice_get types i)
  where
    known : Option (Option Flat) → Option Flat
    known (Some t) = t
    known None = None

-- arguments of these types, behind those that are done
abbrev pub args_told : List Made → List Meaning → List (Option Flat) → Scope → Names → Told (List Made)
args_told done [] types s l = fine done
args_told done (m ∷ ms) types s l =
    given (m s l) (λ v. given (wanted (type_at types (length done)) v.at v.kind) (λ u.
    args_told (done ++ v.expr ∷ []) ms types s l))

-- as many arguments as there are types
abbrev pub counted_told : Place → List (Option Flat) → List Meaning → Scope → Names → Told (List Made)
counted_told at types ms s l = given (rule (length ms == length types) rules.count at) (λ u. args_told [] ms types s l)

-- arguments of what was refused
abbrev pub loose_told : Place → ℕ → List Meaning → Scope → Names → Told Typed
loose_told at code ms s l = given (fails code at) (λ u. given (args_told [] ms [] s l) (λ es.
    fine (typed at no_expr None)))

-- a conversion to an integer type
abbrev pub converted_told : Place → ℕ → Meaning → Scope → Names → Told Typed
converted_told at i m s l =
    given (m s l) (λ v. given (rule (is_integer v.kind) rules.integer v.at) (λ u.
    fine (typed at (expr.Into i v.expr) (kind_of (Some (int_flat i))))))

abbrev pub into_told : Place → ℕ → List Meaning → Scope → Names → Told Typed
into_told at i (m ∷ []) s l = converted_told at i m s l
into_told at i ms s l = loose_told at rules.count ms s l

abbrev pub make_told : Place → ℕ → Option Flat → List (Option Flat) → List Meaning → Scope → Names → Told Typed
make_told at r t fields ms s l = given (counted_told at fields ms s l) (λ es.
    fine (typed at (expr.Make r es) (kind_of t)))

abbrev pub call_told : Place → ℕ → List (Option Flat) → Option Flat → List Meaning → Scope → Names → Told Typed
call_told at f params reply ms s l = given (counted_told at params ms s l) (λ es.
    fine (typed at (expr.Apply f es) (kind_of reply)))

-- a record's value, a conversion or a call by what the name is; in an invariant only the first
abbrev pub applied_told : Place → Entry → Bool → List Meaning → Scope → Names → Told Typed
applied_told at (entry.Record r t fields) inside ms s l = make_told at r t fields ms s l
applied_told at (entry.Int i) inside ms s l = if inside then loose_told at rules.invariant ms s l else into_told at i
    ms s l
applied_told at (entry.Function f params reply) inside ms s l =
    if inside then loose_told at rules.invariant ms s l else call_told at f params reply ms s l
applied_told at _ inside ms s l = loose_told at rules.unknown ms s l

abbrev pub apply_told : Place → Told (Option Entry) → List Meaning → Scope → Names → Told Typed
apply_told at e ms s l = given e (λ x. of_name x)
  where
    of_name : Option Entry → Told Typed
    of_name (Some x) = applied_told at x (in_invariant l) ms s l
    of_name None = given (args_told [] ms [] s l) (λ es. fine (typed at no_expr None))

-- Fields

-- no field has this number
abbrev pub no_field : FoundField
no_field = record { index = 65535; ty = None }

abbrev pub field_entry : Place → Option Entry → Told FoundField
field_entry at (Some (entry.Field i t)) = fine (record { index = i; ty = t })
field_entry at _ = refused no_field rules.field at

-- in a record's table of fields
abbrev pub field_in : Place → List ℕ → Option Names → Told FoundField
field_in at n (Some fields) = field_entry at (look n fields)
field_in at n None = refused no_field rules.field at

-- the fields of a type that is a record
abbrev pub fields_of : Flat → List Names → Option Names
fields_of t records = if t.options == 0 then fields_at t.base else None
  where
    fields_at : Base → Option Names
    fields_at (Record r) = slice_get records r
    fields_at _ = None

abbrev pub field_of : Place → List ℕ → Option Kind → Scope → Told FoundField
field_of at n None s = fine no_field
field_of at n (Some Number) s = refused no_field rules.field at
field_of at n (Some (Of t)) s = field_in at n (fields_of t s.records)

-- a field of a field and so on, behind those that are done
abbrev pub path_told : Place → FieldPath → List (List ℕ) → Scope → Told FieldPath
path_told at done [] s = fine done
path_told at done (n ∷ ns) s =
    given (field_of at n done.kind s) (λ f. path_told at
    (record { path = done.path ++ f.index ∷ []; kind = kind_of f.ty }) ns s)

abbrev pub no_path : Option Kind → FieldPath
no_path k = record { path = []; kind = k }

-- the expression of a field, where there is one
abbrev pub expr_at : Made → List ℕ → Made
expr_at e [] = e
expr_at e (i ∷ is) = expr.Fields e (i ∷ is)

abbrev pub at_path : Typed → FieldPath → Typed
at_path v p = typed v.at (expr_at v.expr p.path) p.kind

abbrev pub SetMeaning : Type 0
SetMeaning = Place × List ℕ × Meaning

abbrev pub is_among : ℕ → List ℕ → Bool
is_among i taken = list_any (λ j. j == i) taken

-- a field that is not among these
abbrev pub is_new : ℕ → List ℕ → Bool
is_new i taken = (i == 65535) || not (is_among i taken)

-- a field that is set, of a record of this kind: it has the field, which is not set before
abbrev pub set_field : Place → List ℕ → List ℕ → Option Kind → Scope → Told FoundField
set_field at n taken k s = given (field_of at n k s) (λ f. given (rule (is_new f.index taken) rules.field at) (λ u.
    fine f))

-- its new value
abbrev pub set_value : Meaning → FoundField → Scope → Names → Told Made
set_value m f s l = given (m s l) (λ v. given (wanted f.ty v.at v.kind) (λ u. fine v.expr))

-- one set more
abbrev pub with_set : Sets → ℕ → Made → Sets
with_set done i e = record {
  sets = done.sets ++ roll-SetField
      (record { field = i; value = e }) ∷ [];
  taken = done.taken ++ i ∷ [];
}

unfoldable pub next_set_told : Sets → SetMeaning → Option Kind → Scope → Names → Told Sets
next_set_told done m k s l =
    given (set_field m.0 m.1 done.taken k s) (λ f. given (set_value m.2 f s l) (λ e. fine (with_set done f.index e)))

abbrev pub sets_told : Sets → List SetMeaning → Option Kind → Scope → Names → Told Sets
sets_told done [] k s l = fine done
sets_told done (m ∷ ms) k s l = given (next_set_told done m k s l) (λ d. sets_told d ms k s l)

abbrev pub no_sets : Sets
no_sets = record { sets = []; taken = [] }

abbrev pub is_record_base : Base → Bool
is_record_base (Record r) = true
is_record_base _ = false

-- the kind of a record; nothing else has fields to set
abbrev pub record_kind : Option Kind → Option Kind
record_kind (Some (Of t)) = if is_record_base t.base && (t.options == 0) then Some (Of t) else None
record_kind (Some Number) = None
record_kind None = None

-- a record with fields set, where some are
abbrev pub with_told : Typed → List SetMeaning → Scope → Names → Told Typed
with_told v [] s l = fine v
with_told v (m ∷ ms) s l = given (sets_told no_sets (m ∷ ms) v.kind s l) (λ d.
    fine (typed v.at (expr.With v.expr d.sets) (record_kind v.kind)))

-- Alternatives

abbrev pub number_in : Num → ℤ
number_in (Digits at n) = pos n
number_in (Negative at n) = neg_ℤ (pos n)

abbrev pub number_told : Place → ℤ → Told Typed
number_told at n = given (rule (is_number n) rules.numbers at) (λ u. fine (typed at (expr.Num n) (Some Number)))

abbrev pub truth : Place → ℕ → Typed
truth at i = typed at (expr.Tag 0 i) bool_kind

-- the none of an option
abbrev pub none_told : Place → TypeTree → Scope → Told Typed
none_told at t s = given (type_told t s.names) (λ u. given (option_of at u) (λ o.
    fine (typed at (expr.NoneOf (ty_of u)) (kind_of o))))

-- what a layer of expressions is made of once its parts have meanings
abbrev pub Layer : ((C E P S U O W : Type 0) → Type 0) → Type 0
Layer F = F Meaning Meaning Meaning Meaning Meaning Meaning SetMeaning

abbrev pub prim_step : Layer layer.Primary-F → Meaning
prim_step (layer.Number at n) s l = number_told at (number_in n)
prim_step (layer.True at) s l = fine (truth at 1)
prim_step (layer.False at) s l = fine (truth at 0)
prim_step (layer.It at) s l = it_told at (look it_name l)
prim_step (layer.Name at n) s l = given (named at n s l) (value_named at)
prim_step (layer.Entry at n m) s l =
    given (map_told at n s l) (λ f. given (m s l) (λ k. given (wanted f.key k.at k.kind) (λ u.
    fine (typed at (expr.Cell f.state (Some k.expr)) (kind_of f.value)))))
prim_step (layer.Apply at n ms) s l = apply_told at (named at n s l) ms s l
prim_step (layer.NoneOf at t) s l = none_told at t s
prim_step (layer.SomeOf at m) s l =
    given (m s l) (λ v. given (rule (is_value v.kind) rules.number v.at) (λ u.
    given (option_of at (value_of v.kind)) (λ o.
    fine (typed at (expr.SomeOf v.expr) (kind_of o)))))
prim_step (layer.Group at m) s l = given (m s l) (λ v. fine (typed at v.expr v.kind))

abbrev pub set_step : Layer layer.Set-F → SetMeaning
set_step x = (x.at, x.field, x.value)

abbrev pub post_step : Layer layer.Post-F → Meaning
post_step x s l =
    given (x.prim s l) (λ v. given (path_told x.at (no_path v.kind) x.fields s) (λ p.
    with_told (at_path v p) x.sets s l))

abbrev pub unary_step : Layer layer.Unary-F → Meaning
unary_step (layer.Bare at m) s l = m s l
unary_step (layer.Not at m) s l = given (m s l) (λ v. given (as_condition v) (λ e.
    fine (typed at (expr.Not e) bool_kind)))

-- a sum with a number
abbrev pub shift_told : Place → Meaning → ℤ → Scope → Names → Told Typed
shift_told at m by s l =
    given (m s l) (λ v. given (rule (is_integer v.kind) rules.integer v.at) (λ u.
    given (rule (is_number by) rules.numbers at) (λ u.
    fine (typed at (expr.Shift v.expr by) (Some Number)))))

abbrev pub sum_step : Layer layer.Sum-F → Meaning
sum_step (layer.Term at m) s l = m s l
sum_step (layer.Plus at m n) s l = shift_told at m (pos n) s l
sum_step (layer.Minus at m n) s l = shift_told at m (neg_ℤ (pos n)) s l

abbrev pub op_of : Relation → Op
op_of relation.Equal = op.Eq
op_of relation.NotEqual = op.Ne
op_of relation.Less = op.Lt
op_of relation.AtMost = op.Le
op_of relation.Greater = op.Gt
op_of relation.AtLeast = op.Ge

abbrev pub ordered : Option Kind → Option Kind → Place → Told (Unit {0})
ordered left right at = rule (is_integer left && is_integer right) rules.order at

-- the rule on the sides of a comparison
abbrev pub compared : Relation → Option Kind → Option Kind → Place → Told (Unit {0})
compared relation.Equal left right at = rule (are_equal_kinds left right) rules.sides at
compared relation.NotEqual left right at = rule (are_equal_kinds left right) rules.sides at
compared _ left right at = ordered left right at

abbrev pub cmp_step : Layer layer.Cmp-F → Meaning
cmp_step (layer.Side at m) s l = m s l
cmp_step (layer.Compared at m r n) s l =
    given (m s l) (λ a. given (n s l) (λ b. given (compared r a.kind b.kind at) (λ u.
    fine (typed at (expr.Compare (op_of r) a.expr b.expr) bool_kind))))

abbrev pub expr_step : Layer layer.Expr-F → Meaning
expr_step (layer.Single at m) s l = m s l
expr_step (layer.All at m n ms) s l = given (operands_told [] (m ∷ n ∷ ms) s l) (λ es.
    fine (typed at (expr.All es) bool_kind))
expr_step (layer.Any at m n ms) s l = given (operands_told [] (m ∷ n ∷ ms) s l) (λ es.
    fine (typed at (expr.Any es) bool_kind))

abbrev pub cmp_told : Cmp → Meaning
cmp_told = fold-Cmp Meaning Meaning Meaning Meaning Meaning Meaning SetMeaning cmp_step
    expr_step prim_step sum_step unary_step post_step set_step

abbrev pub expr_told : Expr → Meaning
expr_told = fold-Expr Meaning Meaning Meaning Meaning Meaning Meaning SetMeaning cmp_step
    expr_step prim_step sum_step unary_step post_step set_step

abbrev pub prim_told : Primary → Meaning
prim_told = fold-Primary Meaning Meaning Meaning Meaning Meaning Meaning SetMeaning cmp_step
    expr_step prim_step sum_step unary_step post_step set_step

abbrev pub sum_told : Sum → Meaning
sum_told = fold-Sum Meaning Meaning Meaning Meaning Meaning Meaning SetMeaning cmp_step
    expr_step prim_step sum_step unary_step post_step set_step

abbrev pub unary_told : Unary → Meaning
unary_told = fold-Unary Meaning Meaning Meaning Meaning Meaning Meaning SetMeaning cmp_step
    expr_step prim_step sum_step unary_step post_step set_step

abbrev pub post_told : Post → Meaning
post_told = fold-Post Meaning Meaning Meaning Meaning Meaning Meaning SetMeaning cmp_step
    expr_step prim_step sum_step unary_step post_step set_step

abbrev pub set_told : Set → SetMeaning
set_told = fold-Set Meaning Meaning Meaning Meaning Meaning Meaning SetMeaning cmp_step
    expr_step prim_step sum_step unary_step post_step set_step
