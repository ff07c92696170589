-- What declarations and a whole tree are told to be.
use Rattle.std.specs.Prelude.{◌≡◌, ℕ, ◌+◌, ◌≤◌, ltb, leb, int_le, Bool, not, ◌&&◌, List, [], ◌∷◌, ◌++◌, length, codes}
use Rattle.std.specs.Prelude.{Option, Some, None, Result, Ok, Err}
use Rattle.cm_model.specs.Limits.{declaration_limit, function_limit, call_limit, variant_limit, parameters_width_limit}
use Rattle.cm_model.specs.Limits.{width_limit, invariant_weight_limit, body_weight_limit, is_number}
use Rattle.cm_model.specs.Tables.{Tables, tables}
use Rattle.cm_model.specs.Weights.{expr_weight, body_weight}
use Rattle.cm_model.specs.declared.place.Place.{Place}
use Rattle.cm_model.specs.declared.ty.Ty.{Ty}
use Rattle.cm_model.specs.declared.ty.IntDecl.{IntDecl}
use Rattle.cm_model.specs.declared.ty.EnumDecl.{EnumDecl}
use Rattle.cm_model.specs.declared.ty.RecDecl.{RecDecl}
use Rattle.cm_model.specs.declared.ty.Part.{Part as ModelPart}
use Rattle.cm_model.specs.declared.body.StateDecl.{StateDecl}
use Rattle.cm_model.specs.declared.body.Call.{Call}
use Rattle.cm_model.specs.declared.body.Expr.{Expr as Made}
use Rattle.cm_model.specs.declared.body.Stmt.{Stmt as Step}
use Rattle.cm_syntax.specs.declared.tree.Num.{Num}
use Rattle.cm_syntax.specs.declared.tree.Part.{Part}
use Rattle.cm_syntax.specs.declared.tree.«Type».{«Type» as TypeTree}
use Rattle.cm_syntax.specs.declared.tree.Expr.{Expr}
use Rattle.cm_syntax.specs.declared.tree.Block.{Block}
use Rattle.cm_syntax.specs.declared.tree.Decl.{Decl}
use Rattle.cm_syntax.specs.declared.tree.Decl.TheVariants as decl
use Rattle.cm_syntax.specs.declared.tree.Tree.{Tree}
use Rattle.cm_typing.specs.declared.fault.TypeFault.{TypeFault}
use Rattle.cm_typing.specs.declared.fault.TypeFault.TheVariants.{Rule, Memory}
use Rattle.cm_typing.specs.declared.flat.Flat.{Flat}
use Rattle.cm_typing.specs.declared.names.Entry.{Entry}
use Rattle.cm_typing.specs.declared.names.Entry.TheVariants as entry
use Rattle.cm_typing.specs.declared.scope.Scope.{Scope}
use Rattle.cm_typing.specs.declared.scope.Draft.{Draft}
use Rattle.cm_typing.specs.declared.told.Body.{Body}
use Rattle.cm_typing.specs.declared.told.FoundMap.{FoundMap}
use Rattle.cm_typing.specs.declared.told.Params.{Params}
use Rattle.cm_typing.specs.declared.told.Routine.{Routine}
use Rattle.cm_typing.specs.Told.{Told, Broken, fine, given, rule, first}
use Rattle.cm_typing.specs.Names.{Names, is_taken, more, it_name}
use Rattle.cm_typing.specs.Flats.{is_key, are_parameters, record_of, ty_of}
use Rattle.cm_typing.specs.Types.{type_told}
use Rattle.cm_typing.specs.Expressions.{as_condition, expr_told, number_in}
use Rattle.cm_typing.specs.Statements.{unbound, of_block}
use Rattle.cm_typing.specs.Rules as rules

-- Names and numbers of declarations

-- a name that is new
abbrev pub new_name : Place → List ℕ → Scope → Told (Unit {0})
new_name at n s = rule (not (is_taken n s.names)) rules.taken at

abbrev pub declare : Scope → List ℕ → Entry → Scope
declare s n e = record s { names = more s.names n e }

-- the number of a declaration, where so many of its kind are before it
abbrev pub next_number : Place → ℕ → ℕ → Told ℕ
next_number at before limit = given (rule (ltb before limit) rules.many at) (λ u. fine before)

-- the same for a new name
abbrev pub next_named : Place → List ℕ → ℕ → ℕ → Scope → Told ℕ
next_named at n before limit s = given (new_name at n s) (λ u. next_number at before limit)

-- Types

abbrev pub is_range : Num → Num → Bool
is_range low high = (is_number (number_in low) && is_number (number_in high)) && int_le (number_in low) (number_in high)

-- a variant of an enum
abbrev pub variant_told : Place → ℕ → ℕ → List ℕ → Scope → Told Scope
variant_told at e i n s = given (new_name at n s) (λ u. fine (declare s n (entry.Variant e i)))

-- variants of an enum, from number i on
abbrev pub variants_told : Place → ℕ → ℕ → List (List ℕ) → Scope → Told Scope
variants_told at e i [] s = fine s
variants_told at e i (n ∷ ns) s = given (variant_told at e i n s) (λ t. variants_told at e (i + 1) ns t)

abbrev pub model_part : List ℕ → Option Flat → ModelPart
model_part n t = record { name = n; ty = ty_of t }

abbrev pub params : List ModelPart → List (Option Flat) → Params
params ps ts = record { parts = ps; types = ts }

-- one part more
abbrev pub with_part : Params → List ℕ → Option Flat → Params
with_part p n t = params (p.parts ++ model_part n t ∷ []) (p.types ++ t ∷ [])

abbrev pub no_params : Params
no_params = params [] []

-- a field of the record at a place, behind those that are done; one with a 33rd field is too wide
abbrev pub field_told : Place → Params → Part → Scope → Names → Told (Params × Names)
field_told at done p s fields =
    given (rule (not (is_taken p.name fields)) rules.taken p.at) (λ u.
    given (rule (ltb (length fields) width_limit) rules.wide at) (λ u.
    given (type_told p.value s.names) (λ t.
    fine (with_part done p.name t, more fields p.name (entry.Field (length fields) t)))))

abbrev pub fields_told : Place → Params → List Part → Scope → Names → Told (Params × Names)
fields_told at done [] s fields = fine (done, fields)
fields_told at done (p ∷ ps) s fields = given (field_told at done p s fields) (λ q. fields_told at q.0 ps s q.1)

-- Functions and calls

-- a parameter, behind those that are done; a declaration with a 65th has too many
abbrev pub param_told : Params → Part → Scope → Names → Told (Params × Names)
param_told done p s l =
    given (unbound p.at p.name s l) (λ u. given (rule (ltb (length l) parameters_width_limit) rules.many s.at) (λ u.
    given (type_told p.value s.names) (λ t. fine (with_part done p.name t, more l p.name (entry.Local (length l) t)))))

abbrev pub params_told : Params → List Part → Scope → Names → Told (Params × Names)
params_told done [] s l = fine (done, l)
params_told done (p ∷ ps) s l = given (param_told done p s l) (λ q. params_told q.0 ps s q.1)

-- a block that always returns
abbrev pub returning_told : Block → Scope → Names → Told (List Step)
returning_told b s l = given ((of_block s b).told l) (λ o. given (rule o.returns rules.returns b.at) (λ u.
    fine o.steps))

-- a weight that is not too heavy
abbrev pub weight_of : ℕ → Place → Told ℕ
weight_of w at = given (rule (leb w body_weight_limit) rules.heavy at) (λ u. fine w)

abbrev pub weight_told : List Step → Scope → Told ℕ
weight_told body s = weight_of (body_weight s.weights body) s.at

abbrev pub body_told : Block → Scope → Names → Told Body
body_told b s l = given (returning_told b s l) (λ xs. given (weight_told xs s) (λ w.
    fine (record { steps = xs; weight = w })))

abbrev pub routine : List ℕ → ℕ → Params → Option Flat → Body → Routine
routine n outer p reply body = record {
  call = record { name = n; params = p.parts; outer = outer; reply = ty_of reply; body = body.steps };
  types = p.types;
  reply = reply;
  weight = body.weight;
}

-- outer parameters and internal ones, behind those that are done; and how many are outer
abbrev pub all_params_told : List Part → List Part → Params → Scope → Names → Told (ℕ × Params × Names)
all_params_told ps qs done s l =
    given (params_told done ps s l) (λ p. given (params_told p.0 qs s p.1) (λ q.
    given (rule (are_parameters q.0.types) rules.many s.at) (λ u. fine (length p.1, q.0, q.1))))

abbrev pub reply_in : Scope → Option Flat → Scope
reply_in s t = record s { reply = t }

-- a function or a call, where these names may be used
abbrev pub routine_told : List ℕ → List Part → List Part → TypeTree → Block → Scope → Told Routine
routine_told n ps qs r b s =
    given (all_params_told ps qs no_params s []) (λ p. given (type_told r s.names) (λ t.
    given (body_told b (reply_in s t) p.2) (λ body.
    fine (routine n p.0 p.1 t body))))

-- its own name is taken in it and may not be used
abbrev pub inside : Scope → Place → List ℕ → Scope
inside s at n = record (declare s n entry.Unusable) { at = at }

-- Tables

abbrev pub sorts_with : Draft → List ℕ → Draft
sorts_with d n = record d { sorts = d.sorts ++ n ∷ [] }

abbrev pub ints_with : Draft → List ℕ → Num → Num → Draft
ints_with d n low high = record d {
  ints = d.ints ++ (record { name = n; lo = number_in low; hi = number_in high }) ∷ [];
}

abbrev pub enums_with : Draft → List ℕ → List (List ℕ) → Draft
enums_with d n vs = record d { enums = d.enums ++ (record { name = n; variants = vs }) ∷ [] }

abbrev pub records_with : Draft → List ℕ → List ModelPart → Draft
records_with d n fields = record d { records = d.records ++ (record { name = n; fields = fields }) ∷ [] }

abbrev pub key_of : Option (Option Flat) → Option Ty
key_of None = None
key_of (Some t) = Some (ty_of t)

-- a state with its key's type where it is a map, and its invariant where it has one
abbrev pub states_with : Draft → List ℕ → Option (Option Flat) → Option Flat → Option Made → Draft
states_with d n key value inv =
    record d { states = d.states ++ (record { name = n; key = key_of key; value = ty_of value; inv = inv }) ∷ [] }

abbrev pub funs_with : Draft → Call → Draft
funs_with d c = record d { funs = d.funs ++ c ∷ [] }

abbrev pub calls_with : Draft → Call → Draft
calls_with d c = record d { calls = d.calls ++ c ∷ [] }

-- States

-- the types of a map's keys and values
abbrev pub map_types_told : Place → ℕ → TypeTree → TypeTree → Scope → Told FoundMap
map_types_told at m k v s =
    given (type_told k s.names) (λ key. given (type_told v s.names) (λ value.
    given (rule (is_key key) rules.key at) (λ u.
    fine (record { state = m; key = key; value = value }))))

abbrev pub map_entry : FoundMap → Entry
map_entry m = entry.Map m.state m.key m.value

-- an invariant of values of a type, of the state at a place
abbrev pub invariant_told : Place → Option Flat → Expr → Scope → Told Made
invariant_told at t e s =
    given (expr_told e s ((it_name, entry.Local 0 t) ∷ [])) (λ v. given (as_condition v) (λ x.
    given (rule (leb (expr_weight [] x) invariant_weight_limit) rules.invariant at) (λ u. fine x)))

-- Declarations

-- the names and the tables so far
abbrev pub Declared : Type 0
Declared = Scope × Draft

abbrev pub with_record : Scope → List ℕ → ℕ → Option Flat → Params → Names → Scope
with_record s n r t p fields = record (declare s n (entry.Record r t p.types)) { records = s.records ++ fields ∷ [] }

abbrev pub with_function : Scope → List ℕ → ℕ → Routine → Scope
with_function s n f r = record (declare s n (entry.Function f r.types r.reply)) { weights = s.weights ++ r.weight ∷ [] }

abbrev pub decl_told : Decl → Scope → Draft → Told Declared
decl_told (decl.Sort at n) s d =
    given (next_named at n (length d.sorts) declaration_limit s) (λ k.
    fine (declare s n (entry.Sort k), sorts_with d n))
decl_told (decl.Int at n low high) s d =
    given (next_named at n (length d.ints) declaration_limit s) (λ k.
    given (rule (is_range low high) rules.numbers at) (λ u.
    fine (declare s n (entry.Int k), ints_with d n low high)))
decl_told (decl.Enum at n v vs) s d =
    given (next_named at n (length d.enums) (declaration_limit + 1) s) (λ k.
    given (rule (leb (length (v ∷ vs)) variant_limit) rules.variants at) (λ u.
    given (variants_told at k 0 (v ∷ vs) (declare s n (entry.Enum k))) (λ t. fine (t, enums_with d n (v ∷ vs)))))
decl_told (decl.Record at n p ps) s d =
    given (next_named at n (length d.records) declaration_limit s) (λ k.
    given (fields_told at no_params (p ∷ ps) s []) (λ q.
    given (record_of at k q.0.types) (λ t. fine (with_record s n k t q.0 q.1, records_with d n q.0.parts))))
decl_told (decl.Cell at n v) s d =
    given (next_named at n (length d.states) declaration_limit s) (λ k. given (type_told v s.names) (λ t.
    fine (declare s n (entry.Cell k t), states_with d n None t None)))
decl_told (decl.CellWhere at n v e) s d =
    given (next_named at n (length d.states) declaration_limit s) (λ k. given (type_told v s.names) (λ t.
    given (invariant_told at t e (declare s n (entry.Cell k t))) (λ i.
    fine (declare s n (entry.Cell k t), states_with d n None t (Some i)))))
decl_told (decl.Map at n k v) s d =
    given (next_named at n (length d.states) declaration_limit s) (λ m. given (map_types_told at m k v s) (λ t.
    fine (declare s n (map_entry t), states_with d n (Some t.key) t.value None)))
decl_told (decl.MapWhere at n k v e) s d =
    given (next_named at n (length d.states) declaration_limit s) (λ m. given (map_types_told at m k v s) (λ t.
    given (invariant_told at t.value e (declare s n (map_entry t))) (λ i.
    fine (declare s n (map_entry t), states_with d n (Some t.key) t.value (Some i)))))
decl_told (decl.Function at n ps r b) s d =
    given (next_named at n (length d.funs) function_limit s) (λ k.
    given (routine_told n ps [] r b (inside s at n)) (λ f.
    fine (with_function s n k f, funs_with d f.call)))
decl_told (decl.Call at n ps qs r b) s d =
    given (next_named at n (length d.calls) call_limit s) (λ k. given (routine_told n ps qs r b (inside s at n)) (λ f.
    fine (declare s n entry.Unusable, calls_with d f.call)))

abbrev pub decls_told : List Decl → Scope → Draft → Told Declared
decls_told [] s d = fine (s, d)
decls_told (x ∷ xs) s d = given (decl_told x s d) (λ e. decls_told xs e.0 e.1)

-- nothing is declared
abbrev pub no_names : Place → Scope
no_names at = record { names = []; records = []; weights = []; at = at; reply = None }

-- `bool` alone
abbrev pub no_tables : Draft
no_tables = record {
  sorts = [];
  ints = [];
  enums = (record { name = codes "bool"; variants = codes "false" ∷ codes "true" ∷ [] }) ∷ [];
  records = [];
  states = [];
  funs = [];
  calls = [];
}

abbrev pub told : Tree → Told Declared
told tree = decls_told (tree.first ∷ tree.more) (no_names tree.at) no_tables

abbrev pub tables_in : Draft → Tables
tables_in d = tables d.sorts d.ints d.enums d.records d.states d.funs d.calls

-- THE TABLES OF A TREE, and all rules that fail in it.
abbrev pub tables_of : Tree → Tables
tables_of tree = tables_in (told tree).0.1

abbrev pub faults_of : Tree → List Broken
faults_of tree = (told tree).1

-- THE ANSWER OF A CHECK: the tables where no rule fails, and else the first that does; want of memory aside.
abbrev pub IsAnswer : Tree → Result Draft TypeFault → Type 0
IsAnswer tree (Ok d) = (faults_of tree ≡ []) × (tables_in d ≡ tables_of tree)
IsAnswer tree (Err (Rule code at)) = first (faults_of tree) ≡ Some (record { code = code; place = at })
IsAnswer tree (Err Memory) = Unit {0}
