-- When tables are those of a well typed model: the type rules and what the grammar gives, as far as they
-- speak of numbers instead of names.
use Rattle.std.specs.Prelude.{ℕ, ◌+◌, ◌≤◌, leb, int_le, Bool, true, false, not, ◌&&◌, List, [], ◌∷◌, map, length, sum}
use Rattle.std.specs.Prelude.{codes, bytes_eq, Option, Some, None, IsTrue}
use Rattle.std.specs.List.{list_all}
use Rattle.cm_model.specs.Limits.{declaration_limit, function_limit, call_limit, variant_limit, shift_limit}
use Rattle.cm_model.specs.Limits.{parameters_width_limit, parameters_integer_limit, invariant_weight_limit}
use Rattle.cm_model.specs.Limits.{body_weight_limit}
use Rattle.cm_model.specs.Limits.{is_number}
use Rattle.cm_model.specs.Tables.{Tables}
use Rattle.cm_model.specs.Types.{is_type_before, is_type_in_use, width_of, integers_of, holds_option}
use Rattle.cm_model.specs.Kinds.{scope, is_bool, kind_of}
use Rattle.cm_model.specs.Blocks.{is_body, always_returns}
use Rattle.cm_model.specs.Weights.{expr_weight, body_weight, fun_weights, shifts_of, body_shifts}
use Rattle.cm_model.specs.Names.{is_name, are_distinct, declared_names, part_names}
use Rattle.cm_model.specs.Plain.{is_plain}
use Rattle.cm_model.specs.declared.ty.Ty.{Ty}
use Rattle.cm_model.specs.declared.ty.Ty.TheVariants as form
use Rattle.cm_model.specs.declared.ty.IntDecl.{IntDecl}
use Rattle.cm_model.specs.declared.ty.EnumDecl.{EnumDecl}
use Rattle.cm_model.specs.declared.ty.RecDecl.{RecDecl}
use Rattle.cm_model.specs.declared.body.StateDecl.{StateDecl}
use Rattle.cm_model.specs.declared.body.Call.{Call}
use Rattle.cm_model.specs.declared.body.Expr.{Expr}

-- each one, where it stands behind so many others
abbrev pub each_from : {X : Type 0} → (ℕ → X → Bool) → ℕ → List X → Bool
each_from p n [] = true
each_from p n (x ∷ xs) = p n x && each_from p (n + 1) xs

-- from lo to hi, both near enough to 0
abbrev pub is_range : IntDecl → Bool
is_range d = (is_number d.lo && is_number d.hi) && int_le d.lo d.hi

-- some variants, but not too many
abbrev pub is_enum : EnumDecl → Bool
is_enum d = leb 1 (length d.variants) && leb (length d.variants) variant_limit

-- enum 0 is bool
abbrev pub begins_with_bool : List EnumDecl → Bool
begins_with_bool [] = false
begins_with_bool (d ∷ ds) = bytes_eq d.name (codes "bool") && is_false_true d.variants
  where
    is_false_true : List (List ℕ) → Bool
    is_false_true (f ∷ t ∷ []) = bytes_eq f (codes "false") && bytes_eq t (codes "true")
    is_false_true _ = false

-- fields of earlier records' types, with other names each; the record is a type in use itself
abbrev pub is_record : Tables → ℕ → RecDecl → Bool
is_record t n d =
    leb 1 (length d.fields) && (list_all (λ p. is_type_before t n p.ty && is_type_in_use t p.ty) d.fields
    && ((are_distinct (part_names d.fields) && list_all is_name (part_names d.fields))
    && is_type_in_use t (form.Rec n)))

-- a type in use that a key may have
abbrev pub is_key_type : Tables → Option Ty → Bool
is_key_type t None = true
is_key_type t (Some ty) = is_type_in_use t ty && not (holds_option t ty)

-- an invariant of values of a type
abbrev pub is_invariant : Tables → Ty → Option Expr → Bool
is_invariant t ty None = true
is_invariant t ty (Some e) =
    is_bool (kind_of (scope t 0 (ty ∷ [])) e) && (is_plain e && (leb (expr_weight [] e) invariant_weight_limit
    && leb (shifts_of e) shift_limit))

abbrev pub is_state : Tables → StateDecl → Bool
is_state t d = is_key_type t d.key && (is_type_in_use t d.value && is_invariant t d.value d.inv)

-- the parameters of a function or call
abbrev pub are_parameters : Tables → List Ty → Bool
are_parameters t types =
    list_all (is_type_in_use t) types && (leb (sum (map (width_of t) types)) parameters_width_limit
    && leb (sum (map (integers_of t) types)) parameters_integer_limit)

-- a function or call over the first functions
abbrev pub is_call : Tables → ℕ → Call → Bool
is_call t funs d =
    (are_parameters t (map (λ p. p.ty) d.params) && (are_distinct (d.name ∷ part_names d.params)
    && list_all is_name (part_names d.params)))
    && ((leb d.outer (length d.params) && is_type_in_use t d.reply)
    && ((is_body t funs d.reply (map (λ p. p.ty) d.params) d.body && always_returns d.body)
    && (leb (body_weight (fun_weights t.funs) d.body) body_weight_limit && leb (body_shifts d.body) shift_limit)))

-- a function has no internal parameters, and calls earlier ones only
abbrev pub is_fun : Tables → ℕ → Call → Bool
is_fun t n d = leb (length d.params) d.outer && is_call t n d

pub record IsWellTyped (t : Tables) : Type 0 where
  -- how many there may be
  pub few_sorts : length t.sorts ≤ declaration_limit
  pub few_ints : length t.ints ≤ declaration_limit
  pub few_enums : length t.enums ≤ declaration_limit + 1
  pub few_records : length t.records ≤ declaration_limit
  pub few_states : length t.states ≤ declaration_limit
  pub few_funs : length t.funs ≤ function_limit
  pub few_calls : length t.calls ≤ call_limit
  -- names
  pub distinct : IsTrue (are_distinct (declared_names t))
  pub names : IsTrue (list_all is_name (declared_names t))
  -- declarations
  pub ranges : IsTrue (list_all is_range t.ints)
  pub bool : IsTrue (begins_with_bool t.enums)
  pub variants : IsTrue (list_all is_enum t.enums)
  pub fields : IsTrue (each_from (is_record t) 0 t.records)
  pub cells : IsTrue (list_all (is_state t) t.states)
  pub functions : IsTrue (each_from (is_fun t) 0 t.funs)
  pub bodies : IsTrue (list_all (is_call t (length t.funs)) t.calls)
