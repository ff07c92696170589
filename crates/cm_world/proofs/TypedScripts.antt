-- Well typed expressions, statements and calls keep to their types.
use Rattle.std.proofs.Common.{◌≡◌, ℕ, zero, suc, ◌+◌, ◌<◌, ◌==◌, ltb, leb, ℤ, ◌+ℤ◌, Bool, true, false, not, ◌&&◌, List}
use Rattle.std.proofs.Common.{[], ◌∷◌, ◌++◌, map, length, take, get_or, Option, Some, None, slice_get, IsTrue, refl}
use Rattle.std.proofs.Common.{sym, ap, ◌∙◌, subst, if◌then◌else◌, append_assoc, arith, is_some}
use Rattle.std.specs.Prelude.{option_map}
use Rattle.std.specs.List.{list_all}
use Rattle.std.proofs.lemmas.List.{append-nil}
use Rattle.std.proofs.lemmas.Bool.{and_parts, and_from, ltb-true, lt-ltb}
use Rattle.cm_model.specs.Tables.{Tables}
use Rattle.cm_model.specs.WellTyped.{IsWellTyped, is_call, is_fun}
use Rattle.cm_model.specs.Limits.{is_number}
use Rattle.cm_model.specs.Kinds.{Kind, Number, Of, Scope, Set, scope, given, if_so, is_bool, is_integer, is_of, bool_ty}
use Rattle.cm_model.specs.Kinds.{type_of, are_of, is_named, field_of, type_at, payload_of, are_sets, is_key, kind_step}
use Rattle.cm_model.specs.Kinds.{set_step, kind_of}
use Rattle.cm_model.specs.declared.ty.Ty.{Ty}
use Rattle.cm_model.specs.declared.ty.Ty.TheVariants as ty
use Rattle.cm_model.specs.declared.ty.Part.{Part}
use Rattle.cm_model.specs.declared.ty.IntDecl.{IntDecl}
use Rattle.cm_model.specs.declared.ty.EnumDecl.{EnumDecl}
use Rattle.cm_model.specs.declared.ty.RecDecl.{RecDecl}
use Rattle.cm_model.specs.declared.body.Op.{Op}
use Rattle.cm_model.specs.declared.body.Op.TheVariants as op
use Rattle.cm_model.specs.declared.body.Call.{Call}
use Rattle.cm_model.specs.declared.body.StateDecl.{StateDecl}
use Rattle.cm_model.specs.declared.body.SetField.{SetField, fold-SetField, out-SetField, roll-out-SetField}
use Rattle.cm_model.specs.declared.body.SetField.{fold-roll-SetField}
use Rattle.cm_model.specs.Blocks.{Typing, block_typing, stmt_step, typing_of, is_body, always_returns}
use Rattle.cm_model.specs.declared.body.Stmt.{Stmt}
use Rattle.cm_model.specs.declared.body.Stmt.TheViews.{roll-Stmt}
use Rattle.cm_model.specs.declared.body.Stmt.TheOpen.{Stmt-F}
use Rattle.cm_model.specs.declared.body.Stmt.TheFolds.{fold-roll-Stmt, ind-Stmt, map-Stmt}
use Rattle.cm_model.specs.declared.body.Expr.{Expr}
use Rattle.cm_model.specs.declared.body.Expr.TheViews.{roll-Expr}
use Rattle.cm_model.specs.declared.body.Expr.TheOpen.{Expr-F}
use Rattle.cm_model.specs.declared.body.Expr.TheFolds.{fold-roll-Expr, ind-Expr, map-Expr}
use Rattle.cm_value.specs.declared.value.Value.{Value}
use Rattle.cm_value.specs.declared.value.Value.TheVariants as value
use Rattle.cm_value.specs.Membership.{IsValueOf, is_value_of, are_values_of}
use Rattle.cm_model.proofs.KindParts.{chosen, given_some, typed_kind, compared}
use Rattle.cm_value.proofs.Declared.{all_at, each_at}
use Rattle.cm_eval.proofs.Functions.{function_meaning}
use Rattle.std.proofs.lemmas.List.{take_all, length-take}
use Rattle.std.proofs.lemmas.Option.{slice_get_within}
use Rattle.cm_value.proofs.Members.{member-int, member-tag, member-rec, member-none, member-some, value_at}
use Rattle.cm_value.proofs.Types.{out_int, out_enum, out_rec, out_option}
use Rattle.cm_eval.specs.declared.log.CellName.{CellName}
use Rattle.cm_eval.specs.declared.operand.Operand.{Operand}
use Rattle.cm_eval.specs.declared.operand.Operand.TheVariants as operand
use Rattle.cm_eval.specs.Script as script
use Rattle.cm_eval.specs.Script.{Replies, Blocks, Decides, Reads, Writes}
use Rattle.cm_eval.specs.Comparison.{ordered, option_of, presence, parts_of}
use Rattle.cm_eval.specs.Evaluation as evaluation
use Rattle.cm_eval.specs.Evaluation.{Doing, Meaning, SetMeaning, Called, value_of, number_of, choice_of, bool, flag}
use Rattle.cm_eval.specs.Evaluation.{inspects, ranged, orders, compares, compares_by, valued, numbered, inspected}
use Rattle.cm_eval.specs.Evaluation.{fun_at, values_of, all_of, any_of, named, cell_of, field_in, with_field, sets_of}
use Rattle.cm_eval.specs.Evaluation.{into_type, meaning_step, meaning_of, opens, Turn, block_of, branch_of}
use Rattle.cm_eval.specs.Evaluation.{some_branch_of, case_branch, turn_step, turn_of, body_of, meanings, call_of}
use Rattle.cm_eval.specs.State.{same_value}
use Rattle.cm_eval.proofs.Comparing.{comparison_goes}
use Rattle.cm_world.specs.World.{IsCellOf, is_cell_in, is_value_in, fits_key}
use Rattle.cm_world.proofs.TypedValues.{of_one, some_kind, integer_kind, some_types, get_take, take_take, bool_enum}
use Rattle.cm_world.proofs.TypedValues.{kind_is, bool_is, field_typed, with_typed, payload_typed, in_range}

module _ (t : Tables) where
  abbrev pub IsCellValue : CellName → Value → Type 0
  IsCellValue c v = IsTrue (is_value_in t (slice_get t.states c.state) v)

  -- a script reads and writes cells of the model, with values of their types, and its reply has R
  abbrev pub IsTypedScript : (Value → Type 0) → Doing → Type 0
  IsTypedScript R (Replies v) = R v
  IsTypedScript R Blocks = Unit {0}
  IsTypedScript R (Decides d k) = IsTypedScript R (k d)
  IsTypedScript R (Reads c k) = IsCellOf t c × ((v : Value) → IsCellValue c v → IsTypedScript R (k v))
  IsTypedScript R (Writes c v k) = IsCellOf t c × IsCellValue c v × IsTypedScript R k

module _ (t : Tables) (typed : IsWellTyped t) where
  abbrev IsValueIn : CellName → Value → Type 0
  IsValueIn = IsCellValue t

  module _ (R : Value → Type 0) where
    abbrev KeepsTypes : Doing → Type 0
    KeepsTypes = IsTypedScript t R

    abbrev IsOfKind : Kind → Operand → Type 0
    IsOfKind (Of u) (operand.Plain v) = IsValueOf t u v
    IsOfKind (Of u) (operand.Number n) = ⊥
    IsOfKind Number (operand.Number n) = Unit {0}
    IsOfKind Number (operand.Plain v) = ⊥

    abbrev AreTyped : List Ty → List Value → Type 0
    AreTyped ls vs = IsTrue (are_values_of t ls vs)

    -- an expression comes to an operand of its kind
    abbrev Makes : List Ty → Kind → Meaning → Type 0
    Makes ls kind m = (locals : List Value) (k : Operand → Doing) → AreTyped ls locals
        → ((o : Operand) → IsOfKind kind o → KeepsTypes (k o)) → KeepsTypes (m locals k)

    -- a function comes to a value of its reply type
    abbrev Answers : Call → Called → Type 0
    Answers d f = (args : List Value) (k : Value → Doing) → AreTyped (map (λ p. p.ty) d.params) args
        → ((v : Value) → IsValueOf t d.reply v → KeepsTypes (k v)) → KeepsTypes (f args k)

    given_keeps : {X : Type 0} (o : Option X) (k : X → Doing) → ((x : X) → o ≡ Some x → KeepsTypes (k x))
        → KeepsTypes (script.given o k)
    given_keeps (Some x) k h = h x refl
    given_keeps None k h = tt

    any_given : {X : Type 0} (o : Option X) (k : X → Doing) → ((x : X) → KeepsTypes (k x))
        → KeepsTypes (script.given o k)
    any_given o k h = given_keeps o k (λ x is. h x)

    valued_keeps : (ls : List Ty) (u : Ty) (m : Meaning) → Makes ls (Of u) m → (locals : List Value) (k : Value → Doing)
        → AreTyped ls locals
        → ((v : Value) → IsValueOf t u v → KeepsTypes (k v)) → KeepsTypes (valued m locals k)
    valued_keeps ls u m makes locals k are h = makes locals (λ o. script.given (value_of o) k) are by
      where
        by : (o : Operand) → IsOfKind (Of u) o → KeepsTypes (script.given (value_of o) k)
        by (operand.Plain v) is = h v is
        by (operand.Number n) is = absurd is

    inspects_keeps : (o : Operand) (k : Bool → Doing) → ((b : Bool) → KeepsTypes (k b)) → KeepsTypes (inspects o k)
    inspects_keeps o k h = any_given (choice_of o) (λ n. Decides n (λ d. k (d == 1))) (λ n. h (n == 1))

    inspected_keeps : (ls : List Ty) (kind : Kind) (m : Meaning) → Makes ls kind m
        → (locals : List Value) (k : Bool → Doing) → AreTyped ls locals
        → ((b : Bool) → KeepsTypes (k b)) → KeepsTypes (inspected m locals k)
    inspected_keeps ls kind m makes locals k are h = makes locals (λ o. inspects o k) are (λ o is. inspects_keeps o k h)

    numbered_keeps : (ls : List Ty) (kind : Kind) (m : Meaning) → Makes ls kind m
        → (locals : List Value) (k : ℤ → Doing) → AreTyped ls locals
        → ((n : ℤ) → KeepsTypes (k n)) → KeepsTypes (numbered m locals k)
    numbered_keeps ls kind m makes locals k are h = makes locals (λ o. script.given (number_of o) k)
        are (λ o is. any_given (number_of o) k h)

    orders_keeps : (x y : Operand) (k : ℕ → Doing) → ((d : ℕ) → KeepsTypes (k d)) → KeepsTypes (orders x y k)
    orders_keeps x y k h =
        any_given (number_of x) (λ m. script.given (number_of y) (λ n. Decides (ordered m n) k))
        (λ m. any_given (number_of y) (λ n. Decides (ordered m n) k) (λ n. h (ordered m n)))

    compares_keeps : (x y : Operand) (k : Bool → Doing) → ((b : Bool) → KeepsTypes (k b)) → KeepsTypes (compares x y k)
    compares_keeps (operand.Plain v) (operand.Plain w) k h = comparison_goes Doing Blocks Decides KeepsTypes
        (λ d f g. g) tt v w k (h (same_value v w))
    compares_keeps (operand.Plain v) (operand.Number n) k h = orders_keeps (operand.Plain v) (operand.Number n)
        (λ d. k (d == 1)) (λ d. h (d == 1))
    compares_keeps (operand.Number m) y k h = orders_keeps (operand.Number m) y (λ d. k (d == 1)) (λ d. h (d == 1))

    compares_by_keeps : (o : Op) (x y : Operand) (k : Bool → Doing) → ((b : Bool) → KeepsTypes (k b))
        → KeepsTypes (compares_by o x y k)
    compares_by_keeps op.Eq x y k h = compares_keeps x y k h
    compares_by_keeps op.Ne x y k h = compares_keeps x y (λ s. k (not s)) (λ s. h (not s))
    compares_by_keeps op.Lt x y k h = orders_keeps x y (λ d. k (d == 0)) (λ d. h (d == 0))
    compares_by_keeps op.Le x y k h = orders_keeps x y (λ d. k (not (d == 2))) (λ d. h (not (d == 2)))
    compares_by_keeps op.Gt x y k h = orders_keeps x y (λ d. k (d == 2)) (λ d. h (d == 2))
    compares_by_keeps op.Ge x y k h = orders_keeps x y (λ d. k (not (d == 0))) (λ d. h (not (d == 0)))

    into_keeps : (i : ℕ) (n : ℤ) (k : Operand → Doing) → ((o : Operand) → IsOfKind (Of (ty.Int i)) o → KeepsTypes (k o))
        → KeepsTypes (into_type (slice_get t.ints i) n k)
    into_keeps i n k h = given_keeps (slice_get t.ints i) _ (λ d at. by d at (ranged d n == 1) refl)
      where
        by : (d : IntDecl) → slice_get t.ints i ≡ Some d → (b : Bool) → (ranged d n == 1) ≡ b
            → KeepsTypes (if b then k (operand.Plain (value.Int n)) else Blocks)
        by d at true is =
            h (operand.Plain (value.Int n))
            (member-int t (ty.Int i) n ∙ rw (out_int i, at) (in_range d n is))
        by d at false is = tt

    -- operands of parts, in order
    abbrev EachMakes : List Ty → List Ty → List Meaning → Type 0
    EachMakes ls [] [] = Unit {0}
    EachMakes ls (u ∷ us) (m ∷ ms) = Makes ls (Of u) m × EachMakes ls us ms
    EachMakes ls [] (m ∷ ms) = ⊥
    EachMakes ls (u ∷ us) [] = ⊥

    values_keep : (ls us : List Ty) (ms : List Meaning) → EachMakes ls us ms
        → (locals before : List Value) (k : List Value → Doing) → AreTyped ls locals
        → ((vs : List Value) → AreTyped us vs → KeepsTypes (k (before ++ vs)))
        → KeepsTypes (values_of before ms locals k)
    values_keep ls [] [] makes locals before k are h = subst (λ vs. KeepsTypes (k vs)) (append-nil before) (h [] refl)
    values_keep ls (u ∷ us) (m ∷ ms) makes locals before k are h =
        valued_keeps ls u m makes.0 locals (λ v. values_of (before ++ v ∷ []) ms locals k) are (λ v is.
        values_keep ls us ms makes.1 locals (before ++ v ∷ []) k are (λ vs typed.
        subst (λ xs. KeepsTypes (k xs)) (sym (append_assoc before (v ∷ []) vs))
        (h (v ∷ vs) (and_from (is_value_of t u v) (are_values_of t us vs) is typed))))
    values_keep ls [] (m ∷ ms) makes locals before k are h = absurd makes
    values_keep ls (u ∷ us) [] makes locals before k are h = absurd makes

    abbrev AllMake : List Ty → List Meaning → Type 0
    AllMake ls [] = Unit {0}
    AllMake ls (m ∷ ms) = Makes ls (Of bool_ty) m × AllMake ls ms

    all_keep : (ls : List Ty) (ms : List Meaning) → AllMake ls ms → (locals : List Value) (k : Bool → Doing)
        → AreTyped ls locals
        → ((b : Bool) → KeepsTypes (k b)) → KeepsTypes (all_of ms locals k)
    all_keep ls [] makes locals k are h = h true
    all_keep ls (m ∷ ms) makes locals k are h =
        inspected_keeps ls (Of bool_ty) m makes.0 locals (λ s. if s then all_of ms locals k else k false)
        are (by (all_keep ls ms makes.1 locals k are h))
      where
        by : KeepsTypes (all_of ms locals k) → (b : Bool) → KeepsTypes (if b then all_of ms locals k else k false)
        by more true = more
        by more false = h false

    any_keep : (ls : List Ty) (ms : List Meaning) → AllMake ls ms → (locals : List Value) (k : Bool → Doing)
        → AreTyped ls locals
        → ((b : Bool) → KeepsTypes (k b)) → KeepsTypes (any_of ms locals k)
    any_keep ls [] makes locals k are h = h false
    any_keep ls (m ∷ ms) makes locals k are h =
        inspected_keeps ls (Of bool_ty) m makes.0 locals (λ s. if s then k true else any_of ms locals k)
        are (by (any_keep ls ms makes.1 locals k are h))
      where
        by : KeepsTypes (any_of ms locals k) → (b : Bool) → KeepsTypes (if b then k true else any_of ms locals k)
        by more true = h true
        by more false = more

    -- a field for each set, and its new value
    abbrev SetsMake : List Ty → Ty → List SetMeaning → Type 0
    SetsMake ls u [] = Unit {0}
    SetsMake ls u (m ∷ ms) = ((w : Ty) × (field_of t u m.0 ≡ Some w) × Makes ls (Of w) m.1) × SetsMake ls u ms

    sets_keep : (ls : List Ty) (u : Ty) (ms : List SetMeaning) → SetsMake ls u ms
        → (locals : List Value) (v : Value) (k : Value → Doing) → AreTyped ls locals
        → IsValueOf t u v → ((w : Value) → IsValueOf t u w → KeepsTypes (k w)) → KeepsTypes (sets_of v ms locals k)
    sets_keep ls u [] makes locals v k are is h = h v is
    sets_keep ls u (m ∷ ms) makes locals v k are is h =
        let one = makes.0 in
        valued_keeps ls one.0 m.1 one.2 locals (λ w. script.given (with_field v m.0 w) (λ x. sets_of x ms locals k))
        are (λ w new.
        given_keeps (with_field v m.0 w) (λ x. sets_of x ms locals k) (λ x made.
        sets_keep ls u ms makes.1 locals x k are (with_typed t u one.0 v w x m.0 is one.1 new made) h))

    -- the value at the end of a path of fields
    path_keeps : (path : List ℕ) (u w : Ty) (v : Value) (k : Value → Doing) → IsValueOf t u v
        → type_at t u path ≡ Some w
        → ((x : Value) → IsValueOf t w x → KeepsTypes (k x))
        → KeepsTypes (script.given (evaluation.value_at (Some v) path) k)
    path_keeps [] u w v k is end h = h v (subst (λ y. IsValueOf t y v) (one u w end) is)
      where
        one : (a b : Ty) → Some a ≡ Some b → a ≡ b
        one a b e = cc
    path_keeps (i ∷ path) u w v k is end h =
        let next = given_some (field_of t u i) (λ y. type_at t y path) w end in
        by (field_in (parts_of v) i) refl (λ x at. path_keeps path next.0 w x k
        (field_typed t u next.0 v x i is next.1 at) next.2 h)
      where
        by : (o : Option Value) → field_in (parts_of v) i ≡ o
            → ((x : Value) → field_in (parts_of v) i ≡ Some x
            → KeepsTypes (script.given (evaluation.value_at (Some x) path) k))
            → KeepsTypes (script.given (evaluation.value_at o path) k)
        by (Some x) at more = more x at
        by None at more = nowhere path
          where
            nowhere : (is : List ℕ) → KeepsTypes (script.given (evaluation.value_at None is) k)
            nowhere [] = tt
            nowhere (j ∷ js) = tt

    -- a cell with its key
    abbrev KeyMakes : List Ty → Option Ty → Option Meaning → Type 0
    KeyMakes ls None None = Unit {0}
    KeyMakes ls None (Some m) = ⊥
    KeyMakes ls (Some u) None = ⊥
    KeyMakes ls (Some u) (Some m) = Makes ls (Of u) m

    cell_is : (s : ℕ) (d : StateDecl) (key : Option Value) → slice_get t.states s ≡ Some d → fits_key t d.key key ≡ true
        → IsCellOf t (named s key)
    cell_is s d key at fits = ap (λ o. is_cell_in t o (named s key)) at ∙ fits

    cell_keeps : (ls : List Ty) (s : ℕ) (d : StateDecl) (m : Option Meaning) → slice_get t.states s ≡ Some d
        → KeyMakes ls d.key m
        → (locals : List Value) (k : CellName → Doing) → AreTyped ls locals → ((c : CellName) → c.state ≡ s
        → IsCellOf t c → KeepsTypes (k c))
        → KeepsTypes (cell_of s m locals k)
    cell_keeps ls s d m at makes locals k are h = by d.key m refl makes
      where
        by : (u : Option Ty) (m : Option Meaning) → d.key ≡ u → KeyMakes ls u m → KeepsTypes (cell_of s m locals k)
        by None None is makes = h (named s None) refl (cell_is s d None at (ap (λ u. fits_key t u None) is))
        by None (Some m) is makes = absurd makes
        by (Some u) None is makes = absurd makes
        by (Some u) (Some m) is makes =
            valued_keeps ls u m makes locals (λ v. k (named s (Some v))) are (λ v typed.
            h (named s (Some v)) refl (cell_is s d (Some v) at (ap (λ x. fits_key t x (Some v)) is ∙ typed)))

    value_in : (c : CellName) (s : ℕ) (d : StateDecl) (v : Value) → c.state ≡ s → slice_get t.states s ≡ Some d
        → IsValueIn c v → IsValueOf t d.value v
    value_in c s d v is at typed = sym (ap (λ n. is_value_in t (slice_get t.states n) v) is
        ∙ ap (λ o. is_value_in t o v) at) ∙ typed

    in_value : (c : CellName) (s : ℕ) (d : StateDecl) (v : Value) → c.state ≡ s → slice_get t.states s ≡ Some d
        → IsValueOf t d.value v → IsValueIn c v
    in_value c s d v is at typed = ap (λ n. is_value_in t (slice_get t.states n) v) is ∙ ap (λ o. is_value_in t o v) at
        ∙ typed

    -- the first n functions
    abbrev FunctionsAnswer : ℕ → List Called → Type 0
    FunctionsAnswer n funs = (i : ℕ) (d : Call) → i < n → slice_get t.funs i ≡ Some d → Answers d (fun_at funs i)

    module _ (n : ℕ) (funs : List Called) (answer : FunctionsAnswer n funs) (ls : List Ty) where
      abbrev s : Scope
      s = scope t n ls

      abbrev meaning : Expr → Meaning
      meaning = meaning_of t.ints funs

      abbrev IsTyped : Expr → Type 0
      IsTyped e = (kind : Kind) → kind_of s e ≡ Some kind → Makes ls kind (meaning e)

      abbrev set_kind : SetField → Set
      set_kind = fold-SetField (Option Kind) Set (kind_step s) set_step

      abbrev set_meaning : SetField → SetMeaning
      set_meaning = fold-SetField Meaning SetMeaning (meaning_step t.ints funs) evaluation.set_step

      abbrev IsSetTyped : SetField → Type 0
      IsSetTyped x = ((set_meaning x).0 ≡ (set_kind x).0) × ((kind : Kind) → (set_kind x).1 ≡ Some kind
          → Makes ls kind (set_meaning x).1)

      set_typed : (x : SetField) → IsTyped x.value → IsSetTyped x
      set_typed x typed =
          let kind : set_kind x ≡ (x.field, kind_of s x.value) =
          ap set_kind (sym (roll-out-SetField x)) ∙ fold-roll-SetField (Option Kind) Set (kind_step s)
          set_step (out-SetField x) in
          let means : set_meaning x ≡ (x.field, meaning x.value) =
          ap set_meaning (sym (roll-out-SetField x)) ∙ fold-roll-SetField Meaning SetMeaning (meaning_step t.ints funs)
          evaluation.set_step (out-SetField x) in (
            ap (λ (p : SetMeaning). p.0) means ∙ sym (ap (λ (p : Set). p.0) kind),
            λ k is. subst (λ (p : SetMeaning). Makes ls k p.1) (sym means) (typed k (sym (ap (λ (p : Set). p.1) kind)
                ∙ is)),
          )

      abbrev Known : Type 0
      Known = (e : Expr) × IsTyped e

      abbrev KnownSet : Type 0
      KnownSet = (x : SetField) × IsSetTyped x

      abbrev bare : List Known → List Expr
      bare = map (λ k. k.0)

      abbrev bare_sets : List KnownSet → List SetField
      bare_sets = map (λ k. k.0)

      abbrev kind_at : Expr-F Known KnownSet → Option Kind
      kind_at y = kind_step s (map-Expr Expr SetField (Option Kind) Set (kind_of s) set_kind
          (map-Expr Known KnownSet Expr SetField (λ k. k.0) (λ k. k.0) y))

      abbrev meaning_at : Expr-F Known KnownSet → Meaning
      meaning_at y = meaning_step t.ints funs (map-Expr Expr SetField Meaning SetMeaning meaning set_meaning
          (map-Expr Known KnownSet Expr SetField (λ k. k.0) (λ k. k.0) y))

      parts_typed : (ps : List Part) (ks : List Known) → are_of ps (map (kind_of s) (bare ks)) ≡ true
          → EachMakes ls (map (λ p. p.ty) ps) (map meaning (bare ks))
      parts_typed [] [] h = tt
      parts_typed (p ∷ ps) [] h = absurd (cc)
      parts_typed [] (k ∷ ks) h = absurd (cc)
      parts_typed (p ∷ ps) (k ∷ ks) h =
          let b = and_parts (is_of p.ty (kind_of s k.0)) (are_of ps (map (kind_of s) (bare ks))) h in
          (k.1 (Of p.ty) (kind_is p.ty (kind_of s k.0) b.0), parts_typed ps ks b.1)

      flags_typed : (ks : List Known) → list_all is_bool (map (kind_of s) (bare ks)) ≡ true
          → AllMake ls (map meaning (bare ks))
      flags_typed [] h = tt
      flags_typed (k ∷ ks) h =
          let b = and_parts (is_bool (kind_of s k.0)) (list_all is_bool (map (kind_of s) (bare ks))) h in
          (k.1 (Of bool_ty) (bool_is (kind_of s k.0) b.0), flags_typed ks b.1)

      -- what `are_sets` says of its first set
      set_part : (u : Ty) (k : Set) (ks : List Set) → are_sets t u (k ∷ ks) ≡ true → (w : Ty)
          × (field_of t u k.0 ≡ Some w) × (k.1 ≡ Some (Of w)) × (are_sets t u ks ≡ true)
      set_part u k ks h = by (field_of t u k.0) refl
        where
          none : field_of t u k.0 ≡ None → are_sets t u (k ∷ ks) ≡ false
          none is = rw (is) refl

          one : (w : Ty) → field_of t u k.0 ≡ Some w
              → are_sets t u (k ∷ ks) ≡ (is_of w k.1 && (not (is_named k.0 ks) && are_sets t u ks))
          one w is = rw (is) refl

          by : (o : Option Ty) → field_of t u k.0 ≡ o → (w : Ty) × (field_of t u k.0 ≡ Some w) × (k.1 ≡ Some (Of w))
              × (are_sets t u ks ≡ true)
          by (Some w) is =
              let b = and_parts (is_of w k.1) (not (is_named k.0 ks) && are_sets t u ks) (sym (one w is) ∙ h) in
              (w, is, kind_is w k.1 b.0, (and_parts (not (is_named k.0 ks)) (are_sets t u ks) b.1).1)
          by None is = absurd (let no = none is in cc)

      sets_typed : (u : Ty) (ks : List KnownSet) → are_sets t u (map set_kind (bare_sets ks)) ≡ true
          → SetsMake ls u (map set_meaning (bare_sets ks))
      sets_typed u [] h = tt
      sets_typed u (k ∷ ks) h =
          let b = set_part u (set_kind k.0) (map set_kind (bare_sets ks)) h in
          ((b.0, ap (field_of t u) k.1.0 ∙ b.1, k.1.1 (Of b.0) b.2), sets_typed u ks b.3)

      -- what came is of the kind that was found
      found_kind : (kind found : Kind) → found ≡ kind → (k : Operand → Doing)
          → ((o : Operand) → IsOfKind kind o → KeepsTypes (k o))
          → (o : Operand) → IsOfKind found o → KeepsTypes (k o)
      found_kind kind found same k h o is = h o (subst (λ x. IsOfKind x o) same is)

      tag_typed : (e i : ℕ) (d : EnumDecl) → slice_get t.enums e ≡ Some d → ltb i (length d.variants) ≡ true
          → IsValueOf t (ty.Enum e) (value.Tag i)
      tag_typed e i d at lt = member-tag t (ty.Enum e) i ∙ rw (out_enum e, at) lt

      make_typed : (r : ℕ) (d : RecDecl) (vs : List Value) → slice_get t.records r ≡ Some d
          → AreTyped (map (λ (p : Part). p.ty) d.fields) vs → IsValueOf t (ty.Rec r) (value.Rec vs)
      make_typed r d vs at are = member-rec t (ty.Rec r) vs ∙ rw (out_rec r, at) are

      none_typed : (u : Ty) → IsValueOf t (ty.Option u) value.None
      none_typed u = member-none t (ty.Option u) ∙ rw (out_option u) refl

      some_typed : (u : Ty) (v : Value) → IsValueOf t u v → IsValueOf t (ty.Option u) (value.Some v)
      some_typed u v is = member-some t (ty.Option u) v ∙ rw (out_option u) is

      no_key : (u : Option Ty) → is_key u None ≡ true → KeyMakes ls u None
      no_key None h = tt
      no_key (Some u) h = absurd (cc)

      one_key : (e : Expr) → IsTyped e → (u : Option Ty) → is_key u (Some (kind_of s e)) ≡ true
          → KeyMakes ls u (Some (meaning e))
      one_key e typed None h = absurd (cc)
      one_key e typed (Some u) h = typed (Of u) (kind_is u (kind_of s e) h)

      read_keeps : (c : ℕ) (d : StateDecl) (m : Option Meaning) (kind : Kind) → slice_get t.states c ≡ Some d
          → KeyMakes ls d.key m → Of d.value ≡ kind
          → Makes ls kind (evaluation.read_of c m)
      read_keeps c d m kind at key same locals k are goes =
          cell_keeps ls c d m at key locals (λ x. Reads x (λ v. k (operand.Plain v))) are (λ x of_c is.
          (is, λ v typed. found_kind kind (Of d.value) same k goes (operand.Plain v) (value_in x c d v of_c at typed)))

      flag_typed : (b : Bool) → IsValueOf t bool_ty (bool b)
      flag_typed b = by (bool_enum t.enums typed.bool) b
        where
          by : (d : EnumDecl) × (slice_get t.enums 0 ≡ Some d) × (length d.variants ≡ 2) → (b : Bool)
              → IsValueOf t bool_ty (bool b)
          by d true = tag_typed 0 1 d.0 d.1 (lt-ltb 1 (length d.0.variants) (omega (arith, d.2)))
          by d false = tag_typed 0 0 d.0 d.1 (lt-ltb 0 (length d.0.variants) (omega (arith, d.2)))

      flag_keeps : (kind : Kind) → Of bool_ty ≡ kind → (k : Operand → Doing)
          → ((o : Operand) → IsOfKind kind o → KeepsTypes (k o)) → (b : Bool) → KeepsTypes (k (flag b))
      flag_keeps kind same k goes b = found_kind kind (Of bool_ty) same k goes (flag b) (flag_typed b)

      node_typed : (y : Expr-F Known KnownSet) (kind : Kind) → kind_at y ≡ Some kind → Makes ls kind (meaning_at y)
      node_typed (Expr-F.Num x) kind h locals k are goes =
          found_kind kind Number (chosen _ Number kind h).1 k goes (operand.Number x) tt
      node_typed (Expr-F.Tag e i) kind h locals k are goes =
          let d = given_some (slice_get t.enums e) _ kind h in
          let c = chosen (ltb i (length d.0.variants)) (Of (ty.Enum e)) kind d.2 in
          found_kind kind (Of (ty.Enum e)) c.1 k goes (operand.Plain (value.Tag i)) (tag_typed e i d.0 d.1 c.0)
      node_typed (Expr-F.Local i) kind h locals k are goes = by (slice_get ls i) refl h
        where
          by : (o : Option Ty) → slice_get ls i ≡ o → option_map Of o ≡ Some kind
              → KeepsTypes (evaluation.local_of i locals k)
          by (Some u) at e =
              given_keeps (slice_get locals i) (λ v. k (operand.Plain v)) (λ v there.
              found_kind kind (Of u) (of_one (Of u) kind e) k goes (operand.Plain v)
              (value_at t ls locals i u v are at there))
          by None at e = absurd (cc)
      node_typed (Expr-F.Cell c None) kind h locals k are goes =
          let d = given_some (slice_get t.states c) _ kind h in
          let fits = chosen (is_key d.0.key None) (Of d.0.value) kind d.2 in
          read_keeps c d.0 None kind d.1 (no_key d.0.key fits.0) fits.1 locals k are goes
      node_typed (Expr-F.Cell c (Some e)) kind h locals k are goes =
          let d = given_some (slice_get t.states c) _ kind h in
          let fits = chosen (is_key d.0.key (Some (kind_of s e.0))) (Of d.0.value) kind d.2 in
          read_keeps c d.0 (Some (meaning e.0)) kind d.1 (one_key e.0 e.1 d.0.key fits.0) fits.1 locals k are goes
      node_typed (Expr-F.Fields e path) kind h locals k are goes =
          let u = given_some (type_of (kind_of s e.0)) _ kind h in
          by u.0 (e.1 (Of u.0) (typed_kind (kind_of s e.0) u.0 u.1)) (ltb 0 (length path)) u.2
        where
          by : (u : Ty) → Makes ls (Of u) (meaning e.0) → (b : Bool)
              → (if b then option_map Of (type_at t u path) else None) ≡ Some kind
              → KeepsTypes (evaluation.fields_of (meaning e.0) path locals k)
          by u makes true found =
              valued_keeps ls u (meaning e.0) makes locals (λ v. script.given (evaluation.value_at (Some v) path)
              (λ w. k (operand.Plain w))) are (λ v is.
              ends v is (type_at t u path) refl found)
            where
              ends : (v : Value) → IsValueOf t u v → (o : Option Ty) → type_at t u path ≡ o
                  → option_map Of o ≡ Some kind
                  → KeepsTypes (script.given (evaluation.value_at (Some v) path) (λ w. k (operand.Plain w)))
              ends v is (Some w) at e =
                  path_keeps path u w v (λ x. k (operand.Plain x)) is at (λ x typed. found_kind kind
                  (Of w) (of_one (Of w) kind e) k goes (operand.Plain x) typed)
              ends v is None at e = absurd (cc)
          by u makes false found = absurd (cc)
      node_typed (Expr-F.With e sets) kind h locals k are goes =
          let u = given_some (type_of (kind_of s e.0)) _ kind h in
          let c = chosen _ (Of u.0) kind u.2 in
          let typed = (and_parts (ltb 0 (length (map set_kind (bare_sets sets))))
          (are_sets t u.0 (map set_kind (bare_sets sets))) c.0).1 in
          valued_keeps ls u.0 (meaning e.0) (e.1 (Of u.0) (typed_kind (kind_of s e.0) u.0 u.1)) locals
          (λ v. sets_of v (map set_meaning (bare_sets sets)) locals (λ w. k (operand.Plain w))) are (λ v is.
          sets_keep ls u.0 (map set_meaning (bare_sets sets)) (sets_typed u.0 sets typed) locals v
          (λ w. k (operand.Plain w)) are is (λ w made.
          found_kind kind (Of u.0) c.1 k goes (operand.Plain w) made))
      node_typed (Expr-F.Make r ks) kind h locals k are goes =
          let d = given_some (slice_get t.records r) _ kind h in
          let c = chosen (are_of d.0.fields (map (kind_of s) (bare ks))) (Of (ty.Rec r)) kind d.2 in
          values_keep ls (map (λ (p : Part). p.ty) d.0.fields) (map meaning (bare ks)) (parts_typed d.0.fields ks c.0)
          locals []
          (λ vs. k (operand.Plain (value.Rec vs))) are (λ vs typed.
          found_kind kind (Of (ty.Rec r)) c.1 k goes (operand.Plain (value.Rec vs)) (make_typed r d.0 vs d.1 typed))
      node_typed (Expr-F.NoneOf u) kind h locals k are goes =
          found_kind kind (Of (ty.Option u)) (chosen _ (Of (ty.Option u)) kind h).1 k goes (operand.Plain value.None)
          (none_typed u)
      node_typed (Expr-F.SomeOf e) kind h locals k are goes =
          let u = given_some (type_of (kind_of s e.0)) _ kind h in
          let c = chosen _ (Of (ty.Option u.0)) kind u.2 in
          valued_keeps ls u.0 (meaning e.0) (e.1 (Of u.0) (typed_kind (kind_of s e.0) u.0 u.1)) locals
          (λ v. k (operand.Plain (value.Some v))) are (λ v is.
          found_kind kind (Of (ty.Option u.0)) c.1 k goes (operand.Plain (value.Some v)) (some_typed u.0 v is))
      node_typed (Expr-F.Shift e x) kind h locals k are goes =
          let c = chosen _ Number kind h in
          let i = integer_kind (kind_of s e.0) (and_parts (is_integer (kind_of s e.0)) (is_number x) c.0).0 in
          numbered_keeps ls i.0 (meaning e.0) (e.1 i.0 i.1) locals (λ m. k (operand.Number (m +ℤ x))) are (λ m.
          found_kind kind Number c.1 k goes (operand.Number (m +ℤ x)) tt)
      node_typed (Expr-F.Into j e) kind h locals k are goes =
          let c = chosen _ (Of (ty.Int j)) kind h in
          let i = integer_kind (kind_of s e.0) (and_parts (ltb j (length t.ints)) (is_integer (kind_of s e.0)) c.0).1 in
          numbered_keeps ls i.0 (meaning e.0) (e.1 i.0 i.1) locals (λ m. into_type (slice_get t.ints j) m k) are (λ m.
          into_keeps j m k (found_kind kind (Of (ty.Int j)) c.1 k goes))
      node_typed (Expr-F.Compare o left right) kind h locals k are goes =
          let c = chosen _ (Of bool_ty) kind h in
          let parts = compared o (kind_of s left.0) (kind_of s right.0) c.0 in
          let l = some_kind (kind_of s left.0) parts.0 in
          let r = some_kind (kind_of s right.0) parts.1 in
          left.1 l.0 l.1 locals (λ x. meaning right.0 locals (λ y. compares_by o x y (λ b. k (flag b)))) are (λ x is.
          right.1 r.0 r.1 locals (λ y. compares_by o x y (λ b. k (flag b))) are (λ y are_too.
          compares_by_keeps o x y (λ b. k (flag b)) (flag_keeps kind c.1 k goes)))
      node_typed (Expr-F.All ks) kind h locals k are goes =
          let c = chosen _ (Of bool_ty) kind h in
          all_keep ls (map meaning (bare ks)) (flags_typed ks (and_parts (leb 2 (length (map (kind_of s) (bare ks))))
          _ c.0).1) locals (λ b. k (flag b)) are
          (flag_keeps kind c.1 k goes)
      node_typed (Expr-F.Any ks) kind h locals k are goes =
          let c = chosen _ (Of bool_ty) kind h in
          any_keep ls (map meaning (bare ks)) (flags_typed ks (and_parts (leb 2 (length (map (kind_of s) (bare ks))))
          _ c.0).1) locals (λ b. k (flag b)) are
          (flag_keeps kind c.1 k goes)
      node_typed (Expr-F.Not e) kind h locals k are goes =
          let c = chosen _ (Of bool_ty) kind h in
          inspected_keeps ls (Of bool_ty) (meaning e.0) (e.1 (Of bool_ty) (bool_is (kind_of s e.0) c.0))
          locals (λ b. k (flag (not b))) are
          (λ b. flag_keeps kind c.1 k goes (not b))
      node_typed (Expr-F.Apply f ks) kind h locals k are goes = by (ltb f n) refl h
        where
          by : (b : Bool) → ltb f n ≡ b
              → (if b then given (slice_get t.funs f) (λ d. if_so (are_of d.params (map (kind_of s) (bare ks)))
              (Of d.reply)) else None) ≡ Some kind
              → KeepsTypes (evaluation.apply_of (fun_at funs f) (map meaning (bare ks)) locals k)
          by true lt found =
              let d = given_some (slice_get t.funs f) _ kind found in
              let c = chosen (are_of d.0.params (map (kind_of s) (bare ks))) (Of d.0.reply) kind d.2 in
              values_keep ls (map (λ (p : Part). p.ty) d.0.params) (map meaning (bare ks))
              (parts_typed d.0.params ks c.0) locals []
              (λ vs. fun_at funs f vs (λ v. k (operand.Plain v))) are (λ vs typed.
              answer f d.0 (ltb-true f n lt) d.1 vs (λ v. k (operand.Plain v)) typed (λ v is.
              found_kind kind (Of d.0.reply) c.1 k goes (operand.Plain v) is))
          by false lt found = absurd (cc)

      rolled_typed : (x : Expr-F Expr SetField)
          → ((kind : Kind) → kind_step s (map-Expr Expr SetField (Option Kind) Set (kind_of s) set_kind x) ≡ Some kind
          → Makes ls kind (meaning_step t.ints funs (map-Expr Expr SetField Meaning SetMeaning meaning set_meaning x)))
          → IsTyped (roll-Expr x)
      rolled_typed x typed kind h =
          subst (Makes ls kind) (sym (fold-roll-Expr Meaning SetMeaning (meaning_step t.ints funs) evaluation.set_step
          x))
          (typed kind (sym (fold-roll-Expr (Option Kind) Set (kind_step s) set_step x) ∙ h))

      -- an expression with a kind comes to an operand of that kind
      pub expr_typed : (e : Expr) → IsTyped e
      expr_typed = ind-Expr IsTyped IsSetTyped
          (λ x y is. subst (λ z. IsTyped (roll-Expr z)) is (rolled_typed _ (node_typed y)))
          (λ x y is. set_typed (record { field = x.field; value = x.value })
          (subst (λ z. IsTyped z.value) is y.value.1))

    -- a statement, from locals of some types, goes on with locals of the types after it or returns a reply
    module _ (n : ℕ) (funs : List Called) (answer : FunctionsAnswer n funs) (reply : Ty) where
      abbrev Goes : Typing → Turn → Type 0
      Goes m turn = (ls after : List Ty) (locals : List Value) (ret : Value → Doing) (next : List Value → Doing)
          → m ls ≡ Some after → AreTyped ls locals
          → ((v : Value) → IsValueOf t reply v → KeepsTypes (ret v)) → ((more : List Value) → AreTyped after more
          → KeepsTypes (next more))
          → KeepsTypes (turn locals ret next)

      abbrev typing : Stmt → Typing
      typing = typing_of t n reply

      abbrev turn : Stmt → Turn
      turn = turn_of t.ints funs

      abbrev IsTurn : Stmt → Type 0
      IsTurn x = Goes (typing x) (turn x)

      abbrev KnownStmt : Type 0
      KnownStmt = (x : Stmt) × IsTurn x

      abbrev stmts : List KnownStmt → List Stmt
      stmts = map (λ k. k.0)

      block_goes : (ks : List KnownStmt) → Goes (block_typing (map typing (stmts ks))) (block_of (map turn (stmts ks)))
      block_goes [] ls after locals ret next h are returns goes =
          goes locals (subst (λ us. AreTyped us locals) (some_list ls after h) are)
        where
          some_list : (a b : List Ty) → Some a ≡ Some b → a ≡ b
          some_list a b h = cc
      block_goes (k ∷ ks) ls after locals ret next h are returns goes =
          let m = given_some (typing k.0 ls) (block_typing (map typing (stmts ks))) after h in
          k.1 ls m.0 locals ret (λ more. block_of (map turn (stmts ks)) more ret next) m.1 are returns
          (λ more typed_more.
          block_goes ks m.0 after more ret next m.2 typed_more returns goes)

      abbrev expr : (ls : List Ty) (e : Expr) (kind : Kind) → kind_of (scope t n ls) e ≡ Some kind
          → Makes ls kind (meaning_of t.ints funs e)
      expr ls e kind h = expr_typed n funs answer ls e kind h

      one_more : (ls : List Ty) (locals : List Value) (u : Ty) (v : Value) → AreTyped ls locals → IsValueOf t u v
          → AreTyped (ls ++ u ∷ []) (locals ++ v ∷ [])
      one_more [] [] u v are is = and_from (is_value_of t u v) true is refl
      one_more [] (x ∷ locals) u v are is = absurd (cc)
      one_more (w ∷ ls) [] u v are is = absurd (cc)
      one_more (w ∷ ls) (x ∷ locals) u v are is =
          let b = and_parts (is_value_of t w x) (are_values_of t ls locals) are in
          and_from (is_value_of t w x) (are_values_of t (ls ++ u ∷ []) (locals ++ v ∷ [])) b.0
          (one_more ls locals u v b.1 is)

      abbrev typing_at : Stmt-F KnownStmt → Typing
      typing_at y = stmt_step t n reply (map-Stmt Stmt Typing typing (map-Stmt KnownStmt Stmt (λ k. k.0) y))

      abbrev turn_at : Stmt-F KnownStmt → Turn
      turn_at y = turn_step t.ints funs (map-Stmt Stmt Turn turn (map-Stmt KnownStmt Stmt (λ k. k.0) y))

      write_goes : (ls : List Ty) (c : ℕ) (d : StateDecl) (m : Option Meaning) (e : Expr)
          → slice_get t.states c ≡ Some d → KeyMakes ls d.key m
          → kind_of (scope t n ls) e ≡ Some (Of d.value) → (locals : List Value) (next : List Value → Doing)
          → AreTyped ls locals → KeepsTypes (next locals) → (ret : Value → Doing) → KeepsTypes (evaluation.set_of c m (meaning_of t.ints funs e) locals ret next)
      write_goes ls c d m e at key kind locals next are goes ret =
          cell_keeps ls c d m at key locals (λ x. evaluation.write_of x (meaning_of t.ints funs e) locals ret next)
          are (λ x of_c is.
          valued_keeps ls d.value (meaning_of t.ints funs e) (expr ls e (Of d.value) kind) locals
          (λ v. Writes x v (next locals)) are (λ v new. (is, in_value x c d v of_c at new, goes)))

      node_goes : (y : Stmt-F KnownStmt) → Goes (typing_at y) (turn_at y)
      node_goes (Stmt-F.Let e) ls after locals ret next h are returns goes =
          let u = given_some (type_of (kind_of (scope t n ls) e)) _ after h in
          valued_keeps ls u.0 (meaning_of t.ints funs e)
          (expr ls e (Of u.0) (typed_kind (kind_of (scope t n ls) e) u.0 u.1)) locals (λ v. next (locals ++ v ∷ []))
          are (λ v is.
          goes (locals ++ v ∷ []) (subst (λ us. AreTyped us (locals ++ v ∷ [])) (same (ls ++ u.0 ∷ []) after u.2)
          (one_more ls locals u.0 v are is)))
        where
          same : (a b : List Ty) → Some a ≡ Some b → a ≡ b
          same a b h = cc
      node_goes (Stmt-F.Set c None e) ls after locals ret next h are returns goes =
          let d = given_some (slice_get t.states c) _ after h in
          let fits = chosen _ ls after d.2 in
          let parts = and_parts (is_key d.0.key None) (is_of d.0.value (kind_of (scope t n ls) e)) fits.0 in
          write_goes ls c d.0 None e d.1 (no_key n funs answer ls d.0.key parts.0)
          (kind_is d.0.value (kind_of (scope t n ls) e) parts.1) locals next are
          (goes locals (subst (λ us. AreTyped us locals) fits.1 are)) ret
      node_goes (Stmt-F.Set c (Some key) e) ls after locals ret next h are returns goes =
          let d = given_some (slice_get t.states c) _ after h in
          let fits = chosen _ ls after d.2 in
          let parts = and_parts (is_key d.0.key (Some (kind_of (scope t n ls) key)))
          (is_of d.0.value (kind_of (scope t n ls) e)) fits.0 in
          write_goes ls c d.0 (Some (meaning_of t.ints funs key)) e d.1 (one_key n funs answer ls key
          (expr ls key) d.0.key parts.0)
          (kind_is d.0.value (kind_of (scope t n ls) e) parts.1) locals next are
          (goes locals (subst (λ us. AreTyped us locals) fits.1 are)) ret
      node_goes (Stmt-F.If c left right) ls after locals ret next h are returns goes =
          let fits = chosen _ ls after h in
          let tests = and_parts (is_bool (kind_of (scope t n ls) c)) _ fits.0 in
          let blocks = and_parts (is_some (block_typing (map typing (stmts left)) ls))
          (is_some (block_typing (map typing (stmts right)) ls)) tests.1 in
          let l = some_types (block_typing (map typing (stmts left)) ls) blocks.0 in
          let r = some_types (block_typing (map typing (stmts right)) ls) blocks.1 in
          let done : KeepsTypes (next locals) = goes locals (subst (λ us. AreTyped us locals) fits.1 are) in
          inspected_keeps ls (Of bool_ty) (meaning_of t.ints funs c)
          (expr ls c (Of bool_ty) (bool_is (kind_of (scope t n ls) c) tests.0)) locals
          (λ b. if b then branch_of (map turn (stmts left)) locals ret next else branch_of (map turn (stmts right))
          locals ret next) are
          (by (block_goes left ls l.0 locals ret (λ more. next locals) l.1 are returns (λ more typed_more. done))
          (block_goes right ls r.0 locals ret (λ more. next locals) r.1 are returns (λ more typed_more. done)))
        where
          by : KeepsTypes (branch_of (map turn (stmts left)) locals ret next)
              → KeepsTypes (branch_of (map turn (stmts right)) locals ret next)
              → (b : Bool) → KeepsTypes (if b then branch_of (map turn (stmts left)) locals ret next
              else branch_of (map turn (stmts right)) locals ret next)
          by one two true = one
          by one two false = two
      node_goes (Stmt-F.Case e left right) ls after locals ret next h are returns goes =
          let o = given_some (type_of (kind_of (scope t n ls) e)) _ after h in
          let u = given_some (payload_of o.0) _ after o.2 in
          let fits = chosen _ ls after u.2 in
          let blocks = and_parts (is_some (block_typing (map typing (stmts left)) ls))
          (is_some (block_typing (map typing (stmts right)) (ls ++ u.0 ∷ []))) fits.0 in
          let l = some_types (block_typing (map typing (stmts left)) ls) blocks.0 in
          let r = some_types (block_typing (map typing (stmts right)) (ls ++ u.0 ∷ [])) blocks.1 in
          let done : KeepsTypes (next locals) = goes locals (subst (λ us. AreTyped us locals) fits.1 are) in
          valued_keeps ls o.0 (meaning_of t.ints funs e)
          (expr ls e (Of o.0) (typed_kind (kind_of (scope t n ls) e) o.0 o.1)) locals
          (λ v. opens (option_of v) (λ p. case_branch (map turn (stmts left)) (map turn (stmts right))
          p locals ret next)) are (λ v is.
          given_keeps (option_of v) (λ p. Decides (presence p) (λ d. if d == 1 then script.given p
          (λ x. case_branch (map turn (stmts left)) (map turn (stmts right)) (Some x) locals ret next)
          else case_branch (map turn (stmts left)) (map turn (stmts right)) None locals ret next)) (λ p there.
          by p
          (block_goes left ls l.0 locals ret (λ more. next locals) l.1 are returns (λ more typed_more. done))
          (λ x same. block_goes right (ls ++ u.0 ∷ []) r.0 (locals ++ x ∷ []) ret (λ more. next locals) r.1
          (one_more ls locals u.0 x are (payload_typed t o.0 u.0 v x is u.1 (there ∙ ap Some same)))
          returns (λ more typed_more. done))))
        where
          by : (p : Option Value) → KeepsTypes (branch_of (map turn (stmts left)) locals ret next)
              → ((x : Value) → p ≡ Some x → KeepsTypes (some_branch_of x (map turn (stmts right)) locals ret next))
              → KeepsTypes (Decides (presence p) (λ d. if d == 1 then script.given p
              (λ x. case_branch (map turn (stmts left)) (map turn (stmts right)) (Some x) locals ret next)
              else case_branch (map turn (stmts left)) (map turn (stmts right)) None locals ret next))
          by (Some x) one two = two x refl
          by None one two = one
      node_goes (Stmt-F.Assume c) ls after locals ret next h are returns goes =
          let fits = chosen (is_bool (kind_of (scope t n ls) c)) ls after h in
          inspected_keeps ls (Of bool_ty) (meaning_of t.ints funs c)
          (expr ls c (Of bool_ty) (bool_is (kind_of (scope t n ls) c) fits.0)) locals
          (λ b. if b then next locals else Blocks) are (by (goes locals (subst (λ us. AreTyped us locals) fits.1 are)))
        where
          by : KeepsTypes (next locals) → (b : Bool) → KeepsTypes (if b then next locals else Blocks)
          by more true = more
          by more false = tt
      node_goes (Stmt-F.Return e) ls after locals ret next h are returns goes =
          valued_keeps ls reply (meaning_of t.ints funs e)
          (expr ls e (Of reply) (kind_is reply (kind_of (scope t n ls) e) (chosen _ ls after h).0))
          locals ret are returns

      rolled_goes : (x : Stmt-F Stmt) → Goes (stmt_step t n reply (map-Stmt Stmt Typing typing x))
          (turn_step t.ints funs (map-Stmt Stmt Turn turn x)) → IsTurn (roll-Stmt x)
      rolled_goes x goes =
          subst (λ m. Goes (typing (roll-Stmt x)) m) (sym (fold-roll-Stmt Turn (turn_step t.ints funs) x))
          (subst (λ m. Goes m (turn_step t.ints funs (map-Stmt Stmt Turn turn x)))
          (sym (fold-roll-Stmt Typing (stmt_step t n reply) x)) goes)

      stmt_goes : (x : Stmt) → IsTurn x
      stmt_goes = ind-Stmt IsTurn (λ x y is. subst (λ z. IsTurn (roll-Stmt z)) is (rolled_goes _ (node_goes y)))

      known : List Stmt → List KnownStmt
      known [] = []
      known (x ∷ xs) = (x, stmt_goes x) ∷ known xs

      all_known : (xs : List Stmt) → stmts (known xs) ≡ xs
      unfolding known
      all_known [] = refl
      all_known (x ∷ xs) = ap (λ ys. x ∷ ys) (all_known xs)

      pub body_answers : (params : List Ty) (body : List Stmt) → is_body t n reply params body ≡ true
          → (args : List Value) (k : Value → Doing) → AreTyped params args
          → ((v : Value) → IsValueOf t reply v → KeepsTypes (k v)) → KeepsTypes (body_of t.ints funs body args k)
      body_answers params body h args k are answers =
          let after = some_types (block_typing (map typing body) params) h in
          subst (λ xs. KeepsTypes (block_of (map turn xs) args k (λ more. Blocks))) (all_known body)
          (block_goes (known body) params after.0 args k (λ more. Blocks)
          (subst (λ xs. block_typing (map typing xs) params ≡ Some after.0) (sym (all_known body)) after.1)
          are answers (λ more typed_more. tt))

    -- the parts of what is asked of a function or call
    call_body : (n : ℕ) (d : Call) → is_call t n d ≡ true → is_body t n d.reply (map (λ p. p.ty) d.params) d.body ≡ true
    call_body n d h =
        let later = and_parts _ _ (and_parts _ _ (and_parts _ _ h).1).1 in
        (and_parts (is_body t n d.reply (map (λ p. p.ty) d.params) d.body) (always_returns d.body) later.0).0

    abbrev First : ℕ → Type 0
    First n = FunctionsAnswer n (meanings t.ints (take n t.funs))

    one_function : (n : ℕ) → ((m : ℕ) → m < n → First m) → First n
    one_function n before i d lt at args k are answers =
        let within : i < length t.funs = slice_get_within t.funs i d at in
        let first : i < length (take n t.funs) = omega (arith, within, length-take n t.funs, lt) in
        let there : get_or (take n t.funs) i d ≡ d = get_take n i t.funs d lt at in
        subst (λ f. KeepsTypes (f args k))
        (sym (function_meaning t.ints (take n t.funs) i d first (sym there)
        ∙ ap (λ fs. body_of t.ints (meanings t.ints fs) d.body) (take_take n i t.funs lt)))
        (body_answers i (meanings t.ints (take i t.funs)) (before i lt) d.reply (map (λ p. p.ty) d.params) d.body
        (call_body i d (and_parts (leb (length d.params) d.outer) (is_call t i d)
        (each_at (is_fun t) 0 t.funs i i d typed.functions at (omega arith))).1)
        args k are answers)

    below : (n : ℕ) → (m : ℕ) → m < n → First m
    below zero m lt = absurd (omega arith)
    below (suc n) m lt = one_function m (λ i less. below n i (omega (arith, less, lt)))

    functions_answer : FunctionsAnswer (length t.funs) (meanings t.ints t.funs)
    functions_answer =
        subst (λ fs. FunctionsAnswer (length t.funs) (meanings t.ints fs))
        (take_all (length t.funs) t.funs (omega arith)) (below (length t.funs + 1) (length t.funs) (omega arith))

    -- a call on arguments of its types, where its reply type's values have R
    pub call_keeps : (i : ℕ) (d : Call) (args : List Value) → slice_get t.calls i ≡ Some d
        → AreTyped (map (λ p. p.ty) d.params) args
        → ((v : Value) → IsValueOf t d.reply v → R v) → KeepsTypes (call_of t i args)
    call_keeps i d args at are replies =
        subst (λ o. KeepsTypes (script.given o (λ c. body_of t.ints (meanings t.ints t.funs) c.body args Replies)))
        (sym at) (body_answers (length t.funs) (meanings t.ints t.funs) functions_answer d.reply
        (map (λ p. p.ty) d.params) d.body (call_body (length t.funs) d
        (all_at (is_call t (length t.funs)) t.calls i d typed.bodies at)) args Replies are replies)
