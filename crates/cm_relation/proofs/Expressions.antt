-- An expression with a kind comes to related operands of that kind.
use Rattle.std.proofs.Common.{◌≡◌, ℕ, suc, ◌+◌, ◌<◌, ◌≤◌, ltb, leb, Bool, true, false, not, ◌&&◌, List, [], ◌∷◌, map}
use Rattle.std.proofs.Common.{length, Option, Some, None, slice_get, refl, sym, ap, ◌∙◌, subst, arith}
use Rattle.std.proofs.Common.{if◌then◌else◌}
use Rattle.std.specs.Prelude.{option_map, max}
use Rattle.std.specs.List.{list_all}
use Rattle.std.proofs.lemmas.Bool.{and_parts, ltb-true}
use Rattle.cm_model.specs.Tables.{Tables}
use Rattle.cm_model.specs.Limits.{is_number, shift_limit}
use Rattle.cm_model.specs.Types.{is_type_in_use}
use Rattle.cm_model.specs.Kinds.{Kind, Number, Of, Scope, Set, scope, given, if_so, is_bool, is_integer, is_of, bool_ty}
use Rattle.cm_model.specs.Kinds.{type_of, are_of, is_named, field_of, type_at, are_sets, is_key, are_comparable}
use Rattle.cm_model.specs.Kinds.{kind_step, set_step, kind_of}
use Rattle.cm_model.specs.Weights.{greatest, shifts_step, shifts_of}
use Rattle.cm_model.specs.declared.ty.Ty.{Ty}
use Rattle.cm_model.specs.declared.ty.Ty.TheVariants as ty
use Rattle.cm_model.specs.declared.ty.Part.{Part}
use Rattle.cm_model.specs.declared.ty.IntDecl.{IntDecl}
use Rattle.cm_model.specs.declared.body.Call.{Call}
use Rattle.cm_model.specs.declared.body.StateDecl.{StateDecl}
use Rattle.cm_model.specs.declared.body.SetField.{SetField, fold-SetField, out-SetField, roll-out-SetField}
use Rattle.cm_model.specs.declared.body.SetField.{fold-roll-SetField}
use Rattle.cm_model.specs.declared.body.Expr.{Expr}
use Rattle.cm_model.specs.declared.body.Expr.TheViews.{roll-Expr}
use Rattle.cm_model.specs.declared.body.Expr.TheOpen.{Expr-F}
use Rattle.cm_model.specs.declared.body.Expr.TheFolds.{fold-roll-Expr, ind-Expr, map-Expr}
use Rattle.cm_model.proofs.KindParts.{chosen, given_some, typed_kind, compared}
use Rattle.cm_code.specs.Rules.{Rules}
use Rattle.cm_code.specs.Language as language
use Rattle.cm_code.specs.Language.{Meaning, SetMeaning, Called}
use Rattle.cm_relation.specs.Relation.{Relation, KeepRelation}
use Rattle.cm_relation.proofs.OneKind.{kind_is, bool_is, some_kind, integer_kind, of_one, within}
use Rattle.cm_relation.proofs.Parts.{Makes, Answers, EachMakes, AllMake, SetsMake, KeyMakes, given_related}
use Rattle.cm_relation.proofs.Parts.{valued_related, inspected_related, local_related, values_related, all_related}
use Rattle.cm_relation.proofs.Parts.{any_related, sets_related, path_related, keyed_related, compares_by_related}

module _ {t : Tables} {V O S V' O' S' : Type 0} {r : Rules V O S} {r' : Rules V' O' S'} {R : Relation V O S V' O' S'}
    (keep : KeepRelation t V O S V' O' S' r r' R) where
  -- the first n functions
  abbrev pub FunctionsAnswer : ℕ → List (Called V S) → List (Called V' S') → Type 0
  FunctionsAnswer n funs funs' = (i : ℕ) (d : Call) → i < n → slice_get t.funs i ≡ Some d
      → Answers keep d (language.fun_at V O S r funs i) (language.fun_at V' O' S' r' funs' i)

  module _ (n : ℕ) (funs : List (Called V S)) (funs' : List (Called V' S')) (answer : FunctionsAnswer n funs funs')
      (ls : List Ty) where
    abbrev s : Scope
    s = scope t n ls

    abbrev meaning : Expr → Meaning V O S
    meaning = language.meaning_of V O S r t.ints funs

    abbrev meaning' : Expr → Meaning V' O' S'
    meaning' = language.meaning_of V' O' S' r' t.ints funs'

    abbrev IsRelated : Expr → Type 0
    IsRelated e = (kind : Kind) → kind_of s e ≡ Some kind → shifts_of e ≤ shift_limit
        → Makes keep ls (shifts_of e) kind (meaning e) (meaning' e)

    abbrev set_kind : SetField → Set
    set_kind = fold-SetField (Option Kind) Set (kind_step s) set_step

    abbrev set_shifts : SetField → ℕ
    set_shifts = fold-SetField ℕ ℕ shifts_step (λ x. x.value)

    abbrev set_meaning : SetField → SetMeaning V O S
    set_meaning = fold-SetField (Meaning V O S) (SetMeaning V O S) (language.meaning_step V O S r t.ints funs)
        (language.set_step V O S r)

    abbrev set_meaning' : SetField → SetMeaning V' O' S'
    set_meaning' = fold-SetField (Meaning V' O' S') (SetMeaning V' O' S')
        (language.meaning_step V' O' S' r' t.ints funs') (language.set_step V' O' S' r')

    abbrev IsSetRelated : SetField → Type 0
    IsSetRelated x = ((set_meaning x).0 ≡ (set_kind x).0) × ((set_meaning' x).0 ≡ (set_kind x).0)
        × ((kind : Kind) → (set_kind x).1 ≡ Some kind → set_shifts x ≤ shift_limit
        → Makes keep ls (set_shifts x) kind (set_meaning x).1 (set_meaning' x).1)

    set_related : (x : SetField) → IsRelated x.value → IsSetRelated x
    set_related x related =
        let kind : set_kind x ≡ (x.field, kind_of s x.value) =
        ap set_kind (sym (roll-out-SetField x)) ∙ fold-roll-SetField (Option Kind) Set (kind_step s)
        set_step (out-SetField x) in
        let shifts : set_shifts x ≡ shifts_of x.value =
        ap set_shifts (sym (roll-out-SetField x)) ∙ fold-roll-SetField ℕ ℕ shifts_step (λ x. x.value)
        (out-SetField x) in
        let means : set_meaning x ≡ (x.field, meaning x.value) =
        ap set_meaning (sym (roll-out-SetField x)) ∙ fold-roll-SetField (Meaning V O S) (SetMeaning V O S)
        (language.meaning_step V O S r t.ints funs) (language.set_step V O S r) (out-SetField x) in
        let means' : set_meaning' x ≡ (x.field, meaning' x.value) =
        ap set_meaning' (sym (roll-out-SetField x)) ∙ fold-roll-SetField (Meaning V' O' S') (SetMeaning V' O' S')
        (language.meaning_step V' O' S' r' t.ints funs') (language.set_step V' O' S' r') (out-SetField x) in (
          ap (λ (p : SetMeaning V O S). p.0) means ∙ sym (ap (λ (p : Set). p.0) kind),
          ap (λ (p : SetMeaning V' O' S'). p.0) means' ∙ sym (ap (λ (p : Set). p.0) kind),
          λ k is few.
              subst (λ (i : ℕ). Makes keep ls i k (set_meaning x).1 (set_meaning' x).1) (sym shifts)
              (subst (λ (p : SetMeaning V O S). Makes keep ls (shifts_of x.value) k p.1 (set_meaning' x).1) (sym means)
              (subst (λ (p : SetMeaning V' O' S'). Makes keep ls (shifts_of x.value) k (meaning x.value) p.1)
              (sym means')
              (related k (sym (ap (λ (p : Set). p.1) kind) ∙ is) (subst (λ i. i ≤ shift_limit) shifts few)))),
        )

    abbrev Known : Type 0
    Known = (e : Expr) × IsRelated e

    abbrev KnownSet : Type 0
    KnownSet = (x : SetField) × IsSetRelated x

    abbrev bare : List Known → List Expr
    bare = map (λ k. k.0)

    abbrev bare_sets : List KnownSet → List SetField
    bare_sets = map (λ k. k.0)

    abbrev layer : Expr-F Known KnownSet → Expr-F Expr SetField
    layer = map-Expr Known KnownSet Expr SetField (λ k. k.0) (λ k. k.0)

    abbrev kind_at : Expr-F Expr SetField → Option Kind
    kind_at y = kind_step s (map-Expr Expr SetField (Option Kind) Set (kind_of s) set_kind y)

    abbrev shifts_at : Expr-F Expr SetField → ℕ
    shifts_at y = shifts_step (map-Expr Expr SetField ℕ ℕ shifts_of set_shifts y)

    abbrev meaning_at : Expr-F Expr SetField → Meaning V O S
    meaning_at y = language.meaning_step V O S r t.ints funs
        (map-Expr Expr SetField (Meaning V O S) (SetMeaning V O S) meaning set_meaning y)

    abbrev meaning_at' : Expr-F Expr SetField → Meaning V' O' S'
    meaning_at' y = language.meaning_step V' O' S' r' t.ints funs'
        (map-Expr Expr SetField (Meaning V' O' S') (SetMeaning V' O' S') meaning' set_meaning' y)

    parts_related : (ps : List Part) (ks : List Known) → are_of ps (map (kind_of s) (bare ks)) ≡ true
        → greatest (map shifts_of (bare ks)) ≤ shift_limit
        → EachMakes keep ls (map (λ p. p.ty) ps) (map meaning (bare ks)) (map meaning' (bare ks))
    parts_related [] [] h few = tt
    parts_related (p ∷ ps) [] h few = absurd (cc)
    parts_related [] (k ∷ ks) h few = absurd (cc)
    parts_related (p ∷ ps) (k ∷ ks) h few =
        let b = and_parts (is_of p.ty (kind_of s k.0)) (are_of ps (map (kind_of s) (bare ks))) h in
        let f = within (shifts_of k.0) (greatest (map shifts_of (bare ks))) shift_limit few in
        ((shifts_of k.0, k.1 (Of p.ty) (kind_is p.ty (kind_of s k.0) b.0) f.0), parts_related ps ks b.1 f.1)

    flags_related : (ks : List Known) → list_all is_bool (map (kind_of s) (bare ks)) ≡ true
        → greatest (map shifts_of (bare ks)) ≤ shift_limit
        → AllMake keep ls (map meaning (bare ks)) (map meaning' (bare ks))
    flags_related [] h few = tt
    flags_related (k ∷ ks) h few =
        let b = and_parts (is_bool (kind_of s k.0)) (list_all is_bool (map (kind_of s) (bare ks))) h in
        let f = within (shifts_of k.0) (greatest (map shifts_of (bare ks))) shift_limit few in
        ((shifts_of k.0, f.0, k.1 (Of bool_ty) (bool_is (kind_of s k.0) b.0) f.0), flags_related ks b.1 f.1)

    -- what `are_sets` says of its first set
    set_part : (u : Ty) (k : Set) (ks : List Set) → are_sets t u (k ∷ ks) ≡ true → (w : Ty)
        × (field_of t u k.0 ≡ Some w) × (k.1 ≡ Some (Of w)) × (are_sets t u ks ≡ true)
    set_part u k ks h = by (field_of t u k.0) refl
      where
        none : field_of t u k.0 ≡ None → are_sets t u (k ∷ ks) ≡ false
        none is = rw (is) refl

        one : (w : Ty) → field_of t u k.0 ≡ Some w
            → are_sets t u (k ∷ ks) ≡ (is_of w k.1 && (not (is_named k.0 ks) && are_sets t u ks))
        one w is = rw (is) refl

        by : (o : Option Ty) → field_of t u k.0 ≡ o → (w : Ty) × (field_of t u k.0 ≡ Some w) × (k.1 ≡ Some (Of w))
            × (are_sets t u ks ≡ true)
        by (Some w) is =
            let b = and_parts (is_of w k.1) (not (is_named k.0 ks) && are_sets t u ks) (sym (one w is) ∙ h) in
            (w, is, kind_is w k.1 b.0, (and_parts (not (is_named k.0 ks)) (are_sets t u ks) b.1).1)
        by None is = absurd (let no = none is in cc)

    sets_from : (u : Ty) (ks : List KnownSet) → are_sets t u (map set_kind (bare_sets ks)) ≡ true
        → greatest (map set_shifts (bare_sets ks)) ≤ shift_limit
        → SetsMake keep ls u (map set_meaning (bare_sets ks)) (map set_meaning' (bare_sets ks))
    sets_from u [] h few = tt
    sets_from u (k ∷ ks) h few =
        let b = set_part u (set_kind k.0) (map set_kind (bare_sets ks)) h in
        let f = within (set_shifts k.0) (greatest (map set_shifts (bare_sets ks))) shift_limit few in (
          (
            b.0,
            set_shifts k.0,
            k.1.0 ∙ sym k.1.1,
            ap (field_of t u) k.1.0 ∙ b.1,
            k.1.2 (Of b.0) b.2 f.0,
          ),
          sets_from u ks b.3 f.1,
        )

    -- what came is of the kind that was found
    found_kind : (kind found : Kind) → found ≡ kind → (i : ℕ) (k : O → S) (k' : O' → S')
        → ((o : O) (o' : O') → R.operand i kind o o' → R.doing (k o) (k' o'))
        → (o : O) (o' : O') → R.operand i found o o' → R.doing (k o) (k' o')
    found_kind kind found same i k k' h o o' is = h o o' (subst (λ x. R.operand i x o o') same is)

    -- the same of values, as operands
    found_value : (kind : Kind) (u : Ty) → Of u ≡ kind → (i : ℕ) (k : O → S) (k' : O' → S')
        → ((o : O) (o' : O') → R.operand i kind o o' → R.doing (k o) (k' o'))
        → (x : V) (x' : V') → R.value u x x' → R.doing (k (r.plain x)) (k' (r'.plain x'))
    found_value kind u same i k k' h x x' is =
        found_kind kind (Of u) same i k k' h (r.plain x) (r'.plain x') (keep.plain i u x x' is)

    found_flag : (kind : Kind) → Of bool_ty ≡ kind → (i : ℕ) (k : O → S) (k' : O' → S')
        → ((o : O) (o' : O') → R.operand i kind o o' → R.doing (k o) (k' o'))
        → (b : Bool) → R.doing (k (r.plain (r.flag b))) (k' (r'.plain (r'.flag b)))
    found_flag kind same i k k' h b = found_value kind bool_ty same i k k' h (r.flag b) (r'.flag b) (keep.flag b)

    pub no_key : (u : Option Ty) → is_key u None ≡ true → KeyMakes keep ls u None None
    no_key None h = tt
    no_key (Some u) h = absurd (cc)

    pub one_key : (e : Expr) → IsRelated e → shifts_of e ≤ shift_limit → (u : Option Ty)
        → is_key u (Some (kind_of s e)) ≡ true → KeyMakes keep ls u (Some (meaning e)) (Some (meaning' e))
    one_key e related few None h = absurd (cc)
    one_key e related few (Some u) h = (shifts_of e, related (Of u) (kind_is u (kind_of s e) h) few)

    read_related : (c : ℕ) (d : StateDecl) (m : Option (Meaning V O S)) (m' : Option (Meaning V' O' S')) (kind : Kind)
        (i : ℕ) → slice_get t.states c ≡ Some d → KeyMakes keep ls d.key m m' → Of d.value ≡ kind
        → Makes keep ls i kind (λ locals k. language.keyed V O S r m locals (λ x. r.reads c x (λ v. k (r.plain v))))
        (λ locals k. language.keyed V' O' S' r' m' locals (λ x. r'.reads c x (λ v. k (r'.plain v))))
    read_related c d m m' kind i at key same locals locals' k k' are goes =
        keyed_related keep ls d.key m m' key locals locals' (λ x. r.reads c x (λ v. k (r.plain v)))
        (λ x. r'.reads c x (λ v. k' (r'.plain v))) are (λ x x' of_key.
        keep.reads c d x x' (λ v. k (r.plain v)) (λ v. k' (r'.plain v)) at of_key
        (found_value kind d.value same i k k' goes))

    abbrev IsNodeRelated : Expr-F Expr SetField → Type 0
    IsNodeRelated y = (kind : Kind) → kind_at y ≡ Some kind → shifts_at y ≤ shift_limit
        → Makes keep ls (shifts_at y) kind (meaning_at y) (meaning_at' y)

    node_related : (y : Expr-F Known KnownSet) → IsNodeRelated (layer y)
    node_related (Expr-F.Num x) kind h few locals locals' k k' are goes =
        let c = chosen (is_number x) Number kind h in
        found_kind kind Number c.1 0 k k' goes (r.number x) (r'.number x) (keep.number 0 x c.0)
    node_related (Expr-F.Tag e i) kind h few locals locals' k k' are goes =
        let d = given_some (slice_get t.enums e) _ kind h in
        let c = chosen (ltb i (length d.0.variants)) (Of (ty.Enum e)) kind d.2 in
        found_value kind (ty.Enum e) c.1 0 k k' goes (r.tag e i) (r'.tag e i)
        (keep.tag e i d.0 d.1 (ltb-true i (length d.0.variants) c.0))
    node_related (Expr-F.Local i) kind h few locals locals' k k' are goes = by (slice_get ls i) refl h
      where
        by : (o : Option Ty) → slice_get ls i ≡ o → option_map Of o ≡ Some kind
            → R.doing (language.given V O S r (slice_get locals i) (λ v. k (r.plain v)))
            (language.given V' O' S' r' (slice_get locals' i) (λ v. k' (r'.plain v)))
        by (Some u) at e =
            given_related keep (R.value u) (slice_get locals i) (slice_get locals' i) (λ v. k (r.plain v))
            (λ v. k' (r'.plain v)) (local_related keep ls locals locals' i u are at)
            (found_value kind u (of_one (Of u) kind e) 0 k k' goes)
        by None at e = absurd (cc)
    node_related (Expr-F.Cell c None) kind h few locals locals' k k' are goes =
        let d = given_some (slice_get t.states c) _ kind h in
        let fits = chosen (is_key d.0.key None) (Of d.0.value) kind d.2 in
        read_related c d.0 None None kind 0 d.1 (no_key d.0.key fits.0) fits.1 locals locals' k k' are goes
    node_related (Expr-F.Cell c (Some e)) kind h few locals locals' k k' are goes =
        let d = given_some (slice_get t.states c) _ kind h in
        let fits = chosen (is_key d.0.key (Some (kind_of s e.0))) (Of d.0.value) kind d.2 in
        read_related c d.0 (Some (meaning e.0)) (Some (meaning' e.0)) kind (shifts_of e.0) d.1
        (one_key e.0 e.1 few d.0.key fits.0) fits.1 locals locals' k k' are goes
    node_related (Expr-F.Fields e path) kind h few locals locals' k k' are goes =
        let u = given_some (type_of (kind_of s e.0)) _ kind h in
        by u.0 (e.1 (Of u.0) (typed_kind (kind_of s e.0) u.0 u.1) few) (ltb 0 (length path)) u.2
      where
        by : (u : Ty) → Makes keep ls (shifts_of e.0) (Of u) (meaning e.0) (meaning' e.0) → (b : Bool)
            → (if b then option_map Of (type_at t u path) else None) ≡ Some kind
            → R.doing (language.valued V O S r (meaning e.0) locals (λ v.
            language.given V O S r (language.value_at V O S r (Some v) path) (λ w. k (r.plain w))))
            (language.valued V' O' S' r' (meaning' e.0) locals' (λ v.
            language.given V' O' S' r' (language.value_at V' O' S' r' (Some v) path) (λ w. k' (r'.plain w))))
        by u makes true found =
            valued_related keep ls (shifts_of e.0) u (meaning e.0) (meaning' e.0) makes locals locals'
            (λ v. language.given V O S r (language.value_at V O S r (Some v) path) (λ w. k (r.plain w)))
            (λ v. language.given V' O' S' r' (language.value_at V' O' S' r' (Some v) path) (λ w. k' (r'.plain w)))
            are (λ v v' is. ends v v' is (type_at t u path) refl found)
          where
            ends : (v : V) (v' : V') → R.value u v v' → (o : Option Ty) → type_at t u path ≡ o
                → option_map Of o ≡ Some kind
                → R.doing (language.given V O S r (language.value_at V O S r (Some v) path) (λ w. k (r.plain w)))
                (language.given V' O' S' r' (language.value_at V' O' S' r' (Some v') path) (λ w. k' (r'.plain w)))
            ends v v' is (Some w) at one =
                given_related keep (R.value w) (language.value_at V O S r (Some v) path)
                (language.value_at V' O' S' r' (Some v') path) (λ w. k (r.plain w)) (λ w. k' (r'.plain w))
                (path_related keep path u w (Some v) (Some v') is at)
                (found_value kind w (of_one (Of w) kind one) (shifts_of e.0) k k' goes)
            ends v v' is None at one = absurd (cc)
        by u makes false found = absurd (cc)
    node_related (Expr-F.With e sets) kind h few locals locals' k k' are goes =
        let u = given_some (type_of (kind_of s e.0)) _ kind h in
        let c = chosen _ (Of u.0) kind u.2 in
        let fits = (and_parts (ltb 0 (length (map set_kind (bare_sets sets))))
        (are_sets t u.0 (map set_kind (bare_sets sets))) c.0).1 in
        let f = within (shifts_of e.0) (greatest (map set_shifts (bare_sets sets))) shift_limit few in
        valued_related keep ls (shifts_of e.0) u.0 (meaning e.0) (meaning' e.0)
        (e.1 (Of u.0) (typed_kind (kind_of s e.0) u.0 u.1) f.0) locals locals'
        (λ v. language.sets_of V O S r v (map set_meaning (bare_sets sets)) locals (λ w. k (r.plain w)))
        (λ v. language.sets_of V' O' S' r' v (map set_meaning' (bare_sets sets)) locals' (λ w. k' (r'.plain w)))
        are (λ v v' is.
        sets_related keep ls u.0 (map set_meaning (bare_sets sets)) (map set_meaning' (bare_sets sets))
        (sets_from u.0 sets fits f.1) locals locals' v v' (λ w. k (r.plain w)) (λ w. k' (r'.plain w)) are is
        (found_value kind u.0 c.1 (max (shifts_of e.0) (greatest (map set_shifts (bare_sets sets)))) k k' goes))
    node_related (Expr-F.Make n ks) kind h few locals locals' k k' are goes =
        let d = given_some (slice_get t.records n) _ kind h in
        let c = chosen (are_of d.0.fields (map (kind_of s) (bare ks))) (Of (ty.Rec n)) kind d.2 in
        values_related keep ls (map (λ (p : Part). p.ty) d.0.fields) (map meaning (bare ks)) (map meaning' (bare ks))
        (parts_related d.0.fields ks c.0 few) locals [] locals' [] (λ vs. k (r.plain (r.make vs)))
        (λ vs. k' (r'.plain (r'.make vs))) are (λ vs vs' related.
        found_value kind (ty.Rec n) c.1 (greatest (map shifts_of (bare ks))) k k' goes (r.make vs) (r'.make vs')
        (keep.make n d.0 vs vs' d.1 related))
    node_related (Expr-F.NoneOf u) kind h few locals locals' k k' are goes =
        let c = chosen (is_type_in_use t (ty.Option u)) (Of (ty.Option u)) kind h in
        found_value kind (ty.Option u) c.1 0 k k' goes r.nothing r'.nothing (keep.nothing u c.0)
    node_related (Expr-F.SomeOf e) kind h few locals locals' k k' are goes =
        let u = given_some (type_of (kind_of s e.0)) _ kind h in
        let c = chosen (is_type_in_use t (ty.Option u.0)) (Of (ty.Option u.0)) kind u.2 in
        valued_related keep ls (shifts_of e.0) u.0 (meaning e.0) (meaning' e.0)
        (e.1 (Of u.0) (typed_kind (kind_of s e.0) u.0 u.1) few) locals locals' (λ v. k (r.plain (r.some v)))
        (λ v. k' (r'.plain (r'.some v))) are (λ v v' is.
        found_value kind (ty.Option u.0) c.1 (shifts_of e.0) k k' goes (r.some v) (r'.some v')
        (keep.some u.0 v v' c.0 is))
    node_related (Expr-F.Shift e x) kind h few locals locals' k k' are goes =
        let c = chosen _ Number kind h in
        let fits = and_parts (is_integer (kind_of s e.0)) (is_number x) c.0 in
        let i = integer_kind (kind_of s e.0) fits.0 in
        let one_more : suc (shifts_of e.0) ≡ 1 + shifts_of e.0 = omega arith in
        e.1 i.0 i.1 (omega (arith, few)) locals locals' (λ o. language.given V O S r (r.shift o x) k)
        (λ o. language.given V' O' S' r' (r'.shift o x) k') are (λ o o' is.
        given_related keep (R.operand (suc (shifts_of e.0)) Number) (r.shift o x) (r'.shift o' x) k k'
        (keep.shift (shifts_of e.0) i.0 o o' x (omega (arith, few)) i.2 fits.1 is) (λ p p' shifted.
        found_kind kind Number c.1 (1 + shifts_of e.0) k k' goes p p'
        (subst (λ (j : ℕ). R.operand j Number p p') one_more shifted)))
    node_related (Expr-F.Into j e) kind h few locals locals' k k' are goes =
        let c = chosen _ (Of (ty.Int j)) kind h in
        let fits = and_parts (ltb j (length t.ints)) (is_integer (kind_of s e.0)) c.0 in
        let i = integer_kind (kind_of s e.0) fits.1 in
        e.1 i.0 i.1 few locals locals'
        (λ o. language.into_type V O S r (slice_get t.ints j) o (λ v. k (r.plain v)))
        (λ o. language.into_type V' O' S' r' (slice_get t.ints j) o (λ v. k' (r'.plain v))) are (λ o o' is.
        by i.0 i.2 o o' is (slice_get t.ints j) refl (found_value kind (ty.Int j) c.1 (shifts_of e.0) k k' goes))
      where
        by : (l : Kind) → is_integer (Some l) ≡ true → (o : O) (o' : O') → R.operand (shifts_of e.0) l o o'
            → (d : Option IntDecl) → slice_get t.ints j ≡ d
            → ((v : V) (v' : V') → R.value (ty.Int j) v v' → R.doing (k (r.plain v)) (k' (r'.plain v')))
            → R.doing (language.into_type V O S r d o (λ v. k (r.plain v)))
            (language.into_type V' O' S' r' d o' (λ v. k' (r'.plain v)))
        by l integer o o' is (Some d) at goes =
            keep.into (shifts_of e.0) j d l o o' (λ v. k (r.plain v)) (λ v. k' (r'.plain v)) few at integer is goes
        by l integer o o' is None at goes = keep.blocks
    node_related (Expr-F.Compare o left right) kind h few locals locals' k k' are goes =
        let c = chosen (are_comparable o (kind_of s left.0) (kind_of s right.0)) (Of bool_ty) kind h in
        let parts = compared o (kind_of s left.0) (kind_of s right.0) c.0 in
        let j = some_kind (kind_of s left.0) parts.0 in
        let l = some_kind (kind_of s right.0) parts.1 in
        let f = within (shifts_of left.0) (shifts_of right.0) shift_limit few in
        left.1 j.0 j.1 f.0 locals locals'
        (λ x. meaning right.0 locals (λ y. language.compares_by V O S r o x y (λ b. k (r.plain (r.flag b)))))
        (λ x. meaning' right.0 locals' (λ y. language.compares_by V' O' S' r' o x y (λ b. k' (r'.plain (r'.flag b)))))
        are (λ x x' is.
        right.1 l.0 l.1 f.1 locals locals' (λ y. language.compares_by V O S r o x y (λ b. k (r.plain (r.flag b))))
        (λ y. language.compares_by V' O' S' r' o x' y (λ b. k' (r'.plain (r'.flag b)))) are (λ y y' are_too.
        compares_by_related keep (shifts_of left.0) (shifts_of right.0) f.0 f.1 j.0 l.0 x x' y y' is are_too o
        (λ b. k (r.plain (r.flag b))) (λ b. k' (r'.plain (r'.flag b)))
        (sym (ap (λ z. are_comparable o z (kind_of s right.0)) j.1 ∙ ap (are_comparable o (Some j.0)) l.1) ∙ c.0)
        (found_flag kind c.1 (max (shifts_of left.0) (shifts_of right.0)) k k' goes)))
    node_related (Expr-F.All ks) kind h few locals locals' k k' are goes =
        let c = chosen _ (Of bool_ty) kind h in
        let fits = and_parts (leb 2 (length (map (kind_of s) (bare ks)))) _ c.0 in
        all_related keep ls (map meaning (bare ks)) (map meaning' (bare ks)) (flags_related ks fits.1 few)
        locals locals' (λ b. k (r.plain (r.flag b))) (λ b. k' (r'.plain (r'.flag b))) are
        (found_flag kind c.1 (greatest (map shifts_of (bare ks))) k k' goes)
    node_related (Expr-F.Any ks) kind h few locals locals' k k' are goes =
        let c = chosen _ (Of bool_ty) kind h in
        let fits = and_parts (leb 2 (length (map (kind_of s) (bare ks)))) _ c.0 in
        any_related keep ls (map meaning (bare ks)) (map meaning' (bare ks)) (flags_related ks fits.1 few)
        locals locals' (λ b. k (r.plain (r.flag b))) (λ b. k' (r'.plain (r'.flag b))) are
        (found_flag kind c.1 (greatest (map shifts_of (bare ks))) k k' goes)
    node_related (Expr-F.Not e) kind h few locals locals' k k' are goes =
        let c = chosen _ (Of bool_ty) kind h in
        inspected_related keep ls (shifts_of e.0) (meaning e.0) (meaning' e.0) few
        (e.1 (Of bool_ty) (bool_is (kind_of s e.0) c.0) few) locals locals' (λ b. k (r.plain (r.flag (not b))))
        (λ b. k' (r'.plain (r'.flag (not b)))) are (λ b. found_flag kind c.1 (shifts_of e.0) k k' goes (not b))
    node_related (Expr-F.Apply f ks) kind h few locals locals' k k' are goes = by (ltb f n) refl h
      where
        by : (b : Bool) → ltb f n ≡ b
            → (if b then given (slice_get t.funs f) (λ d. if_so (are_of d.params (map (kind_of s) (bare ks)))
            (Of d.reply)) else None) ≡ Some kind
            → R.doing (language.values_of V O S r [] (map meaning (bare ks)) locals (λ vs.
            language.fun_at V O S r funs f vs (λ v. k (r.plain v))))
            (language.values_of V' O' S' r' [] (map meaning' (bare ks)) locals' (λ vs.
            language.fun_at V' O' S' r' funs' f vs (λ v. k' (r'.plain v))))
        by true lt found =
            let d = given_some (slice_get t.funs f) _ kind found in
            let c = chosen (are_of d.0.params (map (kind_of s) (bare ks))) (Of d.0.reply) kind d.2 in
            values_related keep ls (map (λ (p : Part). p.ty) d.0.params) (map meaning (bare ks))
            (map meaning' (bare ks)) (parts_related d.0.params ks c.0 few) locals [] locals' []
            (λ vs. language.fun_at V O S r funs f vs (λ v. k (r.plain v)))
            (λ vs. language.fun_at V' O' S' r' funs' f vs (λ v. k' (r'.plain v))) are (λ vs vs' related.
            answer f d.0 (ltb-true f n lt) d.1 vs vs' (λ v. k (r.plain v)) (λ v. k' (r'.plain v)) related
            (found_value kind d.0.reply c.1 (greatest (map shifts_of (bare ks))) k k' goes))
        by false lt found = absurd (cc)

    rolled_related : (x : Expr-F Expr SetField) → IsNodeRelated x → IsRelated (roll-Expr x)
    rolled_related x related kind h few =
        let shifts : shifts_of (roll-Expr x) ≡ shifts_at x = fold-roll-Expr ℕ ℕ shifts_step (λ x. x.value) x in
        subst (λ (i : ℕ). Makes keep ls i kind (meaning (roll-Expr x)) (meaning' (roll-Expr x))) (sym shifts)
        (subst (λ m. Makes keep ls (shifts_at x) kind m (meaning' (roll-Expr x)))
        (sym (fold-roll-Expr (Meaning V O S) (SetMeaning V O S) (language.meaning_step V O S r t.ints funs)
        (language.set_step V O S r) x))
        (subst (λ m. Makes keep ls (shifts_at x) kind (meaning_at x) m)
        (sym (fold-roll-Expr (Meaning V' O' S') (SetMeaning V' O' S') (language.meaning_step V' O' S' r' t.ints funs')
        (language.set_step V' O' S' r') x))
        (related kind (sym (fold-roll-Expr (Option Kind) Set (kind_step s) set_step x) ∙ h)
        (subst (λ (i : ℕ). i ≤ shift_limit) shifts few))))

    -- an expression with a kind comes to related operands of that kind
    pub expr_related : (e : Expr) → IsRelated e
    expr_related = ind-Expr IsRelated IsSetRelated
        (λ x y is. subst (λ z. IsRelated (roll-Expr z)) is (rolled_related (layer y) (node_related y)))
        (λ x y is. set_related (record { field = x.field; value = x.value })
        (subst (λ z. IsRelated z.value) is y.value.1))
