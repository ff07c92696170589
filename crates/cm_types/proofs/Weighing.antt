-- What is well typed over the first functions weighs the same wherever these weigh the same.
use Rattle.std.proofs.Common.{◌≡◌, ℕ, ◌+◌, ◌<◌, ltb, leb, Bool, true, false, not, ◌&&◌, List, [], ◌∷◌, ◌++◌, map}
use Rattle.std.proofs.Common.{length, sum, slice_get, Option, Some, None, is_some, refl, sym, ap, ◌∙◌, subst}
use Rattle.std.proofs.Common.{if◌then◌else◌}
use Rattle.std.proofs.lemmas.Bool.{and_parts, ltb-true}
use Rattle.std.specs.List.{list_all}
use Rattle.cm_model.specs.Tables.{Tables}
use Rattle.cm_model.specs.Types.{or_else}
use Rattle.cm_model.specs.Kinds.{Kind, Number, Of, Set, scope, given, if_so, is_bool, is_integer, is_of, type_of}
use Rattle.cm_model.specs.Kinds.{payload_of, are_of, is_named, field_of, are_sets, is_key, are_comparable, kind_step}
use Rattle.cm_model.specs.Kinds.{set_step, kind_of}
use Rattle.cm_model.specs.Blocks.{Typing, block_typing, typing_of, stmt_step}
use Rattle.cm_model.specs.Limits.{is_number}
use Rattle.cm_model.specs.Weights.{expr_weight, expr_weight_step, stmt_weight, stmt_weight_step, body_weight}
use Rattle.cm_model.specs.declared.ty.Ty.{Ty}
use Rattle.cm_model.specs.declared.ty.Part.{Part}
use Rattle.cm_model.specs.declared.body.StateDecl.{StateDecl}
use Rattle.cm_model.specs.declared.body.SetField.{SetField, fold-SetField, out-SetField, roll-out-SetField}
use Rattle.cm_model.specs.declared.body.SetField.{fold-roll-SetField}
use Rattle.cm_model.specs.declared.body.Expr.{Expr}
use Rattle.cm_model.specs.declared.body.Expr.TheViews.{roll-Expr}
use Rattle.cm_model.specs.declared.body.Expr.TheOpen.{Expr-F}
use Rattle.cm_model.specs.declared.body.Expr.TheFolds.{fold-roll-Expr, ind-Expr, map-Expr}
use Rattle.cm_model.specs.declared.body.Stmt.{Stmt}
use Rattle.cm_model.specs.declared.body.Stmt.TheViews.{roll-Stmt}
use Rattle.cm_model.specs.declared.body.Stmt.TheOpen.{Stmt-F}
use Rattle.cm_model.specs.declared.body.Stmt.TheFolds.{fold-roll-Stmt, ind-Stmt, map-Stmt}
use Rattle.cm_model.proofs.KindParts.{came, passed, typed_part, value_part, bool_part, integer_part, key_part, compared}

module _ (t : Tables) (b : ℕ) (ws us : List ℕ) (same : (i : ℕ) → i < b → slice_get ws i ≡ slice_get us i) where
  module _ (ls : List Ty) where
    abbrev kind : Expr → Option Kind
    kind = kind_of (scope t b ls)

    abbrev Same : Expr → Type 0
    Same e = is_some (kind e) ≡ true → expr_weight ws e ≡ expr_weight us e

    abbrev set_kind : SetField → Set
    set_kind = fold-SetField (Option Kind) Set (kind_step (scope t b ls)) set_step

    abbrev set_weight : List ℕ → SetField → ℕ
    set_weight vs = fold-SetField ℕ ℕ (expr_weight_step vs) (λ x. x.value)

    abbrev SameSet : SetField → Type 0
    SameSet x = is_some (set_kind x).1 ≡ true → set_weight ws x ≡ set_weight us x

    set_same : (x : SetField) → Same x.value → SameSet x
    set_same x one h =
        let is : set_kind x ≡ (x.field, kind x.value) =
        ap set_kind (sym (roll-out-SetField x)) ∙ fold-roll-SetField (Option Kind) Set
        (kind_step (scope t b ls)) set_step (out-SetField x) in
        weighs ws ∙ one (sym (ap (λ (p : Set). is_some p.1) is) ∙ h) ∙ sym (weighs us)
      where
        weighs : (vs : List ℕ) → set_weight vs x ≡ expr_weight vs x.value
        weighs vs = ap (set_weight vs) (sym (roll-out-SetField x)) ∙ fold-roll-SetField ℕ ℕ (expr_weight_step vs)
            (λ x. x.value) (out-SetField x)

    abbrev KE : Type 0
    KE = (e : Expr) × Same e

    abbrev KS : Type 0
    KS = (x : SetField) × SameSet x

    abbrev bare : List KE → List Expr
    bare = map (λ k. k.0)

    abbrev bare_sets : List KS → List SetField
    bare_sets = map (λ k. k.0)

    parts_same : (ps : List Part) (ks : List KE) → are_of ps (map kind (bare ks)) ≡ true
        → map (expr_weight ws) (bare ks) ≡ map (expr_weight us) (bare ks)
    parts_same [] [] h = refl
    parts_same (p ∷ ps) [] h = refl
    parts_same [] (k ∷ ks) h = absurd cc
    parts_same (p ∷ ps) (k ∷ ks) h =
        let c = and_parts (is_of p.ty (kind k.0)) (are_of ps (map kind (bare ks))) h in
        ap (λ n. n ∷ map (expr_weight ws) (bare ks)) (k.1 (value_part p.ty (kind k.0) c.0))
        ∙ ap (λ ns. expr_weight us k.0 ∷ ns) (parts_same ps ks c.1)

    flags_same : (ks : List KE) → list_all is_bool (map kind (bare ks)) ≡ true
        → map (expr_weight ws) (bare ks) ≡ map (expr_weight us) (bare ks)
    flags_same [] h = refl
    flags_same (k ∷ ks) h =
        let c = and_parts (is_bool (kind k.0)) (list_all is_bool (map kind (bare ks))) h in
        ap (λ n. n ∷ map (expr_weight ws) (bare ks)) (k.1 (bool_part (kind k.0) c.0))
        ∙ ap (λ ns. expr_weight us k.0 ∷ ns) (flags_same ks c.1)

    -- of sets that are typed, the first has a kind and so have the others
    set_part : (v : Ty) (x : Set) (xs : List Set) → are_sets t v (x ∷ xs) ≡ true → (is_some x.1 ≡ true)
        × (are_sets t v xs ≡ true)
    set_part v x xs h = by (field_of t v x.0) refl
      where
        none : field_of t v x.0 ≡ None → are_sets t v (x ∷ xs) ≡ false
        none is = rw (is) refl

        one : (w : Ty) → field_of t v x.0 ≡ Some w → are_sets t v (x ∷ xs) ≡
            (is_of w x.1 && (not (is_named x.0 xs) && are_sets t v xs))
        one w is = rw (is) refl

        by : (o : Option Ty) → field_of t v x.0 ≡ o → (is_some x.1 ≡ true) × (are_sets t v xs ≡ true)
        by (Some w) is =
            let p = and_parts (is_of w x.1) (not (is_named x.0 xs) && are_sets t v xs) (sym (one w is) ∙ h) in
            (value_part w x.1 p.0, (and_parts (not (is_named x.0 xs)) (are_sets t v xs) p.1).1)
        by None is = absurd (let never = none is in cc)

    sets_same : (v : Ty) (ks : List KS) → are_sets t v (map set_kind (bare_sets ks)) ≡ true
        → map (set_weight ws) (bare_sets ks) ≡ map (set_weight us) (bare_sets ks)
    sets_same v [] h = refl
    sets_same v (k ∷ ks) h =
        let p = set_part v (set_kind k.0) (map set_kind (bare_sets ks)) h in
        ap (λ n. n ∷ map (set_weight ws) (bare_sets ks)) (k.1 p.0) ∙ ap (λ ns. set_weight us k.0 ∷ ns)
        (sets_same v ks p.1)

    abbrev kind_at : Expr-F KE KS → Option Kind
    kind_at y = kind_step (scope t b ls) (map-Expr Expr SetField (Option Kind) Set kind set_kind
        (map-Expr KE KS Expr SetField (λ k. k.0) (λ k. k.0) y))

    abbrev weight_at : List ℕ → Expr-F KE KS → ℕ
    weight_at vs y = expr_weight_step vs (map-Expr Expr SetField ℕ ℕ (expr_weight vs) (set_weight vs)
        (map-Expr KE KS Expr SetField (λ k. k.0) (λ k. k.0) y))

    node_same : (y : Expr-F KE KS) → is_some (kind_at y) ≡ true → weight_at ws y ≡ weight_at us y
    node_same (Expr-F.Num x) h = refl
    node_same (Expr-F.Tag e i) h = refl
    node_same (Expr-F.Local i) h = refl
    node_same (Expr-F.Cell c None) h = refl
    node_same (Expr-F.Cell c (Some e)) h =
        let d = came (slice_get t.states c) (λ (d : StateDecl). if_so (is_key d.key (Some (kind e.0))) (Of d.value))
        h in
        ap (λ n. 1 + n) (e.1 (key_part d.0.key (kind e.0) (passed (is_key d.0.key (Some (kind e.0)))
        (Of d.0.value) d.2)))
    node_same (Expr-F.Fields e path) h = ap (λ n. 1 + n) (e.1 (typed_part (kind e.0) _ h))
    node_same (Expr-F.With e sets) h =
        let v = came (type_of (kind e.0)) _ h in
        let c = passed _ (Of v.0) v.2 in
        let p = and_parts (ltb 0 (length (map set_kind (bare_sets sets))))
        (are_sets t v.0 (map set_kind (bare_sets sets))) c in
        ap (λ n. 1 + n + sum (map (set_weight ws) (bare_sets sets))) (e.1 (typed_part (kind e.0) _ h))
        ∙ ap (λ ns. 1 + expr_weight us e.0 + sum ns) (sets_same v.0 sets p.1)
    node_same (Expr-F.Make r ks) h =
        let d = came (slice_get t.records r) _ h in
        ap (λ ns. 1 + sum ns) (parts_same d.0.fields ks (passed _ _ d.2))
    node_same (Expr-F.NoneOf v) h = refl
    node_same (Expr-F.SomeOf e) h = ap (λ n. 1 + n) (e.1 (typed_part (kind e.0) _ h))
    node_same (Expr-F.Shift e x) h =
        ap (λ n. 1 + n) (e.1 (integer_part (kind e.0) (and_parts (is_integer (kind e.0)) (is_number x)
        (passed _ Number h)).0))
    node_same (Expr-F.Into j e) h =
        ap (λ n. 1 + n) (e.1 (integer_part (kind e.0) (and_parts (ltb j (length t.ints)) (is_integer (kind e.0))
        (passed _ _ h)).1))
    node_same (Expr-F.Compare o left right) h =
        let p = compared o (kind left.0) (kind right.0) (passed (are_comparable o (kind left.0) (kind right.0)) _ h) in
        ap (λ n. 1 + n + expr_weight ws right.0) (left.1 p.0) ∙ ap (λ n. 1 + expr_weight us left.0 + n) (right.1 p.1)
    node_same (Expr-F.All ks) h =
        ap (λ ns. 1 + sum ns) (flags_same ks (and_parts (leb 2 (length (map kind (bare ks))))
        (list_all is_bool (map kind (bare ks))) (passed _ _ h)).1)
    node_same (Expr-F.Any ks) h =
        ap (λ ns. 1 + sum ns) (flags_same ks (and_parts (leb 2 (length (map kind (bare ks))))
        (list_all is_bool (map kind (bare ks))) (passed _ _ h)).1)
    node_same (Expr-F.Not e) h = ap (λ n. 1 + n) (e.1 (bool_part (kind e.0) (passed _ _ h)))
    node_same (Expr-F.Apply f ks) h = by (ltb f b) refl h
      where
        by : (c : Bool) → ltb f b ≡ c
            → is_some (if c then given (slice_get t.funs f) (λ d. if_so (are_of d.params (map kind (bare ks)))
            (Of d.reply)) else None) ≡ true
            → weight_at ws (Expr-F.Apply f ks) ≡ weight_at us (Expr-F.Apply f ks)
        by true lt e =
            let d = came (slice_get t.funs f) _ e in
            ap (λ ns. 1 + sum ns + or_else 0 (slice_get ws f)) (parts_same d.0.params ks (passed _ _ d.2))
            ∙ ap (λ o. 1 + sum (map (expr_weight us) (bare ks)) + or_else 0 o) (same f (ltb-true f b lt))
        by false lt e = absurd cc

    rolled_same : (x : Expr-F Expr SetField)
        → (is_some (kind_step (scope t b ls) (map-Expr Expr SetField (Option Kind) Set kind set_kind x)) ≡ true
        → expr_weight_step ws (map-Expr Expr SetField ℕ ℕ (expr_weight ws) (set_weight ws) x)
        ≡ expr_weight_step us (map-Expr Expr SetField ℕ ℕ (expr_weight us) (set_weight us) x)) → Same (roll-Expr x)
    rolled_same x one h =
        fold-roll-Expr ℕ ℕ (expr_weight_step ws) (λ x. x.value) x
        ∙ one (sym (ap is_some (fold-roll-Expr (Option Kind) Set (kind_step (scope t b ls)) set_step x)) ∙ h)
        ∙ sym (fold-roll-Expr ℕ ℕ (expr_weight_step us) (λ x. x.value) x)

    pub expr_same : (e : Expr) → Same e
    expr_same = ind-Expr Same SameSet
        (λ x y is. subst (λ z. Same (roll-Expr z)) is (rolled_same _ (node_same y)))
        (λ x y is. set_same (record { field = x.field; value = x.value }) (subst (λ z. Same z.value) is y.value.1))

  -- Statements

  module _ (reply : Ty) where
    abbrev typing : Stmt → Typing
    typing = typing_of t b reply

    abbrev SameStmt : Stmt → Type 0
    SameStmt x = (ls : List Ty) → is_some (typing x ls) ≡ true → stmt_weight ws x ≡ stmt_weight us x

    abbrev KT : Type 0
    KT = (x : Stmt) × SameStmt x

    abbrev bare_stmts : List KT → List Stmt
    bare_stmts = map (λ k. k.0)

    block_same : (ks : List KT) (ls : List Ty) → is_some (block_typing (map typing (bare_stmts ks)) ls) ≡ true
        → map (stmt_weight ws) (bare_stmts ks) ≡ map (stmt_weight us) (bare_stmts ks)
    block_same [] ls h = refl
    block_same (k ∷ ks) ls h =
        let p = came (typing k.0 ls) _ h in
        ap (λ n. n ∷ map (stmt_weight ws) (bare_stmts ks)) (k.1 ls (ap is_some p.1))
        ∙ ap (λ ns. stmt_weight us k.0 ∷ ns) (block_same ks p.0 p.2)

    abbrev typing_at : Stmt-F KT → Typing
    typing_at y = stmt_step t b reply (map-Stmt Stmt Typing typing (map-Stmt KT Stmt (λ k. k.0) y))

    abbrev stmt_at : List ℕ → Stmt-F KT → ℕ
    stmt_at vs y = stmt_weight_step vs (map-Stmt Stmt ℕ (stmt_weight vs) (map-Stmt KT Stmt (λ k. k.0) y))

    stmt_node : (y : Stmt-F KT) (ls : List Ty) → is_some (typing_at y ls) ≡ true → stmt_at ws y ≡ stmt_at us y
    stmt_node (Stmt-F.Let e) ls h = ap (λ n. 1 + n) (expr_same ls e (typed_part (kind ls e) _ h))
    stmt_node (Stmt-F.Set c None e) ls h =
        let d = came (slice_get t.states c) _ h in
        let p = and_parts (is_key d.0.key None) (is_of d.0.value (kind ls e)) (passed _ ls d.2) in
        ap (λ n. 1 + 0 + n) (expr_same ls e (value_part d.0.value (kind ls e) p.1))
    stmt_node (Stmt-F.Set c (Some k) e) ls h =
        let d = came (slice_get t.states c) _ h in
        let p = and_parts (is_key d.0.key (Some (kind ls k))) (is_of d.0.value (kind ls e)) (passed _ ls d.2) in
        ap (λ n. 1 + n + expr_weight ws e) (expr_same ls k (key_part d.0.key (kind ls k) p.0))
        ∙ ap (λ n. 1 + expr_weight us k + n) (expr_same ls e (value_part d.0.value (kind ls e) p.1))
    stmt_node (Stmt-F.If c left right) ls h =
        let first = is_some (block_typing (map typing (bare_stmts left)) ls) in
        let second = is_some (block_typing (map typing (bare_stmts right)) ls) in
        let p = and_parts (is_bool (kind ls c)) (first && second) (passed _ ls h) in
        let q = and_parts first second p.1 in
        ap (λ n. 1 + n + sum (map (stmt_weight ws) (bare_stmts left)) + sum (map (stmt_weight ws) (bare_stmts right)))
        (expr_same ls c (bool_part (kind ls c) p.0))
        ∙ ap (λ ns. 1 + expr_weight us c + sum ns + sum (map (stmt_weight ws) (bare_stmts right)))
        (block_same left ls q.0)
        ∙ ap (λ ns. 1 + expr_weight us c + sum (map (stmt_weight us) (bare_stmts left)) + sum ns)
        (block_same right ls q.1)
    stmt_node (Stmt-F.Case e left right) ls h =
        let o = came (type_of (kind ls e)) _ h in
        let u = came (payload_of o.0) _ o.2 in
        let first = is_some (block_typing (map typing (bare_stmts left)) ls) in
        let second = is_some (block_typing (map typing (bare_stmts right)) (ls ++ u.0 ∷ [])) in
        let q = and_parts first second (passed _ ls u.2) in
        ap (λ n. 1 + n + sum (map (stmt_weight ws) (bare_stmts left)) + sum (map (stmt_weight ws) (bare_stmts right)))
        (expr_same ls e (typed_part (kind ls e) _ h))
        ∙ ap (λ ns. 1 + expr_weight us e + sum ns + sum (map (stmt_weight ws) (bare_stmts right)))
        (block_same left ls q.0)
        ∙ ap (λ ns. 1 + expr_weight us e + sum (map (stmt_weight us) (bare_stmts left)) + sum ns)
        (block_same right (ls ++ u.0 ∷ []) q.1)
    stmt_node (Stmt-F.Assume c) ls h = ap (λ n. 1 + n) (expr_same ls c (bool_part (kind ls c) (passed _ ls h)))
    stmt_node (Stmt-F.Return e) ls h = ap (λ n. 1 + n) (expr_same ls e (value_part reply (kind ls e) (passed _ ls h)))

    stmt_rolled : (x : Stmt-F Stmt)
        → ((ls : List Ty) → is_some (stmt_step t b reply (map-Stmt Stmt Typing typing x) ls) ≡ true
        → stmt_weight_step ws (map-Stmt Stmt ℕ (stmt_weight ws) x) ≡ stmt_weight_step us
        (map-Stmt Stmt ℕ (stmt_weight us) x))
        → SameStmt (roll-Stmt x)
    stmt_rolled x one ls h =
        fold-roll-Stmt ℕ (stmt_weight_step ws) x
        ∙ one ls (sym (ap (λ (m : Typing). is_some (m ls)) (fold-roll-Stmt Typing (stmt_step t b reply) x)) ∙ h)
        ∙ sym (fold-roll-Stmt ℕ (stmt_weight_step us) x)

    stmt_same : (x : Stmt) → SameStmt x
    stmt_same = ind-Stmt SameStmt (λ x y is. subst (λ z. SameStmt (roll-Stmt z)) is (stmt_rolled _ (stmt_node y)))

    weights_same : (xs : List Stmt) (ls : List Ty) → is_some (block_typing (map typing xs) ls) ≡ true
        → map (stmt_weight ws) xs ≡ map (stmt_weight us) xs
    weights_same [] ls h = refl
    weights_same (x ∷ xs) ls h =
        let p = came (typing x ls) _ h in
        ap (λ n. n ∷ map (stmt_weight ws) xs) (stmt_same x ls (ap is_some p.1)) ∙ ap (λ ns. stmt_weight us x ∷ ns)
        (weights_same xs p.0 p.2)

    -- a body
    pub body_same : (xs : List Stmt) (ls : List Ty) → is_some (block_typing (map typing xs) ls) ≡ true
        → body_weight ws xs ≡ body_weight us xs
    body_same xs ls h = ap sum (weights_same xs ls h)
