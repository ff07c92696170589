-- Well typed bodies do related things, and so do functions, calls and invariants.
use Rattle.std.proofs.Common.{◌≡◌, ℕ, ◌≤◌, Bool, true, false, List, [], ◌∷◌, ◌++◌, map, Option, Some, None, slice_get}
use Rattle.std.proofs.Common.{is_some, refl, sym, ap, subst, if◌then◌else◌}
use Rattle.std.specs.Prelude.{max}
use Rattle.std.proofs.lemmas.Bool.{and_parts}
use Rattle.cm_model.specs.Tables.{Tables}
use Rattle.cm_model.specs.Limits.{shift_limit}
use Rattle.cm_model.specs.Kinds.{Kind, Of, scope, is_bool, is_of, bool_ty, type_of, payload_of, is_key, kind_of}
use Rattle.cm_model.specs.Blocks.{Typing, block_typing, stmt_step, typing_of, is_body}
use Rattle.cm_model.specs.Weights.{greatest, shifts_of, stmt_shifts_step, body_shifts}
use Rattle.cm_model.specs.declared.ty.Ty.{Ty}
use Rattle.cm_model.specs.declared.body.StateDecl.{StateDecl}
use Rattle.cm_model.specs.declared.body.Expr.{Expr}
use Rattle.cm_model.specs.declared.body.Stmt.{Stmt}
use Rattle.cm_model.specs.declared.body.Stmt.TheViews.{roll-Stmt}
use Rattle.cm_model.specs.declared.body.Stmt.TheOpen.{Stmt-F}
use Rattle.cm_model.specs.declared.body.Stmt.TheFolds.{fold-Stmt, fold-roll-Stmt, ind-Stmt, map-Stmt}
use Rattle.cm_model.proofs.KindParts.{chosen, given_some, typed_kind}
use Rattle.cm_code.specs.Rules.{Rules}
use Rattle.cm_code.specs.Language as language
use Rattle.cm_code.specs.Language.{Meaning, Called, Turn}
use Rattle.cm_relation.specs.Relation.{Relation, KeepRelation, IfBoth}
use Rattle.cm_relation.proofs.OneKind.{kind_is, bool_is, some_types, of_one, within}
use Rattle.cm_relation.proofs.Parts.{Makes, AreLocals, KeyMakes, valued_related, inspected_related, keyed_related}
use Rattle.cm_relation.proofs.Parts.{one_more}
use Rattle.cm_relation.proofs.Expressions.{FunctionsAnswer, expr_related, no_key, one_key}

module _ {t : Tables} {V O S V' O' S' : Type 0} {r : Rules V O S} {r' : Rules V' O' S'} {R : Relation V O S V' O' S'}
    (keep : KeepRelation t V O S V' O' S' r r' R) where
  -- a statement, from locals of some types, goes on with locals of the types after it or returns a reply
  module _ (n : ℕ) (funs : List (Called V S)) (funs' : List (Called V' S')) (answer : FunctionsAnswer keep n funs funs')
      (reply : Ty) where
    abbrev Goes : Typing → ℕ → Turn V S → Turn V' S' → Type 0
    Goes m shifts turn turn' = (ls after : List Ty) (locals : List V) (locals' : List V') (ret : V → S) (ret' : V' → S')
        (next : List V → S) (next' : List V' → S') → m ls ≡ Some after → shifts ≤ shift_limit
        → AreLocals keep ls locals locals'
        → ((x : V) (x' : V') → R.value reply x x' → R.doing (ret x) (ret' x'))
        → ((more : List V) (more' : List V') → AreLocals keep after more more' → R.doing (next more) (next' more'))
        → R.doing (turn locals ret next) (turn' locals' ret' next')

    abbrev typing : Stmt → Typing
    typing = typing_of t n reply

    abbrev shifts : Stmt → ℕ
    shifts = fold-Stmt ℕ stmt_shifts_step

    abbrev turn : Stmt → Turn V S
    turn = language.turn_of V O S r t.ints funs

    abbrev turn' : Stmt → Turn V' S'
    turn' = language.turn_of V' O' S' r' t.ints funs'

    abbrev IsTurn : Stmt → Type 0
    IsTurn x = Goes (typing x) (shifts x) (turn x) (turn' x)

    abbrev KnownStmt : Type 0
    KnownStmt = (x : Stmt) × IsTurn x

    abbrev stmts : List KnownStmt → List Stmt
    stmts = map (λ k. k.0)

    block_goes : (ks : List KnownStmt) → Goes (block_typing (map typing (stmts ks))) (greatest (map shifts (stmts ks)))
        (language.block_of V S (map turn (stmts ks))) (language.block_of V' S' (map turn' (stmts ks)))
    block_goes [] ls after locals locals' ret ret' next next' h few are returns goes =
        goes locals locals' (subst (λ us. AreLocals keep us locals locals') (of_one ls after h) are)
    block_goes (k ∷ ks) ls after locals locals' ret ret' next next' h few are returns goes =
        let m = given_some (typing k.0 ls) (block_typing (map typing (stmts ks))) after h in
        let f = within (shifts k.0) (greatest (map shifts (stmts ks))) shift_limit few in
        k.1 ls m.0 locals locals' ret ret' (λ more. language.block_of V S (map turn (stmts ks)) more ret next)
        (λ more. language.block_of V' S' (map turn' (stmts ks)) more ret' next') m.1 f.0 are returns
        (λ more more' related.
        block_goes ks m.0 after more more' ret ret' next next' m.2 f.1 related returns goes)

    abbrev meaning : Expr → Meaning V O S
    meaning = language.meaning_of V O S r t.ints funs

    abbrev meaning' : Expr → Meaning V' O' S'
    meaning' = language.meaning_of V' O' S' r' t.ints funs'

    abbrev expr : (ls : List Ty) (e : Expr) (kind : Kind) → kind_of (scope t n ls) e ≡ Some kind
        → shifts_of e ≤ shift_limit → Makes keep ls (shifts_of e) kind (meaning e) (meaning' e)
    expr ls e kind h few = expr_related keep n funs funs' answer ls e kind h few

    abbrev bare : Stmt-F KnownStmt → Stmt-F Stmt
    bare = map-Stmt KnownStmt Stmt (λ k. k.0)

    abbrev typing_at : Stmt-F Stmt → Typing
    typing_at y = stmt_step t n reply (map-Stmt Stmt Typing typing y)

    abbrev shifts_at : Stmt-F Stmt → ℕ
    shifts_at y = stmt_shifts_step (map-Stmt Stmt ℕ shifts y)

    abbrev turn_at : Stmt-F Stmt → Turn V S
    turn_at y = language.turn_step V O S r t.ints funs (map-Stmt Stmt (Turn V S) turn y)

    abbrev turn_at' : Stmt-F Stmt → Turn V' S'
    turn_at' y = language.turn_step V' O' S' r' t.ints funs' (map-Stmt Stmt (Turn V' S') turn' y)

    write_goes : (ls : List Ty) (c : ℕ) (d : StateDecl) (m : Option (Meaning V O S)) (m' : Option (Meaning V' O' S'))
        (e : Expr) → slice_get t.states c ≡ Some d → KeyMakes keep ls d.key m m'
        → kind_of (scope t n ls) e ≡ Some (Of d.value) → shifts_of e ≤ shift_limit → (locals : List V)
        (locals' : List V') (next : S) (next' : S') → AreLocals keep ls locals locals' → R.doing next next'
        → R.doing (language.keyed V O S r m locals (λ x.
        language.valued V O S r (meaning e) locals (λ v. r.writes c x v next)))
        (language.keyed V' O' S' r' m' locals' (λ x.
        language.valued V' O' S' r' (meaning' e) locals' (λ v. r'.writes c x v next')))
    write_goes ls c d m m' e at key kind few locals locals' next next' are goes =
        keyed_related keep ls d.key m m' key locals locals'
        (λ x. language.valued V O S r (meaning e) locals (λ v. r.writes c x v next))
        (λ x. language.valued V' O' S' r' (meaning' e) locals' (λ v. r'.writes c x v next')) are (λ x x' of_key.
        valued_related keep ls (shifts_of e) d.value (meaning e) (meaning' e) (expr ls e (Of d.value) kind few)
        locals locals' (λ v. r.writes c x v next) (λ v. r'.writes c x' v next') are (λ v v' is.
        keep.writes c d x x' v v' next next' at of_key is goes))

    node_goes : (y : Stmt-F KnownStmt) → Goes (typing_at (bare y)) (shifts_at (bare y)) (turn_at (bare y))
        (turn_at' (bare y))
    node_goes (Stmt-F.Let e) ls after locals locals' ret ret' next next' h few are returns goes =
        let u = given_some (type_of (kind_of (scope t n ls) e)) _ after h in
        valued_related keep ls (shifts_of e) u.0 (meaning e) (meaning' e)
        (expr ls e (Of u.0) (typed_kind (kind_of (scope t n ls) e) u.0 u.1) few) locals locals'
        (λ v. next (locals ++ v ∷ [])) (λ v. next' (locals' ++ v ∷ [])) are (λ v v' is.
        goes (locals ++ v ∷ []) (locals' ++ v' ∷ [])
        (subst (λ us. AreLocals keep us (locals ++ v ∷ []) (locals' ++ v' ∷ [])) (of_one (ls ++ u.0 ∷ []) after u.2)
        (one_more keep ls locals locals' u.0 v v' are is)))
    node_goes (Stmt-F.Set c None e) ls after locals locals' ret ret' next next' h few are returns goes =
        let d = given_some (slice_get t.states c) _ after h in
        let fits = chosen _ ls after d.2 in
        let parts = and_parts (is_key d.0.key None) (is_of d.0.value (kind_of (scope t n ls) e)) fits.0 in
        let f = within 0 (shifts_of e) shift_limit few in
        write_goes ls c d.0 None None e d.1 (no_key keep n funs funs' answer ls d.0.key parts.0)
        (kind_is d.0.value (kind_of (scope t n ls) e) parts.1) f.1 locals locals' (next locals) (next' locals') are
        (goes locals locals' (subst (λ us. AreLocals keep us locals locals') fits.1 are))
    node_goes (Stmt-F.Set c (Some key) e) ls after locals locals' ret ret' next next' h few are returns goes =
        let d = given_some (slice_get t.states c) _ after h in
        let fits = chosen _ ls after d.2 in
        let parts = and_parts (is_key d.0.key (Some (kind_of (scope t n ls) key)))
        (is_of d.0.value (kind_of (scope t n ls) e)) fits.0 in
        let f = within (shifts_of key) (shifts_of e) shift_limit few in
        write_goes ls c d.0 (Some (meaning key)) (Some (meaning' key)) e d.1
        (one_key keep n funs funs' answer ls key (expr ls key) f.0 d.0.key parts.0)
        (kind_is d.0.value (kind_of (scope t n ls) e) parts.1) f.1 locals locals' (next locals) (next' locals') are
        (goes locals locals' (subst (λ us. AreLocals keep us locals locals') fits.1 are))
    node_goes (Stmt-F.If c left right) ls after locals locals' ret ret' next next' h few are returns goes =
        let fits = chosen _ ls after h in
        let tests = and_parts (is_bool (kind_of (scope t n ls) c)) _ fits.0 in
        let blocks = and_parts (is_some (block_typing (map typing (stmts left)) ls))
        (is_some (block_typing (map typing (stmts right)) ls)) tests.1 in
        let one = some_types (block_typing (map typing (stmts left)) ls) blocks.0 in
        let two = some_types (block_typing (map typing (stmts right)) ls) blocks.1 in
        let f = within (shifts_of c) (max (greatest (map shifts (stmts left))) (greatest (map shifts (stmts right))))
        shift_limit few in
        let g = within (greatest (map shifts (stmts left))) (greatest (map shifts (stmts right))) shift_limit f.1 in
        let done : R.doing (next locals) (next' locals') =
        goes locals locals' (subst (λ us. AreLocals keep us locals locals') fits.1 are) in
        inspected_related keep ls (shifts_of c) (meaning c) (meaning' c) f.0
        (expr ls c (Of bool_ty) (bool_is (kind_of (scope t n ls) c) tests.0) f.0) locals locals'
        (λ b. if b then language.branch_of V S (map turn (stmts left)) locals ret next
        else language.branch_of V S (map turn (stmts right)) locals ret next)
        (λ b. if b then language.branch_of V' S' (map turn' (stmts left)) locals' ret' next'
        else language.branch_of V' S' (map turn' (stmts right)) locals' ret' next') are
        (by
        (block_goes left ls one.0 locals locals' ret ret' (λ more. next locals) (λ more. next' locals') one.1 g.0 are
        returns (λ more more' related. done))
        (block_goes right ls two.0 locals locals' ret ret' (λ more. next locals) (λ more. next' locals') two.1 g.1 are
        returns (λ more more' related. done)))
      where
        by : R.doing (language.branch_of V S (map turn (stmts left)) locals ret next)
            (language.branch_of V' S' (map turn' (stmts left)) locals' ret' next')
            → R.doing (language.branch_of V S (map turn (stmts right)) locals ret next)
            (language.branch_of V' S' (map turn' (stmts right)) locals' ret' next')
            → (b : Bool)
            → R.doing (if b then language.branch_of V S (map turn (stmts left)) locals ret next
            else language.branch_of V S (map turn (stmts right)) locals ret next)
            (if b then language.branch_of V' S' (map turn' (stmts left)) locals' ret' next'
            else language.branch_of V' S' (map turn' (stmts right)) locals' ret' next')
        by one two true = one
        by one two false = two
    node_goes (Stmt-F.Case e left right) ls after locals locals' ret ret' next next' h few are returns goes =
        let o = given_some (type_of (kind_of (scope t n ls) e)) _ after h in
        let u = given_some (payload_of o.0) _ after o.2 in
        let fits = chosen _ ls after u.2 in
        let blocks = and_parts (is_some (block_typing (map typing (stmts left)) ls))
        (is_some (block_typing (map typing (stmts right)) (ls ++ u.0 ∷ []))) fits.0 in
        let one = some_types (block_typing (map typing (stmts left)) ls) blocks.0 in
        let two = some_types (block_typing (map typing (stmts right)) (ls ++ u.0 ∷ [])) blocks.1 in
        let f = within (shifts_of e) (max (greatest (map shifts (stmts left))) (greatest (map shifts (stmts right))))
        shift_limit few in
        let g = within (greatest (map shifts (stmts left))) (greatest (map shifts (stmts right))) shift_limit f.1 in
        let done : R.doing (next locals) (next' locals') =
        goes locals locals' (subst (λ us. AreLocals keep us locals locals') fits.1 are) in
        valued_related keep ls (shifts_of e) o.0 (meaning e) (meaning' e)
        (expr ls e (Of o.0) (typed_kind (kind_of (scope t n ls) e) o.0 o.1) f.0) locals locals'
        (λ v. r.opens v (λ p.
        language.case_branch V S (map turn (stmts left)) (map turn (stmts right)) p locals ret next))
        (λ v. r'.opens v (λ p.
        language.case_branch V' S' (map turn' (stmts left)) (map turn' (stmts right)) p locals' ret' next')) are
        (λ v v' is.
        keep.opens o.0 u.0 v v'
        (λ p. language.case_branch V S (map turn (stmts left)) (map turn (stmts right)) p locals ret next)
        (λ p. language.case_branch V' S' (map turn' (stmts left)) (map turn' (stmts right)) p locals' ret' next')
        is u.1
        (by u.0
        (block_goes left ls one.0 locals locals' ret ret' (λ more. next locals) (λ more. next' locals') one.1 g.0 are
        returns (λ more more' related. done))
        (λ x x' related. block_goes right (ls ++ u.0 ∷ []) two.0 (locals ++ x ∷ []) (locals' ++ x' ∷ []) ret ret'
        (λ more. next locals) (λ more. next' locals') two.1 g.1
        (one_more keep ls locals locals' u.0 x x' are related) returns (λ more more' later. done))))
      where
        by : (w : Ty)
            → R.doing (language.branch_of V S (map turn (stmts left)) locals ret next)
            (language.branch_of V' S' (map turn' (stmts left)) locals' ret' next')
            → ((x : V) (x' : V') → R.value w x x'
            → R.doing (language.some_branch_of V S x (map turn (stmts right)) locals ret next)
            (language.some_branch_of V' S' x' (map turn' (stmts right)) locals' ret' next'))
            → (p : Option V) (p' : Option V') → IfBoth (R.value w) p p'
            → R.doing (language.case_branch V S (map turn (stmts left)) (map turn (stmts right)) p locals ret next)
            (language.case_branch V' S' (map turn' (stmts left)) (map turn' (stmts right)) p' locals' ret' next')
        by w one two (Some x) (Some x') is = two x x' is
        by w one two None None is = one
        by w one two (Some x) None is = absurd is
        by w one two None (Some x') is = absurd is
    node_goes (Stmt-F.Assume c) ls after locals locals' ret ret' next next' h few are returns goes =
        let fits = chosen (is_bool (kind_of (scope t n ls) c)) ls after h in
        inspected_related keep ls (shifts_of c) (meaning c) (meaning' c) few
        (expr ls c (Of bool_ty) (bool_is (kind_of (scope t n ls) c) fits.0) few) locals locals'
        (λ b. if b then next locals else r.blocks) (λ b. if b then next' locals' else r'.blocks) are
        (by (goes locals locals' (subst (λ us. AreLocals keep us locals locals') fits.1 are)))
      where
        by : R.doing (next locals) (next' locals') → (b : Bool)
            → R.doing (if b then next locals else r.blocks) (if b then next' locals' else r'.blocks)
        by more true = more
        by more false = keep.blocks
    node_goes (Stmt-F.Return e) ls after locals locals' ret ret' next next' h few are returns goes =
        valued_related keep ls (shifts_of e) reply (meaning e) (meaning' e)
        (expr ls e (Of reply) (kind_is reply (kind_of (scope t n ls) e) (chosen _ ls after h).0) few)
        locals locals' ret ret' are returns

    rolled_goes : (x : Stmt-F Stmt) → Goes (typing_at x) (shifts_at x) (turn_at x) (turn_at' x) → IsTurn (roll-Stmt x)
    rolled_goes x goes =
        subst (λ m. Goes m (shifts (roll-Stmt x)) (turn (roll-Stmt x)) (turn' (roll-Stmt x)))
        (sym (fold-roll-Stmt Typing (stmt_step t n reply) x))
        (subst (λ m. Goes (typing_at x) m (turn (roll-Stmt x)) (turn' (roll-Stmt x)))
        (sym (fold-roll-Stmt ℕ stmt_shifts_step x))
        (subst (λ m. Goes (typing_at x) (shifts_at x) m (turn' (roll-Stmt x)))
        (sym (fold-roll-Stmt (Turn V S) (language.turn_step V O S r t.ints funs) x))
        (subst (λ m. Goes (typing_at x) (shifts_at x) (turn_at x) m)
        (sym (fold-roll-Stmt (Turn V' S') (language.turn_step V' O' S' r' t.ints funs') x)) goes)))

    stmt_goes : (x : Stmt) → IsTurn x
    stmt_goes = ind-Stmt IsTurn (λ x y is. subst (λ z. IsTurn (roll-Stmt z)) is (rolled_goes (bare y) (node_goes y)))

    known : List Stmt → List KnownStmt
    known [] = []
    known (x ∷ xs) = (x, stmt_goes x) ∷ known xs

    all_known : (xs : List Stmt) → stmts (known xs) ≡ xs
    unfolding known
    all_known [] = refl
    all_known (x ∷ xs) = ap (λ ys. x ∷ ys) (all_known xs)

    pub body_related : (params : List Ty) (body : List Stmt) → is_body t n reply params body ≡ true
        → body_shifts body ≤ shift_limit → (args : List V) (args' : List V') (k : V → S) (k' : V' → S')
        → AreLocals keep params args args' → ((x : V) (x' : V') → R.value reply x x' → R.doing (k x) (k' x'))
        → R.doing (language.body_of V O S r t.ints funs body args k)
        (language.body_of V' O' S' r' t.ints funs' body args' k')
    body_related params body h few args args' k k' are answers =
        let after = some_types (block_typing (map typing body) params) h in
        subst (λ xs. R.doing (language.block_of V S (map turn xs) args k (λ more. r.blocks))
        (language.block_of V' S' (map turn' xs) args' k' (λ more. r'.blocks))) (all_known body)
        (block_goes (known body) params after.0 args args' k k' (λ more. r.blocks) (λ more. r'.blocks)
        (subst (λ xs. block_typing (map typing xs) params ≡ Some after.0) (sym (all_known body)) after.1)
        (subst (λ xs. greatest (map shifts xs) ≤ shift_limit) (sym (all_known body)) few)
        are answers (λ more more' related. keep.blocks))
