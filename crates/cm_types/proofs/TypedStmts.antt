-- A block in which no rule fails becomes statements that are well typed and in order.
use Rattle.std.proofs.Common.{◌≡◌, ℕ, ◌≤◌, ◌&&◌, nat_lt, not, Bool, true, false, List, [], ◌∷◌, ◌++◌, map, length}
use Rattle.std.proofs.Common.{slice_get, Option, Some, None, is_some, refl, sym, ap, ◌∙◌, subst}
use Rattle.std.proofs.lemmas.Bool.{and_parts, and_from}
use Rattle.cm_model.specs.Tables.{Tables}
use Rattle.cm_model.specs.Kinds as kinds
use Rattle.cm_model.specs.Blocks as blocks
use Rattle.cm_model.specs.Blocks.{Typing, block_typing, typing_of, Ending, returns, is_in_order, endings_of}
use Rattle.cm_model.specs.Blocks.{ending_step}
use Rattle.cm_model.specs.declared.place.Place.{Place}
use Rattle.cm_model.specs.declared.ty.Ty.{Ty}
use Rattle.cm_model.specs.declared.body.StateDecl.{StateDecl}
use Rattle.cm_model.specs.declared.body.Stmt.{Stmt as Step}
use Rattle.cm_model.specs.declared.body.Stmt.TheFolds.{fold-Stmt}
use Rattle.cm_syntax.specs.declared.tree.Expr.{Expr}
use Rattle.cm_syntax.specs.declared.tree.Block.{Block}
use Rattle.cm_syntax.specs.declared.tree.Stmt.TheOpen as layer
use Rattle.cm_typing.specs.declared.flat.Flat.{Flat}
use Rattle.cm_typing.specs.declared.flat.Kind.{Kind}
use Rattle.cm_typing.specs.declared.flat.Kind.TheVariants as kind
use Rattle.cm_typing.specs.declared.names.Entry.{Entry}
use Rattle.cm_typing.specs.declared.names.Entry.TheVariants as entry
use Rattle.cm_typing.specs.declared.scope.Scope.{Scope}
use Rattle.cm_typing.specs.declared.told.Typed.{Typed}
use Rattle.cm_typing.specs.declared.told.Done.{Done}
use Rattle.cm_typing.specs.declared.told.Steps.{Steps}
use Rattle.cm_typing.specs.declared.told.FoundCell.{FoundCell}
use Rattle.cm_typing.specs.Told.{rule}
use Rattle.cm_typing.specs.Names.{Names, more}
use Rattle.cm_typing.specs.Rules as rules
use Rattle.cm_typing.specs.Flats.{is_value, is_bool, value_of, wanted, payload_of, ty_of_flat}
use Rattle.cm_typing.specs.Expressions.{named, map_told, expr_told}
use Rattle.cm_typing.specs.Statements.{StmtMeaning, BlockMeaning, bound, cell_named, cell_told, block_told}
use Rattle.cm_typing.specs.Statements.{condition_told, value_told, some_told, stmt_alone, stmt_step, block_step}
use Rattle.cm_typing.specs.Statements.{of_block}
use Rattle.cm_types.proofs.Items.{no_more, holds, not_true, map_more}
use Rattle.cm_types.proofs.ModelForms as forms
use Rattle.cm_types.proofs.Measured.{IsFlat, payload_flat, payload_fits}
use Rattle.cm_types.proofs.Standing.{types_in, Fits, FitsEntry, ScopeFits, named_fits, local_more}
use Rattle.cm_types.proofs.TypedParts.{BoolFirst, IsKind, kind_in, kind_at, IsTyped, value_is, bool_is, wanted_is}
use Rattle.cm_types.proofs.TypedExprs.{expr_sound, map_sound}
use Rattle.cm_types.proofs.StmtRules.{HeldStmt, HeldBlock, bare_stmt, bare_block, block_keeps}

-- Statements behind others

typing_more : (ms : List Typing) (m : Typing) (l k : List Ty) (o : Option (List Ty)) → block_typing ms l ≡ Some k
    → m k ≡ o
    → block_typing (ms ++ m ∷ []) l ≡ o
typing_more [] m l k o e h = let same : l ≡ k = cc in ends (m l) ∙ ap m same ∙ h
  where
    ends : (o : Option (List Ty)) → kinds.given o (block_typing []) ≡ o
    ends None = refl
    ends (Some x) = refl
typing_more (n ∷ ms) m l k o e h = after (n l) e (λ x e. typing_more ms m x k o e h)
  where
    after : (x : Option (List Ty)) → kinds.given x (block_typing ms) ≡ Some k
        → ((y : List Ty) → block_typing ms y ≡ Some k → block_typing (ms ++ m ∷ []) y ≡ o)
        → kinds.given x (block_typing (ms ++ m ∷ [])) ≡ o
    after None e rest = absurd cc
    after (Some x) e rest = rest x e

returns_more : (es : List Ending) (e : Ending) → returns (es ++ e ∷ []) ≡ e.0
returns_more [] e = refl
returns_more (d ∷ []) e = refl
returns_more (d ∷ c ∷ es) e = returns_more (c ∷ es) e

order_more : (es : List Ending) (e : Ending) → is_in_order es ≡ true → returns es ≡ false → e.1 ≡ true
    → is_in_order (es ++ e ∷ []) ≡ true
order_more [] e h r so = so
order_more (d ∷ []) e h r so = ap (λ c. not c && (d.1 && e.1)) r ∙ ap (λ c. c && e.1) h ∙ so
order_more (d ∷ c ∷ es) e h r so =
    let p = and_parts (not d.0) (d.1 && is_in_order (c ∷ es)) h in
    let q = and_parts d.1 (is_in_order (c ∷ es)) p.1 in
    and_from (not d.0) (d.1 && is_in_order ((c ∷ es) ++ e ∷ [])) p.0
    (and_from d.1 (is_in_order ((c ∷ es) ++ e ∷ [])) q.0 (order_more (c ∷ es) e q.1 r so))

and_false : (b : Bool) → (b && false) ≡ false
and_false true = refl
and_false false = refl

abbrev ending_with : Bool → Bool → Ending
ending_with returns order = (returns, order)

-- two blocks end as they were told to
both_end : (y w : Steps) → returns (endings_of y.steps) ≡ y.returns → returns (endings_of w.steps) ≡ w.returns
    → is_in_order (endings_of y.steps) ≡ true → is_in_order (endings_of w.steps) ≡ true
    → ending_with (returns (endings_of y.steps) && returns (endings_of w.steps))
    (is_in_order (endings_of y.steps) && is_in_order (endings_of w.steps))
    ≡ ending_with (y.returns && w.returns) true
both_end y w p q i j =
    ap (λ z. ending_with z (is_in_order (endings_of y.steps) && is_in_order (endings_of w.steps)))
    (ap (λ z. z && returns (endings_of w.steps)) p ∙ ap (λ z. y.returns && z) q)
    ∙ ap (ending_with (y.returns && w.returns)) (and_from (is_in_order (endings_of y.steps))
    (is_in_order (endings_of w.steps)) i j)

module _ (t : Tables) (m b : ℕ) (has_bool : BoolFirst t) (few : m ≤ length t.records) (s : Scope)
    (f : ScopeFits t m b s)
    (r : Flat) (reply_is : s.reply ≡ Some r) where
  abbrev R : Ty
  R = ty_of_flat r

  abbrev typing : Step → Typing
  typing = typing_of t b R

  abbrev ending : Step → Ending
  ending = fold-Stmt Ending ending_step

  -- what one statement leaves
  record IsDone (l : Names) (o : Done × Names) : Type 0 where
    locals : Fits t m b (types_in o.1) o.1
    typed : typing o.0.stmt (types_in l) ≡ Some (types_in o.1)
    ends : ending o.0.stmt ≡ (o.0.returns, true)

  abbrev SoundStmt : StmtMeaning → Type 0
  SoundStmt n = (l : Names) (returned : Bool) → Fits t m b (types_in l) l → (n l returned).1 ≡ []
      → IsDone l (n l returned).0 × (returned ≡ false)

  pub record IsBlock (l : Names) (o : Steps) : Type 0 where
    pub typed : is_some (block_typing (map typing o.steps) (types_in l)) ≡ true
    pub returns : returns (endings_of o.steps) ≡ o.returns
    pub order : is_in_order (endings_of o.steps) ≡ true

  abbrev pub SoundBlock : BlockMeaning → Type 0
  SoundBlock n = (l : Names) → Fits t m b (types_in l) l → (n.told l).1 ≡ [] → IsBlock l (n.told l).0

  abbrev HT : Type 0
  HT = HeldStmt SoundStmt SoundBlock

  abbrev HB : Type 0
  HB = HeldBlock SoundStmt SoundBlock

  steps_sound : (ms : List HT) (start l : Names) (xs : List Step) (ret : Bool) → Fits t m b (types_in l) l
      → block_typing (map typing xs) (types_in start) ≡ Some (types_in l)
      → returns (endings_of xs) ≡ ret → is_in_order (endings_of xs) ≡ true
      → (block_told xs ret (map (λ n. n.0) ms) l).1 ≡ [] → IsBlock start (block_told xs ret (map (λ n. n.0) ms) l).0
  steps_sound [] start l xs ret g e k z h = record { typed = ap is_some e; returns = k; order = z }
  steps_sound (n ∷ ms) start l xs ret g e k z h =
      let o = (n.0 l ret).0 in
      let p = no_more (n.0 l ret).1 _ h in
      let d = n.1 l ret g p.0 in
      let more_endings : endings_of (xs ++ o.0.stmt ∷ []) ≡ endings_of xs ++ ending o.0.stmt ∷ [] =
      map_more ending xs o.0.stmt in
      steps_sound ms start o.1 (xs ++ o.0.stmt ∷ []) o.0.returns d.0.locals
      (ap (λ z. block_typing z (types_in start)) (map_more typing xs o.0.stmt)
      ∙ typing_more (map typing xs) (typing o.0.stmt) (types_in start) (types_in l) (Some (types_in o.1)) e d.0.typed)
      (ap returns more_endings ∙ returns_more (endings_of xs) (ending o.0.stmt) ∙ ap (λ (x : Ending). x.0) d.0.ends)
      (ap is_in_order more_endings ∙ order_more (endings_of xs) (ending o.0.stmt) z (k ∙ d.1)
      (ap (λ (x : Ending). x.1) d.0.ends))
      p.1

  -- Cells that are assigned

  abbrev IsCell : FoundCell → Type 0
  IsCell x = (g : Flat) × (d : StateDecl) × (x.value ≡ Some g) × (slice_get t.states x.state ≡ Some d)
      × (d.key ≡ None) × (d.value ≡ ty_of_flat g)

  cell_entry_sound : (at : Place) (ts : List Ty) (e : Entry) → FitsEntry t m b ts e → (cell_named at (Some e)).1 ≡ []
      → IsCell (cell_named at (Some e)).0
  cell_entry_sound at ts (entry.Cell c o) g h = (g.0, g.1, g.2, g.4, g.5, g.6)
  cell_entry_sound at ts (entry.Sort n) g h = absurd cc
  cell_entry_sound at ts (entry.Int n) g h = absurd cc
  cell_entry_sound at ts (entry.Enum n) g h = absurd cc
  cell_entry_sound at ts (entry.Variant e i) g h = absurd cc
  cell_entry_sound at ts (entry.Record q o os) g h = absurd cc
  cell_entry_sound at ts (entry.Map c k o) g h = absurd cc
  cell_entry_sound at ts (entry.Function k os o) g h = absurd cc
  cell_entry_sound at ts entry.Unusable g h = absurd cc
  cell_entry_sound at ts (entry.Local i o) g h = absurd cc
  cell_entry_sound at ts (entry.Field i o) g h = absurd cc

  cell_sound : (at : Place) (n : List ℕ) (l : Names) → Fits t m b (types_in l) l → (cell_told at n s l).1 ≡ []
      → IsCell (cell_told at n s l).0
  cell_sound at n l g h =
      let p = no_more (named at n s l).1 _ h in
      let x = named_fits t m b at n s l f g p.0 in
      subst (λ o. (cell_named at o).1 ≡ [] → IsCell (cell_named at o).0) (sym x.1)
      (cell_entry_sound at (types_in l) x.0 x.2) p.1

  -- Expressions in statements

  condition_sound : (e : Expr) (l : Names) → Fits t m b (types_in l) l → (condition_told e s l).1 ≡ []
      → kinds.is_bool (kind_at t m b l (condition_told e s l).0) ≡ true
  condition_sound e l g h =
      let v = (expr_told e s l).0 in
      let p = no_more (expr_told e s l).1 _ h in
      let q = no_more (rule (is_bool v.kind) rules.condition v.at).1 [] p.1 in
      bool_is t m b l v (expr_sound t m b has_bool few e s l f g p.0) (holds (is_bool v.kind) rules.condition v.at q.0)

  value_sound : (e : Expr) (want : Option Flat) (x : Flat) (l : Names) → Fits t m b (types_in l) l → want ≡ Some x
      → (value_told e want s l).1 ≡ [] → kinds.is_of (ty_of_flat x) (kind_at t m b l (value_told e want s l).0) ≡ true
  value_sound e want x l g is h =
      let v = (expr_told e s l).0 in
      let p = no_more (expr_told e s l).1 _ h in
      let q = no_more (wanted want v.at v.kind).1 [] p.1 in
      wanted_is t m b l want v.at v x is (expr_sound t m b has_bool few e s l f g p.0) q.0

  -- the payload of a typed option
  payload_sound : (l : Names) (v : Typed) → IsTyped t m b l v → (payload_of v.at v.kind).1 ≡ []
      → (x : Flat) × ((payload_of v.at v.kind).0 ≡ Some x) × IsFlat t m x
      × (u : Ty) × (kind_at t m b l v.expr ≡ Some (kinds.Of u)) × (kinds.payload_of u ≡ Some (ty_of_flat x))
  payload_sound l v y h = by y.0 y.1 y.2 y.3
    where
      by : (k : Kind) → v.kind ≡ Some k → IsKind t m b k → kind_at t m b l v.expr ≡ Some (kind_in k)
          → (x : Flat) × ((payload_of v.at v.kind).0 ≡ Some x) × IsFlat t m x
          × (u : Ty) × (kind_at t m b l v.expr ≡ Some (kinds.Of u)) × (kinds.payload_of u ≡ Some (ty_of_flat x))
      by kind.Number e g at_v = absurd (let q : (payload_of v.at (Some kind.Number)).1 ≡ [] =
          sym (ap (λ o. (payload_of v.at o).1) e) ∙ h in cc)
      by (kind.Of z) e g at_v =
          let q : (payload_of v.at (Some (kind.Of z))).1 ≡ [] = sym (ap (λ o. (payload_of v.at o).1) e) ∙ h in
          let p = no_more (rule (nat_lt 0 z.options) rules.option v.at).1 [] q in
          let fits = payload_fits t m z g (holds (nat_lt 0 z.options) rules.option v.at p.0) in
          (payload_flat t m z g, ap (λ o. (payload_of v.at o).0) e, fits.0, ty_of_flat z, at_v, fits.1)

  -- Statements

  abbrev At : Names → Step → Option (List Ty)
  At l x = typing x (types_in l)

  alone_sound : (y : layer.Stmt-F HT HB) (l : Names) → Fits t m b (types_in l) l
      → (stmt_alone s (bare_stmt SoundStmt SoundBlock y) l).1 ≡ []
      → IsDone l (stmt_alone s (bare_stmt SoundStmt SoundBlock y) l).0
  alone_sound (layer.Let at n e) l g h =
      let v = (expr_told e s l).0 in
      let p = no_more (expr_told e s l).1 _ h in
      let q = no_more (rule (is_value v.kind) rules.number v.at).1 _ p.1 in
      let x = value_is t m b l v (expr_sound t m b has_bool few e s l f g p.0)
      (holds (is_value v.kind) rules.number v.at q.0) in
      let k = local_more t m b l n (value_of v.kind) x.0 g (ap value_of x.1) x.2 in
      record {
        locals = k.0;
        typed =
            ap (λ (z : Typing). z (types_in l)) (forms.of_Let (blocks.stmt_step t b R) v.expr)
            ∙ ap (λ o. kinds.given (kinds.type_of o) (λ u. Some (types_in l ++ u ∷ []))) x.3 ∙ ap Some (sym k.1);
        ends = forms.of_Let ending_step v.expr;
      }
  alone_sound (layer.Assign at n e) l g h =
      let c = (cell_told at n s l).0 in
      let v = (value_told e c.value s l).0 in
      let p = no_more (cell_told at n s l).1 _ h in
      let q = no_more (value_told e c.value s l).1 [] p.1 in
      let x = cell_sound at n l g p.0 in
      let so = value_sound e c.value x.0 l g x.2 q.0 in
      record {
        locals = g;
        typed =
            ap (λ (z : Typing). z (types_in l)) (forms.of_Set (blocks.stmt_step t b R) c.state None v)
            ∙ ap (λ o. kinds.given o (λ (d : StateDecl). kinds.if_so (kinds.is_key d.key None && kinds.is_of d.value
            (kind_at t m b l v)) (types_in l))) x.3
            ∙ ap (λ k. kinds.if_so (kinds.is_key k None && kinds.is_of x.1.value (kind_at t m b l v)) (types_in l)) x.4
            ∙ ap (λ u. kinds.if_so (kinds.is_of u (kind_at t m b l v)) (types_in l)) x.5
            ∙ ap (λ z. kinds.if_so z (types_in l)) so;
        ends = forms.of_Set ending_step c.state None v;
      }
  alone_sound (layer.AssignAt at n k e) l g h =
      let c = (map_told at n s l).0 in
      let w = (value_told k c.key s l).0 in
      let v = (value_told e c.value s l).0 in
      let p = no_more (map_told at n s l).1 _ h in
      let q = no_more (value_told k c.key s l).1 _ p.1 in
      let o = no_more (value_told e c.value s l).1 [] q.1 in
      let x = map_sound t m b has_bool at n s l f g p.0 in
      let key = value_sound k c.key x.0 l g x.3 q.0 in
      let so = value_sound e c.value x.1 l g x.4 o.0 in
      record {
        locals = g;
        typed =
            ap (λ (z : Typing). z (types_in l)) (forms.of_Set (blocks.stmt_step t b R) c.state (Some w) v)
            ∙ ap (λ o. kinds.given o (λ (d : StateDecl). kinds.if_so
            (kinds.is_key d.key (Some (kind_at t m b l w)) && kinds.is_of d.value (kind_at t m b l v))
            (types_in l))) x.6
            ∙ ap (λ z. kinds.if_so (kinds.is_key z (Some (kind_at t m b l w)) && kinds.is_of x.2.value
            (kind_at t m b l v)) (types_in l)) x.7
            ∙ ap (λ z. kinds.if_so (z && kinds.is_of x.2.value (kind_at t m b l v)) (types_in l)) key
            ∙ ap (λ u. kinds.if_so (kinds.is_of u (kind_at t m b l v)) (types_in l)) x.8
            ∙ ap (λ z. kinds.if_so z (types_in l)) so;
        ends = forms.of_Set ending_step c.state (Some w) v;
      }
  alone_sound (layer.If at e left) l g h =
      let v = (condition_told e s l).0 in
      let y = (left.0.told l).0 in
      let p = no_more (condition_told e s l).1 _ h in
      let q = no_more (left.0.told l).1 [] p.1 in
      let so = condition_sound e l g p.0 in
      let k = left.1 l g q.0 in
      let first = is_some (block_typing (map typing y.steps) (types_in l)) in
      record {
        locals = g;
        typed =
            ap (λ (z : Typing). z (types_in l)) (forms.of_If (blocks.stmt_step t b R) v y.steps [])
            ∙ ap (λ z. kinds.if_so (z && (first && true)) (types_in l)) so
            ∙ ap (λ z. kinds.if_so (z && true) (types_in l)) k.typed;
        ends =
            forms.of_If ending_step v y.steps []
            ∙ ap (λ z. ending_with z (is_in_order (endings_of y.steps) && true))
            (and_false (returns (endings_of y.steps)))
            ∙ ap (λ z. ending_with false (z && true)) k.order;
      }
  alone_sound (layer.IfElse at e left right) l g h =
      let v = (condition_told e s l).0 in
      let y = (left.0.told l).0 in
      let w = (right.0.told l).0 in
      let p = no_more (condition_told e s l).1 _ h in
      let q = no_more (left.0.told l).1 _ p.1 in
      let o = no_more (right.0.told l).1 [] q.1 in
      let so = condition_sound e l g p.0 in
      let j = left.1 l g q.0 in
      let k = right.1 l g o.0 in
      let first = is_some (block_typing (map typing y.steps) (types_in l)) in
      let second = is_some (block_typing (map typing w.steps) (types_in l)) in
      record {
        locals = g;
        typed =
            ap (λ (z : Typing). z (types_in l)) (forms.of_If (blocks.stmt_step t b R) v y.steps w.steps)
            ∙ ap (λ z. kinds.if_so (z && (first && second)) (types_in l)) so
            ∙ ap (λ z. kinds.if_so (z && second) (types_in l)) j.typed
            ∙ ap (λ z. kinds.if_so z (types_in l)) k.typed;
        ends = forms.of_If ending_step v y.steps w.steps ∙ both_end y w j.returns k.returns j.order k.order;
      }
  alone_sound (layer.Case at e left n right) l g h =
      let v = (expr_told e s l).0 in
      let c = (payload_of v.at v.kind).0 in
      let l2 = more l n (entry.Local (length l) c) in
      let y = (left.0.told l).0 in
      let w = (right.0.told l2).0 in
      let p = no_more (expr_told e s l).1 _ h in
      let q = no_more (payload_of v.at v.kind).1 _ p.1 in
      let o = no_more (left.0.told l).1 _ q.1 in
      let a = no_more (some_told n c right.0 s l).1 [] o.1 in
      let z = no_more (bound right.0.at n c s l).1 _ a.0 in
      let x = payload_sound l v (expr_sound t m b has_bool few e s l f g p.0) q.0 in
      let d = local_more t m b l n c x.0 g x.1 x.2 in
      let j = left.1 l g o.0 in
      let k = right.1 l2 d.0 z.1 in
      let first = is_some (block_typing (map typing y.steps) (types_in l)) in
      let second : is_some (block_typing (map typing w.steps) (types_in l ++ ty_of_flat x.0 ∷ [])) ≡ true =
      ap (λ ts. is_some (block_typing (map typing w.steps) ts)) (sym d.1) ∙ k.typed in
      record {
        locals = g;
        typed =
            ap (λ (z : Typing). z (types_in l)) (forms.of_Case (blocks.stmt_step t b R) v.expr y.steps w.steps)
            ∙ ap (λ o. kinds.given (kinds.type_of o) (λ i. kinds.given (kinds.payload_of i)
            (λ u. kinds.if_so (first && is_some (block_typing (map typing w.steps) (types_in l ++ u ∷ [])))
            (types_in l)))) x.4
            ∙ ap (λ o. kinds.given o (λ u. kinds.if_so (first && is_some (block_typing (map typing w.steps)
            (types_in l ++ u ∷ []))) (types_in l))) x.5
            ∙ ap (λ z. kinds.if_so (z && is_some (block_typing (map typing w.steps)
            (types_in l ++ ty_of_flat x.0 ∷ []))) (types_in l)) j.typed
            ∙ ap (λ z. kinds.if_so z (types_in l)) second;
        ends = forms.of_Case ending_step v.expr y.steps w.steps ∙ both_end y w j.returns k.returns j.order k.order;
      }
  alone_sound (layer.Assume at e) l g h =
      let v = (condition_told e s l).0 in
      let p = no_more (condition_told e s l).1 [] h in
      record {
        locals = g;
        typed =
            ap (λ (z : Typing). z (types_in l)) (forms.of_Assume (blocks.stmt_step t b R) v)
            ∙ ap (λ z. kinds.if_so z (types_in l)) (condition_sound e l g p.0);
        ends = forms.of_Assume ending_step v;
      }
  alone_sound (layer.Return at e) l g h =
      let v = (value_told e s.reply s l).0 in
      let p = no_more (value_told e s.reply s l).1 [] h in
      record {
        locals = g;
        typed =
            ap (λ (z : Typing). z (types_in l)) (forms.of_Return (blocks.stmt_step t b R) v)
            ∙ ap (λ z. kinds.if_so z (types_in l)) (value_sound e s.reply r l g reply_is p.0);
        ends = forms.of_Return ending_step v;
      }

  stmt_sound : (y : layer.Stmt-F HT HB) → SoundStmt (stmt_step s (bare_stmt SoundStmt SoundBlock y))
  stmt_sound y l returned g h =
      let p = no_more (rule (not returned) rules.returns _).1 _ h in
      (alone_sound y l g p.1, not_true returned (holds (not returned) rules.returns _ p.0))

  block_step_sound : (y : layer.Block-F HT HB) → SoundBlock (block_step (bare_block SoundStmt SoundBlock y))
  block_step_sound y l g h = steps_sound y.statements l l [] false g refl refl refl h

  -- A BLOCK IN WHICH NO RULE FAILS IS WELL TYPED, AND NOTHING IN IT STANDS BEHIND A STATEMENT THAT ALWAYS RETURNS.
  pub block_sound : (x : Block) → SoundBlock (of_block s x)
  block_sound = block_keeps SoundStmt SoundBlock s stmt_sound block_step_sound
