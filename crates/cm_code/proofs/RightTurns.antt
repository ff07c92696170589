-- The code of statements, bodies and functions does what they do.
use Rattle.std.proofs.Common.{◌≡◌, ℕ, zero, suc, ◌+◌, Bool, true, false, List, [], ◌∷◌, ◌++◌, length, map, Option}
use Rattle.std.proofs.Common.{Some, None, refl, sym, ap, ◌∙◌, subst, arith, append_assoc, if◌then◌else◌}
use Rattle.std.proofs.Math.Path.{fun_ext}
use Rattle.std.proofs.lemmas.List.{append-nil, length-append}
use Rattle.cm_model.specs.declared.ty.IntDecl.{IntDecl}
use Rattle.cm_model.specs.declared.body.Expr.{Expr}
use Rattle.cm_model.specs.declared.body.Stmt.{Stmt}
use Rattle.cm_model.specs.declared.body.Stmt.TheViews.{roll-Stmt}
use Rattle.cm_model.specs.declared.body.Stmt.TheOpen.{Stmt-F}
use Rattle.cm_model.specs.declared.body.Stmt.TheFolds.{fold-roll-Stmt, ind-Stmt, map-Stmt}
use Rattle.cm_model.specs.declared.body.Call.{Call}
use Rattle.cm_code.specs.declared.instr.Instr.{Instr}
use Rattle.cm_code.specs.declared.instr.Instr.TheVariants as instr
use Rattle.cm_code.specs.declared.instr.Piece.{Piece}
use Rattle.cm_code.specs.Rules.{Rules}
use Rattle.cm_code.specs.Language as language
use Rattle.cm_code.specs.Language.{Called, Meaning, Turn}
use Rattle.cm_code.specs.Code as code
use Rattle.cm_code.specs.Code.{Point}
use Rattle.cm_code.specs.Compiling.{coded_of, code_of, coded_key, key_code, has_key, pieces, leave, left_code}
use Rattle.cm_code.specs.Compiling.{either_code, piece_step, piece_of, body_code, bodies_code, invariant_code}
use Rattle.cm_code.proofs.Places as over
use Rattle.cm_code.proofs.Places.{either, left_locals}
use Rattle.cm_code.proofs.RightForms as forms

module _ (V O S : Type 0) (r : Rules V O S) (ints : List IntDecl) (funs : List (Called V S)) where
  abbrev Places : Type 0
  Places = List (Point V O S)

  abbrev Turns : Type 0
  Turns = Turn V S

  abbrev next_of : Places → Point V O S
  next_of = code.next_of V O S r

  abbrev places : List Instr → Places → Places
  places = code.places V O S r funs

  abbrev meaning_of : Expr → Meaning V O S
  meaning_of = language.meaning_of V O S r ints funs

  abbrev turn_of : Stmt → Turns
  turn_of = language.turn_of V O S r ints funs

  abbrev block_of : List Turns → Turns
  block_of = language.block_of V S

  abbrev inspected : Meaning V O S → List V → (Bool → S) → S
  inspected = language.inspected V O S r

  abbrev valued : Meaning V O S → List V → (V → S) → S
  valued = language.valued V O S r

  -- what comes after is asked only for locals with n more
  abbrev pub Extends : ℕ → Turns → Type 0
  Extends n m = (locals : List V) (ret : V → S) (next other : List V → S)
      → ((more : List V) → length more ≡ n → next (locals ++ more) ≡ other (locals ++ more))
      → m locals ret next ≡ m locals ret other

  -- code that does what the statement does, and leaves as many locals more
  pub record RightTurn (p : Piece) (m : Turns) : Type 0 where
    pub right : (behind : Places) (ops : List O) (locals : List V) (ret : V → S)
        → next_of (places p.code behind) ops locals ret ≡ m locals ret (λ after. next_of behind ops after ret)
    pub extends : Extends p.lets m

  -- where there are no more locals
  stays : (locals : List V) (next other : List V → S)
      → ((more : List V) → length more ≡ 0 → next (locals ++ more) ≡ other (locals ++ more))
      → next locals ≡ other locals
  stays locals next other h = subst (λ l. next l ≡ other l) (append-nil locals) (h [] refl)

  abbrev IsRight : Stmt → Type 0
  IsRight s = RightTurn (piece_of ints s) (turn_of s)

  abbrev IsRightBlock : List Stmt → Type 0
  IsRightBlock ss = RightTurn (pieces (map (piece_of ints) ss)) (block_of (map turn_of ss))

  no_right : IsRightBlock []
  no_right = record {
    right = λ behind ops locals ret. refl;
    extends = λ locals ret next other h. stays locals next other h;
  }

  more_right : (s : Stmt) (ss : List Stmt) → IsRight s → IsRightBlock ss → IsRightBlock (s ∷ ss)
  more_right s ss first rest =
      let turns : List Turns = map turn_of ss in
      let after : List Instr = (pieces (map (piece_of ints) ss)).code in
      record {
        right = λ behind ops locals ret.
            ap (λ qs. next_of qs ops locals ret) (over.places_append V O S r funs (piece_of ints s).code after behind)
            ∙ first.right (places after behind) ops locals ret
            ∙ ap (turn_of s locals ret) (fun_ext (λ more. rest.right behind ops more ret));
        extends = λ locals ret next other h. first.extends locals ret
            (λ more. block_of turns more ret next) (λ more. block_of turns more ret other)
            (λ more e. rest.extends (locals ++ more) ret next other (λ again f.
            subst (λ l. next l ≡ other l) (sym (append_assoc locals more again))
            (h (more ++ again) (length-append more again ∙ omega arith))));
      }

  abbrev Known : Type 0
  Known = (s : Stmt) × IsRight s

  block_right : (ks : List Known) → IsRightBlock (map (λ k. k.0) ks)
  block_right [] = no_right
  block_right (k ∷ ks) = more_right k.0 (map (λ k. k.0) ks) k.1 (block_right ks)

  -- so many of the last locals go
  gone : (n : ℕ) (behind : Places) (ops : List O) (locals more : List V) (ret : V → S) → length more ≡ n
      → next_of (places (leave n) behind) ops (locals ++ more) ret ≡ next_of behind ops locals ret
  gone zero behind ops locals [] ret e = ap (λ l. next_of behind ops l ret) (append-nil locals)
  gone zero behind ops locals (v ∷ more) ret e = absurd (omega arith)
  gone (suc n) behind ops locals more ret e = ap (λ l. next_of behind ops l ret) (left_locals locals more (suc n) e)

  -- a block gives back its locals, and those that it found at its start
  left_right : (ks : List Known) (behind : Places) (ops : List O) (locals found : List V) (ret : V → S)
      → next_of (places (left_code (pieces (map (piece_of ints) (map (λ k. k.0) ks))) (length found)) behind) ops
      (locals ++ found) ret
      ≡ block_of (map turn_of (map (λ k. k.0) ks)) (locals ++ found) ret (λ _. next_of behind ops locals ret)
  left_right ks behind ops locals found ret =
      let all = block_right ks in
      let p : Piece = pieces (map (piece_of ints) (map (λ k. k.0) ks)) in
      let n : ℕ = p.lets + length found in
      ap (λ qs. next_of qs ops (locals ++ found) ret) (over.places_append V O S r funs p.code (leave n) behind)
      ∙ all.right (places (leave n) behind) ops (locals ++ found) ret
      ∙ all.extends (locals ++ found) ret _ _ (λ more e.
      ap (λ l. next_of (places (leave n) behind) ops l ret) (append_assoc locals found more)
      ∙ gone n behind ops locals (found ++ more) ret (length-append found more ∙ omega (arith, e)))

  branch_right : (ks : List Known) (behind : Places) (ops : List O) (locals : List V) (ret : V → S)
      → next_of (places (left_code (pieces (map (piece_of ints) (map (λ k. k.0) ks))) 0) behind) ops locals ret
      ≡ language.branch_of V S (map turn_of (map (λ k. k.0) ks)) locals ret (λ after. next_of behind ops after ret)
  branch_right ks behind ops locals ret =
      subst (λ l. next_of (places (left_code (pieces (map (piece_of ints) (map (λ k. k.0) ks))) 0) behind) ops l ret
      ≡ block_of (map turn_of (map (λ k. k.0) ks)) l ret (λ _. next_of behind ops locals ret))
      (append-nil locals) (left_right ks behind ops locals [] ret)

  -- the first of two blocks, and a jump over the second
  first_right : (left right : List Instr) (behind : Places) (ops : List O) (locals : List V) (ret : V → S)
      → next_of (places (left ++ instr.Jump (length right) ∷ right) behind) ops locals ret
      ≡ next_of (places left (places (instr.Jump (length right) ∷ right) behind)) ops locals ret
  first_right left right behind ops locals ret =
      ap (λ qs. next_of qs ops locals ret)
      (over.places_append V O S r funs left (instr.Jump (length right) ∷ right) behind)

  jump_over : (right : List Instr) (behind : Places) (ops : List O) (locals : List V) (ret : V → S)
      → next_of (places (instr.Jump (length right) ∷ right) behind) ops locals ret ≡ next_of behind ops locals ret
  jump_over right behind ops locals ret =
      ap (λ (p : Point V O S). p ops locals ret) (over.jumped V O S r funs right behind 0 (length right) (omega arith))

  -- the second, by a jump
  second_right : (left right : List Instr) (behind : Places) (ops : List O) (locals : List V) (ret : V → S)
      → code.behind_by V O S r (places (left ++ instr.Jump (length right) ∷ right) behind)
      (length left + 1) ops locals ret
      ≡ next_of (places right behind) ops locals ret
  second_right left right behind ops locals ret =
      ap (λ qs. code.behind_by V O S r qs (length left + 1) ops locals ret)
      (over.places_append V O S r funs left (instr.Jump (length right) ∷ right) behind)
      ∙ ap (λ (p : Point V O S). p ops locals ret)
      (over.jumped V O S r funs left (places (instr.Jump (length right) ∷ right) behind) 1 (length left + 1) refl)

  abbrev code_at : List Known → ℕ → List Instr
  code_at ks found = left_code (pieces (map (piece_of ints) (map (λ k. k.0) ks))) found

  abbrev turns_at : List Known → List Turns
  turns_at ks = map turn_of (map (λ k. k.0) ks)

  either_right : (a b : List Known) (s : Bool) (behind : Places) (ops : List O) (locals : List V) (ret : V → S)
      → (if s
      then next_of (places (code_at a 0 ++ instr.Jump (length (code_at b 0)) ∷ code_at b 0) behind) ops locals ret
      else code.behind_by V O S r (places (code_at a 0 ++ instr.Jump (length (code_at b 0)) ∷ code_at b 0) behind)
      (length (code_at a 0) + 1) ops locals ret)
      ≡ (if s then language.branch_of V S (turns_at a) locals ret (λ after. next_of behind ops after ret)
      else language.branch_of V S (turns_at b) locals ret (λ after. next_of behind ops after ret))
  either_right a b s behind ops locals ret = either s
      (first_right (code_at a 0) (code_at b 0) behind ops locals ret
      ∙ branch_right a (places (instr.Jump (length (code_at b 0)) ∷ code_at b 0) behind) ops locals ret
      ∙ ap (λ s. block_of (turns_at a) locals ret (λ _. s)) (jump_over (code_at b 0) behind ops locals ret))
      (second_right (code_at a 0) (code_at b 0) behind ops locals ret ∙ branch_right b behind ops locals ret)

  case_right : (a b : List Known) (o : Option V) (behind : Places) (ops : List O) (locals : List V) (ret : V → S)
      → code.opened V O S r (length (code_at b 1) + 1)
      (places (code_at b 1 ++ instr.Jump (length (code_at a 0)) ∷ code_at a 0) behind) ops locals ret o
      ≡ language.case_branch V S (turns_at a) (turns_at b) o locals ret (λ after. next_of behind ops after ret)
  case_right a b (Some v) behind ops locals ret =
      first_right (code_at b 1) (code_at a 0) behind ops (locals ++ v ∷ []) ret
      ∙ left_right b (places (instr.Jump (length (code_at a 0)) ∷ code_at a 0) behind) ops locals (v ∷ []) ret
      ∙ ap (λ s. block_of (turns_at b) (locals ++ v ∷ []) ret (λ _. s)) (jump_over (code_at a 0) behind ops locals ret)
  case_right a b None behind ops locals ret =
      second_right (code_at b 1) (code_at a 0) behind ops locals ret ∙ branch_right a behind ops locals ret

  then_code : (e : Expr) (more : List Instr) (behind : Places) (ops : List O) (locals : List V) (ret : V → S)
      → next_of (places (code_of ints e ++ more) behind) ops locals ret
      ≡ meaning_of e locals (λ o. next_of (places more behind) (o ∷ ops) locals ret)
  then_code e =
      forms.then_code V O S r ints funs (coded_of ints e) (meaning_of e) (forms.expr_right V O S r ints funs e)

  set_right : (s : ℕ) (key : Option Expr) (e : Expr) (behind : Places) (ops : List O) (locals : List V) (ret : V → S)
      → next_of (places (key_code (coded_key ints key)
      ++ (code_of ints e ++ instr.Write s (has_key (coded_key ints key)) ∷ [])) behind) ops locals ret
      ≡ language.keyed V O S r (language.key_meaning V O S r ints funs key) locals (λ c.
      valued (meaning_of e) locals (λ v. r.writes s c v (next_of behind ops locals ret)))
  set_right s None e behind ops locals ret = then_code e (instr.Write s false ∷ []) behind ops locals ret
  set_right s (Some k) e behind ops locals ret =
      forms.then_valued V O S r ints funs (coded_of ints k) (meaning_of k) (forms.expr_right V O S r ints funs k)
      (code_of ints e ++ instr.Write s true ∷ []) behind ops locals ret
      ∙ ap (valued (meaning_of k) locals) (fun_ext (λ c.
      then_code e (instr.Write s true ∷ []) behind (r.plain c ∷ ops) locals ret
      ∙ ap (valued (meaning_of e) locals) (fun_ext (λ v.
      over.plain_one V O S r c ops (λ c rest. r.writes s (Some c) v (next_of behind rest locals ret))))))

  abbrev bare : Stmt-F Known → Stmt-F Stmt
  bare = map-Stmt Known Stmt (λ k. k.0)

  abbrev piece_at : Stmt-F Known → Piece
  piece_at y = piece_step ints (map-Stmt Stmt Piece (piece_of ints) (bare y))

  abbrev turn_at : Stmt-F Known → Turns
  turn_at y = language.turn_step V O S r ints funs (map-Stmt Stmt Turns turn_of (bare y))

  -- each form's code does what the form does
  node_right : (y : Stmt-F Known) → RightTurn (piece_at y) (turn_at y)
  node_right (Stmt-F.Let e) = record {
    right = λ behind ops locals ret. then_code e (instr.Let ∷ []) behind ops locals ret;
    extends = λ locals ret next other h. ap (valued (meaning_of e) locals) (fun_ext (λ v. h (v ∷ []) refl));
  }
  node_right (Stmt-F.Set s key e) = record {
    right = λ behind ops locals ret. set_right s key e behind ops locals ret;
    extends = λ locals ret next other h.
        ap (λ n. language.keyed V O S r (language.key_meaning V O S r ints funs key) locals (λ c.
        valued (meaning_of e) locals (λ v. r.writes s c v n))) (stays locals next other h);
  }
  node_right (Stmt-F.If c a b) = record {
    right = λ behind ops locals ret.
        then_code c (either_code instr.Unless (code_at a 0) (code_at b 0)) behind ops locals ret
        ∙ ap (inspected (meaning_of c) locals) (fun_ext (λ s. either_right a b s behind ops locals ret));
    extends = λ locals ret next other h.
        ap (λ n. inspected (meaning_of c) locals (λ s.
        if s then block_of (turns_at a) locals ret (λ _. n) else block_of (turns_at b) locals ret (λ _. n)))
        (stays locals next other h);
  }
  node_right (Stmt-F.Case e a b) = record {
    right = λ behind ops locals ret.
        then_code e (either_code instr.Open (code_at b 1) (code_at a 0)) behind ops locals ret
        ∙ ap (valued (meaning_of e) locals) (fun_ext (λ v.
        ap (r.opens v) (fun_ext (λ o. case_right a b o behind ops locals ret))));
    extends = λ locals ret next other h.
        ap (valued (meaning_of e) locals) (fun_ext (λ v.
        ap (r.opens v) (fun_ext (λ o. case_stays a b o locals ret next other (stays locals next other h)))));
  }
    where
      case_stays : (a b : List Known) (o : Option V) (locals : List V) (ret : V → S) (next other : List V → S)
          → next locals ≡ other locals
          → language.case_branch V S (turns_at a) (turns_at b) o locals ret next
          ≡ language.case_branch V S (turns_at a) (turns_at b) o locals ret other
      case_stays a b (Some v) locals ret next other e =
          ap (λ n. block_of (turns_at b) (locals ++ v ∷ []) ret (λ _. n)) e
      case_stays a b None locals ret next other e = ap (λ n. block_of (turns_at a) locals ret (λ _. n)) e
  node_right (Stmt-F.Assume c) = record {
    right = λ behind ops locals ret. then_code c (instr.Assume ∷ []) behind ops locals ret;
    extends = λ locals ret next other h.
        ap (λ n. inspected (meaning_of c) locals (λ s. if s then n else r.blocks)) (stays locals next other h);
  }
  node_right (Stmt-F.Return e) = record {
    right = λ behind ops locals ret. then_code e (instr.Return ∷ []) behind ops locals ret;
    extends = λ locals ret next other h. refl;
  }

  rolled_right : (x : Stmt-F Stmt)
      → RightTurn (piece_step ints (map-Stmt Stmt Piece (piece_of ints) x))
      (language.turn_step V O S r ints funs (map-Stmt Stmt Turns turn_of x))
      → IsRight (roll-Stmt x)
  rolled_right x p =
      subst (λ c. RightTurn c (turn_of (roll-Stmt x))) (sym (fold-roll-Stmt Piece (piece_step ints) x))
      (subst (RightTurn _) (sym (fold-roll-Stmt Turns (language.turn_step V O S r ints funs) x)) p)

  pub stmt_right : (s : Stmt) → IsRight s
  stmt_right = ind-Stmt IsRight (λ x y is. subst (λ z. IsRight (roll-Stmt z)) is (rolled_right _ (node_right y)))

  body_right : (ss : List Stmt) → IsRightBlock ss
  body_right [] = no_right
  body_right (s ∷ ss) = more_right s ss (stmt_right s) (body_right ss)

  -- a body's code does what the body does
  pub called_right : (body : List Stmt)
      → code.code_meaning V O S r funs (body_code ints body) ≡ language.body_of V O S r ints funs body
  called_right body = fun_ext (λ args. fun_ext (λ ret. (body_right body).right [] [] args ret))

module _ (V O S : Type 0) (r : Rules V O S) (ints : List IntDecl) where
  -- and so does that of functions
  pub funs_right : (before : List (Called V S)) (funs : List Call)
      → code.codes_from V O S r before (bodies_code ints funs) ≡ language.meanings_from V O S r ints before funs
  funs_right before [] = refl
  funs_right before (f ∷ fs) =
      funs_right (before ++ code.code_meaning V O S r before (body_code ints f.body) ∷ []) fs
      ∙ ap (λ m. language.meanings_from V O S r ints (before ++ m ∷ []) fs) (called_right V O S r ints before f.body)

  -- an invariant's code, which calls no function, does what the invariant does
  pub invariant_right : (e : Expr) (v : V)
      → code.code_meaning V O S r [] (invariant_code ints e) (v ∷ []) r.replies ≡ language.invariant_of V O S r ints e v
  invariant_right e v =
      then_code V O S r ints [] e (instr.Assume ∷ instr.Flag true ∷ instr.Return ∷ []) [] [] (v ∷ []) r.replies
      ∙ ap (language.inspected V O S r (language.meaning_of V O S r ints [] e) (v ∷ [])) (fun_ext (λ s. either s
      (over.plain_one V O S r (r.flag true) [] (λ v rest. r.replies v)) refl))
