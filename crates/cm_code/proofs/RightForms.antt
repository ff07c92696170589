-- The code of an expression does what the expression does.
use Rattle.std.proofs.Common.{◌≡◌, ℕ, ◌+◌, Bool, true, false, not, List, [], ◌∷◌, ◌++◌, length, map, reverse}
use Rattle.std.proofs.Common.{Option, Some, None, refl, sym, ap, ◌∙◌, subst, arith, slice_get, if◌then◌else◌}
use Rattle.std.proofs.Math.Path.{fun_ext}
use Rattle.std.proofs.lemmas.List.{length-append, length-map}
use Rattle.cm_model.specs.declared.ty.IntDecl.{IntDecl}
use Rattle.cm_model.specs.declared.body.SetField.{SetField, fold-SetField, out-SetField}
use Rattle.cm_model.specs.declared.body.SetField.{roll-out-SetField, fold-roll-SetField}
use Rattle.cm_model.specs.declared.body.Expr.{Expr}
use Rattle.cm_model.specs.declared.body.Expr.TheViews.{roll-Expr}
use Rattle.cm_model.specs.declared.body.Expr.TheOpen.{Expr-F}
use Rattle.cm_model.specs.declared.body.Expr.TheFolds.{fold-roll-Expr, ind-Expr, map-Expr}
use Rattle.cm_code.specs.declared.instr.Instr.{Instr}
use Rattle.cm_code.specs.declared.instr.Instr.TheVariants as instr
use Rattle.cm_code.specs.Rules.{Rules}
use Rattle.cm_code.specs.Language as language
use Rattle.cm_code.specs.Language.{Called, Meaning, SetMeaning}
use Rattle.cm_code.specs.Code as code
use Rattle.cm_code.specs.Code.{Point}
use Rattle.cm_code.specs.Compiling.{Coded, SetCode, valued_code, joined, tests, ends}
use Rattle.cm_code.specs.Compiling.{sets_code, into_code, code_step, set_code, coded_of}
use Rattle.cm_code.proofs.Places as over
use Rattle.cm_code.proofs.Places.{either, chosen}

module _ (V O S : Type 0) (r : Rules V O S) (ints : List IntDecl) (funs : List (Called V S)) where
  abbrev Places : Type 0
  Places = List (Point V O S)

  abbrev Means : Type 0
  Means = Meaning V O S

  abbrev next_of : Places → Point V O S
  next_of = code.next_of V O S r

  abbrev behind_by : Places → ℕ → Point V O S
  behind_by = code.behind_by V O S r

  abbrev places : List Instr → Places → Places
  places = code.places V O S r funs

  abbrev given : {X : Type 0} → Option X → (X → S) → S
  given = language.given V O S r

  abbrev valued : Means → List V → (V → S) → S
  valued = language.valued V O S r

  -- only values come out
  abbrev pub Plain : Means → Type 0
  Plain m = (locals : List V) (k k' : O → S) → ((v : V) → k (r.plain v) ≡ k' (r.plain v)) → m locals k ≡ m locals k'

  -- code that does what the meaning does, and leaves what comes out on the operands
  pub record RightCode (c : Coded) (m : Means) : Type 0 where
    pub right : (behind : Places) (ops : List O) (locals : List V) (ret : V → S)
        → next_of (places c.code behind) ops locals ret ≡ m locals (λ o. next_of behind (o ∷ ops) locals ret)
    pub plain : c.bare ≡ false → Plain m

  -- and more code behind it
  pub then_code : (c : Coded) (m : Means) → RightCode c m
      → (more : List Instr) (behind : Places) (ops : List O) (locals : List V) (ret : V → S)
      → next_of (places (c.code ++ more) behind) ops locals ret
      ≡ m locals (λ o. next_of (places more behind) (o ∷ ops) locals ret)
  then_code c m p more behind ops locals ret =
      ap (λ ps. next_of ps ops locals ret) (over.places_append V O S r funs c.code more behind)
      ∙ p.right (places more behind) ops locals ret

  bare_valued : (c : Coded) (m : Means) (bare : Bool) → c.bare ≡ bare → RightCode c m
      → (behind : Places) (ops : List O) (locals : List V) (ret : V → S)
      → next_of (places (if bare then c.code ++ instr.Valued ∷ [] else c.code) behind) ops locals ret
      ≡ valued m locals (λ v. next_of behind (r.plain v ∷ ops) locals ret)
  bare_valued c m true e p behind ops locals ret = then_code c m p (instr.Valued ∷ []) behind ops locals ret
  bare_valued c m false e p behind ops locals ret =
      p.right behind ops locals ret
      ∙ p.plain e locals (λ o. next_of behind (o ∷ ops) locals ret)
      (λ o. given (r.value o) (λ v. next_of behind (r.plain v ∷ ops) locals ret))
      (λ v. sym (ap (λ o. given o (λ v. next_of behind (r.plain v ∷ ops) locals ret)) (r.plain_value v)))

  -- where a value is wanted, and more code behind it
  pub then_valued : (c : Coded) (m : Means) → RightCode c m
      → (more : List Instr) (behind : Places) (ops : List O) (locals : List V) (ret : V → S)
      → next_of (places (valued_code c ++ more) behind) ops locals ret
      ≡ valued m locals (λ v. next_of (places more behind) (r.plain v ∷ ops) locals ret)
  then_valued c m p more behind ops locals ret =
      ap (λ ps. next_of ps ops locals ret) (over.places_append V O S r funs (valued_code c) more behind)
      ∙ bare_valued c m c.bare refl p (places more behind) ops locals ret

  abbrev meaning_of : Expr → Means
  meaning_of = language.meaning_of V O S r ints funs

  abbrev set_coded : SetField → SetCode
  set_coded = fold-SetField Coded SetCode (code_step ints) set_code

  abbrev set_meaning : SetField → SetMeaning V O S
  set_meaning =
      fold-SetField Means (SetMeaning V O S) (language.meaning_step V O S r ints funs) (language.set_step V O S r)

  abbrev IsRight : Expr → Type 0
  IsRight e = RightCode (coded_of ints e) (meaning_of e)

  pub record IsRightSet (x : SetField) : Type 0 where
    pub field : (set_coded x).0 ≡ (set_meaning x).0
    pub value : RightCode (set_coded x).1 (set_meaning x).1

  abbrev Known : Type 0
  Known = (e : Expr) × IsRight e

  abbrev KnownSet : Type 0
  KnownSet = (x : SetField) × IsRightSet x

  abbrev codes : List Known → List Coded
  codes ks = map (coded_of ints) (map (λ k. k.0) ks)

  abbrev means : List Known → List Means
  means ks = map meaning_of (map (λ k. k.0) ks)

  -- operands in order, each a value, and what takes all of them
  args_code : (n : ℕ) (ks : List Known) (values : List V) (ops : List O) (locals : List V) (behind : Places)
      (ret : V → S)
      → (k : List V → List O → S) → ((os : List O) → next_of behind os locals ret ≡ code.many V O S r n os [] k)
      → n ≡ length values + length ks
      → next_of (places (joined (codes ks)) behind) (map r.plain (reverse values) ++ ops) locals ret
      ≡ language.values_of V O S r values (means ks) locals (λ vs. k vs ops)
  args_code n [] values ops locals behind ret k takes e =
      takes (map r.plain (reverse values) ++ ops) ∙ over.all_taken V O S r values ops n k (omega arith)
  args_code n (p ∷ ps) values ops locals behind ret k takes e =
      then_valued (coded_of ints p.0) (meaning_of p.0) p.1 (joined (codes ps)) behind
      (map r.plain (reverse values) ++ ops) locals ret
      ∙ ap (valued (meaning_of p.0) locals) (fun_ext (λ v.
      ap (λ os. next_of (places (joined (codes ps)) behind) os locals ret) (sym (over.one_more V O S r values v ops))
      ∙ args_code n ps (values ++ v ∷ []) ops locals behind ret k takes (omega (arith, length-append values (v ∷ [])))))

  -- the same with the instruction that takes them
  then_taken : (i : Instr) (n : ℕ) (ks : List Known) (ops : List O) (locals : List V) (behind : Places) (ret : V → S)
      → (k : List V → List O → S)
      → ((os : List O) → next_of (places (i ∷ []) behind) os locals ret ≡ code.many V O S r n os [] k)
      → n ≡ length ks
      → next_of (places (joined (codes ks) ++ i ∷ []) behind) ops locals ret
      ≡ language.values_of V O S r [] (means ks) locals (λ vs. k vs ops)
  then_taken i n ks ops locals behind ret k takes e =
      ap (λ ps. next_of ps ops locals ret) (over.places_append V O S r funs (joined (codes ks)) (i ∷ []) behind)
      ∙ args_code n ks [] ops locals (places (i ∷ []) behind) ret k takes (omega arith)

  count : (ks : List Known) → length (codes ks) ≡ length ks
  count ks = length-map (map (λ k. k.0) ks) (coded_of ints) ∙ length-map ks (λ (k : Known). k.0)

  sets_right : (ks : List KnownSet) (v : V) (behind : Places) (ops : List O) (locals : List V) (ret : V → S)
      → next_of (places (sets_code (map set_coded (map (λ k. k.0) ks))) behind) (r.plain v ∷ ops) locals ret
      ≡ language.sets_of V O S r v (map set_meaning (map (λ k. k.0) ks)) locals
      (λ w. next_of behind (r.plain w ∷ ops) locals ret)
  sets_right [] v behind ops locals ret = refl
  sets_right (p ∷ ps) v behind ops locals ret =
      let i : ℕ = (set_coded p.0).0 in
      let rest : List Instr = sets_code (map set_coded (map (λ k. k.0) ps)) in
      let k : V → S = λ w. next_of behind (r.plain w ∷ ops) locals ret in
      then_code (set_coded p.0).1 (set_meaning p.0).1 p.1.value (instr.SetField i ∷ rest) behind
      (r.plain v ∷ ops) locals ret
      ∙ ap (valued (set_meaning p.0).1 locals) (fun_ext (λ w.
      over.plain_one V O S r v ops
      (λ v under. given (r.with_field v i w) (λ u. next_of (places rest behind) (r.plain u ∷ under) locals ret))
      ∙ ap (λ i. given (r.with_field v i w) (λ u. next_of (places rest behind) (r.plain u ∷ ops) locals ret)) p.1.field
      ∙ ap (given (r.with_field v (set_meaning p.0).0 w)) (fun_ext (λ u. sets_right ps u behind ops locals ret))))

  no_field : (path : List ℕ) (k : V → S) → given (language.value_at V O S r None path) k ≡ r.blocks
  no_field [] k = refl
  no_field (i ∷ is) k = no_field is k

  field_right : (o : Option V) (path : List ℕ) (behind : Places) (ops : List O) (locals : List V) (ret : V → S)
      → given o (λ w. next_of (places (map instr.Field path) behind) (r.plain w ∷ ops) locals ret)
      ≡ given (language.value_at V O S r o path) (λ w. next_of behind (r.plain w ∷ ops) locals ret)
  field_right None path behind ops locals ret = sym (no_field path (λ w. next_of behind (r.plain w ∷ ops) locals ret))
  field_right (Some v) [] behind ops locals ret = refl
  field_right (Some v) (i ∷ is) behind ops locals ret =
      over.plain_one V O S r v ops
      (λ v rest. given (r.field v i) (λ w. next_of (places (map instr.Field is) behind) (r.plain w ∷ rest) locals ret))
      ∙ field_right (r.field v i) is behind ops locals ret

  -- tests that lead to the last of three where one is false
  all_right : (ks : List Known) (behind : Places) (ops : List O) (locals : List V) (ret : V → S)
      → next_of (places (tests instr.Unless (codes ks)) behind) ops locals ret
      ≡ language.all_of V O S r (means ks) locals
      (λ s. if s then next_of behind ops locals ret else behind_by behind 2 ops locals ret)
  all_right [] behind ops locals ret = refl
  all_right (p ∷ ps) behind ops locals ret =
      let rest : List Instr = tests instr.Unless (codes ps) in
      then_code (coded_of ints p.0) (meaning_of p.0) p.1 (instr.Unless (length rest + 2) ∷ rest) behind ops locals ret
      ∙ ap (meaning_of p.0 locals) (fun_ext (λ o. ap (r.inspects o) (fun_ext (λ s. either s
      (all_right ps behind ops locals ret)
      (ap (λ (at : Point V O S). at ops locals ret) (over.jumped V O S r funs rest behind 2 (length rest + 2) refl))))))

  -- or where one is true
  any_right : (ks : List Known) (behind : Places) (ops : List O) (locals : List V) (ret : V → S)
      → next_of (places (tests instr.When (codes ks)) behind) ops locals ret
      ≡ language.any_of V O S r (means ks) locals
      (λ s. if s then behind_by behind 2 ops locals ret else next_of behind ops locals ret)
  any_right [] behind ops locals ret = refl
  any_right (p ∷ ps) behind ops locals ret =
      let rest : List Instr = tests instr.When (codes ps) in
      then_code (coded_of ints p.0) (meaning_of p.0) p.1 (instr.When (length rest + 2) ∷ rest) behind ops locals ret
      ∙ ap (meaning_of p.0 locals) (fun_ext (λ o. ap (r.inspects o) (fun_ext (λ s. either s
      (ap (λ (at : Point V O S). at ops locals ret) (over.jumped V O S r funs rest behind 2 (length rest + 2) refl))
      (any_right ps behind ops locals ret)))))

  into_right : (d : Option IntDecl) (o : O) (behind : Places) (ops : List O) (locals : List V) (ret : V → S)
      → next_of (places (into_code d ∷ []) behind) (o ∷ ops) locals ret
      ≡ language.into_type V O S r d o (λ v. next_of behind (r.plain v ∷ ops) locals ret)
  into_right (Some d) o behind ops locals ret = refl
  into_right None o behind ops locals ret = refl

  abbrev code_at : Expr-F Known KnownSet → Coded
  code_at y = code_step ints (map-Expr Expr SetField Coded SetCode (coded_of ints) set_coded
      (map-Expr Known KnownSet Expr SetField (λ k. k.0) (λ k. k.0) y))

  abbrev meaning_at : Expr-F Known KnownSet → Means
  meaning_at y = language.meaning_step V O S r ints funs
      (map-Expr Expr SetField Means (SetMeaning V O S) meaning_of set_meaning
      (map-Expr Known KnownSet Expr SetField (λ k. k.0) (λ k. k.0) y))

  -- each form's code does what the form does
  form_right : (y : Expr-F Known KnownSet) (behind : Places) (ops : List O) (locals : List V) (ret : V → S)
      → next_of (places (code_at y).code behind) ops locals ret
      ≡ meaning_at y locals (λ o. next_of behind (o ∷ ops) locals ret)
  form_right (Expr-F.Num n) behind ops locals ret = refl
  form_right (Expr-F.Tag e i) behind ops locals ret = refl
  form_right (Expr-F.Local i) behind ops locals ret = refl
  form_right (Expr-F.Cell s None) behind ops locals ret = refl
  form_right (Expr-F.Cell s (Some p)) behind ops locals ret =
      then_valued (coded_of ints p.0) (meaning_of p.0) p.1 (instr.Read s true ∷ []) behind ops locals ret
      ∙ ap (valued (meaning_of p.0) locals) (fun_ext (λ c.
      over.plain_one V O S r c ops (λ c rest. r.reads s (Some c) (λ v. next_of behind (r.plain v ∷ rest) locals ret))))
  form_right (Expr-F.Fields p path) behind ops locals ret =
      then_valued (coded_of ints p.0) (meaning_of p.0) p.1 (map instr.Field path) behind ops locals ret
      ∙ ap (valued (meaning_of p.0) locals) (fun_ext (λ v. field_right (Some v) path behind ops locals ret))
  form_right (Expr-F.With p sets) behind ops locals ret =
      then_valued (coded_of ints p.0) (meaning_of p.0) p.1
      (sets_code (map set_coded (map (λ k. k.0) sets))) behind ops locals ret
      ∙ ap (valued (meaning_of p.0) locals) (fun_ext (λ v. sets_right sets v behind ops locals ret))
  form_right (Expr-F.Make n ps) behind ops locals ret =
      then_taken (instr.Make (length (codes ps))) (length (codes ps)) ps ops locals behind ret
      (λ vs rest. next_of behind (r.plain (r.make vs) ∷ rest) locals ret) (λ os. refl) (count ps)
  form_right (Expr-F.NoneOf t) behind ops locals ret = refl
  form_right (Expr-F.SomeOf p) behind ops locals ret =
      then_code (coded_of ints p.0) (meaning_of p.0) p.1 (instr.Some ∷ []) behind ops locals ret
  form_right (Expr-F.Shift p by) behind ops locals ret =
      then_code (coded_of ints p.0) (meaning_of p.0) p.1 (instr.Shift by ∷ []) behind ops locals ret
  form_right (Expr-F.Into i p) behind ops locals ret =
      then_code (coded_of ints p.0) (meaning_of p.0) p.1 (into_code (slice_get ints i) ∷ []) behind ops locals ret
      ∙ ap (meaning_of p.0 locals) (fun_ext (λ o. into_right (slice_get ints i) o behind ops locals ret))
  form_right (Expr-F.Compare op p q) behind ops locals ret =
      then_code (coded_of ints p.0) (meaning_of p.0) p.1
      ((coded_of ints q.0).code ++ instr.Compare op ∷ []) behind ops locals ret
      ∙ ap (meaning_of p.0 locals) (fun_ext (λ x.
      then_code (coded_of ints q.0) (meaning_of q.0) q.1 (instr.Compare op ∷ []) behind (x ∷ ops) locals ret))
  form_right (Expr-F.All ps) behind ops locals ret =
      ap (λ at. next_of at ops locals ret)
      (over.places_append V O S r funs (tests instr.Unless (codes ps)) (ends true false) behind)
      ∙ all_right ps (places (ends true false) behind) ops locals ret
      ∙ ap (language.all_of V O S r (means ps) locals)
      (fun_ext (λ s. chosen s (λ s. next_of behind (r.plain (r.flag s) ∷ ops) locals ret)))
  form_right (Expr-F.Any ps) behind ops locals ret =
      ap (λ at. next_of at ops locals ret)
      (over.places_append V O S r funs (tests instr.When (codes ps)) (ends false true) behind)
      ∙ any_right ps (places (ends false true) behind) ops locals ret
      ∙ ap (language.any_of V O S r (means ps) locals)
      (fun_ext (λ s. chosen s (λ s. next_of behind (r.plain (r.flag s) ∷ ops) locals ret)))
  form_right (Expr-F.Not p) behind ops locals ret =
      then_code (coded_of ints p.0) (meaning_of p.0) p.1 (instr.Not ∷ []) behind ops locals ret
  form_right (Expr-F.Apply f ps) behind ops locals ret =
      then_taken (instr.Apply f (length (codes ps))) (length (codes ps)) ps ops locals behind ret
      (λ args rest. language.fun_at V O S r funs f args (λ v. next_of behind (r.plain v ∷ rest) locals ret))
      (λ os. refl) (count ps)

  -- and what is no numeral or sum gives values alone
  form_plain : (y : Expr-F Known KnownSet) → (code_at y).bare ≡ false → Plain (meaning_at y)
  form_plain (Expr-F.Num n) e = absurd (cc)
  form_plain (Expr-F.Tag e i) _ = λ locals k k' h. h (r.tag e i)
  form_plain (Expr-F.Local i) _ = λ locals k k' h. ap (given (slice_get locals i)) (fun_ext h)
  form_plain (Expr-F.Cell s None) _ = λ locals k k' h. ap (r.reads s None) (fun_ext h)
  form_plain (Expr-F.Cell s (Some p)) _ = λ locals k k' h.
      ap (λ f. valued (meaning_of p.0) locals (λ c. r.reads s (Some c) f)) (fun_ext h)
  form_plain (Expr-F.Fields p path) _ = λ locals k k' h.
      ap (λ f. valued (meaning_of p.0) locals (λ v. given (language.value_at V O S r (Some v) path) f)) (fun_ext h)
  form_plain (Expr-F.With p sets) _ = λ locals k k' h.
      ap (λ f. valued (meaning_of p.0) locals
      (λ v. language.sets_of V O S r v (map set_meaning (map (λ k. k.0) sets)) locals f)) (fun_ext h)
  form_plain (Expr-F.Make n ps) _ = λ locals k k' h.
      ap (language.values_of V O S r [] (means ps) locals) (fun_ext (λ vs. h (r.make vs)))
  form_plain (Expr-F.NoneOf t) _ = λ locals k k' h. h r.nothing
  form_plain (Expr-F.SomeOf p) _ = λ locals k k' h. ap (valued (meaning_of p.0) locals) (fun_ext (λ v. h (r.some v)))
  form_plain (Expr-F.Shift p by) e = absurd (cc)
  form_plain (Expr-F.Into i p) _ = λ locals k k' h.
      ap (λ f. meaning_of p.0 locals (λ o. language.into_type V O S r (slice_get ints i) o f)) (fun_ext h)
  form_plain (Expr-F.Compare op p q) _ = λ locals k k' h.
      ap (λ f. meaning_of p.0 locals (λ x. meaning_of q.0 locals (λ y. language.compares_by V O S r op x y f)))
      (fun_ext (λ s. h (r.flag s)))
  form_plain (Expr-F.All ps) _ = λ locals k k' h.
      ap (language.all_of V O S r (means ps) locals) (fun_ext (λ s. h (r.flag s)))
  form_plain (Expr-F.Any ps) _ = λ locals k k' h.
      ap (language.any_of V O S r (means ps) locals) (fun_ext (λ s. h (r.flag s)))
  form_plain (Expr-F.Not p) _ = λ locals k k' h.
      ap (λ f. language.inspected V O S r (meaning_of p.0) locals f) (fun_ext (λ s. h (r.flag (not s))))
  form_plain (Expr-F.Apply f ps) _ = λ locals k k' h.
      ap (λ g. language.values_of V O S r [] (means ps) locals (λ vs. language.fun_at V O S r funs f vs g)) (fun_ext h)

  node_right : (y : Expr-F Known KnownSet) → RightCode (code_at y) (meaning_at y)
  node_right y = record { right = form_right y; plain = form_plain y }

  rolled_right : (x : Expr-F Expr SetField)
      → RightCode (code_step ints (map-Expr Expr SetField Coded SetCode (coded_of ints) set_coded x))
      (language.meaning_step V O S r ints funs
      (map-Expr Expr SetField Means (SetMeaning V O S) meaning_of set_meaning x))
      → IsRight (roll-Expr x)
  rolled_right x p =
      subst (λ c. RightCode c (meaning_of (roll-Expr x)))
      (sym (fold-roll-Expr Coded SetCode (code_step ints) set_code x))
      (subst (RightCode _) (sym (fold-roll-Expr Means (SetMeaning V O S)
      (language.meaning_step V O S r ints funs) (language.set_step V O S r) x)) p)

  set_right : (x : SetField) → IsRight x.value → IsRightSet x
  set_right x p =
      let c : set_coded x ≡ (x.field, coded_of ints x.value) =
      ap set_coded (sym (roll-out-SetField x))
      ∙ fold-roll-SetField Coded SetCode (code_step ints) set_code (out-SetField x) in
      let m : set_meaning x ≡ (x.field, meaning_of x.value) =
      ap set_meaning (sym (roll-out-SetField x))
      ∙ fold-roll-SetField Means (SetMeaning V O S) (language.meaning_step V O S r ints funs)
      (language.set_step V O S r) (out-SetField x) in
      record {
        field = ap (λ (c : SetCode). c.0) c ∙ sym (ap (λ (m : SetMeaning V O S). m.0) m);
        value = subst (λ (c : SetCode). RightCode c.1 (set_meaning x).1) (sym c)
            (subst (λ (m : SetMeaning V O S). RightCode (coded_of ints x.value) m.1) (sym m) p);
      }

  -- an expression's code does what the expression does
  pub expr_right : (e : Expr) → IsRight e
  expr_right = ind-Expr IsRight IsRightSet
      (λ x y is. subst (λ z. IsRight (roll-Expr z)) is (rolled_right _ (node_right y)))
      (λ x y is. set_right (record { field = x.field; value = x.value }) (subst (λ z. IsRight z.value) is y.value.1))
