-- The symbols of a term's variables lead to their values, and where an option that is there is seen, its payload is.
use Rattle.std.proofs.Common.{◌≡◌, ◌+◌, ◌+ℤ◌, ◌==◌, ℕ, zero, suc, ℤ, pos, Bool, true, false, List, [], ◌∷◌, ◌++◌, map}
use Rattle.std.proofs.Common.{length, slice_get, Option, Some, None, refl, sym, ap, subst, ◌∙◌, arith, if◌then◌else◌}
use Rattle.std.proofs.lemmas.Bool.{eq-eqb}
use Rattle.std.proofs.lemmas.Int.{ints}
use Rattle.std.proofs.lemmas.List.{append-nil, append_assoc, length-append}
use Rattle.std.specs.List.{AllByRecursion, flat_map}
use Rattle.cm_model.specs.Tables.{Tables}
use Rattle.cm_model.specs.declared.ty.Ty.{Ty}
use Rattle.cm_model.specs.declared.ty.Part.{Part}
use Rattle.cm_model.specs.declared.ty.IntDecl.{IntDecl}
use Rattle.cm_model.specs.declared.ty.EnumDecl.{EnumDecl}
use Rattle.cm_value.specs.declared.value.Value.{Value}
use Rattle.cm_value.specs.declared.value.Value.TheVariants as value
use Rattle.cm_term.specs.declared.symbol.Root.{Root}
use Rattle.cm_term.specs.declared.symbol.Step.{Step}
use Rattle.cm_term.specs.declared.symbol.Step.TheVariants as step
use Rattle.cm_term.specs.declared.symbol.Sym.{Sym}
use Rattle.cm_term.specs.declared.term.Term.{Term}
use Rattle.cm_term.specs.Symbols.{part_in, field_in, payload_in, followed}
use Rattle.cm_term.specs.Terms.{value_of, vars_of, vars_step}
use Rattle.cm_term.specs.Valuation.{Valuation, Var, OfElement, OfNumber, OfTag, OfOption}
use Rattle.cm_term.proofs.Folds as terms
use Rattle.cm_term.proofs.Values.{value_elem, value_num, value_tag, value_rec, value_either, out_rec, out_none, out_some}
use Rattle.cm_ctx.specs.declared.piece.Counts.{Counts}
use Rattle.cm_ctx.specs.declared.piece.ElementPart.{ElementPart}
use Rattle.cm_ctx.specs.declared.piece.NumberPart.{NumberPart}
use Rattle.cm_ctx.specs.declared.piece.TagPart.{TagPart}
use Rattle.cm_ctx.specs.declared.piece.OptionPart.{OptionPart}
use Rattle.cm_ctx.specs.declared.piece.Piece.{Piece}
use Rattle.cm_ctx.specs.declared.piece.Variables.{Variables}
use Rattle.cm_ctx.specs.Belonging.{option_value}
use Rattle.cm_ctx.specs.Giving.{EachFrom, Gives, HasPayload}
use Rattle.cm_ctx.specs.Making.{Place, place, into, behind, sym_of, counted, both, variables, Maker}
use Rattle.cm_ctx.specs.Making.{fields_made, element_made, number_made, tag_made, option_made, record_made, made_of, piece_of}
use Rattle.cm_ctx.proofs.Each.{each_append, each_so}
use Rattle.cm_ctx.proofs.Indexing.{get_right}
use Rattle.cm_ctx.proofs.Makers.{maker_ind}

-- one of these variables, with the symbol that it was made for
abbrev pub IsNamed : Counts → Variables → Var → Sym → Type 0
IsNamed c vs (OfElement x) s =
    (i : ℕ) × (d : ElementPart) × (slice_get vs.elements i ≡ Some d) × (x ≡ c.elements + i) × (d.sym ≡ s)
IsNamed c vs (OfNumber x) s =
    (i : ℕ) × (d : NumberPart) × (slice_get vs.numbers i ≡ Some d) × (x ≡ c.numbers + i) × (d.sym ≡ s)
IsNamed c vs (OfTag x) s =
    (i : ℕ) × (d : TagPart) × (slice_get vs.tags i ≡ Some d) × (x ≡ c.tags + i) × (d.sym ≡ s)
IsNamed c vs (OfOption x) s =
    (i : ℕ) × (d : OptionPart) × (slice_get vs.options i ≡ Some d) × (x ≡ c.options + i) × (d.sym ≡ s)

get_found : {A : Type 0} (xs ys : List A) (i : ℕ) (a : A) → slice_get xs i ≡ Some a → slice_get (xs ++ ys) i ≡ Some a
get_found [] ys i a at = absurd (cc)
get_found (x ∷ xs) ys zero a at = at
get_found (x ∷ xs) ys (suc i) a at = get_found xs ys i a at

further : (a b c d : ℕ) → a ≡ (b + c) + d → a ≡ b + (c + d)
further a b c d e = omega (arith, e)

first_named : (c : Counts) (u w : Variables) (x : Var) (s : Sym) → IsNamed c u x s → IsNamed c (both u w) x s
first_named c u w (OfElement x) s h = (h.0, h.1, get_found u.elements w.elements h.0 h.1 h.2, h.3, h.4)
first_named c u w (OfNumber x) s h = (h.0, h.1, get_found u.numbers w.numbers h.0 h.1 h.2, h.3, h.4)
first_named c u w (OfTag x) s h = (h.0, h.1, get_found u.tags w.tags h.0 h.1 h.2, h.3, h.4)
first_named c u w (OfOption x) s h = (h.0, h.1, get_found u.options w.options h.0 h.1 h.2, h.3, h.4)

later_named : (c : Counts) (u w : Variables) (x : Var) (s : Sym) → IsNamed (counted c u) w x s
    → IsNamed c (both u w) x s
later_named c u w (OfElement x) s h = (
  length u.elements + h.0,
  h.1,
  get_right u.elements w.elements _ h.0 refl ∙ h.2,
  further x c.elements (length u.elements) h.0 h.3,
  h.4,
)
later_named c u w (OfNumber x) s h = (
  length u.numbers + h.0,
  h.1,
  get_right u.numbers w.numbers _ h.0 refl ∙ h.2,
  further x c.numbers (length u.numbers) h.0 h.3,
  h.4,
)
later_named c u w (OfTag x) s h = (
  length u.tags + h.0,
  h.1,
  get_right u.tags w.tags _ h.0 refl ∙ h.2,
  further x c.tags (length u.tags) h.0 h.3,
  h.4,
)
later_named c u w (OfOption x) s h = (
  length u.options + h.0,
  h.1,
  get_right u.options w.options _ h.0 refl ∙ h.2,
  further x c.options (length u.options) h.0 h.3,
  h.4,
)

all_so : {A : Type 0} (P Q : A → Type 0) (xs : List A) → ((x : A) → P x → Q x) → AllByRecursion P xs
    → AllByRecursion Q xs
all_so P Q [] f h = tt
all_so P Q (x ∷ xs) f h = (f x h.0, all_so P Q xs f h.1)

all_both : {A : Type 0} (P : A → Type 0) (xs ys : List A) → AllByRecursion P xs → AllByRecursion P ys
    → AllByRecursion P (xs ++ ys)
all_both P [] ys h k = k
all_both P (x ∷ xs) ys h k = (h.0, all_both P xs ys h.1 k)

-- the part that a step leads to, or none
data Reaches (s : Step) (x z : Value) : Type 0 where
  There : part_in s x ≡ Some z → Reaches s x z
  Nothing : part_in s x ≡ None → Reaches s x z

followed_none : (ss : List Step) → followed ss None ≡ None
followed_none [] = refl
followed_none (s ∷ ss) = refl

module _ (v : Valuation) where
  -- what the symbol of a variable stands for
  abbrev pub value_at : Var → Value
  value_at (OfElement x) = value.Elem (v.element x)
  value_at (OfNumber x) = value.Int (v.number x)
  value_at (OfTag x) = value.Tag (v.tag x)
  value_at (OfOption o) = option_value v o

  -- where a part is made: the symbol's root and path, how many variables there are, and the part's value
  pub record Spot : Type 0 where
    pub root : Root
    pub path : List Step
    pub from : Counts
    pub worth : Value

  abbrev pub spot : Place → Value → Spot
  spot p x = record { root = p.root; path = p.path; from = p.from; worth = x }

  -- a variable whose symbol leads from the spot to its value
  pub record IsSeen (a : Spot) (vs : Variables) (x : Var) : Type 0 where
    pub symbol : Sym
    pub named : IsNamed a.from vs x symbol
    pub root : symbol.root ≡ a.root
    pub rest : List Step
    pub path : symbol.path ≡ a.path ++ rest
    pub leads : followed rest (Some a.worth) ≡ Some (value_at x)

  abbrev pub AllSeen : Spot → Variables → List Var → Type 0
  AllSeen a vs = AllByRecursion (IsSeen a vs)

  -- where an option is there and its symbol leads to a value, its payload's variables are seen
  pub record IsOpened (a : Spot) (vs : Variables) (o : ℕ) (d : OptionPart) : Type 0 where
    pub root : d.sym.root ≡ a.root
    pub rest : List Step
    pub path : d.sym.path ≡ a.path ++ rest
    pub opens : v.present o ≡ 1 → (y : Value) → followed rest (Some a.worth) ≡ Some y
        → AllSeen a vs (vars_of d.payload)

  abbrev pub AllOpened : Spot → Variables → ℕ → List OptionPart → Type 0
  AllOpened a vs = EachFrom (IsOpened a vs)

  abbrev pub HoldsFrom : Counts → Variables → Type 0
  HoldsFrom c vs = EachFrom (λ o (d : OptionPart). v.payload o ≡ value_of v d.payload) c.options vs.options

  abbrev at : Spot → Counts → Spot
  at a c = record a { from = c }

  first_seen : (a : Spot) (u w : Variables) (xs : List Var) → AllSeen a u xs → AllSeen a (both u w) xs
  first_seen a u w xs = all_so (IsSeen a u) (IsSeen a (both u w)) xs (λ x h. record {
    symbol = h.symbol;
    named = first_named a.from u w x h.symbol h.named;
    root = h.root;
    rest = h.rest;
    path = h.path;
    leads = h.leads;
  })

  later_seen : (a : Spot) (u w : Variables) (xs : List Var) → AllSeen (at a (counted a.from u)) w xs
      → AllSeen a (both u w) xs
  later_seen a u w xs = all_so (IsSeen (at a (counted a.from u)) w) (IsSeen a (both u w)) xs (λ x h. record {
    symbol = h.symbol;
    named = later_named a.from u w x h.symbol h.named;
    root = h.root;
    rest = h.rest;
    path = h.path;
    leads = h.leads;
  })

  opened_both : (a : Spot) (u w : Variables) → AllOpened a u a.from.options u.options
      → AllOpened (at a (counted a.from u)) w (counted a.from u).options w.options
      → AllOpened a (both u w) a.from.options (both u w).options
  opened_both a u w h k = (each_append (IsOpened a (both u w)) a.from.options u.options w.options).1 (
    each_so (IsOpened a u) (IsOpened a (both u w)) a.from.options u.options (λ o d low high g. record {
      root = g.root;
      rest = g.rest;
      path = g.path;
      opens = λ is y leads. first_seen a u w (vars_of d.payload) (g.opens is y leads);
    }) h,
    each_so (IsOpened (at a (counted a.from u)) w) (IsOpened a (both u w)) (counted a.from u).options w.options
        (λ o d low high g. record {
          root = g.root;
          rest = g.rest;
          path = g.path;
          opens = λ is y leads. later_seen a u w (vars_of d.payload) (g.opens is y leads);
        }) k,
  )

  holds_both : (c : Counts) (u w : Variables) → HoldsFrom c (both u w) → HoldsFrom c u × HoldsFrom (counted c u) w
  holds_both c u w h =
      (each_append (λ o (d : OptionPart). v.payload o ≡ value_of v d.payload) c.options u.options w.options).0 h

  -- from a part to the whole
  abbrev inner : Spot → Step → Value → Spot
  inner a s z = record { root = a.root; path = a.path ++ s ∷ []; from = a.from; worth = z }

  seen_inward : (a : Spot) (s : Step) (z : Value) → part_in s a.worth ≡ Some z → (vs : Variables) (xs : List Var)
      → AllSeen (inner a s z) vs xs → AllSeen a vs xs
  seen_inward a s z reach vs xs = all_so (IsSeen (inner a s z) vs) (IsSeen a vs) xs (λ x h. record {
    symbol = h.symbol;
    named = h.named;
    root = h.root;
    rest = s ∷ h.rest;
    path = h.path ∙ append_assoc a.path (s ∷ []) h.rest;
    leads = ap (followed h.rest) reach ∙ h.leads;
  })

  opened_inward : (a : Spot) (s : Step) (z : Value) → Reaches s a.worth z → (vs : Variables)
      → AllOpened (inner a s z) vs a.from.options vs.options → AllOpened a vs a.from.options vs.options
  opened_inward a s z (There e) vs = each_so (IsOpened (inner a s z) vs) (IsOpened a vs) a.from.options vs.options
      (λ o d low high g. record {
        root = g.root;
        rest = s ∷ g.rest;
        path = g.path ∙ append_assoc a.path (s ∷ []) g.rest;
        opens = λ is y leads. seen_inward a s z e vs (vars_of d.payload)
            (g.opens is y (sym (ap (followed g.rest) e) ∙ leads));
      })
  opened_inward a s z (Nothing e) vs = each_so (IsOpened (inner a s z) vs) (IsOpened a vs) a.from.options vs.options
      (λ o d low high g. record {
        root = g.root;
        rest = s ∷ g.rest;
        path = g.path ∙ append_assoc a.path (s ∷ []) g.rest;
        opens = λ is y leads. absurd (never y (sym (followed_none g.rest) ∙ sym (ap (followed g.rest) e) ∙ leads));
      })
    where
      never : (y : Value) → None ≡ Some y → ⊥
      never y h = cc

  record Seeing (m : Maker) : Type 0 where
    term : (p : Place) → HoldsFrom p.from (m p).variables
        → AllSeen (spot p (value_of v (m p).term)) (m p).variables (vars_of (m p).term)
    options : (p : Place) → HoldsFrom p.from (m p).variables
        → AllOpened (spot p (value_of v (m p).term)) (m p).variables p.from.options (m p).variables.options

  zero_more : (n : ℕ) → n ≡ n + 0
  zero_more n = omega arith

  -- the variable of a place itself
  itself : (p : Place) (x : Value) (vs : Variables) (y : Var) → IsNamed p.from vs y (sym_of p) → x ≡ value_at y
      → IsSeen (spot p x) vs y
  itself p x vs y named e = record {
    symbol = sym_of p;
    named = named;
    root = refl;
    rest = [];
    path = sym (append-nil p.path);
    leads = ap Some e;
  }

  seeing_element : (s : ℕ) → Seeing (element_made s)
  seeing_element s = record {
    term = λ p h. subst (AllSeen (spot p (value_of v (element_made s p).term)) (element_made s p).variables)
        (sym (terms.fold-elem vars_step _)) (
          itself p _ (element_made s p).variables (OfElement p.from.elements)
              (0, record { sort = s; sym = sym_of p }, refl, zero_more p.from.elements, refl) (value_elem v _),
          tt,
        );
    options = λ p h. tt;
  }

  plus_zero : (n : ℤ) → (n +ℤ pos 0) ≡ n
  plus_zero n = omega (arith, ints)

  seeing_number : (d : Option IntDecl) → Seeing (number_made d)
  seeing_number d = record {
    term = λ p h. subst (AllSeen (spot p (value_of v (number_made d p).term)) (number_made d p).variables)
        (sym (terms.fold-num vars_step _)) (
          itself p _ (number_made d p).variables (OfNumber p.from.numbers)
              (0, _, refl, zero_more p.from.numbers, refl)
              (value_num v _ ∙ ap value.Int (plus_zero (v.number p.from.numbers))),
          tt,
        );
    options = λ p h. tt;
  }

  seeing_tag : (d : Option EnumDecl) → Seeing (tag_made d)
  seeing_tag d = record {
    term = λ p h. subst (AllSeen (spot p (value_of v (tag_made d p).term)) (tag_made d p).variables)
        (sym (terms.fold-tag vars_step _)) (
          itself p _ (tag_made d p).variables (OfTag p.from.tags)
              (0, _, refl, zero_more p.from.tags, refl) (value_tag v _),
          tt,
        );
    options = λ p h. tt;
  }

  abbrev chosen : ℕ → Bool → Value
  chosen o b = if b then value.Some (v.payload o) else value.None

  payload_there : (o : ℕ) (x z : Value) → x ≡ option_value v o → v.payload o ≡ z → (v.present o == 1) ≡ true
      → part_in step.Payload x ≡ Some z
  payload_there o x z e hold is =
      ap (part_in step.Payload) (e ∙ ap (chosen o) is) ∙ ap payload_in (out_some (v.payload o)) ∙ ap Some hold

  payload_reached : (o : ℕ) (x z : Value) → x ≡ option_value v o → v.payload o ≡ z → Reaches step.Payload x z
  payload_reached o x z e hold = first (v.present o == 1) refl
    where
      first : (b : Bool) → (v.present o == 1) ≡ b → Reaches step.Payload x z
      first true is = There (payload_there o x z e hold is)
      first false is = Nothing (ap (part_in step.Payload) (e ∙ ap (chosen o) is) ∙ ap payload_in out_none)

  module _ (m : Maker) (s : Seeing m) (p : Place) (h : HoldsFrom p.from (option_made m p).variables) where
    abbrev q : Place
    q = into p step.Payload

    abbrev V : Variables
    V = (m (into p step.Payload)).variables

    abbrev one : OptionPart
    one = record { payload = (m (into p step.Payload)).term; sym = sym_of p }

    abbrev last : Variables
    last = variables [] [] [] (record { payload = (m (into p step.Payload)).term; sym = sym_of p } ∷ [])

    abbrev o : ℕ
    o = p.from.options + length (m (into p step.Payload)).variables.options

    abbrev x : Value
    x = value_of v (option_made m p).term

    abbrev z : Value
    z = value_of v (m (into p step.Payload)).term

    parts : HoldsFrom p.from V × HoldsFrom (counted p.from V) last
    parts = holds_both p.from V last h

    opt_term : AllSeen (spot p x) (both V last) (vars_of (option_made m p).term)
    opt_term = subst (AllSeen (spot p x) (both V last)) (sym (terms.fold-either vars_step _)) (
      itself p x (both V last) (OfOption o)
          (length V.options, one, get_right V.options last.options _ 0 (zero_more (length V.options)), refl, refl)
          (value_either v _),
      tt,
    )

    payload_seen : part_in step.Payload x ≡ Some z → AllSeen (spot p x) (both V last) (vars_of one.payload)
    payload_seen reach = first_seen (spot p x) V last (vars_of one.payload)
        (seen_inward (spot p x) step.Payload z reach V (vars_of one.payload) (s.term q parts.0))

    opt_options : AllOpened (spot p x) (both V last) p.from.options (both V last).options
    opt_options = (each_append (IsOpened (spot p x) (both V last)) p.from.options V.options last.options).1 (
      each_so (IsOpened (spot p x) V) (IsOpened (spot p x) (both V last)) p.from.options V.options
          (λ k d low high g. record {
            root = g.root;
            rest = g.rest;
            path = g.path;
            opens = λ is y leads. first_seen (spot p x) V last (vars_of d.payload) (g.opens is y leads);
          })
          (opened_inward (spot p x) step.Payload z (payload_reached o x z (value_either v _) parts.1.0) V
          (s.options q parts.0)),
      (
        record {
          root = refl;
          rest = [];
          path = sym (append-nil p.path);
          opens = λ is y leads. payload_seen (payload_there o x z (value_either v _) parts.1.0 (eq-eqb _ 1 is));
        },
        tt,
      ),
    )

  seeing_option : (m : Maker) → Seeing m → Seeing (option_made m)
  seeing_option m s = record { term = opt_term m s; options = opt_options m s }

  abbrev AllSeeing : List Maker → Type 0
  AllSeeing [] = Unit {0}
  AllSeeing (m ∷ ms) = Seeing m × AllSeeing ms

  field_there : (done : List Value) (a : Value) (more : List Value) (i : ℕ) → length done ≡ i
      → part_in (step.Field i) (value.Rec (done ++ a ∷ more)) ≡ Some a
  field_there done a more i long =
      ap (field_in i) (out_rec (done ++ a ∷ more)) ∙ get_right done (a ∷ more) i 0 (omega (arith, long))

  abbrev all_vars : List Term → List Var
  all_vars ts = flat_map (λ vars. vars) (map vars_of ts)

  -- the value of a record whose first fields are these
  abbrev with_fields : ℕ → List Maker → Place → List Value → Value
  with_fields i ms p done = value.Rec (done ++ map (value_of v) (fields_made i ms p).terms)

  -- the fields from one on, behind the values of those before it
  record SeeingFields (i : ℕ) (ms : List Maker) (p : Place) (done : List Value) : Type 0 where
    terms_seen : AllSeen (spot p (with_fields i ms p done)) (fields_made i ms p).variables
        (all_vars (fields_made i ms p).terms)
    options : AllOpened (spot p (with_fields i ms p done)) (fields_made i ms p).variables p.from.options
        (fields_made i ms p).variables.options

  seeing_fields : (i : ℕ) (ms : List Maker) → AllSeeing ms → (p : Place) (done : List Value) → length done ≡ i
      → HoldsFrom p.from (fields_made i ms p).variables → SeeingFields i ms p done
  seeing_fields i [] l p done long h = record { terms_seen = tt; options = tt }
  seeing_fields i (m ∷ ms) l p done long h =
      let q = into p (step.Field i) in
      let V = (m q).variables in
      let a = value_of v (m q).term in
      let rest = fields_made (i + 1) ms (behind p V) in
      let more = map (value_of v) rest.terms in
      let x = value.Rec (done ++ a ∷ more) in
      let parts = holds_both p.from V rest.variables h in
      let later = seeing_fields (i + 1) ms l.1 (behind p V) (done ++ a ∷ [])
      (length-append done (a ∷ []) ∙ ap (λ n. n + 1) long) parts.1 in
      let same : value.Rec ((done ++ a ∷ []) ++ more) ≡ x = ap value.Rec (append_assoc done (a ∷ []) more) in
      let reach = field_there done a more i long in
      record {
        terms_seen = all_both (IsSeen (spot p x) (both V rest.variables)) (vars_of (m q).term) (all_vars rest.terms)
            (first_seen (spot p x) V rest.variables (vars_of (m q).term)
            (seen_inward (spot p x) (step.Field i) a reach V (vars_of (m q).term) (l.0.term q parts.0)))
            (later_seen (spot p x) V rest.variables (all_vars rest.terms)
            (subst (λ y. AllSeen (spot (behind p V) y) rest.variables (all_vars rest.terms)) same later.terms_seen));
        options = opened_both (spot p x) V rest.variables
            (opened_inward (spot p x) (step.Field i) a (There reach) V (l.0.options q parts.0))
            (subst (λ y. AllOpened (spot (behind p V) y) rest.variables (counted p.from V).options rest.variables.options)
            same later.options);
      }

  seeing_record : (ms : List Maker) → AllSeeing ms → Seeing (record_made ms)
  seeing_record ms l = record {
    term = λ p h.
        let f = seeing_fields 0 ms l p [] refl h in
        subst (λ x. AllSeen (spot p x) (fields_made 0 ms p).variables (vars_of (record_made ms p).term))
        (sym (value_rec v (fields_made 0 ms p).terms))
        (subst (AllSeen (spot p (with_fields 0 ms p [])) (fields_made 0 ms p).variables)
        (sym (terms.fold-rec vars_step (fields_made 0 ms p).terms)) f.terms_seen);
    options = λ p h.
        let f = seeing_fields 0 ms l p [] refl h in
        subst (λ x. AllOpened (spot p x) (fields_made 0 ms p).variables p.from.options
        (fields_made 0 ms p).variables.options) (sym (value_rec v (fields_made 0 ms p).terms)) f.options;
  }

  module _ (t : Tables) where
    abbrev Made_seeing : ℕ → Ty → Maker → Type 0
    Made_seeing n u m = Seeing m

    all_seeing : (ps : List Part) (f : Ty → Maker) → ((u : Ty) → Seeing (f u))
        → AllSeeing (map (λ (p : Part). f p.ty) ps)
    all_seeing [] f h = tt
    all_seeing (p ∷ ps) f h = (h p.ty, all_seeing ps f h)

    made_seeing : (u : Ty) → Seeing (made_of t u)
    made_seeing = maker_ind t.ints t.enums t.records Made_seeing
        (λ n s. seeing_element s)
        (λ n i. seeing_number (slice_get t.ints i))
        (λ n e. seeing_tag (slice_get t.enums e))
        (λ n u m h. seeing_option m h)
        (λ n r d lt at f h. seeing_record (map (λ (p : Part). f p.ty) d.fields) (all_seeing d.fields f h))
        (λ n r le. seeing_record [] tt)

    -- the variables of what is made for a symbol are seen from its value, and where an option that is there is seen, so
    -- are those of its payload
    pub record PieceSeen (p : Piece) : Type 0 where
      pub term : AllSeen (spot (place p.root [] p.from) (value_of v p.term)) p.variables (vars_of p.term)
      pub options : AllOpened (spot (place p.root [] p.from) (value_of v p.term)) p.variables p.from.options
          p.variables.options

    pub piece_seen : (u : Ty) (root : Root) (from : Counts) → Gives from (piece_of t u root from).variables v
        → PieceSeen (piece_of t u root from)
    piece_seen u root from g =
        let vs = (piece_of t u root from).variables in
        let h : HoldsFrom from vs =
        each_so (HasPayload v) (λ o (d : OptionPart). v.payload o ≡ value_of v d.payload) from.options vs.options
        (λ o d low high k. k.1) g.options in
        let s = made_seeing u in
        record { term = s.term (place root [] from) h; options = s.options (place root [] from) h }
