-- The term of new variables fits each value that a valuation of its type gives it.
use Rattle.std.proofs.Common.{◌≡◌, ◌<◌, ◌≤◌, ◌+◌, ℕ, zero, suc, ◌==◌, ltb, ℤ, pos, neg_ℤ, ◌+ℤ◌, ◌≤ℤ◌, int_le, Bool, true}
use Rattle.std.proofs.Common.{false, ◌&&◌, List, [], ◌∷◌, ◌++◌, map, length, slice_get, Option, Some, IsTrue, refl}
use Rattle.std.proofs.Common.{sym, ap, ◌∙◌, subst, arith, if◌then◌else◌}
use Rattle.std.specs.List.{AllByRecursion, flat_map}
use Rattle.std.specs.Ordering.{int_eq}
use Rattle.std.proofs.lemmas.Bool.{and_parts, and_from, eq-eqb, ltb-true, lt-ltb}
use Rattle.std.proofs.lemmas.Int.{ints}
use Rattle.std.proofs.lemmas.List.{length-append}
use Rattle.cm_model.specs.Tables.{Tables}
use Rattle.cm_model.specs.WellTyped.{IsWellTyped}
use Rattle.cm_model.specs.Types.{IsType, is_type_before, ty_step}
use Rattle.cm_model.specs.declared.ty.Ty.{Ty, out-Ty}
use Rattle.cm_model.specs.declared.ty.Ty.TheVariants as ty
use Rattle.cm_model.specs.declared.ty.Ty.TheOpen.{Ty-F}
use Rattle.cm_model.specs.declared.ty.Part.{Part}
use Rattle.cm_model.specs.declared.ty.IntDecl.{IntDecl}
use Rattle.cm_model.specs.declared.ty.EnumDecl.{EnumDecl}
use Rattle.cm_model.specs.declared.ty.RecDecl.{RecDecl}
use Rattle.cm_value.specs.declared.value.Value.{Value}
use Rattle.cm_value.specs.declared.value.Value.TheVariants as value
use Rattle.cm_value.specs.Membership.{is_sort, is_number_of, is_variant_of, is_within, has_variant, field_types}
use Rattle.cm_value.proofs.Declared.{there, field_before}
use Rattle.cm_value.proofs.Types.{out_sort, out_int, out_enum, out_rec, out_option, fold-sort, fold-int_type, fold-enum}
use Rattle.cm_value.proofs.Types.{fold-record, fold-option}
use Rattle.cm_term.specs.declared.atom.Num.TheVariants as num
use Rattle.cm_term.specs.declared.atom.Tag.TheVariants as tag
use Rattle.cm_term.specs.declared.symbol.Root.{Root}
use Rattle.cm_term.specs.declared.symbol.Step.{Step}
use Rattle.cm_term.specs.declared.symbol.Step.TheVariants as step
use Rattle.cm_term.specs.declared.symbol.Sym.{Sym}
use Rattle.cm_term.specs.declared.term.Term.{Term, out-Term}
use Rattle.cm_term.specs.declared.term.Term.TheVariants as term
use Rattle.cm_term.specs.declared.term.Term.TheViews.{out-roll-Term}
use Rattle.cm_term.specs.declared.term.Term.TheOpen.{Term-F}
use Rattle.cm_term.specs.Valuation.{Var, OfElement, OfTag, OfOption}
use Rattle.cm_term.specs.Terms.{value_of, vars_of, vars_step}
use Rattle.cm_term.proofs.Folds as terms
use Rattle.cm_term.proofs.Values.{value_elem, value_num, value_tag, value_rec, value_either}
use Rattle.cm_cells.specs.Comparison.{elem_in, num_in, tag_in, fields_in}
use Rattle.cm_ctx.specs.declared.piece.Counts.{Counts}
use Rattle.cm_ctx.specs.declared.piece.ElementPart.{ElementPart}
use Rattle.cm_ctx.specs.declared.piece.NumberPart.{NumberPart}
use Rattle.cm_ctx.specs.declared.piece.TagPart.{TagPart}
use Rattle.cm_ctx.specs.declared.piece.OptionPart.{OptionPart}
use Rattle.cm_ctx.specs.declared.piece.Variables.{Variables}
use Rattle.cm_ctx.specs.Making.{Place, into, behind, sym_of, counted, both, variables, Maker}
use Rattle.cm_ctx.specs.Making.{fields_made, element_made, number_made, tag_made, option_made, record_made, made_of}
use Rattle.cm_ctx.specs.Giving.{EachFrom, Gives}
use Rattle.cm_ctx.proofs.Each.{each_append}
use Rattle.cm_ctx.proofs.Growing.{counted_both}
use Rattle.cm_ctx.proofs.Counting.{gives_both}
use Rattle.cm_ctx.proofs.Makers.{maker_ind}
use Rattle.cm_cond.specs.Form.{enum_in}
use Rattle.cm_cond.specs.Typing.{type_in, type_along, payload_type, field, declared_field, type_of_part}
use Rattle.cm_beside.specs.Grounds.{Grounds}
use Rattle.cm_beside.specs.Fits.{Fitting, is_element, is_number, is_choice, is_record, is_none, is_some, is_option}
use Rattle.cm_beside.specs.Fits.{all_fit, fields_fit, payload_fits, is_nothing, is_something, is_near, value_offset_limit}
use Rattle.cm_beside.specs.Fits.{is_of_sort, is_of_enum, has_number}
use Rattle.cm_beside.proofs.Enums.{enum_is, along_more, part_type}
use Rattle.cm_beside.proofs.Layers.{fitting}
use Rattle.cm_beside.proofs.Fitting.{fit_elem, fit_int, fit_tag, fit_rec, fit_none, fit_some, grows}
use Rattle.cm_beside.proofs.Rules.{out_num_term, out_tag_term, out_rec_term}

out_elem_term : (x : _) → out-Term (term.Elem x) ≡ Term-F.Elem x
out_elem_term x = ap out-Term (sym (term.rolls-Elem x)) ∙ out-roll-Term (Term-F.Elem x)

out_either_term : (o : _) → out-Term (term.Either o) ≡ Term-F.Either o
out_either_term o = ap out-Term (sym (term.rolls-Either o)) ∙ out-roll-Term (Term-F.Either o)

module _ (t : Tables) (g : Grounds) where
  abbrev fit : Value → Fitting
  fit = fitting t g

  abbrev worth : Term → Value
  worth = value_of g.valuation

  abbrev Have : List Var → Type 0
  Have = AllByRecursion (λ x. g.has x ≡ true)

  -- what lies in an option that is there has values where the option has one
  abbrev pub IsClosed : Type 0
  IsClosed = (o : ℕ) (x : Term) → slice_get g.payloads o ≡ Some x → g.valuation.present o ≡ 1
      → g.has (OfOption o) ≡ true → Have (vars_of x)

  -- by the types of roots
  module _ (type_of_root : Root → Option Ty) where
    -- what stands there is of the type
    abbrev pub IsAt : Place → Ty → Type 0
    IsAt p u = type_along t p.path (type_of_root p.root) ≡ Some u

    -- the enum of a symbol's type
    abbrev pub enum_at : Sym → Option ℕ
    enum_at s = enum_in (type_along t s.path (type_of_root s.root))

    steps_into : (p : Place) (s : Step) (u w : Ty) → IsAt p u → type_in t s u ≡ Some w → IsAt (into p s) w
    steps_into p s u w = along_more t p.path s (type_of_root p.root) u w

    -- the variables are among those that there are
    pub record AreThere (from : Counts) (vs : Variables) : Type 0 where
      pub sorts : EachFrom (λ x (d : ElementPart). slice_get g.sorts x ≡ Some d.sort) from.elements vs.elements
      pub numbers : EachFrom (λ x (d : NumberPart). x < g.numbers) from.numbers vs.numbers
      pub tags : EachFrom (λ x (d : TagPart). (x < g.tags) × (g.enums x ≡ enum_at d.sym)) from.tags vs.tags
      pub options : EachFrom (λ x (d : OptionPart). (x < g.options) × (slice_get g.payloads x ≡ Some d.payload))
          from.options vs.options

    there_both : (from : Counts) (v w : Variables) → AreThere from (both v w)
        → AreThere from v × AreThere (counted from v) w
    there_both from v w h =
        let s = (each_append (λ x (d : ElementPart). slice_get g.sorts x ≡ Some d.sort) from.elements v.elements
        w.elements).0 h.sorts in
        let n = (each_append (λ x (d : NumberPart). x < g.numbers) from.numbers v.numbers w.numbers).0 h.numbers in
        let k = (each_append (λ x (d : TagPart). (x < g.tags) × (g.enums x ≡ enum_at d.sym)) from.tags v.tags w.tags).0
        h.tags in
        let o = (each_append (λ x (d : OptionPart). (x < g.options) × (slice_get g.payloads x ≡ Some d.payload))
        from.options v.options w.options).0 h.options in (
          record { sorts = s.0; numbers = n.0; tags = k.0; options = o.0 },
          record { sorts = s.1; numbers = n.1; tags = k.1; options = o.1 },
        )

    -- what is made anywhere fits
    pub record IsFresh (u : Ty) (m : Maker) : Type 0 where
      pub fits_ : (p : Place) → IsAt p u → Gives p.from (m p).variables g.valuation → AreThere p.from (m p).variables
          → Have (vars_of (m p).term)
          → fit (worth (m p).term) u (counted p.from (m p).variables).options (m p).term ≡ true

    fresh_element : (s : ℕ) → is_sort t (Ty-F.Sort s) ≡ true → IsFresh (ty.Sort s) (element_made s)
    fresh_element s is = record {
      fits_ = λ p at_ gives there_ have.
          let x = p.from.elements in
          let term_ = term.Elem (record { 0 = x }) in
          let b = (counted p.from (element_made s p).variables).options in
          ap (λ v. fit v (ty.Sort s) b term_) (value_elem g.valuation _)
          ∙ fit_elem t g (g.valuation.element x) (ty.Sort s) b term_
          ∙ ap (λ y. is_element t g (ty.Sort s) (g.valuation.element x) (elem_in y)) (out_elem_term _)
          ∙ and_from _ _ (eq-eqb (g.valuation.element x) (g.valuation.element x) refl)
          (and_from _ _ (and_from _ _ (ap (is_sort t) (out_sort s) ∙ is)
          (ap (λ z. is_of_sort z (slice_get g.sorts x)) (out_sort s) ∙ ap (is_of_sort (Ty-F.Sort s)) there_.sorts.0
          ∙ eq-eqb s s refl))
          (element_has _ have));
    }
      where
        element_has : (x : _) → Have (vars_of (term.Elem x)) → g.has (OfElement x.0) ≡ true
        element_has x h = (subst Have (terms.fold-elem vars_step x) h).0

    fresh_number : (i : ℕ) (d : IntDecl) → slice_get t.ints i ≡ Some d → IsFresh (ty.Int i) (number_made (Some d))
    fresh_number i d at = record {
      fits_ = λ p at_ gives there_ have.
          let x = p.from.numbers in
          let a = num.Plus (record { 0 = x }) (pos 0) in
          let b = (counted p.from (number_made (Some d) p).variables).options in
          let n = g.valuation.number x +ℤ pos 0 in
          ap (λ v. fit v (ty.Int i) b (term.Num a)) (value_num g.valuation a)
          ∙ fit_int t g n (ty.Int i) b (term.Num a)
          ∙ ap (λ y. is_number t g (ty.Int i) n (num_in y)) (out_num_term a)
          ∙ and_from _ _ (same n)
          (and_from _ _ (ap (λ z. is_number_of t z n) (out_int i) ∙ ap (λ o. is_within o n) at
          ∙ within d.lo d.hi (g.valuation.number x) gives.numbers.0.0 gives.numbers.0.1)
          (and_from _ _ (and_from _ _ (lt-ltb x g.numbers there_.numbers.0) near_zero) (number_has a have)));
    }
      where
        same : (n : ℤ) → int_eq n n ≡ true
        same n = grind (arith, ints)

        within : (lo hi x : ℤ) → lo ≤ℤ x → x ≤ℤ hi → (int_le lo (x +ℤ pos 0) && int_le (x +ℤ pos 0) hi) ≡ true
        within lo hi x low high = and_from _ _ (tested lo x low) (tested_ x hi high)
          where
            tested : (a b : ℤ) → a ≤ℤ b → int_le a (b +ℤ pos 0) ≡ true
            tested a b h = grind (arith, ints, h)

            tested_ : (a b : ℤ) → a ≤ℤ b → int_le (a +ℤ pos 0) b ≡ true
            tested_ a b h = grind (arith, ints, h)

        near_zero : is_near value_offset_limit (pos 0) ≡ true
        near_zero = and_from _ _ (low value_offset_limit) (high value_offset_limit)
          where
            low : (n : ℕ) → int_le (neg_ℤ (pos n)) (pos 0) ≡ true
            low n = grind (arith, ints)

            high : (n : ℕ) → int_le (pos 0) (pos n) ≡ true
            high n = grind (arith, ints)

        number_has : (a : _) → Have (vars_of (term.Num a)) → has_number t g a ≡ true
        number_has (num.Const k) h = refl
        number_has (num.Plus x k) h = (subst Have (terms.fold-num vars_step (num.Plus x k)) h).0

    fresh_tag : (e : ℕ) (d : EnumDecl) → slice_get t.enums e ≡ Some d → IsFresh (ty.Enum e) (tag_made (Some d))
    fresh_tag e d at = record {
      fits_ = λ p at_ gives there_ have.
          let x = p.from.tags in
          let a = tag.Var (record { 0 = x }) in
          let b = (counted p.from (tag_made (Some d) p).variables).options in
          let n = g.valuation.tag x in
          ap (λ v. fit v (ty.Enum e) b (term.Tag a)) (value_tag g.valuation a)
          ∙ fit_tag t g n (ty.Enum e) b (term.Tag a)
          ∙ ap (λ y. is_choice t g (ty.Enum e) n (tag_in y)) (out_tag_term a)
          ∙ and_from _ _ (eq-eqb n n refl)
          (and_from _ _ (ap (λ z. is_variant_of t z n) (out_enum e) ∙ ap (λ o. has_variant o n) at
          ∙ lt-ltb n (length d.variants) gives.tags.0)
          (and_from _ _ (is_of e (g.enums x) (there_.tags.0.1 ∙ ap enum_in at_ ∙ enum_is (ty.Enum e) e (out_enum e)))
          (and_from _ _ (lt-ltb x g.tags there_.tags.0.0) (tag_has _ have))));
    }
      where
        is_of : (e : ℕ) (o : Option ℕ) → o ≡ Some e → is_of_enum (out-Ty (ty.Enum e)) o ≡ true
        is_of e o same =
            ap (λ z. is_of_enum z o) (out_enum e) ∙ ap (is_of_enum (Ty-F.Enum e)) same ∙ eq-eqb e e refl

        tag_has : (x : _) → Have (vars_of (term.Tag (tag.Var x))) → g.has (OfTag x.0) ≡ true
        tag_has x h = (subst Have (terms.fold-tag vars_step (tag.Var x)) h).0

    module _ (closed : IsClosed) (u : Ty) (m : Maker) (fresh : IsFresh u m) where
      abbrev last : Place → Variables
      last p = variables [] [] [] (record { payload = (m (into p step.Payload)).term; sym = sym_of p } ∷ [])

      option_fits : (p : Place) → IsAt p (ty.Option u) → Gives p.from (option_made m p).variables g.valuation
          → AreThere p.from (option_made m p).variables → Have (vars_of (option_made m p).term)
          → fit (worth (option_made m p).term) (ty.Option u) (counted p.from (option_made m p).variables).options
          (option_made m p).term ≡ true
      option_fits p at_ gives there_ have = by (g.valuation.present o) refl parts.1.options.0.0
        where
          V : Variables
          V = (m (into p step.Payload)).variables

          o : ℕ
          o = p.from.options + length (m (into p step.Payload)).variables.options

          b : ℕ
          b = (counted p.from (option_made m p).variables).options

          parts : Gives p.from (m (into p step.Payload)).variables g.valuation
              × Gives (counted p.from (m (into p step.Payload)).variables) (last p) g.valuation
          parts = (gives_both p.from (m (into p step.Payload)).variables (last p) g.valuation).0 gives

          places : AreThere p.from (m (into p step.Payload)).variables
              × AreThere (counted p.from (m (into p step.Payload)).variables) (last p)
          places = there_both p.from (m (into p step.Payload)).variables (last p) there_

          T : Term
          T = (m (into p step.Payload)).term

          option : Term
          option = (option_made m p).term

          option_has : g.has (OfOption o) ≡ true
          option_has = (subst Have (terms.fold-either vars_step (record { 0 = o })) have).0

          below : ltb o b ≡ true
          below = lt-ltb o b (let n = length-append (m (into p step.Payload)).variables.options (last p).options in
              omega (arith, n))

          is_here : (n : ℕ) → g.valuation.present o ≡ n → is_option t g b o n ≡ true
          is_here n is = and_from _ _ (and_from _ _ below (eq-eqb (g.valuation.present o) n is)) option_has

          -- the option's value
          worth_is : (n : ℕ) (c : Bool) → (n == 1) ≡ c → g.valuation.present o ≡ n
              → worth option ≡ (if c then value.Some (g.valuation.payload o) else value.None)
          worth_is n c e is =
              value_either g.valuation _
              ∙ ap (λ j. if j == 1 then value.Some (g.valuation.payload o) else value.None) is
              ∙ ap (λ c. if c then value.Some (g.valuation.payload o) else value.None) e

          by : (n : ℕ) → g.valuation.present o ≡ n → n < 2 → fit (worth option) (ty.Option u) b option ≡ true
          by zero is lt =
              ap (λ v. fit v (ty.Option u) b option) (worth_is zero false refl is)
              ∙ fit_none t g (ty.Option u) b option
              ∙ ap (λ z. is_none t g z b (out-Term option)) (out_option u)
              ∙ ap (is_nothing t g b) (out_either_term (record { 0 = o }))
              ∙ is_here 0 is
          by (suc zero) is lt =
              ap (λ v. fit v (ty.Option u) b option) (worth_is 1 true refl is)
              ∙ fit_some t g (g.valuation.payload o) (ty.Option u) b option
              ∙ ap (λ z. is_some t g (fit (g.valuation.payload o)) z b (out-Term option)) (out_option u)
              ∙ ap (is_something t g (fit (g.valuation.payload o)) u b) (out_either_term (record { 0 = o }))
              ∙ and_from _ _ (is_here 1 is)
              (ap (payload_fits t g (fit (g.valuation.payload o)) u o) places.1.options.0.1
              ∙ ap (λ v. fit v u o T) parts.1.options.0.1
              ∙ fresh.fits_ (into p step.Payload)
              (steps_into p step.Payload (ty.Option u) u at_ (ap payload_type (out_option u))) parts.0 places.0
              (closed o T places.1.options.0.1 is option_has))
          by (suc (suc n)) is lt = absurd (omega (arith, lt))

      fresh_option : IsFresh (ty.Option u) (option_made m)
      fresh_option = record { fits_ = option_fits }

    -- the fields of a record
    abbrev AllFresh : List Ty → List Maker → Type 0
    AllFresh [] [] = Unit {0}
    AllFresh [] (m ∷ ms) = ⊥
    AllFresh (u ∷ us) [] = ⊥
    AllFresh (u ∷ us) (m ∷ ms) = IsFresh u m × AllFresh us ms

    abbrev HaveAll : List Term → Type 0
    HaveAll = AllByRecursion (λ x. Have (vars_of x))

    all_grow : (vs : List Value) (us : List Ty) (xs : List Term) (b c : ℕ) → b ≤ c
        → all_fit t g (map fit vs) us b xs ≡ true → all_fit t g (map fit vs) us c xs ≡ true
    all_grow [] [] [] b c le h = refl
    all_grow [] [] (x ∷ xs) b c le h = absurd (cc)
    all_grow [] (u ∷ us) xs b c le h = absurd (cc)
    all_grow (v ∷ vs) [] xs b c le h = absurd (cc)
    all_grow (v ∷ vs) (u ∷ us) [] b c le h = absurd (cc)
    all_grow (v ∷ vs) (u ∷ us) (x ∷ xs) b c le h =
        let two = and_parts (fit v u b x) (all_fit t g (map fit vs) us b xs) h in
        and_from _ _ (grows t g v u b c x le two.0) (all_grow vs us xs b c le two.1)

    -- the types of a record's fields, from one on
    abbrev AreFields : Ty → ℕ → List Ty → Type 0
    AreFields whole i us =
        (j : ℕ) (u : Ty) → slice_get us j ≡ Some u → type_in t (step.Field (i + j)) whole ≡ Some u

    fields_fresh : (whole : Ty) (i : ℕ) (us : List Ty) (ms : List Maker) → AreFields whole i us → AllFresh us ms
        → (p : Place) → IsAt p whole
        → Gives p.from (fields_made i ms p).variables g.valuation → AreThere p.from (fields_made i ms p).variables
        → HaveAll (fields_made i ms p).terms
        → all_fit t g (map fit (map worth (fields_made i ms p).terms)) us
        (counted p.from (fields_made i ms p).variables).options (fields_made i ms p).terms ≡ true
    fields_fresh whole i [] [] of all p at_ gives there_ have = refl
    fields_fresh whole i [] (m ∷ ms) of all p at_ gives there_ have = absurd all
    fields_fresh whole i (u ∷ us) [] of all p at_ gives there_ have = absurd all
    fields_fresh whole i (u ∷ us) (m ∷ ms) of all p at_ gives there_ have =
        let first_ : type_in t (step.Field i) whole ≡ Some u =
        (let same : i ≡ i + 0 = omega arith in ap (λ k. type_in t (step.Field k) whole) same ∙ of 0 u refl) in
        let V = (m (into p (step.Field i))).variables in
        let R = fields_made (i + 1) ms (behind p V) in
        let parts = (gives_both p.from V R.variables g.valuation).0 gives in
        let places = there_both p.from V R.variables there_ in
        let T = (m (into p (step.Field i))).term in
        let B = (counted p.from (both V R.variables)).options in
        let more : length V.options ≤ length (V.options ++ R.variables.options) =
        (let n = length-append V.options R.variables.options in omega (arith, n)) in
        and_from (fit (worth T) u B T) _
        (grows t g (worth T) u (counted p.from V).options B T (omega (arith, more))
        (all.0.fits_ (into p (step.Field i)) (steps_into p (step.Field i) whole u at_ first_) parts.0 places.0 have.0))
        (subst (λ n. all_fit t g (map fit (map worth R.terms)) us n R.terms ≡ true)
        (sym (ap (λ c. c.options) (counted_both p.from V R.variables)))
        (fields_fresh whole (i + 1) us ms
        (λ j w at. (let next : i + 1 + j ≡ i + suc j = omega arith in
        ap (λ k. type_in t (step.Field k) whole) next ∙ of (suc j) w at)) all.1 (behind p V) at_ parts.1 places.1
        have.1))

    have_all : (xs : List Term) → Have (flat_map (λ vs. vs) (map vars_of xs)) → HaveAll xs
    have_all [] h = tt
    have_all (x ∷ xs) h = let both_ = split (vars_of x) (flat_map (λ vs. vs) (map vars_of xs)) h in
        (both_.0, have_all xs both_.1)
      where
        split : (xs ys : List Var) → Have (xs ++ ys) → Have xs × Have ys
        split [] ys h = (tt, h)
        split (x ∷ xs) ys h = let r = split xs ys h.1 in ((h.0, r.0), r.1)

    fresh_record : (r : ℕ) (d : RecDecl) (ms : List Maker) → slice_get t.records r ≡ Some d
        → AllFresh (field_types d) ms
        → IsFresh (ty.Rec r) (record_made ms)
    fresh_record r d ms at all = record {
      fits_ = λ p at_ gives there_ have.
          let R = fields_made 0 ms p in
          let b = (counted p.from R.variables).options in
          ap (λ v. fit v (ty.Rec r) b (term.Rec R.terms)) (value_rec g.valuation R.terms)
          ∙ fit_rec t g (map worth R.terms) (ty.Rec r) b (term.Rec R.terms)
          ∙ ap (λ y. is_record t g (map fit (map worth R.terms)) (out-Ty (ty.Rec r)) b (fields_in y))
          (out_rec_term R.terms)
          ∙ ap (λ z. is_record t g (map fit (map worth R.terms)) z b (Some R.terms)) (out_rec r)
          ∙ ap (λ o. fields_fit t g (map fit (map worth R.terms)) o b (Some R.terms)) at
          ∙ fields_fresh (ty.Rec r) 0 (field_types d) ms fields all p at_ gives there_
          (have_all R.terms (subst Have (terms.fold-rec vars_step R.terms) have));
    }
      where
        fields : AreFields (ty.Rec r) 0 (field_types d)
        fields j u is =
            let same : 0 + j ≡ j = omega arith in
            ap (λ k. type_in t (step.Field k) (ty.Rec r)) same
            ∙ ap (λ z. type_of_part (field t z j)) (out_rec r)
            ∙ ap (λ o. type_of_part (declared_field o j)) at
            ∙ part_type d.fields j u is

module _ (t : Tables) (typed : IsWellTyped t) (g : Grounds) (closed : IsClosed t g)
    (type_of_root : Root → Option Ty) where
  -- of types whose records are among the first n
  abbrev Fresh_ : ℕ → Ty → Maker → Type 0
  Fresh_ n u m = IsTrue (is_type_before t n u) → IsFresh t g type_of_root u m

  all_fresh : (ps : List Part) (f : Ty → Maker)
      → ((i : ℕ) (p : Part) → slice_get ps i ≡ Some p → IsFresh t g type_of_root p.ty (f p.ty))
      → AllFresh t g type_of_root (map (λ (p : Part). p.ty) ps) (map (λ (p : Part). f p.ty) ps)
  all_fresh [] f h = tt
  all_fresh (p ∷ ps) f h = (h 0 p refl, all_fresh ps f (λ i q at. h (suc i) q at))

  number_case : (n i : ℕ) → Fresh_ n (ty.Int i) (number_made (slice_get t.ints i))
  number_case n i is = let d = there t.ints i (sym (fold-int_type (ty_step t n) i) ∙ is) in
      subst (λ o. IsFresh t g type_of_root (ty.Int i) (number_made o)) (sym d.1)
      (fresh_number t g type_of_root i d.0 d.1)

  tag_case : (n e : ℕ) → Fresh_ n (ty.Enum e) (tag_made (slice_get t.enums e))
  tag_case n e is = let d = there t.enums e (sym (fold-enum (ty_step t n) e) ∙ is) in
      subst (λ o. IsFresh t g type_of_root (ty.Enum e) (tag_made o)) (sym d.1) (fresh_tag t g type_of_root e d.0 d.1)

  -- the term that is made for a type fits what the valuation gives it
  pub made_fresh : (u : Ty) → IsType t u → IsFresh t g type_of_root u (made_of t u)
  made_fresh = maker_ind t.ints t.enums t.records Fresh_
      (λ n s is. fresh_element t g type_of_root s (sym (fold-sort (ty_step t n) s) ∙ is))
      number_case
      tag_case
      (λ n u m h is. fresh_option t g type_of_root closed u m (h (sym (fold-option (ty_step t n) u) ∙ is)))
      (λ n r d lt at f h is. fresh_record t g type_of_root r d (map (λ (p : Part). f p.ty) d.fields) at
      (all_fresh d.fields f (λ i p field. h p.ty (field_before t typed r i d p at field))))
      (λ n r le is. absurd (let lt = ltb-true r n (sym (fold-record (ty_step t n) r) ∙ is) in omega (arith, lt, le)))
