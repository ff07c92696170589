-- The symbols of what is made for a type: where they stand, and the type of the part that each of them is.
use Rattle.std.proofs.Common.{◌≡◌, ◌+◌, ℕ, suc, List, [], ◌∷◌, ◌++◌, map, slice_get, Some, refl, sym, ap}
use Rattle.std.proofs.Common.{◌∙◌, append_assoc, arith}
use Rattle.std.proofs.lemmas.List.{append-nil}
use Rattle.std.specs.List.{AllByRecursion}
use Rattle.cm_model.specs.Tables.{Tables}
use Rattle.cm_model.specs.declared.ty.Ty.{Ty, out-Ty}
use Rattle.cm_model.specs.declared.ty.Ty.TheVariants as ty
use Rattle.cm_model.specs.declared.ty.Ty.TheOpen.{Ty-F}
use Rattle.cm_model.specs.declared.ty.Part.{Part}
use Rattle.cm_model.specs.declared.ty.RecDecl.{RecDecl}
use Rattle.cm_value.proofs.Types.{out_sort, out_int, out_enum, out_rec, out_option}
use Rattle.cm_term.specs.declared.symbol.Step.{Step}
use Rattle.cm_term.specs.declared.symbol.Step.TheVariants as step
use Rattle.cm_term.specs.declared.symbol.Root.{Root}
use Rattle.cm_term.specs.declared.symbol.Sym.{Sym}
use Rattle.cm_ctx.specs.declared.piece.Counts.{Counts}
use Rattle.cm_ctx.specs.declared.piece.ElementPart.{ElementPart}
use Rattle.cm_ctx.specs.declared.piece.NumberPart.{NumberPart}
use Rattle.cm_ctx.specs.declared.piece.TagPart.{TagPart}
use Rattle.cm_ctx.specs.declared.piece.OptionPart.{OptionPart}
use Rattle.cm_ctx.specs.declared.piece.Variables.{Variables}
use Rattle.cm_ctx.specs.Making.{Place, place, into, behind, both, variables, Maker, fields_made, option_made}
use Rattle.cm_ctx.specs.Making.{record_made, variants_of, made_of, piece_of}
use Rattle.cm_ctx.proofs.Makers.{maker_ind}
use Rattle.cm_cond.specs.Typing.{type_in, type_along, payload_type, field, declared_field, type_of_part}

pub all_so : {A : Type 0} (P Q : A → Type 0) (xs : List A) → ((x : A) → P x → Q x) → AllByRecursion P xs
    → AllByRecursion Q xs
all_so P Q [] f h = tt
all_so P Q (x ∷ xs) f h = (f x h.0, all_so P Q xs f h.1)

pub all_both : {A : Type 0} (P : A → Type 0) (xs ys : List A) → AllByRecursion P xs → AllByRecursion P ys
    → AllByRecursion P (xs ++ ys)
all_both P [] ys h k = k
all_both P (x ∷ xs) ys h k = (h.0, all_both P xs ys h.1 k)

-- a part of an integer type, and one that is an option
abbrev pub IsInteger : Ty → Type 0
IsInteger u = (i : ℕ) × (out-Ty u ≡ Ty-F.Int i)

abbrev pub IsOptional : Ty → Type 0
IsOptional u = (w : Ty) × (out-Ty u ≡ Ty-F.Option w)

-- a part of the sort that the variable has
abbrev pub IsOfSort : ElementPart → Ty → Type 0
IsOfSort d u = out-Ty u ≡ Ty-F.Sort d.sort

module _ (t : Tables) where
  -- a part of an enum that has as many variants
  abbrev pub IsOfEnum : TagPart → Ty → Type 0
  IsOfEnum d u = (e : ℕ) × (out-Ty u ≡ Ty-F.Enum e) × (d.variants ≡ variants_of (slice_get t.enums e))

  -- a symbol of this root, whose path goes on from here, through a value of this type, to a part of which this is so
  pub record LeadsTo (r : Root) (ss : List Step) (u : Ty) (s : Sym) (P : Ty → Type 0) : Type 0 where
    pub root : s.root ≡ r
    pub rest : List Step
    pub path : s.path ≡ ss ++ rest
    pub end : Ty
    pub typed : type_along t rest (Some u) ≡ Some end
    pub form : P end

  -- each of these variables' symbols
  pub record AllLead (r : Root) (ss : List Step) (u : Ty) (vs : Variables) : Type 0 where
    pub elements : AllByRecursion (λ (d : ElementPart). LeadsTo r ss u d.sym (IsOfSort d)) vs.elements
    pub numbers : AllByRecursion (λ (d : NumberPart). LeadsTo r ss u d.sym IsInteger) vs.numbers
    pub tags : AllByRecursion (λ (d : TagPart). LeadsTo r ss u d.sym (IsOfEnum d)) vs.tags
    pub options : AllByRecursion (λ (d : OptionPart). LeadsTo r ss u d.sym IsOptional) vs.options

  none_lead : (r : Root) (ss : List Step) (u : Ty) → AllLead r ss u (variables [] [] [] [])
  none_lead r ss u = record { elements = tt; numbers = tt; tags = tt; options = tt }

  both_lead : (r : Root) (ss : List Step) (u : Ty) (vs ws : Variables) → AllLead r ss u vs → AllLead r ss u ws
      → AllLead r ss u (both vs ws)
  both_lead r ss u vs ws h k = record {
    elements = all_both (λ (d : ElementPart). LeadsTo r ss u d.sym (IsOfSort d)) vs.elements ws.elements h.elements
        k.elements;
    numbers = all_both (λ (d : NumberPart). LeadsTo r ss u d.sym IsInteger) vs.numbers ws.numbers h.numbers k.numbers;
    tags = all_both (λ (d : TagPart). LeadsTo r ss u d.sym (IsOfEnum d)) vs.tags ws.tags h.tags k.tags;
    options = all_both (λ (d : OptionPart). LeadsTo r ss u d.sym IsOptional) vs.options ws.options h.options k.options;
  }

  -- from a part to the whole
  outward : (r : Root) (ss : List Step) (u : Ty) (s : Step) (w : Ty) → type_in t s u ≡ Some w → (n : Sym)
      (P : Ty → Type 0) → LeadsTo r (ss ++ s ∷ []) w n P → LeadsTo r ss u n P
  outward r ss u s w e n P h = record {
    root = h.root;
    rest = s ∷ h.rest;
    path = h.path ∙ append_assoc ss (s ∷ []) h.rest;
    end = h.end;
    typed = ap (type_along t h.rest) e ∙ h.typed;
    form = h.form;
  }

  all_outward : (r : Root) (ss : List Step) (u : Ty) (s : Step) (w : Ty) → type_in t s u ≡ Some w → (vs : Variables)
      → AllLead r (ss ++ s ∷ []) w vs → AllLead r ss u vs
  all_outward r ss u s w e vs h = record {
    elements = all_so (λ (d : ElementPart). LeadsTo r (ss ++ s ∷ []) w d.sym (IsOfSort d))
        (λ (d : ElementPart). LeadsTo r ss u d.sym (IsOfSort d)) vs.elements
        (λ d. outward r ss u s w e d.sym (IsOfSort d)) h.elements;
    numbers = all_so (λ (d : NumberPart). LeadsTo r (ss ++ s ∷ []) w d.sym IsInteger)
        (λ (d : NumberPart). LeadsTo r ss u d.sym IsInteger) vs.numbers
        (λ d. outward r ss u s w e d.sym IsInteger) h.numbers;
    tags = all_so (λ (d : TagPart). LeadsTo r (ss ++ s ∷ []) w d.sym (IsOfEnum d))
        (λ (d : TagPart). LeadsTo r ss u d.sym (IsOfEnum d)) vs.tags
        (λ d. outward r ss u s w e d.sym (IsOfEnum d)) h.tags;
    options = all_so (λ (d : OptionPart). LeadsTo r (ss ++ s ∷ []) w d.sym IsOptional)
        (λ (d : OptionPart). LeadsTo r ss u d.sym IsOptional) vs.options
        (λ d. outward r ss u s w e d.sym IsOptional) h.options;
  }

  -- the symbol of the place itself
  itself : (r : Root) (ss : List Step) (u : Ty) (P : Ty → Type 0) → P u
      → LeadsTo r ss u (record { root = r; path = ss }) P
  itself r ss u P h = record {
    root = refl;
    rest = [];
    path = sym (append-nil ss);
    end = u;
    typed = refl;
    form = h;
  }

  abbrev Leading : Ty → Maker → Type 0
  Leading u m = (p : Place) → AllLead p.root p.path u (m p).variables

  leading_option : (u : Ty) (m : Maker) → Leading u m → Leading (ty.Option u) (option_made m)
  leading_option u m h p =
      both_lead p.root p.path (ty.Option u) (m (into p step.Payload)).variables _
      (all_outward p.root p.path (ty.Option u) step.Payload u (ap payload_type (out_option u))
      (m (into p step.Payload)).variables (h (into p step.Payload)))
      (record {
        elements = tt;
        numbers = tt;
        tags = tt;
        options = (itself p.root p.path (ty.Option u) IsOptional (u, out_option u), tt);
      })

  -- the fields of a record from one on
  leading_fields : (f : Ty → Maker) → ((u : Ty) → Leading u (f u)) → (u : Ty) (i : ℕ) (fs : List Part)
      → ((j : ℕ) (q : Part) → slice_get fs j ≡ Some q → type_in t (step.Field (i + j)) u ≡ Some q.ty) → (p : Place)
      → AllLead p.root p.path u (fields_made i (map (λ (q : Part). f q.ty) fs) p).variables
  leading_fields f h u i [] at p = none_lead p.root p.path u
  leading_fields f h u i (q ∷ fs) at p =
      let into_ = into p (step.Field i) in
      let here : type_in t (step.Field i) u ≡ Some q.ty =
      (let e : i + 0 ≡ i = omega arith in ap (λ k. type_in t (step.Field k) u) (sym e) ∙ at 0 q refl) in
      both_lead p.root p.path u (f q.ty into_).variables _
      (all_outward p.root p.path u (step.Field i) q.ty here (f q.ty into_).variables (h q.ty into_))
      (leading_fields f h u (i + 1) fs
      (λ j r e. (let m : i + 1 + j ≡ i + suc j = omega arith in
      ap (λ k. type_in t (step.Field k) u) m ∙ at (suc j) r e))
      (behind p (f q.ty into_).variables))

  leading_record : (r : ℕ) (d : RecDecl) → slice_get t.records r ≡ Some d → (f : Ty → Maker)
      → ((u : Ty) → Leading u (f u)) → Leading (ty.Rec r) (record_made (map (λ (q : Part). f q.ty) d.fields))
  leading_record r d at f h p = leading_fields f h (ty.Rec r) 0 d.fields
      (λ j q e. (let n : 0 + j ≡ j = omega arith in
      ap (λ y. type_of_part (field t y (0 + j))) (out_rec r)
      ∙ ap (λ o. type_of_part (declared_field o (0 + j))) at
      ∙ ap (λ k. type_of_part (slice_get d.fields k)) n ∙ ap type_of_part e)) p

  abbrev Made_leading : ℕ → Ty → Maker → Type 0
  Made_leading n u m = Leading u m

  -- the symbols of what is made for a type
  pub made_leading : (u : Ty) → (p : Place) → AllLead p.root p.path u (made_of t u p).variables
  made_leading = maker_ind t.ints t.enums t.records Made_leading
      (λ n s p. record {
        elements = (itself p.root p.path (ty.Sort s) (λ u. out-Ty u ≡ Ty-F.Sort s) (out_sort s), tt);
        numbers = tt;
        tags = tt;
        options = tt;
      })
      (λ n i p. record {
        elements = tt;
        numbers = (itself p.root p.path (ty.Int i) IsInteger (i, out_int i), tt);
        tags = tt;
        options = tt;
      })
      (λ n e p. record {
        elements = tt;
        numbers = tt;
        tags = (itself p.root p.path (ty.Enum e) _ (e, out_enum e, refl), tt);
        options = tt;
      })
      (λ n u m h. leading_option u m h)
      (λ n r d lt at f h. leading_record r d at f h)
      (λ n r le p. none_lead p.root p.path (ty.Rec r))

  -- and of a piece
  pub piece_leads : (u : Ty) (r : Root) (c : Counts) → AllLead r [] u (piece_of t u r c).variables
  piece_leads u r c = made_leading u (place r [] c)
