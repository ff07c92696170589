-- The symbol of a variable names the variable's value.
use Rattle.std.proofs.Common.{◌≡◌, ◌+◌, ◌==◌, ◌+ℤ◌, ◌⊎◌, inl, inr, ℕ, ℤ, pos, Bool, true, false}
use Rattle.std.proofs.Common.{if◌then◌else◌, IfSome, List, [], ◌∷◌, ◌++◌, map, length, slice_get, Option, Some, None}
use Rattle.std.proofs.Common.{refl, sym, ap, subst, ◌∙◌, arith}
use Rattle.std.proofs.lemmas.Int.{ints}
use Rattle.std.proofs.lemmas.List.{append-nil, append_assoc, length-append}
use Rattle.cm_model.specs.Tables.{Tables}
use Rattle.cm_model.specs.declared.ty.Ty.{Ty}
use Rattle.cm_model.specs.declared.ty.Part.{Part}
use Rattle.cm_model.specs.declared.ty.IntDecl.{IntDecl}
use Rattle.cm_model.specs.declared.ty.EnumDecl.{EnumDecl}
use Rattle.cm_value.specs.declared.value.Value.{Value}
use Rattle.cm_value.specs.declared.value.Value.TheVariants as value
use Rattle.cm_term.specs.declared.symbol.Root.{Root}
use Rattle.cm_term.specs.declared.symbol.Step.{Step}
use Rattle.cm_term.specs.declared.symbol.Step.TheVariants as step
use Rattle.cm_term.specs.declared.symbol.Sym.{Sym}
use Rattle.cm_term.specs.Symbols.{part_in, field_in, payload_in, followed}
use Rattle.cm_term.specs.Terms.{value_of}
use Rattle.cm_term.specs.Valuation.{Valuation}
use Rattle.cm_term.proofs.Values.{value_elem, value_num, value_tag, value_rec, value_either, out_rec, out_none}
use Rattle.cm_term.proofs.Values.{out_some}
use Rattle.cm_ctx.specs.declared.piece.Counts.{Counts}
use Rattle.cm_ctx.specs.declared.piece.ElementPart.{ElementPart}
use Rattle.cm_ctx.specs.declared.piece.NumberPart.{NumberPart}
use Rattle.cm_ctx.specs.declared.piece.TagPart.{TagPart}
use Rattle.cm_ctx.specs.declared.piece.OptionPart.{OptionPart}
use Rattle.cm_ctx.specs.declared.piece.Variables.{Variables}
use Rattle.cm_ctx.specs.Belonging.{PayloadsHold, Leads, NamesPart, Names, option_value}
use Rattle.cm_ctx.specs.Giving.{EachFrom}
use Rattle.cm_ctx.specs.Making.{Place, place, into, behind, sym_of, counted, both, variables, Maker}
use Rattle.cm_ctx.specs.Making.{fields_made, element_made, number_made, tag_made, option_made, record_made, made_of}
use Rattle.cm_ctx.specs.Making.{piece_of}
use Rattle.cm_ctx.proofs.Each.{each_append, each_so}
use Rattle.cm_ctx.proofs.Indexing.{get_right}
use Rattle.cm_ctx.proofs.Makers.{maker_ind}

-- a symbol of this root, whose path goes on from here, names from the first value on the part with the second
record NamedAt (r : Root) (ss : List Step) (x : Value) (s : Sym) (y : Value) : Type 0 where
  root : s.root ≡ r
  rest : List Step
  path : s.path ≡ ss ++ rest
  part : Leads rest x y

-- each of these variables' symbols
record NamesFrom (r : Root) (ss : List Step) (c : Counts) (x : Value) (v : Valuation) (vs : Variables) : Type 0 where
  elements : EachFrom (λ n (d : ElementPart). NamedAt r ss x d.sym (value.Elem (v.element n))) c.elements vs.elements
  numbers : EachFrom (λ n (d : NumberPart). NamedAt r ss x d.sym (value.Int (v.number n))) c.numbers vs.numbers
  tags : EachFrom (λ n (d : TagPart). NamedAt r ss x d.sym (value.Tag (v.tag n))) c.tags vs.tags
  options : EachFrom (λ n (d : OptionPart). NamedAt r ss x d.sym (option_value v n)) c.options vs.options

abbrev HoldsFrom : Valuation → Counts → Variables → Type 0
HoldsFrom v c vs = EachFrom (λ o (d : OptionPart). v.payload o ≡ value_of v d.payload) c.options vs.options

-- the part that a step leads to, or none
abbrev Reaches : Step → Value → Value → Type 0
Reaches s x z = (part_in s x ≡ Some z) ⊎ (part_in s x ≡ None)

followed_none : (ss : List Step) → followed ss None ≡ None
followed_none [] = refl
followed_none (s ∷ ss) = refl

-- from a part's symbol to that of the whole
inward : (r : Root) (ss : List Step) (s : Step) (x z : Value) → Reaches s x z → (n : Sym) (y : Value)
    → NamedAt r (ss ++ s ∷ []) z n y → NamedAt r ss x n y
inward r ss s x z reach n y h = record {
  root = h.root;
  rest = s ∷ h.rest;
  path = h.path ∙ append_assoc ss (s ∷ []) h.rest;
  part = elim reach [
    | inl e ↦ subst (λ o. IfSome (followed h.rest o) (λ u. u ≡ y)) (sym e) h.part
    | inr e ↦ subst (λ o. IfSome (followed h.rest o) (λ u. u ≡ y)) (sym e)
        (subst (λ o. IfSome o (λ u. u ≡ y)) (sym (followed_none h.rest)) tt)
  ];
}

inward_all : (r : Root) (ss : List Step) (s : Step) (x z : Value) → Reaches s x z
    → (c : Counts) (v : Valuation) (vs : Variables) → NamesFrom r (ss ++ s ∷ []) c z v vs → NamesFrom r ss c x v vs
inward_all r ss s x z reach c v vs h = record {
  elements = each_so (λ n (d : ElementPart). NamedAt r (ss ++ s ∷ []) z d.sym (value.Elem (v.element n)))
      (λ n (d : ElementPart). NamedAt r ss x d.sym (value.Elem (v.element n))) c.elements vs.elements
      (λ n d low high. inward r ss s x z reach d.sym (value.Elem (v.element n))) h.elements;
  numbers = each_so (λ n (d : NumberPart). NamedAt r (ss ++ s ∷ []) z d.sym (value.Int (v.number n)))
      (λ n (d : NumberPart). NamedAt r ss x d.sym (value.Int (v.number n))) c.numbers vs.numbers
      (λ n d low high. inward r ss s x z reach d.sym (value.Int (v.number n))) h.numbers;
  tags = each_so (λ n (d : TagPart). NamedAt r (ss ++ s ∷ []) z d.sym (value.Tag (v.tag n)))
      (λ n (d : TagPart). NamedAt r ss x d.sym (value.Tag (v.tag n))) c.tags vs.tags
      (λ n d low high. inward r ss s x z reach d.sym (value.Tag (v.tag n))) h.tags;
  options = each_so (λ n (d : OptionPart). NamedAt r (ss ++ s ∷ []) z d.sym (option_value v n))
      (λ n (d : OptionPart). NamedAt r ss x d.sym (option_value v n)) c.options vs.options
      (λ n d low high. inward r ss s x z reach d.sym (option_value v n)) h.options;
}

names_both : (r : Root) (ss : List Step) (c : Counts) (x : Value) (v : Valuation) (u w : Variables)
    → NamesFrom r ss c x v u → NamesFrom r ss (counted c u) x v w → NamesFrom r ss c x v (both u w)
names_both r ss c x v u w h k = record {
  elements = (each_append (λ n (d : ElementPart). NamedAt r ss x d.sym (value.Elem (v.element n)))
      c.elements u.elements w.elements).1 (h.elements, k.elements);
  numbers = (each_append (λ n (d : NumberPart). NamedAt r ss x d.sym (value.Int (v.number n)))
      c.numbers u.numbers w.numbers).1 (h.numbers, k.numbers);
  tags = (each_append (λ n (d : TagPart). NamedAt r ss x d.sym (value.Tag (v.tag n)))
      c.tags u.tags w.tags).1 (h.tags, k.tags);
  options = (each_append (λ n (d : OptionPart). NamedAt r ss x d.sym (option_value v n))
      c.options u.options w.options).1 (h.options, k.options);
}

holds_both : (v : Valuation) (c : Counts) (u w : Variables) → HoldsFrom v c (both u w)
    → HoldsFrom v c u × HoldsFrom v (counted c u) w
holds_both v c u w h =
    (each_append (λ o (d : OptionPart). v.payload o ≡ value_of v d.payload) c.options u.options w.options).0 h

-- the symbol of the place itself
here : (p : Place) (x y : Value) → x ≡ y → NamedAt p.root p.path x (sym_of p) y
here p x y e = record { root = refl; rest = []; path = sym (append-nil p.path); part = e }

record Leading (m : Maker) : Type 0 where
  named : (p : Place) (v : Valuation) → HoldsFrom v p.from (m p).variables
      → NamesFrom p.root p.path p.from (value_of v (m p).term) v (m p).variables

zero_more : (n : ℤ) → (n +ℤ pos 0) ≡ n
zero_more n = omega (arith, ints)

leading_element : (s : ℕ) → Leading (element_made s)
leading_element s = record {
  named = λ p v h. record { elements = (here p _ _ (value_elem v _), tt); numbers = tt; tags = tt; options = tt };
}

leading_number : (d : Option IntDecl) → Leading (number_made d)
leading_number d = record {
  named = λ p v h. record {
    elements = tt;
    numbers = (here p _ _ (value_num v _ ∙ ap value.Int (zero_more (v.number p.from.numbers))), tt);
    tags = tt;
    options = tt;
  };
}

leading_tag : (d : Option EnumDecl) → Leading (tag_made d)
leading_tag d = record {
  named = λ p v h. record { elements = tt; numbers = tt; tags = (here p _ _ (value_tag v _), tt); options = tt };
}

abbrev chosen : Valuation → ℕ → Bool → Value
chosen v o b = if b then value.Some (v.payload o) else value.None

payload_reached : (v : Valuation) (o : ℕ) (x z : Value) → x ≡ option_value v o → v.payload o ≡ z
    → Reaches step.Payload x z
payload_reached v o x z e hold = first (v.present o == 1) refl
  where
    first : (b : Bool) → (v.present o == 1) ≡ b → Reaches step.Payload x z
    first true is = inl (ap (part_in step.Payload) (e ∙ ap (chosen v o) is) ∙ ap payload_in (out_some (v.payload o))
        ∙ ap Some hold)
    first false is = inr (ap (part_in step.Payload) (e ∙ ap (chosen v o) is) ∙ ap payload_in out_none)

leading_option : (m : Maker) → Leading m → Leading (option_made m)
leading_option m l = record {
  named = λ p v h.
      let q = into p step.Payload in
      let V = (m q).variables in
      let last = variables [] [] [] (record { payload = (m q).term; sym = sym_of p } ∷ []) in
      let o = p.from.options + length V.options in
      let x = value_of v (option_made m p).term in
      let parts = holds_both v p.from V last h in
      names_both p.root p.path p.from x v V last
      (inward_all p.root p.path step.Payload x (value_of v (m q).term)
      (payload_reached v o x (value_of v (m q).term) (value_either v _) parts.1.0) p.from v V (l.named q v parts.0))
      (record {
        elements = tt;
        numbers = tt;
        tags = tt;
        options = (here p x (option_value v o) (value_either v _), tt);
      });
}

abbrev AllLeading : List Maker → Type 0
AllLeading [] = Unit {0}
AllLeading (m ∷ ms) = Leading m × AllLeading ms

field_reached : (done : List Value) (a : Value) (more : List Value) (i : ℕ) → length done ≡ i
    → Reaches (step.Field i) (value.Rec (done ++ a ∷ more)) a
field_reached done a more i long =
    inl (ap (field_in i) (out_rec (done ++ a ∷ more)) ∙ get_right done (a ∷ more) i 0 (omega arith))

-- the fields from one on, behind the values of those before it
leading_fields : (i : ℕ) (ms : List Maker) → AllLeading ms → (p : Place) (v : Valuation) (done : List Value)
    → length done ≡ i → HoldsFrom v p.from (fields_made i ms p).variables
    → NamesFrom p.root p.path p.from (value.Rec (done ++ map (value_of v) (fields_made i ms p).terms)) v
    (fields_made i ms p).variables
leading_fields i [] l p v done long h = record { elements = tt; numbers = tt; tags = tt; options = tt }
leading_fields i (m ∷ ms) l p v done long h =
    let q = into p (step.Field i) in
    let V = (m q).variables in
    let a = value_of v (m q).term in
    let rest = fields_made (i + 1) ms (behind p V) in
    let more = map (value_of v) rest.terms in
    let parts = holds_both v p.from V rest.variables h in
    let later = leading_fields (i + 1) ms l.1 (behind p V) v (done ++ a ∷ [])
    (length-append done (a ∷ []) ∙ ap (λ n. n + 1) long) parts.1 in
    names_both p.root p.path p.from (value.Rec (done ++ a ∷ more)) v V rest.variables
    (inward_all p.root p.path (step.Field i) (value.Rec (done ++ a ∷ more)) a (field_reached done a more i long)
    p.from v V (l.0.named q v parts.0))
    (subst (λ xs. NamesFrom p.root p.path (counted p.from V) (value.Rec xs) v rest.variables)
    (append_assoc done (a ∷ []) more) later)

leading_record : (ms : List Maker) → AllLeading ms → Leading (record_made ms)
leading_record ms l = record {
  named = λ p v h. subst (λ x. NamesFrom p.root p.path p.from x v (fields_made 0 ms p).variables)
      (sym (value_rec v (fields_made 0 ms p).terms)) (leading_fields 0 ms l p v [] refl h);
}

module _ (t : Tables) where
  abbrev Made_leading : ℕ → Ty → Maker → Type 0
  Made_leading n u m = Leading m

  all_leading : (ps : List Part) (f : Ty → Maker) → ((u : Ty) → Leading (f u))
      → AllLeading (map (λ (p : Part). f p.ty) ps)
  all_leading [] f h = tt
  all_leading (p ∷ ps) f h = (h p.ty, all_leading ps f h)

  made_leading : (u : Ty) → Leading (made_of t u)
  made_leading = maker_ind t.ints t.enums t.records Made_leading
      (λ n s. leading_element s)
      (λ n i. leading_number (slice_get t.ints i))
      (λ n e. leading_tag (slice_get t.enums e))
      (λ n u m h. leading_option m h)
      (λ n r d lt at f h. leading_record (map (λ (p : Part). f p.ty) d.fields) (all_leading d.fields f h))
      (λ n r le. leading_record [] tt)

at_root : (r : Root) (x : Value) (s : Sym) (y : Value) → NamedAt r [] x s y → NamesPart r x s y
at_root r x s y h = record { root = h.root; part = subst (λ ss. Leads ss x y) (sym h.path) h.part }

-- the symbols of what is made for a symbol name their variables' values
pub piece_names : (t : Tables) (u : Ty) (root : Root) (from : Counts) (v : Valuation)
    → PayloadsHold v (piece_of t u root from) → Names v (piece_of t u root from)
piece_names t u root from v h =
    let p = piece_of t u root from in
    let x = value_of v p.term in
    let n = (made_leading t u).named (place root [] from) v h in
    record {
      elements = each_so (λ k (d : ElementPart). NamedAt root [] x d.sym (value.Elem (v.element k)))
          (λ k (d : ElementPart). NamesPart root x d.sym (value.Elem (v.element k))) from.elements p.variables.elements
          (λ k d low high. at_root root x d.sym (value.Elem (v.element k))) n.elements;
      numbers = each_so (λ k (d : NumberPart). NamedAt root [] x d.sym (value.Int (v.number k)))
          (λ k (d : NumberPart). NamesPart root x d.sym (value.Int (v.number k))) from.numbers p.variables.numbers
          (λ k d low high. at_root root x d.sym (value.Int (v.number k))) n.numbers;
      tags = each_so (λ k (d : TagPart). NamedAt root [] x d.sym (value.Tag (v.tag k)))
          (λ k (d : TagPart). NamesPart root x d.sym (value.Tag (v.tag k))) from.tags p.variables.tags
          (λ k d low high. at_root root x d.sym (value.Tag (v.tag k))) n.tags;
      options = each_so (λ k (d : OptionPart). NamedAt root [] x d.sym (option_value v k))
          (λ k (d : OptionPart). NamesPart root x d.sym (option_value v k)) from.options p.variables.options
          (λ k d low high. at_root root x d.sym (option_value v k)) n.options;
    }
