-- The variables of a term are those that were made with it.
use Rattle.std.proofs.Common.{◌<◌, ◌≤◌, ◌+◌, ℕ, List, [], ◌∷◌, ◌++◌, map, length, slice_get, sym, subst}
use Rattle.std.proofs.Common.{arith}
use Rattle.std.specs.List.{AllByRecursion, flat_map}
use Rattle.std.proofs.lemmas.List.{length-append}
use Rattle.cm_model.specs.Tables.{Tables}
use Rattle.cm_model.specs.declared.ty.Ty.{Ty}
use Rattle.cm_model.specs.declared.ty.Part.{Part}
use Rattle.cm_term.specs.declared.symbol.Root.{Root}
use Rattle.cm_term.specs.declared.symbol.Step.TheVariants as step
use Rattle.cm_term.specs.declared.term.Term.{Term}
use Rattle.cm_term.specs.Terms.{vars_of, vars_step}
use Rattle.cm_term.specs.Valuation.{Var, OfElement, OfNumber, OfTag, OfOption}
use Rattle.cm_term.proofs.Folds.{fold-elem, fold-num, fold-tag, fold-rec, fold-either}
use Rattle.cm_ctx.specs.declared.piece.Counts.{Counts}
use Rattle.cm_ctx.specs.declared.piece.OptionPart.{OptionPart}
use Rattle.cm_ctx.specs.declared.piece.Piece.{Piece}
use Rattle.cm_ctx.specs.declared.piece.Variables.{Variables}
use Rattle.cm_ctx.specs.Asking.{Owns}
use Rattle.cm_ctx.specs.Belonging.{OwnsTerm, OwnsAll}
use Rattle.cm_ctx.specs.Making.{Place, place, into, behind, sym_of, counted, both, variables, Maker, Fields}
use Rattle.cm_ctx.specs.Making.{fields_made, element_made, number_made, tag_made, option_made, record_made, made_of}
use Rattle.cm_ctx.specs.Making.{piece_of}
use Rattle.cm_ctx.proofs.Makers.{maker_ind}

-- a variable is one of these
abbrev pub Within : Counts → Variables → Var → Type 0
Within c vs (OfElement x) = (c.elements ≤ x) × (x < c.elements + length vs.elements)
Within c vs (OfNumber x) = (c.numbers ≤ x) × (x < c.numbers + length vs.numbers)
Within c vs (OfTag x) = (c.tags ≤ x) × (x < c.tags + length vs.tags)
Within c vs (OfOption x) = (c.options ≤ x) × (x < c.options + length vs.options)

abbrev pub TermWithin : Counts → Variables → Term → Type 0
TermWithin c vs t = AllByRecursion (Within c vs) (vars_of t)

abbrev pub PayloadsWithin : Counts → Variables → List OptionPart → Type 0
PayloadsWithin c vs os = AllByRecursion (λ (d : OptionPart). TermWithin c vs d.payload) os

all_so : {A : Type 0} (P Q : A → Type 0) (xs : List A) → ((x : A) → P x → Q x) → AllByRecursion P xs
    → AllByRecursion Q xs
all_so P Q [] f h = tt
all_so P Q (x ∷ xs) f h = (f x h.0, all_so P Q xs f h.1)

all_both : {A : Type 0} (P : A → Type 0) (xs ys : List A) → AllByRecursion P xs → AllByRecursion P ys
    → AllByRecursion P (xs ++ ys)
all_both P [] ys h k = k
all_both P (x ∷ xs) ys h k = (h.0, all_both P xs ys h.1 k)

first_within : (c : Counts) (u w : Variables) (x : Var) → Within c u x → Within c (both u w) x
first_within c u w (OfElement x) h = let n = length-append u.elements w.elements in let low = h.0 in let high = h.1 in
    (low, omega arith)
first_within c u w (OfNumber x) h = let n = length-append u.numbers w.numbers in let low = h.0 in let high = h.1 in
    (low, omega arith)
first_within c u w (OfTag x) h = let n = length-append u.tags w.tags in let low = h.0 in let high = h.1 in
    (low, omega arith)
first_within c u w (OfOption x) h = let n = length-append u.options w.options in let low = h.0 in let high = h.1 in
    (low, omega arith)

later_within : (c : Counts) (u w : Variables) (x : Var) → Within (counted c u) w x → Within c (both u w) x
later_within c u w (OfElement x) h = let n = length-append u.elements w.elements in let low = h.0 in let high = h.1 in
    (omega arith, omega arith)
later_within c u w (OfNumber x) h = let n = length-append u.numbers w.numbers in let low = h.0 in let high = h.1 in
    (omega arith, omega arith)
later_within c u w (OfTag x) h = let n = length-append u.tags w.tags in let low = h.0 in let high = h.1 in
    (omega arith, omega arith)
later_within c u w (OfOption x) h = let n = length-append u.options w.options in let low = h.0 in let high = h.1 in
    (omega arith, omega arith)

first_term : (c : Counts) (u w : Variables) (t : Term) → TermWithin c u t → TermWithin c (both u w) t
first_term c u w t = all_so (Within c u) (Within c (both u w)) (vars_of t) (first_within c u w)

later_term : (c : Counts) (u w : Variables) (t : Term) → TermWithin (counted c u) w t → TermWithin c (both u w) t
later_term c u w t = all_so (Within (counted c u) w) (Within c (both u w)) (vars_of t) (later_within c u w)

-- these options, then those
payloads_both : (c : Counts) (u w : Variables) → PayloadsWithin c u u.options → PayloadsWithin (counted c u) w w.options
    → PayloadsWithin c (both u w) (both u w).options
payloads_both c u w h k = all_both (λ (d : OptionPart). TermWithin c (both u w) d.payload) u.options w.options
    (all_so (λ (d : OptionPart). TermWithin c u d.payload) (λ (d : OptionPart). TermWithin c (both u w) d.payload)
    u.options (λ d. first_term c u w d.payload) h)
    (all_so (λ (d : OptionPart). TermWithin (counted c u) w d.payload)
    (λ (d : OptionPart). TermWithin c (both u w) d.payload)
    w.options (λ d. later_term c u w d.payload) k)

pub record Owned (m : Maker) : Type 0 where
  pub term : (p : Place) → TermWithin p.from (m p).variables (m p).term
  pub payloads : (p : Place) → PayloadsWithin p.from (m p).variables (m p).variables.options

-- the variables of several terms
abbrev all_vars : List Term → List Var
all_vars ts = flat_map (λ vars. vars) (map vars_of ts)

pub record OwnedFields (f : Place → Fields) : Type 0 where
  pub terms : (p : Place) → AllByRecursion (Within p.from (f p).variables) (all_vars (f p).terms)
  pub payloads : (p : Place) → PayloadsWithin p.from (f p).variables (f p).variables.options

abbrev AllOwned : List Maker → Type 0
AllOwned [] = Unit {0}
AllOwned (m ∷ ms) = Owned m × AllOwned ms

owned_fields : (i : ℕ) (ms : List Maker) → AllOwned ms → OwnedFields (fields_made i ms)
owned_fields i [] o = record { terms = λ p. tt; payloads = λ p. tt }
owned_fields i (m ∷ ms) o = record {
  terms = λ p.
      let made = m (into p (step.Field i)) in
      let c = behind p made.variables in
      let rest = fields_made (i + 1) ms c in
      all_both (Within p.from (both made.variables rest.variables)) (vars_of made.term) (all_vars rest.terms)
      (first_term p.from made.variables rest.variables made.term (o.0.term (into p (step.Field i))))
      (all_so (Within c.from rest.variables) (Within p.from (both made.variables rest.variables)) (all_vars rest.terms)
      (later_within p.from made.variables rest.variables) ((owned_fields (i + 1) ms o.1).terms c));
  payloads = λ p.
      let made = m (into p (step.Field i)) in
      let c = behind p made.variables in
      payloads_both p.from made.variables (fields_made (i + 1) ms c).variables (o.0.payloads (into p (step.Field i)))
      ((owned_fields (i + 1) ms o.1).payloads c);
}

owned_record : (ms : List Maker) → AllOwned ms → Owned (record_made ms)
owned_record ms o =
    let f = owned_fields 0 ms o in
    record {
      term = λ p. subst (AllByRecursion (Within p.from (fields_made 0 ms p).variables))
          (sym (fold-rec vars_step (fields_made 0 ms p).terms)) (f.terms p);
      payloads = f.payloads;
    }

owned_option : (m : Maker) → Owned m → Owned (option_made m)
owned_option m o = record {
  term = λ p.
      let V = (m (into p step.Payload)).variables in
      let last = variables [] [] [] (record { payload = (m (into p step.Payload)).term; sym = sym_of p } ∷ []) in
      let n = length-append V.options last.options in
      subst (AllByRecursion (Within p.from (both V last))) (sym (fold-either vars_step _))
      ((omega arith, omega arith), tt);
  payloads = λ p.
      let q = into p step.Payload in
      let V = (m q).variables in
      let last = variables [] [] [] (record { payload = (m q).term; sym = sym_of p } ∷ []) in
      all_both (λ (d : OptionPart). TermWithin p.from (both V last) d.payload) V.options last.options
      (all_so (λ (d : OptionPart). TermWithin p.from V d.payload)
      (λ (d : OptionPart). TermWithin p.from (both V last) d.payload)
      V.options (λ d. first_term p.from V last d.payload) (o.payloads q))
      (first_term p.from V last (m q).term (o.term q), tt);
}

module _ (t : Tables) where
  abbrev Made_owned : ℕ → Ty → Maker → Type 0
  Made_owned n u m = Owned m

  all_owned : (ps : List Part) (f : Ty → Maker) → ((u : Ty) → Owned (f u)) → AllOwned (map (λ (p : Part). f p.ty) ps)
  all_owned [] f h = tt
  all_owned (p ∷ ps) f h = (h p.ty, all_owned ps f h)

  made_owned : (u : Ty) → Owned (made_of t u)
  made_owned = maker_ind t.ints t.enums t.records Made_owned
      (λ n s. record {
        term = λ p. subst (AllByRecursion (Within p.from (element_made s p).variables)) (sym (fold-elem vars_step _))
            ((omega arith, omega arith), tt);
        payloads = λ p. tt;
      })
      (λ n i. record {
        term = λ p. subst (AllByRecursion (Within p.from (number_made (slice_get t.ints i) p).variables))
            (sym (fold-num vars_step _)) ((omega arith, omega arith), tt);
        payloads = λ p. tt;
      })
      (λ n e. record {
        term = λ p. subst (AllByRecursion (Within p.from (tag_made (slice_get t.enums e) p).variables))
            (sym (fold-tag vars_step _)) ((omega arith, omega arith), tt);
        payloads = λ p. tt;
      })
      (λ n u m h. owned_option m h)
      (λ n r d lt at f h. owned_record (map (λ (p : Part). f p.ty) d.fields) (all_owned d.fields f h))
      (λ n r le. owned_record [] tt)

owns_within : (p : Piece) (x : Var) → Within p.from p.variables x → Owns p x
owns_within p (OfElement x) h = h
owns_within p (OfNumber x) h = h
owns_within p (OfTag x) h = h
owns_within p (OfOption x) h = h

owns_term : (p : Piece) (t : Term) → TermWithin p.from p.variables t → OwnsTerm p t
owns_term p t = all_so (Within p.from p.variables) (Owns p) (vars_of t) (owns_within p)

-- what is made for a symbol has no variables but those made for it
pub piece_owns : (t : Tables) (u : Ty) (root : Root) (from : Counts) → OwnsAll (piece_of t u root from)
piece_owns t u root from =
    let p = piece_of t u root from in
    let o = made_owned t u in
    record {
      term = owns_term p p.term (o.term (place root [] from));
      payloads = all_so (λ (d : OptionPart). TermWithin from p.variables d.payload)
          (λ (d : OptionPart). OwnsTerm p d.payload)
          p.variables.options (λ d. owns_term p d.payload) (o.payloads (place root [] from));
    }
