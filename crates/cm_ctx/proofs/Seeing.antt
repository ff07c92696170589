-- On which variables the value of a term rests, and what is so of all that is made.
use Rattle.std.proofs.Common.{◌≡◌, ◌+◌, ◌==◌, if◌then◌else◌, ℕ}
use Rattle.std.proofs.Common.{pos, ◌+ℤ◌, List, [], ◌∷◌, map, length}
use Rattle.std.proofs.Common.{Option, refl, sym, ap, subst, ◌∙◌, arith}
use Rattle.cm_model.specs.declared.ty.IntDecl.{IntDecl}
use Rattle.cm_model.specs.declared.ty.EnumDecl.{EnumDecl}
use Rattle.cm_value.specs.declared.value.Value.TheVariants as value
use Rattle.cm_term.specs.declared.symbol.Step.TheVariants as step
use Rattle.cm_term.specs.declared.term.Term.{Term}
use Rattle.cm_term.specs.Valuation.{Valuation}
use Rattle.cm_term.specs.Terms.{value_of}
use Rattle.cm_term.proofs.Values.{value_elem, value_num, value_tag, value_rec, value_either}
use Rattle.cm_ctx.specs.declared.piece.Counts.{Counts}
use Rattle.cm_ctx.specs.declared.piece.OptionPart.{OptionPart}
use Rattle.cm_ctx.specs.declared.piece.Variables.{Variables}
use Rattle.cm_ctx.specs.Making.{Place, into, behind, sym_of, counts, counted, both, variables, Made, Maker}
use Rattle.cm_ctx.specs.Making.{Fields, fields_made, element_made, number_made}
use Rattle.cm_ctx.specs.Making.{tag_made, option_made, record_made}
use Rattle.cm_ctx.specs.Giving.{EachFrom, Agree}
use Rattle.cm_ctx.proofs.Each.{each_append, each_so}
use Rattle.cm_ctx.proofs.Growing.{counted_both}
use Rattle.cm_ctx.proofs.Counting.{AtMost, at_most, agree_less}

-- the value of a term rests on the first variables alone
abbrev pub Sees : Counts → Term → Type 0
Sees c t = (v w : Valuation) → Agree c v w → value_of v t ≡ value_of w t

abbrev pub AllSee : Counts → List Term → Type 0
AllSee c [] = Unit {0}
AllSee c (t ∷ ts) = Sees c t × AllSee c ts

-- the same variables, but of options only those below o
abbrev pub below : ℕ → Counts → Counts
below o c = counts c.elements c.numbers c.tags o

-- a payload rests on earlier options
abbrev pub SeesBelow : Counts → ℕ → OptionPart → Type 0
SeesBelow c o d = Sees (below o c) d.payload

pub record Grounded (from : Counts) (vs : Variables) : Type 0 where
  pub payloads : EachFrom (SeesBelow (counted from vs)) from.options vs.options

pub sees_more : (c d : Counts) (t : Term) → AtMost c d → Sees c t → Sees d t
sees_more c d t m s v w a = s v w (agree_less c d v w m a)

all_see_more : (c d : Counts) (ts : List Term) → AtMost c d → AllSee c ts → AllSee d ts
all_see_more c d [] m s = tt
all_see_more c d (t ∷ ts) m s = (sees_more c d t m s.0, all_see_more c d ts m s.1)

-- what is so of everything that is made somewhere
pub record Sound (m : Maker) : Type 0 where
  pub sees : (p : Place) → Sees (counted p.from (m p).variables) (m p).term
  pub grounded : (p : Place) → Grounded p.from (m p).variables

pub record SoundFields (f : Place → Fields) : Type 0 where
  pub see : (p : Place) → AllSee (counted p.from (f p).variables) (f p).terms
  pub grounded : (p : Place) → Grounded p.from (f p).variables

pub sound_element : (s : ℕ) → Sound (element_made s)
sound_element s = record {
  sees = λ p v w a. value_elem v _ ∙ ap value.Elem (a.elements p.from.elements (omega arith)) ∙ sym (value_elem w _);
  grounded = λ p. record { payloads = tt };
}

pub sound_number : (d : Option IntDecl) → Sound (number_made d)
sound_number d = record {
  sees = λ p v w a. value_num v _ ∙ ap (λ n. value.Int (n +ℤ pos 0)) (a.numbers p.from.numbers (omega arith))
      ∙ sym (value_num w _);
  grounded = λ p. record { payloads = tt };
}

pub sound_tag : (d : Option EnumDecl) → Sound (tag_made d)
sound_tag d = record {
  sees = λ p v w a. value_tag v _ ∙ ap value.Tag (a.tags p.from.tags (omega arith)) ∙ sym (value_tag w _);
  grounded = λ p. record { payloads = tt };
}

-- these variables behind those
grounded_both : (from : Counts) (u w : Variables) → Grounded from u → Grounded (counted from u) w
    → Grounded from (both u w)
grounded_both from u w g h = record {
  payloads = (each_append (SeesBelow (counted from (both u w))) from.options u.options w.options).1 (
    each_so (SeesBelow (counted from u)) (SeesBelow (counted from (both u w))) from.options u.options
        (λ o d low high s. subst (λ c. SeesBelow c o d) (sym (counted_both from u w))
        (sees_more (below o (counted from u)) (below o (counted (counted from u) w)) d.payload (wider o) s)) g.payloads,
    subst (λ c. EachFrom (SeesBelow c) (from.options + length u.options) w.options)
        (sym (counted_both from u w)) h.payloads,
  );
}
  where
    wider : (o : ℕ) → AtMost (below o (counted from u)) (below o (counted (counted from u) w))
    wider o = record { elements = omega arith; numbers = omega arith; tags = omega arith; options = omega arith }

pub sound_option : (m : Maker) → Sound m → Sound (option_made m)
sound_option m s = record { sees = sees; grounded = grounded }
  where
    inner : Place → Made
    inner p = m (into p step.Payload)

    last : (p : Place) → Variables
    last p = variables [] [] [] (record { payload = (m (into p step.Payload)).term; sym = sym_of p } ∷ [])

    sees : (p : Place) → Sees (counted p.from (option_made m p).variables) (option_made m p).term
    sees p v w a =
        let V = (m (into p step.Payload)).variables in
        let o = p.from.options + length V.options in
        let b : Agree (counted (counted p.from V) (last p)) v w =
        subst (λ c. Agree c v w) (counted_both p.from V (last p)) a in
        value_either v _
        ∙ ap (λ n. if n == 1 then value.Some (v.payload o) else value.None) (b.present o (omega arith))
        ∙ ap (λ y. if w.present o == 1 then value.Some y else value.None) (b.payloads o (omega arith))
        ∙ sym (value_either w _)

    grounded : (p : Place) → Grounded p.from (option_made m p).variables
    grounded p =
        let V = (m (into p step.Payload)).variables in
        let t = (m (into p step.Payload)).term in
        grounded_both p.from V (last p) (s.grounded (into p step.Payload)) (record {
          payloads = (
            sees_more (counted p.from V) (below (p.from.options + length V.options)
                (counted (counted p.from V) (last p))) t
                (record { elements = omega arith; numbers = omega arith; tags = omega arith; options = omega arith })
                (s.sees (into p step.Payload)),
            tt,
          );
        })

-- makers of fields
abbrev pub AllSound : List Maker → Type 0
AllSound [] = Unit {0}
AllSound (m ∷ ms) = Sound m × AllSound ms

pub sound_fields : (i : ℕ) (ms : List Maker) → AllSound ms → SoundFields (fields_made i ms)
sound_fields i [] s = record { see = λ p. tt; grounded = λ p. record { payloads = tt } }
sound_fields i (m ∷ ms) s = record {
  see = λ p.
      let V = (m (into p (step.Field i))).variables in
      let R = fields_made (i + 1) ms (behind p V) in
      let rest = (sound_fields (i + 1) ms s.1).see (behind p V) in
      subst (λ c. AllSee c ((m (into p (step.Field i))).term ∷ R.terms)) (sym (counted_both p.from V R.variables)) (
        sees_more (counted p.from V) (counted (counted p.from V) R.variables) (m (into p (step.Field i))).term
            (at_most (counted p.from V) R.variables) (s.0.sees (into p (step.Field i))),
        rest,
      );
  grounded = λ p.
      let V = (m (into p (step.Field i))).variables in
      grounded_both p.from V (fields_made (i + 1) ms (behind p V)).variables (s.0.grounded (into p (step.Field i)))
      ((sound_fields (i + 1) ms s.1).grounded (behind p V));
}

pub values_seen : (c : Counts) (ts : List Term) → AllSee c ts → (v w : Valuation) → Agree c v w
    → map (value_of v) ts ≡ map (value_of w) ts
values_seen c [] s v w a = refl
values_seen c (t ∷ ts) s v w a = ap (λ x. x ∷ map (value_of v) ts) (s.0 v w a)
    ∙ ap (λ xs. value_of w t ∷ xs) (values_seen c ts s.1 v w a)

pub sound_record : (ms : List Maker) → AllSound ms → Sound (record_made ms)
sound_record ms s =
    let f = sound_fields 0 ms s in
    record {
      sees = λ p v w a. value_rec v _ ∙ ap value.Rec (values_seen _ _ (f.see p) v w a) ∙ sym (value_rec w _);
      grounded = f.grounded;
    }
