-- The value of each kind of term, and how the parts of a term have the parts of its value.
use Rattle.std.proofs.Common.{◌≡◌, refl, ap, sym, subst, ◌∙◌, ℕ, List, map, slice_get, slice_set, Option, Some}
use Rattle.std.specs.Option.{option_map}
use Rattle.std.proofs.lemmas.List.{map-set}
use Rattle.std.proofs.lemmas.Option.{slice_get-map}
use Rattle.cm_value.specs.declared.value.Value.{Value, out-Value}
use Rattle.cm_value.specs.declared.value.Value.TheVariants as value
use Rattle.cm_value.specs.declared.value.Value.TheOpen.{Value-F}
use Rattle.cm_value.specs.declared.value.Value.TheViews.{out-roll-Value}
use Rattle.cm_term.specs.declared.atom.Num.{Num}
use Rattle.cm_term.specs.declared.atom.Tag.{Tag}
use Rattle.cm_term.specs.declared.term.Term.{Term, out-Term}
use Rattle.cm_term.specs.declared.term.Term.TheViews.{out-roll-Term}
use Rattle.cm_term.specs.declared.term.Term.TheVariants as term
use Rattle.cm_term.specs.declared.term.Term.TheOpen.{Term-F}
use Rattle.cm_term.specs.declared.symbol.Step.TheVariants as step
use Rattle.cm_term.specs.Valuation.{Valuation}
use Rattle.cm_term.specs.Atoms.{num_under, tag_under}
use Rattle.cm_term.specs.Terms.{value_of, value_step, fields_at, fields_of, IsRecord}
use Rattle.cm_term.specs.Symbols.{part_in, field_in, payload_in}
use Rattle.cm_term.proofs.Folds.{fold-elem, fold-num, fold-tag, fold-rec, fold-none, fold-some, fold-either}
use Rattle.cm_model.specs.declared.variable.SortVar.{SortVar}
use Rattle.cm_term.specs.declared.atom.OptVar.{OptVar}

pub value_elem : (v : Valuation) (x : SortVar) → value_of v (term.Elem x) ≡ value.Elem (v.element x.0)
value_elem v x = fold-elem (value_step v) x

pub value_num : (v : Valuation) (a : Num) → value_of v (term.Num a) ≡ value.Int (num_under v.number a)
value_num v a = fold-num (value_step v) a

pub value_tag : (v : Valuation) (a : Tag) → value_of v (term.Tag a) ≡ value.Tag (tag_under v.tag a)
value_tag v a = fold-tag (value_step v) a

pub value_rec : (v : Valuation) (ts : List Term) → value_of v (term.Rec ts) ≡ value.Rec (map (value_of v) ts)
value_rec v ts = fold-rec (value_step v) ts

pub value_none : (v : Valuation) → value_of v term.None ≡ value.None
value_none v = fold-none (value_step v)

pub value_some : (v : Valuation) (t : Term) → value_of v (term.Some t) ≡ value.Some (value_of v t)
value_some v t = fold-some (value_step v) t

pub value_either : (v : Valuation) (o : OptVar) → value_of v (term.Either o) ≡ value_step v (Term-F.Either o)
value_either v o = fold-either (value_step v) o

pub out_rec : (vs : List Value) → out-Value (value.Rec vs) ≡ Value-F.Rec vs
out_rec vs = ap out-Value (sym (value.rolls-Rec vs)) ∙ out-roll-Value (Value-F.Rec vs)

pub out_none : out-Value value.None ≡ Value-F.None
out_none = ap out-Value (sym value.rolls-None) ∙ out-roll-Value Value-F.None

pub out_some : (v : Value) → out-Value (value.Some v) ≡ Value-F.Some v
out_some v = ap out-Value (sym (value.rolls-Some v)) ∙ out-roll-Value (Value-F.Some v)

-- a field of a record has the field's value
pub field_value : (v : Valuation) (t u : Term) (n : ℕ) → IsRecord t → slice_get (fields_of t) n ≡ Some u
    → part_in (step.Field n) (value_of v t) ≡ Some (value_of v u)
field_value v t u n r g =
    ap (part_in (step.Field n)) (ap (value_of v) r ∙ value_rec v (fields_of t))
    ∙ ap (field_in n) (out_rec (map (value_of v) (fields_of t)))
    ∙ slice_get-map (value_of v) (fields_of t) n ∙ ap (option_map (value_of v)) g

-- a record with another field has the value with another field
pub with_field_value : (v : Valuation) (t u : Term) (fs : List Term) (n : ℕ) → fs ≡ slice_set (fields_of t) n u
    → value_of v (term.Rec fs) ≡ value.Rec (slice_set (map (value_of v) (fields_of t)) n (value_of v u))
with_field_value v t u fs n e =
    ap (λ gs. value_of v (term.Rec gs)) e ∙ value_rec v _ ∙ ap value.Rec (map-set (value_of v) (fields_of t) n u)

-- a payload has the payload's value
pub payload_value : (v : Valuation) (t u : Term) → t ≡ term.Some u
    → part_in step.Payload (value_of v t) ≡ Some (value_of v u)
payload_value v t u e =
    ap (part_in step.Payload) (ap (value_of v) e ∙ value_some v u) ∙ ap payload_in (out_some (value_of v u))

out_again : (ts : List Term) → out-Term (term.Rec ts) ≡ Term-F.Rec ts
out_again ts = ap out-Term (sym (term.rolls-Rec ts)) ∙ out-roll-Term (Term-F.Rec ts)

pub fields_again : (ts : List Term) → fields_of (term.Rec ts) ≡ ts
fields_again ts = ap fields_at (out_again ts)

pub record_again : (ts : List Term) → IsRecord (term.Rec ts)
record_again ts = ap term.Rec (sym (fields_again ts))
