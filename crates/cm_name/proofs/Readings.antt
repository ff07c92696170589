-- What is read of a symbol's value, and what tests on it tell.
use Rattle.std.proofs.Common.{◌≡◌, ℕ, ℤ, ◌+ℤ◌, ◌==◌, Bool, true, false, IfSome, Option, Some, None, refl, sym}
use Rattle.std.proofs.Common.{ap, subst, ◌∙◌, if◌then◌else◌}
use Rattle.cm_value.specs.declared.value.Value.{Value, out-Value}
use Rattle.cm_value.specs.declared.value.Value.TheVariants as value
use Rattle.cm_value.specs.declared.value.Value.TheOpen.{Value-F}
use Rattle.cm_value.specs.declared.value.Value.TheViews.{out-roll-Value}
use Rattle.cm_term.specs.Valuation.{Valuation}
use Rattle.cm_term.proofs.Values.{out_none, out_some}
use Rattle.cm_cells.specs.Alike.{is_there}
use Rattle.cm_ctx.specs.Belonging.{option_value}
use Rattle.cm_cond.specs.Values.{element_in, number_in, variant_in, presence_in, read, raised}
use Rattle.cm_cond.specs.Holding.{both, it_is}

-- it is this, if it is there
abbrev pub MayBe : {X : Type 0} → Option X → X → Type 0
MayBe o x = IfSome o (λ y. y ≡ x)

pub may_be : {X : Type 0} (o : Option X) (x : X) → o ≡ Some x → MayBe o x
may_be o x e = subst (λ p. MayBe p x) (sym e) refl

-- it is there, so it is this
pub it_is_there : {X : Type 0} (o : Option X) (x : X) → MayBe o x → is_there o ≡ true → o ≡ Some x
it_is_there (Some y) x h there = ap Some h
it_is_there None x h there = absurd (cc)

pub read_may : {X : Type 0} (f : Value-F Value → Option X) (v : Value) (x : X) → f (out-Value v) ≡ Some x
    → (o : Option Value) → MayBe o v → MayBe (read f o) x
read_may f v x e (Some w) h = may_be (f (out-Value w)) x (ap (λ u. f (out-Value u)) h ∙ e)
read_may f v x e None h = tt

pub read_is : {X : Type 0} (f : Value-F Value → Option X) (v : Value) (x : X) → f (out-Value v) ≡ Some x
    → (o : Option Value) → o ≡ Some v → read f o ≡ Some x
read_is f v x e o is = ap (read f) is ∙ e

pub element_read : (n : ℕ) → element_in (out-Value (value.Elem n)) ≡ Some n
element_read n = ap element_in (ap out-Value (sym (value.rolls-Elem n)) ∙ out-roll-Value (Value-F.Elem n))

pub number_read : (n : ℤ) → number_in (out-Value (value.Int n)) ≡ Some n
number_read n = ap number_in (ap out-Value (sym (value.rolls-Int n)) ∙ out-roll-Value (Value-F.Int n))

pub variant_read : (n : ℕ) → variant_in (out-Value (value.Tag n)) ≡ Some n
variant_read n = ap variant_in (ap out-Value (sym (value.rolls-Tag n)) ∙ out-roll-Value (Value-F.Tag n))

pub presence_read : (v : Valuation) (o : ℕ) → presence_in (out-Value (option_value v o)) ≡ Some (v.present o == 1)
presence_read v o = by (v.present o == 1)
  where
    by : (b : Bool) → presence_in (out-Value (if b then value.Some (v.payload o) else value.None)) ≡ Some b
    by true = ap presence_in (out_some (v.payload o))
    by false = ap presence_in out_none

pub raised_may : (o : Option ℤ) (n k : ℤ) → MayBe o n → MayBe (raised o k) (n +ℤ k)
raised_may (Some m) n k h = ap (λ z. z +ℤ k) h
raised_may None n k h = tt

pub raised_is : (o : Option ℤ) (n k : ℤ) → o ≡ Some n → raised o k ≡ Some (n +ℤ k)
raised_is o n k e = ap (λ p. raised p k) e

-- a test that succeeds tells of what is there; what is there is tested
pub both_told : {X : Type 0} (f : X → X → Bool) (o p : Option X) (x y : X) → MayBe o x → MayBe p y
    → both f o p ≡ true → f x y ≡ true
both_told f (Some a) (Some b) x y h k e = ap (λ z. f z y) (sym h) ∙ ap (f a) (sym k) ∙ e
both_told f (Some a) None x y h k e = absurd (cc)
both_told f None p x y h k e = absurd (cc)

pub both_tested : {X : Type 0} (f : X → X → Bool) (o p : Option X) (x y : X) → o ≡ Some x → p ≡ Some y
    → f x y ≡ true → both f o p ≡ true
both_tested f o p x y h k e = ap (λ a. both f a p) h ∙ ap (both f (Some x)) k ∙ e

pub it_told : {X : Type 0} (f : X → Bool) (o : Option X) (x : X) → MayBe o x → it_is f o ≡ true → f x ≡ true
it_told f (Some a) x h e = ap f (sym h) ∙ e
it_told f None x h e = absurd (cc)

pub it_tested : {X : Type 0} (f : X → Bool) (o : Option X) (x : X) → o ≡ Some x → f x ≡ true → it_is f o ≡ true
it_tested f o x h e = ap (it_is f) h ∙ e
