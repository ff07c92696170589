-- What a fold gives for each form of a value.
use Rattle.std.proofs.Common.{◌≡◌, ℕ, ℤ, List, map, sym, ap, ◌∙◌}
use Rattle.cm_value.specs.declared.value.Value.{Value}
use Rattle.cm_value.specs.declared.value.Value.TheVariants as value
use Rattle.cm_value.specs.declared.value.Value.TheVariants.{rolls-Elem, rolls-Int, rolls-Tag, rolls-Rec, rolls-None}
use Rattle.cm_value.specs.declared.value.Value.TheVariants.{rolls-Some}
use Rattle.cm_value.specs.declared.value.Value.TheOpen.{Value-F}
use Rattle.cm_value.specs.declared.value.Value.TheFolds.{fold-Value, fold-roll-Value}

module _ {A : Type 0} (step : Value-F A → A) where
  pub fold-elem : (n : ℕ) → fold-Value A step (value.Elem n) ≡ step (Value-F.Elem n)
  fold-elem n = ap (fold-Value A step) (sym (rolls-Elem n)) ∙ fold-roll-Value A step (Value-F.Elem n)

  pub fold-int : (n : ℤ) → fold-Value A step (value.Int n) ≡ step (Value-F.Int n)
  fold-int n = ap (fold-Value A step) (sym (rolls-Int n)) ∙ fold-roll-Value A step (Value-F.Int n)

  pub fold-tag : (n : ℕ) → fold-Value A step (value.Tag n) ≡ step (Value-F.Tag n)
  fold-tag n = ap (fold-Value A step) (sym (rolls-Tag n)) ∙ fold-roll-Value A step (Value-F.Tag n)

  pub fold-rec : (vs : List Value) → fold-Value A step (value.Rec vs) ≡ step (Value-F.Rec (map (fold-Value A step) vs))
  fold-rec vs = ap (fold-Value A step) (sym (rolls-Rec vs)) ∙ fold-roll-Value A step (Value-F.Rec vs)

  pub fold-none : fold-Value A step value.None ≡ step Value-F.None
  fold-none = ap (fold-Value A step) (sym rolls-None) ∙ fold-roll-Value A step Value-F.None

  pub fold-some : (v : Value) → fold-Value A step (value.Some v) ≡ step (Value-F.Some (fold-Value A step v))
  fold-some v = ap (fold-Value A step) (sym (rolls-Some v)) ∙ fold-roll-Value A step (Value-F.Some v)
