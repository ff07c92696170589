-- Induction over values.
use Rattle.std.proofs.Common.{ℕ, ℤ, List, [], ◌∷◌, map, sym, subst}
use Rattle.cm_value.specs.declared.value.Value.{Value}
use Rattle.cm_value.specs.declared.value.Value.TheVariants as value
use Rattle.cm_value.specs.declared.value.Value.TheVariants.{rolls-Elem, rolls-Int, rolls-Tag, rolls-Rec, rolls-None}
use Rattle.cm_value.specs.declared.value.Value.TheVariants.{rolls-Some}
use Rattle.cm_value.specs.declared.value.Value.TheViews.{roll-Value}
use Rattle.cm_value.specs.declared.value.Value.TheOpen.{Value-F}
use Rattle.cm_value.specs.declared.value.Value.TheFolds.{ind-Value, map-Value}

-- a fact of each value of a list
abbrev pub Each : (Value → Type 0) → List Value → Type 0
Each Q [] = Unit {0}
Each Q (v ∷ vs) = Q v × Each Q vs

module _ (Q : Value → Type 0) where
  abbrev Known : Type 0
  Known = (v : Value) × Q v

  each_known : (ks : List Known) → Each Q (map (λ k. k.0) ks)
  each_known [] = tt
  each_known (k ∷ ks) = (k.1, each_known ks)

  module _ (elem : (n : ℕ) → Q (value.Elem n)) (int : (n : ℤ) → Q (value.Int n)) (tag : (n : ℕ) → Q (value.Tag n))
      (rec : (vs : List Value) → Each Q vs → Q (value.Rec vs)) (none : Q value.None) (some : (v : Value)
      → Q v → Q (value.Some v)) where
    one_level : (y : Value-F Known) → Q (roll-Value (map-Value Known Value (λ k. k.0) y))
    one_level (Value-F.Elem n) = subst Q (sym (rolls-Elem n)) (elem n)
    one_level (Value-F.Int n) = subst Q (sym (rolls-Int n)) (int n)
    one_level (Value-F.Tag n) = subst Q (sym (rolls-Tag n)) (tag n)
    one_level (Value-F.Rec ks) = subst Q (sym (rolls-Rec (map (λ (k : Known). k.0) ks)))
        (rec (map (λ k. k.0) ks) (each_known ks))
    one_level Value-F.None = subst Q (sym rolls-None) none
    one_level (Value-F.Some k) = subst Q (sym (rolls-Some k.0)) (some k.0 k.1)

    -- a fact of all values, form by form
    pub value_ind : (v : Value) → Q v
    value_ind = ind-Value Q (λ x y is. subst (λ z. Q (roll-Value z)) is (one_level y))
