-- What a fold over values gives is related to the value, where each step keeps the relation.
use Rattle.std.proofs.Common.{◌≡◌, List, [], ◌∷◌, map, refl, sym, ap, ◌∙◌, subst}
use Rattle.cm_value.specs.declared.value.Value.{Value}
use Rattle.cm_value.specs.declared.value.Value.TheViews.{roll-Value}
use Rattle.cm_value.specs.declared.value.Value.TheOpen.{Value-F}
use Rattle.cm_value.specs.declared.value.Value.TheFolds.{fold-Value, fold-roll-Value, ind-Value, map-Value}

map_map : {X Y Z : Type 0} (f : X → Y) (g : Y → Z) (xs : List X) → map g (map f xs) ≡ map (λ x. g (f x)) xs
map_map f g [] = refl
map_map f g (x ∷ xs) = ap (λ ys. g (f x) ∷ ys) (map_map f g xs)

layers : {X Y Z : Type 0} (f : X → Y) (g : Y → Z) (x : Value-F X) → map-Value Y Z g (map-Value X Y f x)
    ≡ map-Value X Z (λ a. g (f a)) x
layers f g (Value-F.Elem n) = refl
layers f g (Value-F.Int n) = refl
layers f g (Value-F.Tag n) = refl
layers f g (Value-F.Rec vs) = ap Value-F.Rec (map_map f g vs)
layers f g Value-F.None = refl
layers f g (Value-F.Some v) = refl

module _ (A : Type 0) (R : A → Value → Type 0) (step : Value-F A → A) where
  abbrev pub Related : Type 0
  Related = (p : A × Value) × R p.0 p.1

  pub fold_related : ((y : Value-F Related) → R (step (map-Value Related A (λ p. p.0.0) y))
      (roll-Value (map-Value Related Value (λ p. p.0.1) y)))
      → (v : Value) → R (fold-Value A step v) v
  fold_related keeps = ind-Value (λ v. R (fold-Value A step v) v) (λ x y is.
      let f : Value → A = fold-Value A step in
      let z : Value-F Related = map-Value _ Related (λ v. ((f v.0, v.0), v.1)) y in
      let one : map-Value Related A (λ p. p.0.0) z ≡ map-Value Value A f x =
      layers (λ v. ((f v.0, v.0), v.1)) (λ (p : Related). p.0.0) y ∙ sym (layers (λ v. v.0) f y)
      ∙ ap (map-Value Value A f) is in
      let two : map-Value Related Value (λ p. p.0.1) z ≡ x =
      layers (λ v. ((f v.0, v.0), v.1)) (λ (p : Related). p.0.1) y ∙ is in
      subst (λ b. R (fold-Value A step (roll-Value x)) (roll-Value b)) two
      (subst (λ a. R a (roll-Value (map-Value Related Value (λ p. p.0.1) z))) (ap step one
      ∙ sym (fold-roll-Value A step x)) (keeps z)))
