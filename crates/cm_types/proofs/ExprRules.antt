-- What the folds of expressions give has a property that each step keeps.
use Rattle.std.proofs.Common.{◌≡◌, List, [], ◌∷◌, map, refl, sym, ap, ◌∙◌, subst}
use Rattle.cm_syntax.specs.declared.tree.Cmp.{Cmp}
use Rattle.cm_syntax.specs.declared.tree.Expr.{Expr}
use Rattle.cm_syntax.specs.declared.tree.Primary.{Primary}
use Rattle.cm_syntax.specs.declared.tree.Sum.{Sum}
use Rattle.cm_syntax.specs.declared.tree.Unary.{Unary}
use Rattle.cm_syntax.specs.declared.tree.Post.{Post}
use Rattle.cm_syntax.specs.declared.tree.Set.{Set}
use Rattle.cm_syntax.specs.declared.tree.Cmp.TheOpen as layer
use Rattle.cm_syntax.specs.declared.tree.Cmp.TheFolds.{ind-Expr, fold-roll-Cmp, fold-roll-Expr, fold-roll-Primary}
use Rattle.cm_syntax.specs.declared.tree.Cmp.TheFolds.{fold-roll-Sum, fold-roll-Unary, fold-roll-Post, fold-roll-Set}
use Rattle.cm_syntax.specs.declared.tree.Cmp.TheFolds.{map-Cmp, map-Expr, map-Primary, map-Sum, map-Unary, map-Post}
use Rattle.cm_syntax.specs.declared.tree.Cmp.TheFolds.{map-Set}
use Rattle.cm_typing.specs.Expressions.{Meaning, SetMeaning, cmp_step, expr_step, prim_step, sum_step, unary_step}
use Rattle.cm_typing.specs.Expressions.{post_step, set_step, cmp_told, expr_told, prim_told, sum_told, unary_told}
use Rattle.cm_typing.specs.Expressions.{post_told, set_told}

pub map_map : {X Y Z : Type 0} (f : X → Y) (g : Y → Z) (xs : List X) → map g (map f xs) ≡ map (λ x. g (f x)) xs
map_map f g [] = refl
map_map f g (x ∷ xs) = ap (λ ys. g (f x) ∷ ys) (map_map f g xs)

module _ {AC AE AP AS AU AO AW BC BE BP BS BU BO BW
    CC CE CP CS CU CO CW : Type 0}
    (fc : AC → BC) (fe : AE → BE) (fp : AP → BP) (fs : AS → BS) (fu : AU → BU) (fo : AO → BO) (fw : AW → BW)
    (gc : BC → CC) (ge : BE → CE) (gp : BP → CP) (gs : BS → CS) (gu : BU → CU) (go : BO → CO) (gw : BW → CW) where
  cmp_layers : (x : layer.Cmp-F AC AE AP AS AU AO AW)
      → map-Cmp BC BE BP BS BU BO BW CC CE CP CS CU CO CW gc ge gp gs gu go gw
      (map-Cmp AC AE AP AS AU AO AW BC BE BP BS BU BO BW fc fe fp fs fu fo fw x)
      ≡ map-Cmp AC AE AP AS AU AO AW CC CE CP CS CU CO CW
      (λ m. gc (fc m)) (λ m. ge (fe m)) (λ m. gp (fp m)) (λ m. gs (fs m)) (λ m. gu (fu m)) (λ m. go (fo m))
      (λ m. gw (fw m)) x
  cmp_layers (layer.Side p m) = refl
  cmp_layers (layer.Compared p m r n) = refl

  expr_layers : (x : layer.Expr-F AC AE AP AS AU AO AW)
      → map-Expr BC BE BP BS BU BO BW CC CE CP CS CU CO CW gc ge gp gs gu go gw
      (map-Expr AC AE AP AS AU AO AW BC BE BP BS BU BO BW fc fe fp fs fu fo fw x)
      ≡ map-Expr AC AE AP AS AU AO AW CC CE CP CS CU CO CW
      (λ m. gc (fc m)) (λ m. ge (fe m)) (λ m. gp (fp m)) (λ m. gs (fs m)) (λ m. gu (fu m)) (λ m. go (fo m))
      (λ m. gw (fw m)) x
  expr_layers (layer.Single p m) = refl
  expr_layers (layer.All p m n ms) = ap (layer.All p (gc (fc m)) (gc (fc n))) (map_map fc gc ms)
  expr_layers (layer.Any p m n ms) = ap (layer.Any p (gc (fc m)) (gc (fc n))) (map_map fc gc ms)

  prim_layers : (x : layer.Primary-F AC AE AP AS AU AO AW)
      → map-Primary BC BE BP BS BU BO BW CC CE CP CS CU CO CW gc ge gp gs gu go gw
      (map-Primary AC AE AP AS AU AO AW BC BE BP BS BU BO BW fc fe fp fs fu fo fw x)
      ≡ map-Primary AC AE AP AS AU AO AW CC CE CP CS CU CO CW
      (λ m. gc (fc m)) (λ m. ge (fe m)) (λ m. gp (fp m)) (λ m. gs (fs m)) (λ m. gu (fu m)) (λ m. go (fo m))
      (λ m. gw (fw m)) x
  prim_layers (layer.Number p n) = refl
  prim_layers (layer.True p) = refl
  prim_layers (layer.False p) = refl
  prim_layers (layer.It p) = refl
  prim_layers (layer.Name p n) = refl
  prim_layers (layer.Entry p n m) = refl
  prim_layers (layer.Apply p n ms) = ap (layer.Apply p n) (map_map fe ge ms)
  prim_layers (layer.NoneOf p t) = refl
  prim_layers (layer.SomeOf p m) = refl
  prim_layers (layer.Group p m) = refl

  sum_layers : (x : layer.Sum-F AC AE AP AS AU AO AW)
      → map-Sum BC BE BP BS BU BO BW CC CE CP CS CU CO CW gc ge gp gs gu go gw
      (map-Sum AC AE AP AS AU AO AW BC BE BP BS BU BO BW fc fe fp fs fu fo fw x)
      ≡ map-Sum AC AE AP AS AU AO AW CC CE CP CS CU CO CW
      (λ m. gc (fc m)) (λ m. ge (fe m)) (λ m. gp (fp m)) (λ m. gs (fs m)) (λ m. gu (fu m)) (λ m. go (fo m))
      (λ m. gw (fw m)) x
  sum_layers (layer.Term p m) = refl
  sum_layers (layer.Plus p m n) = refl
  sum_layers (layer.Minus p m n) = refl

  unary_layers : (x : layer.Unary-F AC AE AP AS AU AO AW)
      → map-Unary BC BE BP BS BU BO BW CC CE CP CS CU CO CW gc ge gp gs gu go gw
      (map-Unary AC AE AP AS AU AO AW BC BE BP BS BU BO BW fc fe fp fs fu fo fw x)
      ≡ map-Unary AC AE AP AS AU AO AW CC CE CP CS CU CO CW
      (λ m. gc (fc m)) (λ m. ge (fe m)) (λ m. gp (fp m)) (λ m. gs (fs m)) (λ m. gu (fu m)) (λ m. go (fo m))
      (λ m. gw (fw m)) x
  unary_layers (layer.Bare p m) = refl
  unary_layers (layer.Not p m) = refl

  post_layers : (x : layer.Post-F AC AE AP AS AU AO AW)
      → map-Post BC BE BP BS BU BO BW CC CE CP CS CU CO CW gc ge gp gs gu go gw
      (map-Post AC AE AP AS AU AO AW BC BE BP BS BU BO BW fc fe fp fs fu fo fw x)
      ≡ map-Post AC AE AP AS AU AO AW CC CE CP CS CU CO CW
      (λ m. gc (fc m)) (λ m. ge (fe m)) (λ m. gp (fp m)) (λ m. gs (fs m)) (λ m. gu (fu m)) (λ m. go (fo m))
      (λ m. gw (fw m)) x
  post_layers x = ap (λ (l : List CW). let y : layer.Post-F CC CE CP CS CU CO CW =
      record { at = x.at; prim = gp (fp x.prim); fields = x.fields; sets = l } in y) (map_map fw gw x.sets)

  set_layers : (x : layer.Set-F AC AE AP AS AU AO AW)
      → map-Set BC BE BP BS BU BO BW CC CE CP CS CU CO CW gc ge gp gs gu go gw
      (map-Set AC AE AP AS AU AO AW BC BE BP BS BU BO BW fc fe fp fs fu fo fw x)
      ≡ map-Set AC AE AP AS AU AO AW CC CE CP CS CU CO CW
      (λ m. gc (fc m)) (λ m. ge (fe m)) (λ m. gp (fp m)) (λ m. gs (fs m)) (λ m. gu (fu m)) (λ m. go (fo m))
      (λ m. gw (fw m)) x
  set_layers x = refl

abbrev pub Held : (Meaning → Type 0) → Type 0
Held Q = (m : Meaning) × Q m

abbrev pub HeldSet : (Meaning → Type 0) → Type 0
HeldSet Q = (m : SetMeaning) × Q m.2

module _ (Q : Meaning → Type 0) where
  abbrev pub bare_cmp : layer.Cmp-F (Held Q) (Held Q) (Held Q) (Held Q) (Held Q) (Held Q) (HeldSet Q)
      → layer.Cmp-F Meaning Meaning Meaning Meaning Meaning Meaning SetMeaning
  bare_cmp = map-Cmp (Held Q) (Held Q) (Held Q) (Held Q) (Held Q) (Held Q) (HeldSet Q) Meaning Meaning Meaning Meaning
      Meaning Meaning SetMeaning
      (λ m. m.0) (λ m. m.0) (λ m. m.0) (λ m. m.0) (λ m. m.0) (λ m. m.0) (λ m. m.0)

  abbrev pub bare_expr : layer.Expr-F (Held Q) (Held Q) (Held Q) (Held Q) (Held Q) (Held Q) (HeldSet Q)
      → layer.Expr-F Meaning Meaning Meaning Meaning Meaning Meaning SetMeaning
  bare_expr = map-Expr (Held Q) (Held Q) (Held Q) (Held Q) (Held Q) (Held Q) (HeldSet Q) Meaning Meaning Meaning
      Meaning Meaning Meaning SetMeaning
      (λ m. m.0) (λ m. m.0) (λ m. m.0) (λ m. m.0) (λ m. m.0) (λ m. m.0) (λ m. m.0)

  abbrev pub bare_prim : layer.Primary-F (Held Q) (Held Q) (Held Q) (Held Q) (Held Q) (Held Q) (HeldSet Q)
      → layer.Primary-F Meaning Meaning Meaning Meaning Meaning Meaning SetMeaning
  bare_prim = map-Primary (Held Q) (Held Q) (Held Q) (Held Q) (Held Q) (Held Q) (HeldSet Q) Meaning Meaning Meaning
      Meaning Meaning Meaning SetMeaning
      (λ m. m.0) (λ m. m.0) (λ m. m.0) (λ m. m.0) (λ m. m.0) (λ m. m.0) (λ m. m.0)

  abbrev pub bare_sum : layer.Sum-F (Held Q) (Held Q) (Held Q) (Held Q) (Held Q) (Held Q) (HeldSet Q)
      → layer.Sum-F Meaning Meaning Meaning Meaning Meaning Meaning SetMeaning
  bare_sum = map-Sum (Held Q) (Held Q) (Held Q) (Held Q) (Held Q) (Held Q) (HeldSet Q) Meaning Meaning Meaning Meaning
      Meaning Meaning SetMeaning
      (λ m. m.0) (λ m. m.0) (λ m. m.0) (λ m. m.0) (λ m. m.0) (λ m. m.0) (λ m. m.0)

  abbrev pub bare_unary : layer.Unary-F (Held Q) (Held Q) (Held Q) (Held Q) (Held Q) (Held Q) (HeldSet Q)
      → layer.Unary-F Meaning Meaning Meaning Meaning Meaning Meaning SetMeaning
  bare_unary = map-Unary (Held Q) (Held Q) (Held Q) (Held Q) (Held Q) (Held Q) (HeldSet Q) Meaning Meaning Meaning
      Meaning Meaning Meaning SetMeaning
      (λ m. m.0) (λ m. m.0) (λ m. m.0) (λ m. m.0) (λ m. m.0) (λ m. m.0) (λ m. m.0)

  abbrev pub bare_post : layer.Post-F (Held Q) (Held Q) (Held Q) (Held Q) (Held Q) (Held Q) (HeldSet Q)
      → layer.Post-F Meaning Meaning Meaning Meaning Meaning Meaning SetMeaning
  bare_post = map-Post (Held Q) (Held Q) (Held Q) (Held Q) (Held Q) (Held Q) (HeldSet Q) Meaning Meaning Meaning
      Meaning Meaning Meaning SetMeaning
      (λ m. m.0) (λ m. m.0) (λ m. m.0) (λ m. m.0) (λ m. m.0) (λ m. m.0) (λ m. m.0)

  abbrev pub bare_set : layer.Set-F (Held Q) (Held Q) (Held Q) (Held Q) (Held Q) (Held Q) (HeldSet Q)
      → layer.Set-F Meaning Meaning Meaning Meaning Meaning Meaning SetMeaning
  bare_set = map-Set (Held Q) (Held Q) (Held Q) (Held Q) (Held Q) (Held Q) (HeldSet Q) Meaning Meaning Meaning Meaning
      Meaning Meaning SetMeaning
      (λ m. m.0) (λ m. m.0) (λ m. m.0) (λ m. m.0) (λ m. m.0) (λ m. m.0) (λ m. m.0)

  -- each step keeps it
  pub record Kept : Type 0 where
    pub cmps : (y : layer.Cmp-F (Held Q) (Held Q) (Held Q) (Held Q) (Held Q) (Held Q) (HeldSet Q))
        → Q (cmp_step (bare_cmp y))
    pub exprs : (y : layer.Expr-F (Held Q) (Held Q) (Held Q) (Held Q) (Held Q) (Held Q) (HeldSet Q))
        → Q (expr_step (bare_expr y))
    pub prims : (y : layer.Primary-F (Held Q) (Held Q) (Held Q) (Held Q) (Held Q) (Held Q) (HeldSet Q))
        → Q (prim_step (bare_prim y))
    pub sums : (y : layer.Sum-F (Held Q) (Held Q) (Held Q) (Held Q) (Held Q) (Held Q) (HeldSet Q))
        → Q (sum_step (bare_sum y))
    pub unarys : (y : layer.Unary-F (Held Q) (Held Q) (Held Q) (Held Q) (Held Q) (Held Q) (HeldSet Q))
        → Q (unary_step (bare_unary y))
    pub posts : (y : layer.Post-F (Held Q) (Held Q) (Held Q) (Held Q) (Held Q) (Held Q) (HeldSet Q))
        → Q (post_step (bare_post y))
    pub sets : (y : layer.Set-F (Held Q) (Held Q) (Held Q) (Held Q) (Held Q) (Held Q) (HeldSet Q))
        → Q (set_step (bare_set y)).2

  -- the fold of an expression has it
  pub expr_keeps : Kept → (e : Expr) → Q (expr_told e)
  expr_keeps k = ind-Expr
      (λ x. Q (cmp_told x)) (λ x. Q (expr_told x)) (λ x. Q (prim_told x)) (λ x. Q (sum_told x))
      (λ x. Q (unary_told x)) (λ x. Q (post_told x)) (λ x. Q (set_told x).2)
      (λ x y is.
      let z : layer.Cmp-F (Held Q) (Held Q) (Held Q) (Held Q) (Held Q) (Held Q) (HeldSet Q) =
      map-Cmp _ _ _ _ _ _ _ (Held Q) (Held Q) (Held Q) (Held Q) (Held Q) (Held Q) (HeldSet Q)
      (λ x. (cmp_told x.0, x.1)) (λ x. (expr_told x.0, x.1)) (λ x. (prim_told x.0, x.1)) (λ x. (sum_told x.0, x.1))
      (λ x. (unary_told x.0, x.1)) (λ x. (post_told x.0, x.1)) (λ x. (set_told x.0, x.1)) y in
      let same : bare_cmp z ≡ map-Cmp Cmp Expr Primary Sum Unary Post Set Meaning Meaning Meaning Meaning Meaning
      Meaning SetMeaning
      cmp_told expr_told prim_told sum_told unary_told post_told set_told x =
      cmp_layers (λ x. (cmp_told x.0, x.1)) (λ x. (expr_told x.0, x.1)) (λ x. (prim_told x.0, x.1))
      (λ x. (sum_told x.0, x.1)) (λ x. (unary_told x.0, x.1)) (λ x. (post_told x.0, x.1))
      (λ x. (set_told x.0, x.1))
      (λ (m : Held Q). m.0) (λ (m : Held Q). m.0) (λ (m : Held Q). m.0) (λ (m : Held Q). m.0) (λ (m : Held Q). m.0)
      (λ (m : Held Q). m.0) (λ (m : HeldSet Q). m.0) y
      ∙ sym (cmp_layers (λ x. x.0) (λ x. x.0) (λ x. x.0) (λ x. x.0) (λ x. x.0) (λ x. x.0) (λ x. x.0)
      cmp_told expr_told prim_told sum_told unary_told post_told set_told y)
      ∙ ap (map-Cmp Cmp Expr Primary Sum Unary Post Set Meaning Meaning Meaning Meaning Meaning Meaning SetMeaning
      cmp_told expr_told prim_told sum_told unary_told post_told set_told) is in
      subst Q (ap cmp_step same ∙ sym (fold-roll-Cmp Meaning Meaning Meaning Meaning Meaning Meaning SetMeaning
      cmp_step expr_step prim_step sum_step unary_step post_step set_step x)) (k.cmps z))
      (λ x y is.
      let z : layer.Expr-F (Held Q) (Held Q) (Held Q) (Held Q) (Held Q) (Held Q) (HeldSet Q) =
      map-Expr _ _ _ _ _ _ _ (Held Q) (Held Q) (Held Q) (Held Q) (Held Q) (Held Q) (HeldSet Q)
      (λ x. (cmp_told x.0, x.1)) (λ x. (expr_told x.0, x.1)) (λ x. (prim_told x.0, x.1)) (λ x. (sum_told x.0, x.1))
      (λ x. (unary_told x.0, x.1)) (λ x. (post_told x.0, x.1)) (λ x. (set_told x.0, x.1)) y in
      let same : bare_expr z ≡ map-Expr Cmp Expr Primary Sum Unary Post Set Meaning Meaning Meaning Meaning Meaning
      Meaning SetMeaning
      cmp_told expr_told prim_told sum_told unary_told post_told set_told x =
      expr_layers (λ x. (cmp_told x.0, x.1)) (λ x. (expr_told x.0, x.1)) (λ x. (prim_told x.0, x.1))
      (λ x. (sum_told x.0, x.1)) (λ x. (unary_told x.0, x.1)) (λ x. (post_told x.0, x.1))
      (λ x. (set_told x.0, x.1))
      (λ (m : Held Q). m.0) (λ (m : Held Q). m.0) (λ (m : Held Q). m.0) (λ (m : Held Q). m.0) (λ (m : Held Q). m.0)
      (λ (m : Held Q). m.0) (λ (m : HeldSet Q). m.0) y
      ∙ sym (expr_layers (λ x. x.0) (λ x. x.0) (λ x. x.0) (λ x. x.0) (λ x. x.0) (λ x. x.0) (λ x. x.0)
      cmp_told expr_told prim_told sum_told unary_told post_told set_told y)
      ∙ ap (map-Expr Cmp Expr Primary Sum Unary Post Set Meaning Meaning Meaning Meaning Meaning Meaning SetMeaning
      cmp_told expr_told prim_told sum_told unary_told post_told set_told) is in
      subst Q (ap expr_step same ∙ sym (fold-roll-Expr Meaning Meaning Meaning Meaning Meaning Meaning SetMeaning
      cmp_step expr_step prim_step sum_step unary_step post_step set_step x)) (k.exprs z))
      (λ x y is.
      let z : layer.Primary-F (Held Q) (Held Q) (Held Q) (Held Q) (Held Q) (Held Q) (HeldSet Q) =
      map-Primary _ _ _ _ _ _ _ (Held Q) (Held Q) (Held Q) (Held Q) (Held Q) (Held Q) (HeldSet Q)
      (λ x. (cmp_told x.0, x.1)) (λ x. (expr_told x.0, x.1)) (λ x. (prim_told x.0, x.1)) (λ x. (sum_told x.0, x.1))
      (λ x. (unary_told x.0, x.1)) (λ x. (post_told x.0, x.1)) (λ x. (set_told x.0, x.1)) y in
      let same : bare_prim z ≡ map-Primary Cmp Expr Primary Sum Unary Post Set Meaning Meaning Meaning Meaning Meaning
      Meaning SetMeaning
      cmp_told expr_told prim_told sum_told unary_told post_told set_told x =
      prim_layers (λ x. (cmp_told x.0, x.1)) (λ x. (expr_told x.0, x.1)) (λ x. (prim_told x.0, x.1))
      (λ x. (sum_told x.0, x.1)) (λ x. (unary_told x.0, x.1)) (λ x. (post_told x.0, x.1))
      (λ x. (set_told x.0, x.1))
      (λ (m : Held Q). m.0) (λ (m : Held Q). m.0) (λ (m : Held Q). m.0) (λ (m : Held Q). m.0) (λ (m : Held Q). m.0)
      (λ (m : Held Q). m.0) (λ (m : HeldSet Q). m.0) y
      ∙ sym (prim_layers (λ x. x.0) (λ x. x.0) (λ x. x.0) (λ x. x.0) (λ x. x.0) (λ x. x.0) (λ x. x.0)
      cmp_told expr_told prim_told sum_told unary_told post_told set_told y)
      ∙ ap (map-Primary Cmp Expr Primary Sum Unary Post Set Meaning Meaning Meaning Meaning Meaning Meaning SetMeaning
      cmp_told expr_told prim_told sum_told unary_told post_told set_told) is in
      subst Q (ap prim_step same ∙ sym (fold-roll-Primary Meaning Meaning Meaning Meaning Meaning Meaning SetMeaning
      cmp_step expr_step prim_step sum_step unary_step post_step set_step x)) (k.prims z))
      (λ x y is.
      let z : layer.Sum-F (Held Q) (Held Q) (Held Q) (Held Q) (Held Q) (Held Q) (HeldSet Q) =
      map-Sum _ _ _ _ _ _ _ (Held Q) (Held Q) (Held Q) (Held Q) (Held Q) (Held Q) (HeldSet Q)
      (λ x. (cmp_told x.0, x.1)) (λ x. (expr_told x.0, x.1)) (λ x. (prim_told x.0, x.1)) (λ x. (sum_told x.0, x.1))
      (λ x. (unary_told x.0, x.1)) (λ x. (post_told x.0, x.1)) (λ x. (set_told x.0, x.1)) y in
      let same : bare_sum z ≡ map-Sum Cmp Expr Primary Sum Unary Post Set Meaning Meaning Meaning Meaning Meaning
      Meaning SetMeaning
      cmp_told expr_told prim_told sum_told unary_told post_told set_told x =
      sum_layers (λ x. (cmp_told x.0, x.1)) (λ x. (expr_told x.0, x.1)) (λ x. (prim_told x.0, x.1))
      (λ x. (sum_told x.0, x.1)) (λ x. (unary_told x.0, x.1)) (λ x. (post_told x.0, x.1))
      (λ x. (set_told x.0, x.1))
      (λ (m : Held Q). m.0) (λ (m : Held Q). m.0) (λ (m : Held Q). m.0) (λ (m : Held Q). m.0) (λ (m : Held Q). m.0)
      (λ (m : Held Q). m.0) (λ (m : HeldSet Q). m.0) y
      ∙ sym (sum_layers (λ x. x.0) (λ x. x.0) (λ x. x.0) (λ x. x.0) (λ x. x.0) (λ x. x.0) (λ x. x.0)
      cmp_told expr_told prim_told sum_told unary_told post_told set_told y)
      ∙ ap (map-Sum Cmp Expr Primary Sum Unary Post Set Meaning Meaning Meaning Meaning Meaning Meaning SetMeaning
      cmp_told expr_told prim_told sum_told unary_told post_told set_told) is in
      subst Q (ap sum_step same ∙ sym (fold-roll-Sum Meaning Meaning Meaning Meaning Meaning Meaning SetMeaning
      cmp_step expr_step prim_step sum_step unary_step post_step set_step x)) (k.sums z))
      (λ x y is.
      let z : layer.Unary-F (Held Q) (Held Q) (Held Q) (Held Q) (Held Q) (Held Q) (HeldSet Q) =
      map-Unary _ _ _ _ _ _ _ (Held Q) (Held Q) (Held Q) (Held Q) (Held Q) (Held Q) (HeldSet Q)
      (λ x. (cmp_told x.0, x.1)) (λ x. (expr_told x.0, x.1)) (λ x. (prim_told x.0, x.1)) (λ x. (sum_told x.0, x.1))
      (λ x. (unary_told x.0, x.1)) (λ x. (post_told x.0, x.1)) (λ x. (set_told x.0, x.1)) y in
      let same : bare_unary z ≡ map-Unary Cmp Expr Primary Sum Unary Post Set Meaning Meaning Meaning Meaning Meaning
      Meaning SetMeaning
      cmp_told expr_told prim_told sum_told unary_told post_told set_told x =
      unary_layers (λ x. (cmp_told x.0, x.1)) (λ x. (expr_told x.0, x.1)) (λ x. (prim_told x.0, x.1))
      (λ x. (sum_told x.0, x.1)) (λ x. (unary_told x.0, x.1)) (λ x. (post_told x.0, x.1))
      (λ x. (set_told x.0, x.1))
      (λ (m : Held Q). m.0) (λ (m : Held Q). m.0) (λ (m : Held Q). m.0) (λ (m : Held Q). m.0) (λ (m : Held Q). m.0)
      (λ (m : Held Q). m.0) (λ (m : HeldSet Q). m.0) y
      ∙ sym (unary_layers (λ x. x.0) (λ x. x.0) (λ x. x.0) (λ x. x.0) (λ x. x.0) (λ x. x.0) (λ x. x.0)
      cmp_told expr_told prim_told sum_told unary_told post_told set_told y)
      ∙ ap (map-Unary Cmp Expr Primary Sum Unary Post Set Meaning Meaning Meaning Meaning Meaning Meaning SetMeaning
      cmp_told expr_told prim_told sum_told unary_told post_told set_told) is in
      subst Q (ap unary_step same ∙ sym (fold-roll-Unary Meaning Meaning Meaning Meaning Meaning Meaning SetMeaning
      cmp_step expr_step prim_step sum_step unary_step post_step set_step x)) (k.unarys z))
      (λ x y is.
      let z : layer.Post-F (Held Q) (Held Q) (Held Q) (Held Q) (Held Q) (Held Q) (HeldSet Q) =
      map-Post _ _ _ _ _ _ _ (Held Q) (Held Q) (Held Q) (Held Q) (Held Q) (Held Q) (HeldSet Q)
      (λ x. (cmp_told x.0, x.1)) (λ x. (expr_told x.0, x.1)) (λ x. (prim_told x.0, x.1)) (λ x. (sum_told x.0, x.1))
      (λ x. (unary_told x.0, x.1)) (λ x. (post_told x.0, x.1)) (λ x. (set_told x.0, x.1)) y in
      let same : bare_post z ≡ map-Post Cmp Expr Primary Sum Unary Post Set Meaning Meaning Meaning Meaning Meaning
      Meaning SetMeaning
      cmp_told expr_told prim_told sum_told unary_told post_told set_told x =
      post_layers (λ x. (cmp_told x.0, x.1)) (λ x. (expr_told x.0, x.1)) (λ x. (prim_told x.0, x.1))
      (λ x. (sum_told x.0, x.1)) (λ x. (unary_told x.0, x.1)) (λ x. (post_told x.0, x.1))
      (λ x. (set_told x.0, x.1))
      (λ (m : Held Q). m.0) (λ (m : Held Q). m.0) (λ (m : Held Q). m.0) (λ (m : Held Q). m.0) (λ (m : Held Q). m.0)
      (λ (m : Held Q). m.0) (λ (m : HeldSet Q). m.0) y
      ∙ sym (post_layers (λ x. x.0) (λ x. x.0) (λ x. x.0) (λ x. x.0) (λ x. x.0) (λ x. x.0) (λ x. x.0)
      cmp_told expr_told prim_told sum_told unary_told post_told set_told y)
      ∙ ap (map-Post Cmp Expr Primary Sum Unary Post Set Meaning Meaning Meaning Meaning Meaning Meaning SetMeaning
      cmp_told expr_told prim_told sum_told unary_told post_told set_told) is in
      subst Q (ap post_step same ∙ sym (fold-roll-Post Meaning Meaning Meaning Meaning Meaning Meaning SetMeaning
      cmp_step expr_step prim_step sum_step unary_step post_step set_step x)) (k.posts z))
      (λ x y is.
      let z : layer.Set-F (Held Q) (Held Q) (Held Q) (Held Q) (Held Q) (Held Q) (HeldSet Q) =
      map-Set _ _ _ _ _ _ _ (Held Q) (Held Q) (Held Q) (Held Q) (Held Q) (Held Q) (HeldSet Q)
      (λ x. (cmp_told x.0, x.1)) (λ x. (expr_told x.0, x.1)) (λ x. (prim_told x.0, x.1)) (λ x. (sum_told x.0, x.1))
      (λ x. (unary_told x.0, x.1)) (λ x. (post_told x.0, x.1)) (λ x. (set_told x.0, x.1)) y in
      let same : bare_set z ≡ map-Set Cmp Expr Primary Sum Unary Post Set Meaning Meaning Meaning Meaning Meaning
      Meaning SetMeaning
      cmp_told expr_told prim_told sum_told unary_told post_told set_told x =
      set_layers (λ x. (cmp_told x.0, x.1)) (λ x. (expr_told x.0, x.1)) (λ x. (prim_told x.0, x.1))
      (λ x. (sum_told x.0, x.1)) (λ x. (unary_told x.0, x.1)) (λ x. (post_told x.0, x.1))
      (λ x. (set_told x.0, x.1))
      (λ (m : Held Q). m.0) (λ (m : Held Q). m.0) (λ (m : Held Q). m.0) (λ (m : Held Q). m.0) (λ (m : Held Q). m.0)
      (λ (m : Held Q). m.0) (λ (m : HeldSet Q). m.0) y
      ∙ sym (set_layers (λ x. x.0) (λ x. x.0) (λ x. x.0) (λ x. x.0) (λ x. x.0) (λ x. x.0) (λ x. x.0)
      cmp_told expr_told prim_told sum_told unary_told post_told set_told y)
      ∙ ap (map-Set Cmp Expr Primary Sum Unary Post Set Meaning Meaning Meaning Meaning Meaning Meaning SetMeaning
      cmp_told expr_told prim_told sum_told unary_told post_told set_told) is in
      subst (λ (m : SetMeaning). Q m.2) (ap set_step same
      ∙ sym (fold-roll-Set Meaning Meaning Meaning Meaning Meaning Meaning SetMeaning
      cmp_step expr_step prim_step sum_step unary_step post_step set_step x)) (k.sets z))
