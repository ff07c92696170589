-- Of two symbols that have types, one stands before the other, or they are one.
use Rattle.std.proofs.Common.{◌≡◌, ◌==◌, ltb, ℕ, Bool, true, false, ◌&&◌, ◌||◌, List, [], ◌∷◌}
use Rattle.std.proofs.Common.{Option, Some, None, refl, sym, ap, ◌∙◌, subst, arith}
use Rattle.std.proofs.lemmas.Bool.Decides.{nat_tests}
use Rattle.cm_model.specs.Tables.{Tables}
use Rattle.cm_model.specs.declared.ty.Ty.{Ty, out-Ty}
use Rattle.cm_model.specs.declared.ty.Ty.TheOpen.{Ty-F}
use Rattle.cm_model.specs.declared.pair.Pair.{Pair}
use Rattle.cm_term.specs.declared.symbol.Step.{Step}
use Rattle.cm_term.specs.declared.symbol.Step.TheVariants as step
use Rattle.cm_term.specs.declared.symbol.Root.{Root}
use Rattle.cm_term.specs.declared.symbol.Root.TheVariants as root
use Rattle.cm_term.specs.declared.symbol.Sym.{Sym}
use Rattle.cm_cond.specs.declared.cell.CellTerm.{CellTerm}
use Rattle.cm_cond.specs.Typing.{type_in, type_along, type_of_part, field, payload_type, root_type, symbol_type}
use Rattle.cm_cond.specs.Form.{root_before, same_root, step_number, path_before, is_before}

not_or : (a b : Bool) → (a || b) ≡ false → (a ≡ false) × (b ≡ false)
not_or true b h = absurd (cc)
not_or false b h = (refl, h)

one_number : (m n : ℕ) → ltb m n ≡ false → ltb n m ≡ false → m ≡ n
one_number m n a b = grind (arith, nat_tests, a, b)

same_number : (m n : ℕ) → m ≡ n → (m == n) ≡ true
same_number m n e = grind (arith, nat_tests, e)

module _ (t : Tables) where
  -- a value has fields or a payload
  one_step : (u : Ty) (r s : Step) (a b : Ty) → type_in t r u ≡ Some a → type_in t s u ≡ Some b
      → step_number r ≡ step_number s → r ≡ s
  one_step u (step.Field i) (step.Field j) a b x y e = ap step.Field e
  one_step u step.Payload step.Payload a b x y e = refl
  one_step u (step.Field i) step.Payload a b x y e = by (out-Ty u) x y
    where
      by : (z : Ty-F Ty) → type_of_part (field t z i) ≡ Some a → payload_type z ≡ Some b → step.Field i ≡ step.Payload
      by (Ty-F.Rec r) h k = absurd (cc)
      by (Ty-F.Option w) h k = absurd (cc)
      by (Ty-F.Sort r) h k = absurd (cc)
      by (Ty-F.Int r) h k = absurd (cc)
      by (Ty-F.Enum r) h k = absurd (cc)
  one_step u step.Payload (step.Field j) a b x y e = by (out-Ty u) x y
    where
      by : (z : Ty-F Ty) → payload_type z ≡ Some a → type_of_part (field t z j) ≡ Some b → step.Payload ≡ step.Field j
      by (Ty-F.Rec r) h k = absurd (cc)
      by (Ty-F.Option w) h k = absurd (cc)
      by (Ty-F.Sort r) h k = absurd (cc)
      by (Ty-F.Int r) h k = absurd (cc)
      by (Ty-F.Enum r) h k = absurd (cc)

  none_along : (ss : List Step) (a : Ty) → type_along t ss None ≡ Some a → ⊥
  none_along [] a h = cc
  none_along (s ∷ ss) a h = cc

  one_path : (ss rs : List Step) (u a b : Ty) → type_along t ss (Some u) ≡ Some a → type_along t rs (Some u) ≡ Some b
      → path_before ss rs ≡ false → path_before rs ss ≡ false → ss ≡ rs
  one_path [] [] u a b x y h k = refl
  one_path [] (r ∷ rs) u a b x y h k = absurd (cc)
  one_path (s ∷ ss) [] u a b x y h k = absurd (cc)
  one_path (s ∷ ss) (r ∷ rs) u a b x y h k =
      let p = not_or (ltb (step_number s) (step_number r)) _ h in
      let q = not_or (ltb (step_number r) (step_number s)) _ k in
      let same = one_number (step_number s) (step_number r) p.0 q.0 in
      both (type_in t s u) refl (type_in t r u) refl
      (sym (ap (λ c. c && path_before ss rs) (same_number _ _ same)) ∙ p.1)
      (sym (ap (λ c. c && path_before rs ss) (same_number _ _ (sym same))) ∙ q.1) same (λ w h k. one_path ss rs w a b h k)
    where
      both : (o : Option Ty) → type_in t s u ≡ o → (e : Option Ty) → type_in t r u ≡ e → path_before ss rs ≡ false
          → path_before rs ss ≡ false → step_number s ≡ step_number r
          → ((w : Ty) → type_along t ss (Some w) ≡ Some a → type_along t rs (Some w) ≡ Some b
          → path_before ss rs ≡ false → path_before rs ss ≡ false → ss ≡ rs) → s ∷ ss ≡ r ∷ rs
      both None is e at f g same rest = absurd (none_along ss a (sym (ap (type_along t ss) is) ∙ x))
      both (Some w) is None at f g same rest = absurd (none_along rs b (sym (ap (type_along t rs) at) ∙ y))
      both (Some w) is (Some z) at f g same rest =
          let one = one_step u s r w z is at same in
          let type_ : Some w ≡ Some z = sym is ∙ ap (λ st. type_in t st u) one ∙ at in
          let types : z ≡ w = cc in
          ap (λ st. st ∷ ss) one
          ∙ ap (λ ps. r ∷ ps) (rest w (sym (ap (type_along t ss) is) ∙ x)
          (ap (λ n. type_along t rs (Some n)) (sym types) ∙ sym (ap (type_along t rs) at) ∙ y) f g)

  one_root : (r s : Root) → root_before r s ≡ false → root_before s r ≡ false → r ≡ s
  one_root (root.A i) (root.A j) h k = ap root.A (one_number i j h k)
  one_root (root.B i) (root.B j) h k = ap root.B (one_number i j h k)
  one_root (root.Cell i) (root.Cell j) h k = ap root.Cell (one_number i j h k)
  one_root (root.A i) (root.B j) h k = absurd (cc)
  one_root (root.A i) (root.Cell j) h k = absurd (cc)
  one_root (root.B i) (root.A j) h k = absurd (cc)
  one_root (root.B i) (root.Cell j) h k = absurd (cc)
  one_root (root.Cell i) (root.A j) h k = absurd (cc)
  one_root (root.Cell i) (root.B j) h k = absurd (cc)

  is_same_root : (r s : Root) → r ≡ s → same_root r s ≡ true
  is_same_root r s e = subst (λ q. same_root r q ≡ true) e (by r)
    where
      by : (r : Root) → same_root r r ≡ true
      by (root.A i) = same_number i i refl
      by (root.B i) = same_number i i refl
      by (root.Cell i) = same_number i i refl

  pub one_symbol : (p : Pair) (cells : List CellTerm) (x y : Sym) (a b : Ty) → symbol_type t p cells x ≡ Some a
      → symbol_type t p cells y ≡ Some b → is_before x y ≡ false → is_before y x ≡ false → x ≡ y
  one_symbol p cells x y a b tx ty h k =
      let f = not_or (root_before x.root y.root) _ h in
      let g = not_or (root_before y.root x.root) _ k in
      let same = one_root x.root y.root f.0 g.0 in
      by (root_type t p cells x.root) refl same
      (sym (ap (λ c. c && path_before x.path y.path) (is_same_root _ _ same)) ∙ f.1)
      (sym (ap (λ c. c && path_before y.path x.path) (is_same_root _ _ (sym same))) ∙ g.1)
    where
      by : (o : Option Ty) → root_type t p cells x.root ≡ o → x.root ≡ y.root → path_before x.path y.path ≡ false
          → path_before y.path x.path ≡ false → x ≡ y
      by None is same f g = absurd (none_along x.path a (sym (ap (type_along t x.path) is) ∙ tx))
      by (Some u) is same f g =
          let path = one_path x.path y.path u a b (sym (ap (type_along t x.path) is) ∙ tx)
          (sym (ap (type_along t y.path) (sym (ap (root_type t p cells) same) ∙ is)) ∙ ty) f g in
          ap (λ r. record { root = r; path = x.path }) same ∙ ap (λ q. record { root = y.root; path = q }) path
