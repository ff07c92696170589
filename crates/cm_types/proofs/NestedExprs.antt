-- An expression of a text has at most 65 shifts one inside another: a bracket stands around each but one.
use Rattle.std.proofs.Common.{◌≡◌, ℕ, ◌+◌, ◌≤◌, pos, neg_ℤ, List, [], ◌∷◌, map, sym, subst, arith}
use Rattle.cm_model.specs.Weights.{shifts_step, shifts_of}
use Rattle.cm_model.specs.declared.body.Expr.TheOpen.{SetField-F}
use Rattle.cm_tokens.specs.declared.token.Token.{Token}
use Rattle.cm_tokens.specs.declared.token.Token.TheVariants as token
use Rattle.cm_syntax.specs.Form.{Form, each_after}
use Rattle.cm_syntax.specs.Spelling as spelled
use Rattle.cm_syntax.specs.Spelling.{names_after, listed, num_form, type_form, relation_token}
use Rattle.cm_syntax.specs.declared.tree.Cmp.{Cmp}
use Rattle.cm_syntax.specs.declared.tree.Expr.{Expr}
use Rattle.cm_syntax.specs.declared.tree.Primary.{Primary}
use Rattle.cm_syntax.specs.declared.tree.Sum.{Sum}
use Rattle.cm_syntax.specs.declared.tree.Unary.{Unary}
use Rattle.cm_syntax.specs.declared.tree.Post.{Post}
use Rattle.cm_syntax.specs.declared.tree.Set.{Set}
use Rattle.cm_syntax.specs.declared.tree.Cmp.TheViews.{roll-Cmp, roll-Expr, roll-Primary, roll-Sum, roll-Unary}
use Rattle.cm_syntax.specs.declared.tree.Cmp.TheViews.{roll-Post, roll-Set}
use Rattle.cm_syntax.specs.declared.tree.Cmp.TheOpen as layer
use Rattle.cm_syntax.specs.declared.tree.Cmp.TheFolds.{ind-Expr, fold-roll-Cmp, fold-roll-Expr, fold-roll-Primary}
use Rattle.cm_syntax.specs.declared.tree.Cmp.TheFolds.{fold-roll-Sum, fold-roll-Unary, fold-roll-Post, fold-roll-Set}
use Rattle.cm_syntax.specs.declared.tree.Cmp.TheFolds.{map-Cmp, map-Expr, map-Primary, map-Sum, map-Unary, map-Post}
use Rattle.cm_syntax.specs.declared.tree.Cmp.TheFolds.{map-Set}
use Rattle.cm_typing.specs.declared.scope.Scope.{Scope}
use Rattle.cm_typing.specs.Names.{Names, look, it_name}
use Rattle.cm_typing.specs.Flats.{ty_of}
use Rattle.cm_typing.specs.Types.{type_told}
use Rattle.cm_typing.specs.Expressions as told
use Rattle.cm_typing.specs.Expressions.{Meaning, SetMeaning, named, map_told, no_path, path_told, number_in, op_of}
use Rattle.cm_types.proofs.Items.{Each, each_as}
use Rattle.cm_types.proofs.ModelForms as forms
use Rattle.cm_types.proofs.ShiftsTold.{none_in_value, none_in_it, none_low, same_low, both_low, IsLow, operands_are_low}
use Rattle.cm_types.proofs.ShiftsTold.{apply_low, path_low, with_low}
use Rattle.cm_types.proofs.Passing.{Fine, opened, closed, name_passed, num_passes, relation_passed, names_passed}
use Rattle.cm_types.proofs.Passing.{type_passes, held, after_gives, listed_gives}

abbrev value_of_set : SetField-F ℕ ℕ → ℕ
value_of_set x = x.value

-- what is written and what is told: with n brackets open, so many shifts at most
abbrev pub Nests : ℕ → (List Token → List Token) → Meaning → Type 0
Nests k w m = (n : ℕ) (ts : List Token) → n ≤ 64 → Fine n (w ts) → IsLow k n m × Fine n ts

abbrev CmpNests : Cmp → Type 0
CmpNests x = Nests 65 (spelled.cmp_form x).writes (told.cmp_told x)

abbrev KC : Type 0
KC = (x : Cmp) × CmpNests x

abbrev pub ExprNests : Expr → Type 0
ExprNests x = Nests 65 (spelled.expr_form x).writes (told.expr_told x)

abbrev KE : Type 0
KE = (x : Expr) × ExprNests x

abbrev PrimaryNests : Primary → Type 0
PrimaryNests x = Nests 64 (spelled.prim_form x).writes (told.prim_told x)

abbrev KP : Type 0
KP = (x : Primary) × PrimaryNests x

abbrev SumNests : Sum → Type 0
SumNests x = Nests 65 (spelled.sum_form x).writes (told.sum_told x)

abbrev KS : Type 0
KS = (x : Sum) × SumNests x

abbrev UnaryNests : Unary → Type 0
UnaryNests x = Nests 64 (spelled.unary_form x).writes (told.unary_told x)

abbrev KU : Type 0
KU = (x : Unary) × UnaryNests x

abbrev PostNests : Post → Type 0
PostNests x = Nests 64 (spelled.post_form x).writes (told.post_told x)

abbrev KO : Type 0
KO = (x : Post) × PostNests x

abbrev SetNests : Set → Type 0
SetNests x = Nests 65 (spelled.set_form x).writes (told.set_told x).2

abbrev KW : Type 0
KW = (x : Set) × SetNests x

abbrev bare_cmp : layer.Cmp-F KC KE KP KS KU KO KW → layer.Cmp-F Cmp Expr Primary Sum Unary Post Set
bare_cmp = map-Cmp KC KE KP KS KU KO KW Cmp Expr Primary Sum Unary Post Set (λ k. k.0) (λ k. k.0) (λ k. k.0)
    (λ k. k.0) (λ k. k.0) (λ k. k.0) (λ k. k.0)

abbrev CmpLayerNests : layer.Cmp-F Cmp Expr Primary Sum Unary Post Set → Type 0
CmpLayerNests x =
    Nests 65 (spelled.cmp_step (map-Cmp Cmp Expr Primary Sum Unary Post Set (Form Cmp) (Form Expr) (Form Primary)
    (Form Sum) (Form Unary) (Form Post) (Form Set)
    spelled.cmp_form spelled.expr_form spelled.prim_form spelled.sum_form spelled.unary_form spelled.post_form
    spelled.set_form x)).writes
    (told.cmp_step (map-Cmp Cmp Expr Primary Sum Unary Post Set Meaning Meaning Meaning Meaning Meaning Meaning
    SetMeaning
    told.cmp_told told.expr_told told.prim_told told.sum_told told.unary_told told.post_told told.set_told x))

abbrev bare_expr : layer.Expr-F KC KE KP KS KU KO KW → layer.Expr-F Cmp Expr Primary Sum Unary Post Set
bare_expr = map-Expr KC KE KP KS KU KO KW Cmp Expr Primary Sum Unary Post Set (λ k. k.0) (λ k. k.0) (λ k. k.0)
    (λ k. k.0) (λ k. k.0) (λ k. k.0) (λ k. k.0)

abbrev ExprLayerNests : layer.Expr-F Cmp Expr Primary Sum Unary Post Set → Type 0
ExprLayerNests x =
    Nests 65 (spelled.expr_step (map-Expr Cmp Expr Primary Sum Unary Post Set (Form Cmp) (Form Expr) (Form Primary)
    (Form Sum) (Form Unary) (Form Post) (Form Set)
    spelled.cmp_form spelled.expr_form spelled.prim_form spelled.sum_form spelled.unary_form spelled.post_form
    spelled.set_form x)).writes
    (told.expr_step (map-Expr Cmp Expr Primary Sum Unary Post Set Meaning Meaning Meaning Meaning Meaning Meaning
    SetMeaning
    told.cmp_told told.expr_told told.prim_told told.sum_told told.unary_told told.post_told told.set_told x))

abbrev bare_prim : layer.Primary-F KC KE KP KS KU KO KW → layer.Primary-F Cmp Expr Primary Sum Unary Post Set
bare_prim = map-Primary KC KE KP KS KU KO KW Cmp Expr Primary Sum Unary Post Set (λ k. k.0) (λ k. k.0) (λ k. k.0)
    (λ k. k.0) (λ k. k.0) (λ k. k.0) (λ k. k.0)

abbrev PrimaryLayerNests : layer.Primary-F Cmp Expr Primary Sum Unary Post Set → Type 0
PrimaryLayerNests x =
    Nests 64 (spelled.prim_step (map-Primary Cmp Expr Primary Sum Unary Post Set (Form Cmp) (Form Expr) (Form Primary)
    (Form Sum) (Form Unary) (Form Post) (Form Set)
    spelled.cmp_form spelled.expr_form spelled.prim_form spelled.sum_form spelled.unary_form spelled.post_form
    spelled.set_form x)).writes
    (told.prim_step (map-Primary Cmp Expr Primary Sum Unary Post Set Meaning Meaning Meaning Meaning Meaning Meaning
    SetMeaning
    told.cmp_told told.expr_told told.prim_told told.sum_told told.unary_told told.post_told told.set_told x))

abbrev bare_sum : layer.Sum-F KC KE KP KS KU KO KW → layer.Sum-F Cmp Expr Primary Sum Unary Post Set
bare_sum = map-Sum KC KE KP KS KU KO KW Cmp Expr Primary Sum Unary Post Set (λ k. k.0) (λ k. k.0) (λ k. k.0)
    (λ k. k.0) (λ k. k.0) (λ k. k.0) (λ k. k.0)

abbrev SumLayerNests : layer.Sum-F Cmp Expr Primary Sum Unary Post Set → Type 0
SumLayerNests x =
    Nests 65 (spelled.sum_step (map-Sum Cmp Expr Primary Sum Unary Post Set (Form Cmp) (Form Expr) (Form Primary)
    (Form Sum) (Form Unary) (Form Post) (Form Set)
    spelled.cmp_form spelled.expr_form spelled.prim_form spelled.sum_form spelled.unary_form spelled.post_form
    spelled.set_form x)).writes
    (told.sum_step (map-Sum Cmp Expr Primary Sum Unary Post Set Meaning Meaning Meaning Meaning Meaning Meaning
    SetMeaning
    told.cmp_told told.expr_told told.prim_told told.sum_told told.unary_told told.post_told told.set_told x))

abbrev bare_unary : layer.Unary-F KC KE KP KS KU KO KW → layer.Unary-F Cmp Expr Primary Sum Unary Post Set
bare_unary = map-Unary KC KE KP KS KU KO KW Cmp Expr Primary Sum Unary Post Set (λ k. k.0) (λ k. k.0) (λ k. k.0)
    (λ k. k.0) (λ k. k.0) (λ k. k.0) (λ k. k.0)

abbrev UnaryLayerNests : layer.Unary-F Cmp Expr Primary Sum Unary Post Set → Type 0
UnaryLayerNests x =
    Nests 64 (spelled.unary_step (map-Unary Cmp Expr Primary Sum Unary Post Set (Form Cmp) (Form Expr) (Form Primary)
    (Form Sum) (Form Unary) (Form Post) (Form Set)
    spelled.cmp_form spelled.expr_form spelled.prim_form spelled.sum_form spelled.unary_form spelled.post_form
    spelled.set_form x)).writes
    (told.unary_step (map-Unary Cmp Expr Primary Sum Unary Post Set Meaning Meaning Meaning Meaning Meaning Meaning
    SetMeaning
    told.cmp_told told.expr_told told.prim_told told.sum_told told.unary_told told.post_told told.set_told x))

abbrev bare_post : layer.Post-F KC KE KP KS KU KO KW → layer.Post-F Cmp Expr Primary Sum Unary Post Set
bare_post = map-Post KC KE KP KS KU KO KW Cmp Expr Primary Sum Unary Post Set (λ k. k.0) (λ k. k.0) (λ k. k.0)
    (λ k. k.0) (λ k. k.0) (λ k. k.0) (λ k. k.0)

abbrev PostLayerNests : layer.Post-F Cmp Expr Primary Sum Unary Post Set → Type 0
PostLayerNests x =
    Nests 64 (spelled.post_step (map-Post Cmp Expr Primary Sum Unary Post Set (Form Cmp) (Form Expr) (Form Primary)
    (Form Sum) (Form Unary) (Form Post) (Form Set)
    spelled.cmp_form spelled.expr_form spelled.prim_form spelled.sum_form spelled.unary_form spelled.post_form
    spelled.set_form x)).writes
    (told.post_step (map-Post Cmp Expr Primary Sum Unary Post Set Meaning Meaning Meaning Meaning Meaning Meaning
    SetMeaning
    told.cmp_told told.expr_told told.prim_told told.sum_told told.unary_told told.post_told told.set_told x))

abbrev bare_set : layer.Set-F KC KE KP KS KU KO KW → layer.Set-F Cmp Expr Primary Sum Unary Post Set
bare_set = map-Set KC KE KP KS KU KO KW Cmp Expr Primary Sum Unary Post Set (λ k. k.0) (λ k. k.0) (λ k. k.0)
    (λ k. k.0) (λ k. k.0) (λ k. k.0) (λ k. k.0)

abbrev SetLayerNests : layer.Set-F Cmp Expr Primary Sum Unary Post Set → Type 0
SetLayerNests x =
    Nests 65 (spelled.set_step (map-Set Cmp Expr Primary Sum Unary Post Set (Form Cmp) (Form Expr) (Form Primary)
    (Form Sum) (Form Unary) (Form Post) (Form Set)
    spelled.cmp_form spelled.expr_form spelled.prim_form spelled.sum_form spelled.unary_form spelled.post_form
    spelled.set_form x)).writes
    (told.set_step (map-Set Cmp Expr Primary Sum Unary Post Set Meaning Meaning Meaning Meaning Meaning Meaning
    SetMeaning
    told.cmp_told told.expr_told told.prim_told told.sum_told told.unary_told told.post_told told.set_told x)).2

-- what is low behind a bracket is lower in front of it
lowered : (x n : ℕ) → x + (n + 1) ≤ 65 → x + n ≤ 64
lowered x n h = omega (arith, h)

fits : (n : ℕ) → n ≤ 64 → n ≤ 65
fits n le = omega (arith, le)

raised : (x n : ℕ) → x + n ≤ 64 → x + n ≤ 65
raised x n h = omega (arith, h)

shifted : (x y n : ℕ) → x ≡ 1 + y → y + n ≤ 64 → x + n ≤ 65
shifted x y n e h = omega (arith, e, h)

all_lowered : (n : ℕ) (ms : List Meaning) → Each (IsLow 65 (n + 1)) ms → Each (IsLow 64 n) ms
all_lowered n = each_as (IsLow 65 (n + 1)) (IsLow 64 n) (λ m h s l. lowered (shifts_of (m s l).0.expr) n (h s l))

prim_nests : (y : layer.Primary-F KC KE KP KS KU KO KW) → PrimaryLayerNests (bare_prim y)
prim_nests (layer.Number p x) n ts le h =
    (λ s l. none_low _ n 64 (forms.of_Num shifts_step value_of_set (number_in x)) le, num_passes x n ts le h)
prim_nests (layer.True p) n ts le h = (λ s l. none_low _ n 64 (forms.of_Tag shifts_step value_of_set 0 1) le, h)
prim_nests (layer.False p) n ts le h = (λ s l. none_low _ n 64 (forms.of_Tag shifts_step value_of_set 0 0) le, h)
prim_nests (layer.It p) n ts le h = (λ s l. none_low _ n 64 (none_in_it p (look it_name l)) le, h)
prim_nests (layer.Name p x) n ts le h =
    (λ s l. none_low _ n 64 (none_in_value p (named p x s l).0) le, (name_passed n x ts h).1)
prim_nests (layer.Entry p x k) n ts le h =
    let inner = (spelled.expr_form k.0).writes (token.CloseSquare ∷ ts) in
    let q = name_passed n x (token.OpenSquare ∷ inner) h in
    let o = opened n inner q.1 in
    let a = k.1 (n + 1) (token.CloseSquare ∷ ts) o.0 o.1 in (
      λ s l. same_low _ _ n 64 (forms.of_Entry shifts_step value_of_set (map_told p x s l).0.state
          (told.expr_told k.0 s l).0.expr)
          (lowered (shifts_of (told.expr_told k.0 s l).0.expr) n (a.0 s l)),
      closed n ts a.1,
    )
prim_nests (layer.Apply p x ks) n ts le h =
    let es = map (λ (k : KE). k.0) ks in
    let inner = (listed (map spelled.expr_form es)).writes (token.CloseRound ∷ ts) in
    let q = name_passed n x (token.OpenRound ∷ inner) h in
    let o = opened n inner q.1 in
    let a = listed_gives (IsLow 65) spelled.expr_form told.expr_told es (held ExprNests ks) (n + 1)
    (token.CloseRound ∷ ts) o.0 o.1 in (
      λ s l. apply_low 64 n le s l p (named p x s l).0 (named p x s l).1 (map told.expr_told es)
          (all_lowered n (map told.expr_told es) a.0),
      closed n ts a.1,
    )
prim_nests (layer.NoneOf p t) n ts le h =
    let o = opened n ((type_form t).writes (token.CloseRound ∷ ts)) h in (
      λ s l. none_low _ n 64 (forms.of_NoneOf shifts_step value_of_set (ty_of (type_told t s.names).0)) le,
      closed n ts (type_passes t (n + 1) (token.CloseRound ∷ ts) o.0 o.1),
    )
prim_nests (layer.SomeOf p k) n ts le h =
    let o = opened n ((spelled.expr_form k.0).writes (token.CloseRound ∷ ts)) h in
    let a = k.1 (n + 1) (token.CloseRound ∷ ts) o.0 o.1 in (
      λ s l. same_low _ _ n 64 (forms.of_SomeOf shifts_step value_of_set (told.expr_told k.0 s l).0.expr)
          (lowered (shifts_of (told.expr_told k.0 s l).0.expr) n (a.0 s l)),
      closed n ts a.1,
    )
prim_nests (layer.Group p k) n ts le h =
    let o = opened n ((spelled.expr_form k.0).writes (token.CloseRound ∷ ts)) h in
    let a = k.1 (n + 1) (token.CloseRound ∷ ts) o.0 o.1 in
    (λ s l. lowered (shifts_of (told.expr_told k.0 s l).0.expr) n (a.0 s l), closed n ts a.1)

set_nests : (y : layer.Set-F KC KE KP KS KU KO KW) → SetLayerNests (bare_set y)
set_nests y n ts le h = y.value.1 n ts le (name_passed n y.field
    (token.Colon ∷ (spelled.expr_form y.value.0).writes ts) h).1

-- sets behind `with`, or none
sets_nest : (ks : List KW) (n : ℕ) (ts : List Token) → n ≤ 64
    → Fine n ((spelled.sets_form (map spelled.set_form (map (λ k. k.0) ks))).writes ts)
    → Each (λ m. IsLow 64 n m.2) (map told.set_told (map (λ k. k.0) ks)) × Fine n ts
sets_nest [] n ts le h = (tt, h)
sets_nest (k ∷ ks) n ts le h =
    let xs = map (λ (z : KW). z.0) ks in
    let rest = (each_after token.Comma (map spelled.set_form xs)).writes (token.CloseCurly ∷ ts) in
    let o = opened n ((spelled.set_form k.0).writes rest) h in
    let a = k.1 (n + 1) rest o.0 o.1 in
    let c = after_gives (λ n (m : SetMeaning). IsLow 65 n m.2) spelled.set_form told.set_told token.Comma
    (λ n ts h. h) xs (held SetNests ks) (n + 1)
    (token.CloseCurly ∷ ts) o.0 a.1 in
    let lower = λ (m : SetMeaning) (h : IsLow 65 (n + 1) m.2) (s : Scope) (l : Names). lowered
    (shifts_of (m.2 s l).0.expr) n (h s l) in (
      (
        lower (told.set_told k.0) a.0,
        each_as (λ (m : SetMeaning). IsLow 65 (n + 1) m.2) (λ m. IsLow 64 n m.2) lower
            (map told.set_told xs) c.0,
      ),
      closed n ts c.1,
    )

post_nests : (y : layer.Post-F KC KE KP KS KU KO KW) → PostLayerNests (bare_post y)
post_nests y n ts le h =
    let sets = map (λ (k : KW). k.0) y.sets in
    let rest = (spelled.sets_form (map spelled.set_form sets)).writes ts in
    let p = y.prim.1 n (names_after token.Dot y.fields rest) le h in
    let q = names_passed token.Dot (λ n ts h. h) y.fields n rest p.1 in
    let a = sets_nest y.sets n ts le q.1 in (
      λ s l.
          let v = (told.prim_told y.prim.0 s l).0 in
          let path = (path_told y.at (no_path v.kind) y.fields s).0 in
          with_low 64 n le s l (told.at_path v path) (map told.set_told sets) (path_low 64 n le s l v.expr path.path
          (p.0 s l)) a.0,
      a.1,
    )

unary_nests : (y : layer.Unary-F KC KE KP KS KU KO KW) → UnaryLayerNests (bare_unary y)
unary_nests (layer.Bare p k) n ts le h = k.1 n ts le h
unary_nests (layer.Not p k) n ts le h =
    let a = k.1 n ts le h in
    (λ s l. same_low _ _ n 64 (forms.of_Not shifts_step value_of_set (told.post_told k.0 s l).0.expr) (a.0 s l), a.1)

sum_nests : (y : layer.Sum-F KC KE KP KS KU KO KW) → SumLayerNests (bare_sum y)
sum_nests (layer.Term p k) n ts le h = let a = k.1 n ts le h in (λ s l. raised _ n (a.0 s l), a.1)
sum_nests (layer.Plus p k x) n ts le h =
    let a = k.1 n (token.Plus ∷ token.Number x ∷ ts) le h in (
      λ s l. shifted _ _ n (forms.of_Shift shifts_step value_of_set (told.unary_told k.0 s l).0.expr (pos x))
          (a.0 s l),
      a.1,
    )
sum_nests (layer.Minus p k x) n ts le h =
    let a = k.1 n (token.Minus ∷ token.Number x ∷ ts) le h in (
      λ s l. shifted _ _ n (forms.of_Shift shifts_step value_of_set (told.unary_told k.0 s l).0.expr (neg_ℤ (pos x)))
          (a.0 s l),
      a.1,
    )

cmp_nests : (y : layer.Cmp-F KC KE KP KS KU KO KW) → CmpLayerNests (bare_cmp y)
cmp_nests (layer.Side p k) n ts le h = k.1 n ts le h
cmp_nests (layer.Compared p k r j) n ts le h =
    let rest = (spelled.sum_form j.0).writes ts in
    let a = k.1 n (relation_token r ∷ rest) le h in
    let c = j.1 n ts le (relation_passed r n rest a.1) in (
      λ s l.
          let v = (told.sum_told k.0 s l).0.expr in
          let w = (told.sum_told j.0 s l).0.expr in
          same_low _ _ n 65 (forms.of_Compare shifts_step value_of_set (op_of r) v w) (both_low (shifts_of v)
          (shifts_of w) n 65 (a.0 s l) (c.0 s l)),
      c.1,
    )

-- comparisons with a word between them
joined_nest : (t : Token) → ((n : ℕ) (ts : List Token) → Fine n (t ∷ ts) → Fine n ts) → (k j : KC) (ks : List KC)
    (n : ℕ) (ts : List Token) → n ≤ 64
    → Fine n ((spelled.cmp_form k.0).writes (t ∷ (spelled.cmp_form j.0).writes
    ((each_after t (map spelled.cmp_form (map (λ k. k.0) ks))).writes ts)))
    → Each (IsLow 65 n) (told.cmp_told k.0 ∷ told.cmp_told j.0 ∷ map told.cmp_told (map (λ k. k.0) ks)) × Fine n ts
joined_nest t pass k j ks n ts le h =
    let xs = map (λ (z : KC). z.0) ks in
    let rest = (each_after t (map spelled.cmp_form xs)).writes ts in
    let next = (spelled.cmp_form j.0).writes rest in
    let a = k.1 n (t ∷ next) le h in
    let b = j.1 n rest le (pass n next a.1) in
    let c = after_gives (IsLow 65) spelled.cmp_form told.cmp_told t pass xs (held CmpNests ks) n ts le b.1 in
    ((a.0, (b.0, c.0)), c.1)

expr_layer_nests : (y : layer.Expr-F KC KE KP KS KU KO KW) → ExprLayerNests (bare_expr y)
expr_layer_nests (layer.Single p k) n ts le h = k.1 n ts le h
expr_layer_nests (layer.All p k j ks) n ts le h =
    let a = joined_nest token.And (λ n ts h. h) k j ks n ts le h in
    let ms = told.cmp_told k.0 ∷ told.cmp_told j.0 ∷ map told.cmp_told (map (λ (z : KC). z.0) ks) in (
      λ s l. same_low _ _ n 65 (forms.of_All shifts_step value_of_set (told.operands_told [] ms s l).0)
          (operands_are_low 65 n (fits n le) s l ms a.0),
      a.1,
    )
expr_layer_nests (layer.Any p k j ks) n ts le h =
    let a = joined_nest token.Or (λ n ts h. h) k j ks n ts le h in
    let ms = told.cmp_told k.0 ∷ told.cmp_told j.0 ∷ map told.cmp_told (map (λ (z : KC). z.0) ks) in (
      λ s l. same_low _ _ n 65 (forms.of_Any shifts_step value_of_set (told.operands_told [] ms s l).0)
          (operands_are_low 65 n (fits n le) s l ms a.0),
      a.1,
    )

cmp_rolled : (x : layer.Cmp-F Cmp Expr Primary Sum Unary Post Set) → CmpLayerNests x → CmpNests (roll-Cmp x)
cmp_rolled x h =
    subst (λ (f : Form Cmp). Nests 65 f.writes (told.cmp_told (roll-Cmp x)))
    (sym (fold-roll-Cmp (Form Cmp) (Form Expr) (Form Primary) (Form Sum) (Form Unary) (Form Post) (Form Set)
    spelled.cmp_step spelled.expr_step spelled.prim_step spelled.sum_step spelled.unary_step spelled.post_step
    spelled.set_step x))
    (subst (λ (m : Meaning). Nests 65 (spelled.cmp_step (map-Cmp Cmp Expr Primary Sum Unary Post Set (Form Cmp)
    (Form Expr) (Form Primary) (Form Sum) (Form Unary) (Form Post) (Form Set)
    spelled.cmp_form spelled.expr_form spelled.prim_form spelled.sum_form spelled.unary_form spelled.post_form
    spelled.set_form x)).writes m) (sym (fold-roll-Cmp Meaning Meaning Meaning Meaning Meaning Meaning SetMeaning
    told.cmp_step told.expr_step told.prim_step told.sum_step told.unary_step told.post_step told.set_step x)) h)

expr_rolled : (x : layer.Expr-F Cmp Expr Primary Sum Unary Post Set) → ExprLayerNests x → ExprNests (roll-Expr x)
expr_rolled x h =
    subst (λ (f : Form Expr). Nests 65 f.writes (told.expr_told (roll-Expr x)))
    (sym (fold-roll-Expr (Form Cmp) (Form Expr) (Form Primary) (Form Sum) (Form Unary) (Form Post) (Form Set)
    spelled.cmp_step spelled.expr_step spelled.prim_step spelled.sum_step spelled.unary_step spelled.post_step
    spelled.set_step x))
    (subst (λ (m : Meaning). Nests 65 (spelled.expr_step (map-Expr Cmp Expr Primary Sum Unary Post Set (Form Cmp)
    (Form Expr) (Form Primary) (Form Sum) (Form Unary) (Form Post) (Form Set)
    spelled.cmp_form spelled.expr_form spelled.prim_form spelled.sum_form spelled.unary_form spelled.post_form
    spelled.set_form x)).writes m) (sym (fold-roll-Expr Meaning Meaning Meaning Meaning Meaning Meaning SetMeaning
    told.cmp_step told.expr_step told.prim_step told.sum_step told.unary_step told.post_step told.set_step x)) h)

prim_rolled : (x : layer.Primary-F Cmp Expr Primary Sum Unary Post Set) → PrimaryLayerNests x
    → PrimaryNests (roll-Primary x)
prim_rolled x h =
    subst (λ (f : Form Primary). Nests 64 f.writes (told.prim_told (roll-Primary x)))
    (sym (fold-roll-Primary (Form Cmp) (Form Expr) (Form Primary) (Form Sum) (Form Unary) (Form Post) (Form Set)
    spelled.cmp_step spelled.expr_step spelled.prim_step spelled.sum_step spelled.unary_step spelled.post_step
    spelled.set_step x))
    (subst (λ (m : Meaning). Nests 64 (spelled.prim_step (map-Primary Cmp Expr Primary Sum Unary Post Set (Form Cmp)
    (Form Expr) (Form Primary) (Form Sum) (Form Unary) (Form Post) (Form Set)
    spelled.cmp_form spelled.expr_form spelled.prim_form spelled.sum_form spelled.unary_form spelled.post_form
    spelled.set_form x)).writes m) (sym (fold-roll-Primary Meaning Meaning Meaning Meaning Meaning Meaning
    SetMeaning
    told.cmp_step told.expr_step told.prim_step told.sum_step told.unary_step told.post_step told.set_step x)) h)

sum_rolled : (x : layer.Sum-F Cmp Expr Primary Sum Unary Post Set) → SumLayerNests x → SumNests (roll-Sum x)
sum_rolled x h =
    subst (λ (f : Form Sum). Nests 65 f.writes (told.sum_told (roll-Sum x)))
    (sym (fold-roll-Sum (Form Cmp) (Form Expr) (Form Primary) (Form Sum) (Form Unary) (Form Post) (Form Set)
    spelled.cmp_step spelled.expr_step spelled.prim_step spelled.sum_step spelled.unary_step spelled.post_step
    spelled.set_step x))
    (subst (λ (m : Meaning). Nests 65 (spelled.sum_step (map-Sum Cmp Expr Primary Sum Unary Post Set (Form Cmp)
    (Form Expr) (Form Primary) (Form Sum) (Form Unary) (Form Post) (Form Set)
    spelled.cmp_form spelled.expr_form spelled.prim_form spelled.sum_form spelled.unary_form spelled.post_form
    spelled.set_form x)).writes m) (sym (fold-roll-Sum Meaning Meaning Meaning Meaning Meaning Meaning SetMeaning
    told.cmp_step told.expr_step told.prim_step told.sum_step told.unary_step told.post_step told.set_step x)) h)

unary_rolled : (x : layer.Unary-F Cmp Expr Primary Sum Unary Post Set) → UnaryLayerNests x → UnaryNests (roll-Unary x)
unary_rolled x h =
    subst (λ (f : Form Unary). Nests 64 f.writes (told.unary_told (roll-Unary x)))
    (sym (fold-roll-Unary (Form Cmp) (Form Expr) (Form Primary) (Form Sum) (Form Unary) (Form Post) (Form Set)
    spelled.cmp_step spelled.expr_step spelled.prim_step spelled.sum_step spelled.unary_step spelled.post_step
    spelled.set_step x))
    (subst (λ (m : Meaning). Nests 64 (spelled.unary_step (map-Unary Cmp Expr Primary Sum Unary Post Set (Form Cmp)
    (Form Expr) (Form Primary) (Form Sum) (Form Unary) (Form Post) (Form Set)
    spelled.cmp_form spelled.expr_form spelled.prim_form spelled.sum_form spelled.unary_form spelled.post_form
    spelled.set_form x)).writes m) (sym (fold-roll-Unary Meaning Meaning Meaning Meaning Meaning Meaning
    SetMeaning
    told.cmp_step told.expr_step told.prim_step told.sum_step told.unary_step told.post_step told.set_step x)) h)

post_rolled : (x : layer.Post-F Cmp Expr Primary Sum Unary Post Set) → PostLayerNests x → PostNests (roll-Post x)
post_rolled x h =
    subst (λ (f : Form Post). Nests 64 f.writes (told.post_told (roll-Post x)))
    (sym (fold-roll-Post (Form Cmp) (Form Expr) (Form Primary) (Form Sum) (Form Unary) (Form Post) (Form Set)
    spelled.cmp_step spelled.expr_step spelled.prim_step spelled.sum_step spelled.unary_step spelled.post_step
    spelled.set_step x))
    (subst (λ (m : Meaning). Nests 64 (spelled.post_step (map-Post Cmp Expr Primary Sum Unary Post Set (Form Cmp)
    (Form Expr) (Form Primary) (Form Sum) (Form Unary) (Form Post) (Form Set)
    spelled.cmp_form spelled.expr_form spelled.prim_form spelled.sum_form spelled.unary_form spelled.post_form
    spelled.set_form x)).writes m) (sym (fold-roll-Post Meaning Meaning Meaning Meaning Meaning Meaning SetMeaning
    told.cmp_step told.expr_step told.prim_step told.sum_step told.unary_step told.post_step told.set_step x)) h)

set_rolled : (x : layer.Set-F Cmp Expr Primary Sum Unary Post Set) → SetLayerNests x → SetNests (roll-Set x)
set_rolled x h =
    subst (λ (f : Form Set). Nests 65 f.writes (told.set_told (roll-Set x)).2)
    (sym (fold-roll-Set (Form Cmp) (Form Expr) (Form Primary) (Form Sum) (Form Unary) (Form Post) (Form Set)
    spelled.cmp_step spelled.expr_step spelled.prim_step spelled.sum_step spelled.unary_step spelled.post_step
    spelled.set_step x))
    (subst (λ (m : SetMeaning). Nests 65 (spelled.set_step (map-Set Cmp Expr Primary Sum Unary Post Set (Form Cmp)
    (Form Expr) (Form Primary) (Form Sum) (Form Unary) (Form Post) (Form Set)
    spelled.cmp_form spelled.expr_form spelled.prim_form spelled.sum_form spelled.unary_form spelled.post_form
    spelled.set_form x)).writes m.2)
    (sym (fold-roll-Set Meaning Meaning Meaning Meaning Meaning Meaning SetMeaning
    told.cmp_step told.expr_step told.prim_step told.sum_step told.unary_step told.post_step told.set_step x)) h)

-- THE SHIFTS OF AN EXPRESSION, with n brackets open around it.
pub expr_nests : (e : Expr) → ExprNests e
expr_nests = ind-Expr CmpNests ExprNests PrimaryNests SumNests UnaryNests PostNests SetNests
    (λ x y is. subst (λ z. CmpNests (roll-Cmp z)) is (cmp_rolled (bare_cmp y) (cmp_nests y)))
    (λ x y is. subst (λ z. ExprNests (roll-Expr z)) is (expr_rolled (bare_expr y) (expr_layer_nests y)))
    (λ x y is. subst (λ z. PrimaryNests (roll-Primary z)) is (prim_rolled (bare_prim y) (prim_nests y)))
    (λ x y is. subst (λ z. SumNests (roll-Sum z)) is (sum_rolled (bare_sum y) (sum_nests y)))
    (λ x y is. subst (λ z. UnaryNests (roll-Unary z)) is (unary_rolled (bare_unary y) (unary_nests y)))
    (λ x y is. subst (λ z. PostNests (roll-Post z)) is (post_rolled (bare_post y) (post_nests y)))
    (λ x y is. subst (λ z. SetNests (roll-Set z)) is (set_rolled (bare_set y) (set_nests y)))
