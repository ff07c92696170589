-- A reading is related to itself by equality, whatever its operations do: what is asked of a relation can be met.
use Rattle.std.proofs.Common.{◌≡◌, List, [], ◌∷◌, Option, Some, None, refl, ap, ◌∙◌}
use Rattle.std.proofs.Math.Path.{fun_ext}
use Rattle.cm_model.specs.Tables.{Tables}
use Rattle.cm_model.specs.declared.ty.Ty.{Ty}
use Rattle.cm_code.specs.Rules.{Rules}
use Rattle.cm_relation.specs.Relation.{Relation, KeepRelation, IfBoth, AreKeys, AreAll}

both_same : {X : Type 0} (o o' : Option X) → o ≡ o' → IfBoth (λ (x y : X). x ≡ y) o o'
both_same (Some x) (Some y) is = cc
both_same None None is = tt
both_same (Some x) None is = absurd (cc)
both_same None (Some y) is = absurd (cc)

one_option : {X : Type 0} (o o' : Option X) → IfBoth (λ (x y : X). x ≡ y) o o' → o ≡ o'
one_option (Some x) (Some y) is = ap Some is
one_option None None is = refl
one_option (Some x) None is = absurd is
one_option None (Some y) is = absurd is

module _ (V O S : Type 0) where
  abbrev pub equality : Relation V O S V O S
  equality = record { value = λ u x y. x ≡ y; operand = λ n kind o p. o ≡ p; doing = λ k l. k ≡ l }

  one_key : (u : Option Ty) (c c' : Option V) → AreKeys (λ w (x y : V). x ≡ y) u c c' → c ≡ c'
  one_key None None None are = refl
  one_key (Some u) (Some v) (Some w) are = ap Some are
  one_key None None (Some w) are = absurd are
  one_key None (Some v) c are = absurd are
  one_key (Some u) None c are = absurd are
  one_key (Some u) (Some v) None are = absurd are

  one_list : (us : List Ty) (vs ws : List V) → AreAll (λ w (x y : V). x ≡ y) us vs ws → vs ≡ ws
  one_list [] [] [] are = refl
  one_list (u ∷ us) (v ∷ vs) (w ∷ ws) are = ap (λ x. x ∷ vs) are.0 ∙ ap (λ xs. w ∷ xs) (one_list us vs ws are.1)
  one_list [] [] (w ∷ ws) are = absurd are
  one_list [] (v ∷ vs) ws are = absurd are
  one_list (u ∷ us) [] ws are = absurd are
  one_list (u ∷ us) (v ∷ vs) [] are = absurd are

  pub keeps_itself : (t : Tables) (r : Rules V O S) → KeepRelation t V O S V O S r r equality
  keeps_itself t r = record {
    tag = λ e i d at lt. refl;
    flag = λ b. refl;
    make = λ n d vs ws at are. ap r.make (one_list _ vs ws are);
    nothing = λ u known. refl;
    some = λ u x y known is. ap r.some is;
    field = λ u w x y i is at. both_same (r.field x i) (r.field y i) (ap (λ v. r.field v i) is);
    with_field = λ u w x y i v z is at new. both_same (r.with_field x i v) (r.with_field y i z)
        (ap (λ a. r.with_field a i v) is ∙ ap (r.with_field y i) new);
    plain = λ n u x y is. ap r.plain is;
    number = λ n m small. refl;
    value = λ n u o p is. both_same (r.value o) (r.value p) (ap r.value is);
    shift = λ n kind o p by few integer small is. both_same (r.shift o by) (r.shift p by) (ap (λ x. r.shift x by) is);
    blocks = refl;
    inspects = λ n o p k l few is goes. ap (λ x. r.inspects x k) is ∙ ap (r.inspects p) (fun_ext goes);
    compares_values = λ m n u o p a b k l few fewer is are goes.
        ap (λ x. r.compares x a k) is ∙ ap (λ x. r.compares p x k) are ∙ ap (r.compares p b) (fun_ext goes);
    compares_numbers = λ m n i j o p a b k l few fewer left right is are goes.
        ap (λ x. r.compares x a k) is ∙ ap (λ x. r.compares p x k) are ∙ ap (r.compares p b) (fun_ext goes);
    orders = λ m n i j o p a b k l few fewer left right is are goes.
        ap (λ x. r.orders x a k) is ∙ ap (λ x. r.orders p x k) are ∙ ap (r.orders p b) (fun_ext goes);
    into = λ n i d kind o p k l few at integer is goes.
        ap (λ x. r.into d.lo d.hi x k) is ∙ ap (r.into d.lo d.hi p) (fun_ext (λ x. goes x x refl));
    opens = λ u w x y k l is at goes.
        ap (λ a. r.opens a k) is ∙ ap (r.opens y) (fun_ext (λ o. goes o o (both_same o o refl)));
    reads = λ s d c e k l at are goes.
        ap (λ x. r.reads s x k) (one_key d.key c e are) ∙ ap (r.reads s e) (fun_ext (λ x. goes x x refl));
    writes = λ s d c e x y k l at are is goes.
        ap (λ a. r.writes s a x k) (one_key d.key c e are) ∙ ap (λ a. r.writes s e a k) is ∙ ap (r.writes s e y) goes;
  }
