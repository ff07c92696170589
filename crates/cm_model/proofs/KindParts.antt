-- Parts of an expression that has a kind have kinds.
use Rattle.std.proofs.Common.{◌≡◌, Bool, true, false, ◌&&◌, ◌||◌, Option, Some, None, is_some, refl, ap}
use Rattle.std.proofs.lemmas.Bool.{and_parts}
use Rattle.cm_model.specs.Kinds.{Kind, Number, Of, given, if_so, is_bool, is_integer, is_of, type_of, is_key, same_type}
use Rattle.cm_model.specs.Kinds.{are_comparable}
use Rattle.cm_model.specs.declared.ty.Ty.{Ty}
use Rattle.cm_model.specs.declared.body.Op.{Op}
use Rattle.cm_model.specs.declared.body.Op.TheVariants as op

-- where an option was made by a test, the test is true; where by an option, that one has a content
pub passed : {X : Type 0} (b : Bool) (x : X) → is_some (if_so b x) ≡ true → b ≡ true
passed true x h = refl
passed false x h = absurd (cc)

pub came : {X Y : Type 0} (o : Option X) (k : X → Option Y) → is_some (given o k) ≡ true → (x : X) × (o ≡ Some x)
    × (is_some (k x) ≡ true)
came (Some x) k h = (x, refl, h)
came None k h = absurd (cc)

-- the same with what was made
pub chosen : {X : Type 0} (b : Bool) (x y : X) → if_so b x ≡ Some y → (b ≡ true) × (x ≡ y)
chosen true x y h = (refl, cc)
chosen false x y h = absurd (cc)

pub given_some : {X Y : Type 0} (o : Option X) (k : X → Option Y) (y : Y) → given o k ≡ Some y
    → (x : X) × (o ≡ Some x) × (k x ≡ Some y)
given_some (Some x) k y h = (x, refl, h)
given_some None k y h = absurd (cc)

pub typed_kind : (k : Option Kind) (u : Ty) → type_of k ≡ Some u → k ≡ Some (Of u)
typed_kind (Some (Of t)) u h = ap (λ x. Some (Of x)) (one t u h)
  where
    one : (t u : Ty) → Some t ≡ Some u → t ≡ u
    one t u h = cc
typed_kind (Some Number) u h = absurd (cc)
typed_kind None u h = absurd (cc)

-- parts of an expression with a kind have one
pub typed_part : {Y : Type 0} (k : Option Kind) (f : Ty → Option Y) → is_some (given (type_of k) f) ≡ true
    → is_some k ≡ true
typed_part (Some k) f h = refl
typed_part None f h = absurd (cc)

pub bool_part : (k : Option Kind) → is_bool k ≡ true → is_some k ≡ true
bool_part (Some k) h = refl
bool_part None h = absurd (cc)

pub integer_part : (k : Option Kind) → is_integer k ≡ true → is_some k ≡ true
integer_part (Some k) h = refl
integer_part None h = absurd (cc)

pub value_part : (t : Ty) (k : Option Kind) → is_of t k ≡ true → is_some k ≡ true
value_part t (Some k) h = refl
value_part t None h = absurd (cc)

pub key_part : (t : Option Ty) (k : Option Kind) → is_key t (Some k) ≡ true → is_some k ≡ true
key_part None k h = absurd (cc)
key_part (Some t) k h = value_part t k h

abbrev Both : Option Kind → Option Kind → Type 0
Both j k = (is_some j ≡ true) × (is_some k ≡ true)

integers : (j k : Option Kind) → (is_integer j && is_integer k) ≡ true → Both j k
integers j k h = let b = and_parts (is_integer j) (is_integer k) h in (integer_part j b.0, integer_part k b.1)

values : (j k : Option Kind) → same_type (type_of j) (type_of k) ≡ true → Both j k
values (Some j) (Some k) h = (refl, refl)
values None (Some (Of t)) h = absurd (cc)
values None (Some Number) h = absurd (cc)
values None None h = absurd (cc)
values (Some (Of t)) None h = absurd (cc)
values (Some Number) None h = absurd (cc)

alike : (b : Bool) (j k : Option Kind) → (b ≡ true → Both j k) → (b || same_type (type_of j) (type_of k)) ≡ true
    → Both j k
alike true j k numbers h = numbers refl
alike false j k numbers h = values j k h

pub compared : (o : Op) (j k : Option Kind) → are_comparable o j k ≡ true → Both j k
compared op.Eq j k h = alike (is_integer j && is_integer k) j k (integers j k) h
compared op.Ne j k h = alike (is_integer j && is_integer k) j k (integers j k) h
compared op.Lt j k h = integers j k h
compared op.Le j k h = integers j k h
compared op.Gt j k h = integers j k h
compared op.Ge j k h = integers j k h
