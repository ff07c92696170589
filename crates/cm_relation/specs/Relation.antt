-- Two readings of the rules of the language, and a relation between what they have, that each operation keeps.
use Rattle.std.specs.Prelude.{◌≡◌, ℕ, suc, ◌<◌, ◌≤◌, ℤ, Bool, true, List, [], ◌∷◌, map, length, slice_get, Option, Some}
use Rattle.std.specs.Prelude.{None, IsTrue}
use Rattle.cm_model.specs.Tables.{Tables}
use Rattle.cm_model.specs.Limits.{is_number, shift_limit}
use Rattle.cm_model.specs.Types.{is_type_in_use}
use Rattle.cm_model.specs.Kinds.{Kind, Number, Of, is_integer, bool_ty, field_of, payload_of}
use Rattle.cm_model.specs.declared.ty.Ty.{Ty}
use Rattle.cm_model.specs.declared.ty.Ty.TheVariants as ty
use Rattle.cm_model.specs.declared.ty.IntDecl.{IntDecl}
use Rattle.cm_model.specs.declared.ty.EnumDecl.{EnumDecl}
use Rattle.cm_model.specs.declared.ty.RecDecl.{RecDecl}
use Rattle.cm_model.specs.declared.body.StateDecl.{StateDecl}
use Rattle.cm_code.specs.Rules.{Rules}

-- which values of the one reading stand beside which of the other, by their type; which operands, by their kind and
-- by how many shifts are in them; and which doings
pub record Relation (V O S V' O' S' : Type 0) : Type 1 where
  pub value : Ty → V → V' → Type 0
  pub operand : ℕ → Kind → O → O' → Type 0
  pub doing : S → S' → Type 0

-- both are there and related, or neither is there
abbrev pub IfBoth : {X Y : Type 0} → (X → Y → Type 0) → Option X → Option Y → Type 0
IfBoth R (Some x) (Some y) = R x y
IfBoth R None None = Unit {0}
IfBoth R (Some x) None = ⊥
IfBoth R None (Some y) = ⊥

-- a key of a type on both sides, or none where there is no type
abbrev pub AreKeys : {V V' : Type 0} → (Ty → V → V' → Type 0) → Option Ty → Option V → Option V' → Type 0
AreKeys R None None None = Unit {0}
AreKeys R (Some u) (Some v) (Some v') = R u v v'
AreKeys R None None (Some v') = ⊥
AreKeys R None (Some v) c = ⊥
AreKeys R (Some u) None c = ⊥
AreKeys R (Some u) (Some v) None = ⊥

-- as many values as types on both sides, related one for one
abbrev pub AreAll : {V V' : Type 0} → (Ty → V → V' → Type 0) → List Ty → List V → List V' → Type 0
AreAll R [] [] [] = Unit {0}
AreAll R (u ∷ us) (v ∷ vs) (v' ∷ vs') = R u v v' × AreAll R us vs vs'
AreAll R [] [] (v' ∷ vs') = ⊥
AreAll R [] (v ∷ vs) others = ⊥
AreAll R (u ∷ us) [] others = ⊥
AreAll R (u ∷ us) (v ∷ vs) [] = ⊥

-- each operation of the rules keeps the relation, where it is used as the types of these tables have it
pub record KeepRelation (t : Tables) (V O S V' O' S' : Type 0) (r : Rules V O S) (r' : Rules V' O' S')
    (R : Relation V O S V' O' S') : Type 0 where
  -- what makes values
  pub tag : (e i : ℕ) (d : EnumDecl) → slice_get t.enums e ≡ Some d → i < length d.variants
      → R.value (ty.Enum e) (r.tag e i) (r'.tag e i)
  pub flag : (b : Bool) → R.value bool_ty (r.flag b) (r'.flag b)
  pub make : (n : ℕ) (d : RecDecl) (vs : List V) (vs' : List V') → slice_get t.records n ≡ Some d
      → AreAll R.value (map (λ p. p.ty) d.fields) vs vs' → R.value (ty.Rec n) (r.make vs) (r'.make vs')
  pub nothing : (u : Ty) → IsTrue (is_type_in_use t (ty.Option u)) → R.value (ty.Option u) r.nothing r'.nothing
  pub some : (u : Ty) (x : V) (x' : V') → IsTrue (is_type_in_use t (ty.Option u)) → R.value u x x'
      → R.value (ty.Option u) (r.some x) (r'.some x')
  -- fields
  pub field : (u w : Ty) (x : V) (x' : V') (i : ℕ) → R.value u x x' → field_of t u i ≡ Some w
      → IfBoth (R.value w) (r.field x i) (r'.field x' i)
  pub with_field : (u w : Ty) (x : V) (x' : V') (i : ℕ) (y : V) (y' : V') → R.value u x x' → field_of t u i ≡ Some w
      → R.value w y y' → IfBoth (R.value u) (r.with_field x i y) (r'.with_field x' i y')
  -- operands
  pub plain : (n : ℕ) (u : Ty) (x : V) (x' : V') → R.value u x x' → R.operand n (Of u) (r.plain x) (r'.plain x')
  pub number : (n : ℕ) (m : ℤ) → is_number m ≡ true → R.operand n Number (r.number m) (r'.number m)
  pub value : (n : ℕ) (u : Ty) (o : O) (o' : O') → R.operand n (Of u) o o'
      → IfBoth (R.value u) (r.value o) (r'.value o')
  pub shift : (n : ℕ) (kind : Kind) (o : O) (o' : O') (by : ℤ) → n < shift_limit → is_integer (Some kind) ≡ true
      → is_number by ≡ true → R.operand n kind o o' → IfBoth (R.operand (suc n) Number) (r.shift o by) (r'.shift o' by)
  -- what is done
  pub blocks : R.doing r.blocks r'.blocks
  pub inspects : (n : ℕ) (o : O) (o' : O') (k : Bool → S) (k' : Bool → S') → n ≤ shift_limit
      → R.operand n (Of bool_ty) o o' → ((b : Bool) → R.doing (k b) (k' b))
      → R.doing (r.inspects o k) (r'.inspects o' k')
  pub compares_values : (m n : ℕ) (u : Ty) (o : O) (o' : O') (p : O) (p' : O') (k : Bool → S) (k' : Bool → S')
      → m ≤ shift_limit → n ≤ shift_limit → R.operand m (Of u) o o' → R.operand n (Of u) p p'
      → ((b : Bool) → R.doing (k b) (k' b)) → R.doing (r.compares o p k) (r'.compares o' p' k')
  pub compares_numbers : (m n : ℕ) (left right : Kind) (o : O) (o' : O') (p : O) (p' : O') (k : Bool → S)
      (k' : Bool → S') → m ≤ shift_limit → n ≤ shift_limit → is_integer (Some left) ≡ true
      → is_integer (Some right) ≡ true → R.operand m left o o' → R.operand n right p p'
      → ((b : Bool) → R.doing (k b) (k' b)) → R.doing (r.compares o p k) (r'.compares o' p' k')
  pub orders : (m n : ℕ) (left right : Kind) (o : O) (o' : O') (p : O) (p' : O') (k : ℕ → S) (k' : ℕ → S')
      → m ≤ shift_limit → n ≤ shift_limit → is_integer (Some left) ≡ true → is_integer (Some right) ≡ true
      → R.operand m left o o' → R.operand n right p p' → ((d : ℕ) → R.doing (k d) (k' d))
      → R.doing (r.orders o p k) (r'.orders o' p' k')
  pub into : (n i : ℕ) (d : IntDecl) (kind : Kind) (o : O) (o' : O') (k : V → S) (k' : V' → S') → n ≤ shift_limit
      → slice_get t.ints i ≡ Some d → is_integer (Some kind) ≡ true → R.operand n kind o o'
      → ((x : V) (x' : V') → R.value (ty.Int i) x x' → R.doing (k x) (k' x'))
      → R.doing (r.into d.lo d.hi o k) (r'.into d.lo d.hi o' k')
  pub opens : (u w : Ty) (x : V) (x' : V') (k : Option V → S) (k' : Option V' → S') → R.value u x x'
      → payload_of u ≡ Some w
      → ((o : Option V) (o' : Option V') → IfBoth (R.value w) o o' → R.doing (k o) (k' o'))
      → R.doing (r.opens x k) (r'.opens x' k')
  -- cells
  pub reads : (s : ℕ) (d : StateDecl) (c : Option V) (c' : Option V') (k : V → S) (k' : V' → S')
      → slice_get t.states s ≡ Some d → AreKeys R.value d.key c c'
      → ((x : V) (x' : V') → R.value d.value x x' → R.doing (k x) (k' x'))
      → R.doing (r.reads s c k) (r'.reads s c' k')
  pub writes : (s : ℕ) (d : StateDecl) (c : Option V) (c' : Option V') (x : V) (x' : V') (k : S) (k' : S')
      → slice_get t.states s ≡ Some d → AreKeys R.value d.key c c' → R.value d.value x x' → R.doing k k'
      → R.doing (r.writes s c x k) (r'.writes s c' x' k')
