-- Places in code that is joined, jumps over code, and operands that are values.
use Rattle.std.proofs.Common.{◌≡◌, ℕ, zero, suc, ◌+◌, ◌-◌, Bool, true, false, List, [], ◌∷◌, ◌++◌, length}
use Rattle.std.proofs.Common.{take, map, reverse, refl, sym, ap, ◌∙◌, arith, append_assoc, if◌then◌else◌}
use Rattle.std.proofs.lemmas.List.{append-nil, length-append, reverse-append, reverse-reverse, length-reverse}
use Rattle.cm_code.specs.declared.instr.Instr.{Instr}
use Rattle.cm_code.specs.Rules.{Rules}
use Rattle.cm_code.specs.Language as language
use Rattle.cm_code.specs.Language.{Called}
use Rattle.cm_code.specs.Code as code
use Rattle.cm_code.specs.Code.{Point}

pub either : {S : Type 0} {a b c d : S} (s : Bool) → a ≡ c → b ≡ d → (if s then a else b) ≡ (if s then c else d)
either true e f = e
either false e f = f

-- a bool is one of two
pub chosen : {S : Type 0} (s : Bool) (f : Bool → S) → (if s then f true else f false) ≡ f s
chosen true f = refl
chosen false f = refl

front_kept : {V : Type 0} (a b : List V) → take (length a) (a ++ b) ≡ a
front_kept [] b = refl
front_kept (x ∷ a) b = ap (λ l. x ∷ l) (front_kept a b)

-- the last n are given back
pub left_locals : {V : Type 0} (a b : List V) (n : ℕ) → length b ≡ n → take (length (a ++ b) - n) (a ++ b) ≡ a
left_locals a b n e =
    let k : length (a ++ b) - n ≡ length a = omega (arith, length-append a b) in
    ap (λ m. take m (a ++ b)) k ∙ front_kept a b

module _ (V O S : Type 0) (r : Rules V O S) (funs : List (Called V S)) where
  abbrev next_of : List (Point V O S) → Point V O S
  next_of = code.next_of V O S r

  abbrev behind_by : List (Point V O S) → ℕ → Point V O S
  behind_by = code.behind_by V O S r

  abbrev places : List Instr → List (Point V O S) → List (Point V O S)
  places = code.places V O S r funs

  pub places_append : (a b : List Instr) (behind : List (Point V O S))
      → places (a ++ b) behind ≡ places a (places b behind)
  places_append [] b behind = refl
  places_append (i ∷ a) b behind = ap (code.on_top V O S r funs i) (places_append a b behind)

  -- a jump over code
  pub jumped : (c : List Instr) (behind : List (Point V O S)) (n k : ℕ) → k ≡ length c + n
      → behind_by (places c behind) k ≡ behind_by behind n
  jumped [] behind n k e = let same : k ≡ n = omega arith in ap (behind_by behind) same
  jumped (i ∷ c) behind n zero e = absurd (omega arith)
  jumped (i ∷ c) behind n (suc k) e = jumped c behind n k (omega arith)

module _ (V O S : Type 0) (r : Rules V O S) where
  -- the topmost operand is a value
  pub plain_one : (v : V) (ops : List O) (k : V → List O → S) → code.one_value V O S r (r.plain v ∷ ops) k ≡ k v ops
  plain_one v ops k = ap (λ o. language.given V O S r o (λ v. k v ops)) (r.plain_value v)

  many_taken : (vs : List V) (ops : List O) (args : List V) (k : List V → List O → S)
      → code.many V O S r (length vs) (map r.plain vs ++ ops) args k ≡ k (reverse vs ++ args) ops
  many_taken [] ops args k = refl
  many_taken (v ∷ vs) ops args k =
      plain_one v (map r.plain vs ++ ops) (λ v rest. code.many V O S r (length vs) rest (v ∷ args) k)
      ∙ many_taken vs ops (v ∷ args) k
      ∙ ap (λ l. k l ops)
      (sym (ap (λ l. l ++ args) (reverse-append (v ∷ []) vs) ∙ append_assoc (reverse vs) (v ∷ []) args))

  -- operands that are all values
  pub all_taken : (values : List V) (ops : List O) (n : ℕ) (k : List V → List O → S) → n ≡ length values
      → code.many V O S r n (map r.plain (reverse values) ++ ops) [] k ≡ k values ops
  all_taken values ops n k e =
      let count : n ≡ length (reverse values) = e ∙ sym (length-reverse values) in
      ap (λ n. code.many V O S r n (map r.plain (reverse values) ++ ops) [] k) count
      ∙ many_taken (reverse values) ops [] k
      ∙ ap (λ l. k l ops) (append-nil (reverse (reverse values)) ∙ reverse-reverse values)

  -- one more of them
  pub one_more : (values : List V) (v : V) (ops : List O)
      → map r.plain (reverse (values ++ v ∷ [])) ++ ops ≡ r.plain v ∷ (map r.plain (reverse values) ++ ops)
  one_more values v ops = ap (λ l. map r.plain l ++ ops) (reverse-append values (v ∷ []))
