-- Literals one for one with facts.
use Rattle.std.proofs.Common.{◌≡◌, Bool, List, [], ◌∷◌, ◌++◌, map, Some, IsTrue, refl, sym, ap, ◌∙◌}
use Rattle.std.specs.List.{AllByRecursion, list_all}
use Rattle.std.proofs.lemmas.Bool.{and_parts, and_from}
use Rattle.std.proofs.Common.{Option}

pub all_so : {A : Type 0} (P Q : A → Type 0) (xs : List A) → ((x : A) → P x → Q x) → AllByRecursion P xs
    → AllByRecursion Q xs
all_so P Q [] f h = tt
all_so P Q (x ∷ xs) f h = (f x h.0, all_so P Q xs f h.1)

pub all_both : {A : Type 0} (P : A → Type 0) (xs ys : List A) → AllByRecursion P xs → AllByRecursion P ys
    → AllByRecursion P (xs ++ ys)
all_both P [] ys h k = k
all_both P (x ∷ xs) ys h k = (h.0, all_both P xs ys h.1 k)

pub all_parts : {A : Type 0} (P : A → Type 0) (xs ys : List A) → AllByRecursion P (xs ++ ys)
    → AllByRecursion P xs × AllByRecursion P ys
all_parts P [] ys h = (tt, h)
all_parts P (x ∷ xs) ys h = let rest = all_parts P xs ys h.1 in ((h.0, rest.0), rest.1)

pub all_one : {A : Type 0} (P : A → Type 0) (before : List A) (x : A) (after : List A)
    → AllByRecursion P (before ++ x ∷ after) → P x
all_one P [] x after h = h.0
all_one P (y ∷ before) x after h = all_one P before x after h.1

-- what is so of each item is so of all
pub all_each : {A : Type 0} (P : A → Type 0) (xs : List A)
    → ((before : List A) (x : A) (after : List A) → xs ≡ before ++ x ∷ after → P x) → AllByRecursion P xs
all_each P [] h = tt
all_each P (x ∷ xs) h =
    (h [] x xs refl, all_each P xs (λ before y after e. h (x ∷ before) y after (ap (λ ys. x ∷ ys) e)))

-- of two lists one behind the other, where one item stands
pub data Stands {A : Type 0} (xs ys before : List A) (x : A) (after : List A) : Type 0 where
  InFirst : (rest : List A) → xs ≡ before ++ x ∷ rest → after ≡ rest ++ ys → Stands xs ys before x after
  InLast : (more : List A) → before ≡ xs ++ more → ys ≡ more ++ x ∷ after → Stands xs ys before x after

pub where_stands : {A : Type 0} (xs ys before : List A) (x : A) (after : List A) → xs ++ ys ≡ before ++ x ∷ after
    → Stands xs ys before x after
where_stands [] ys before x after e = InLast before refl e
where_stands (z ∷ xs) ys [] x after e =
    let same : z ≡ x = cc in
    let rest : xs ++ ys ≡ after = cc in
    InFirst xs (ap (λ y. y ∷ xs) same) (sym rest)
where_stands (z ∷ xs) ys (b ∷ before) x after e =
    let same : z ≡ b = cc in
    let rest : xs ++ ys ≡ before ++ x ∷ after = cc in
    further same (where_stands xs ys before x after rest)
  where
    further : z ≡ b → Stands xs ys before x after → Stands (z ∷ xs) ys (b ∷ before) x after
    further same (InFirst more at is) = InFirst more (ap (λ y. y ∷ xs) same ∙ ap (λ l. b ∷ l) at) is
    further same (InLast more at is) = InLast more (ap (λ y. y ∷ before) (sym same) ∙ ap (λ l. z ∷ l) at) is

module _ {F L : Type 0} (g : F → Option L) where
  -- the literals of facts, one for one
  abbrev pub AreNamed : List F → List L → Type 0
  AreNamed fs ls = map Some ls ≡ map g fs

  pub named_first : (f : F) (fs : List F) (l : L) (ls : List L) → AreNamed (f ∷ fs) (l ∷ ls) → g f ≡ Some l
  named_first f fs l ls e = cc

  pub named_rest : (f : F) (fs : List F) (l : L) (ls : List L) → AreNamed (f ∷ fs) (l ∷ ls) → AreNamed fs ls
  named_rest f fs l ls e = cc

  -- each literal is a fact's
  pub all_hold : (h : L → Bool) (P : F → Type 0) (fs : List F) (ls : List L) → AreNamed fs ls
      → ((f : F) (l : L) → g f ≡ Some l → P f → IsTrue (h l)) → AllByRecursion P fs → IsTrue (list_all h ls)
  all_hold h P [] [] e each all = refl
  all_hold h P [] (l ∷ ls) e each all = absurd (cc)
  all_hold h P (f ∷ fs) [] e each all = absurd (cc)
  all_hold h P (f ∷ fs) (l ∷ ls) e each all =
      and_from (h l) (list_all h ls) (each f l (named_first f fs l ls e) all.0)
      (all_hold h P fs ls (named_rest f fs l ls e) each all.1)

  -- and each fact a literal's
  pub all_said : (h : L → Bool) (P Q : F → Type 0) (fs : List F) (ls : List L) → AreNamed fs ls
      → ((f : F) (l : L) → g f ≡ Some l → Q f → IsTrue (h l) → P f) → AllByRecursion Q fs → IsTrue (list_all h ls)
      → AllByRecursion P fs
  all_said h P Q [] ls e each all so = tt
  all_said h P Q (f ∷ fs) [] e each all so = absurd (cc)
  all_said h P Q (f ∷ fs) (l ∷ ls) e each all so =
      let both = and_parts (h l) (list_all h ls) so in (
        each f l (named_first f fs l ls e) all.0 both.0,
        all_said h P Q fs ls (named_rest f fs l ls e) each all.1 both.1,
      )

  -- the fact of a literal, and those before it
  pub record FactOf (fs : List F) (before : List L) (l : L) : Type 0 where
    pub earlier : List F
    pub fact : F
    pub later : List F
    pub whole : fs ≡ earlier ++ fact ∷ later
    pub named : g fact ≡ Some l
    pub named_before : AreNamed earlier before

  pub fact_of_literal : (fs : List F) (before : List L) (l : L) (after : List L) → AreNamed fs (before ++ l ∷ after)
      → FactOf fs before l
  fact_of_literal [] [] l after e = absurd (cc)
  fact_of_literal [] (b ∷ before) l after e = absurd (cc)
  fact_of_literal (f ∷ fs) [] l after e = record {
    earlier = [];
    fact = f;
    later = fs;
    whole = refl;
    named = named_first f fs l after e;
    named_before = refl;
  }
  fact_of_literal (f ∷ fs) (b ∷ before) l after e =
      let r = fact_of_literal fs before l after (named_rest f fs b (before ++ l ∷ after) e) in
      let head = named_first f fs b (before ++ l ∷ after) e in
      record {
        earlier = f ∷ r.earlier;
        fact = r.fact;
        later = r.later;
        whole = ap (λ xs. f ∷ xs) r.whole;
        named = r.named;
        named_before = ap (λ xs. Some b ∷ xs) r.named_before ∙ ap (λ o. o ∷ map g r.earlier) (sym head);
      }
