-- Where each open decision of a path stands, and those before it.
use Rattle.std.proofs.Common.{◌≡◌, inl, inr, ℕ, List, [], ◌∷◌, ◌++◌, sym, ap, ◌∙◌, subst, append_assoc}
use Rattle.std.proofs.lemmas.List.{append-nil}
use Rattle.cm_model.specs.Tables.{Tables}
use Rattle.cm_model.specs.declared.pair.Pair.{Pair}
use Rattle.cm_term.specs.declared.question.Fact.{Fact}
use Rattle.cm_cells.specs.CellTable.{Place}
use Rattle.cm_walk.specs.Prefixes.{WasOpen, AreOpenDecisions}

module _ (t : Tables) (p : Pair) (places : List Place) where
  -- a fact's decision comes behind these, which are behind the front
  pub record OpenedAt (front : List ℕ) (before : List Fact) (decisions : List ℕ) (f : Fact) : Type 0 where
    pub ahead : List ℕ
    pub rest : List ℕ
    pub whole : decisions ≡ ahead ++ f.outcome ∷ rest
    pub was_open : WasOpen t p (front ++ ahead) before f places

  -- and each of the facts before it comes behind fewer of them
  pub record Opened (front : List ℕ) (before : List Fact) (decisions : List ℕ) (b : List Fact) (f : Fact) : Type 0 where
    pub itself : OpenedAt front (before ++ b) decisions f
    pub earlier : (c : List Fact) (g : Fact) (d : List Fact) → b ≡ c ++ g ∷ d
        → OpenedAt front (before ++ c) itself.ahead g

  further_at : (front : List ℕ) (before : List Fact) (d : ℕ) (ds : List ℕ) (f : Fact)
      → OpenedAt (front ++ d ∷ []) before ds f → OpenedAt front before (d ∷ ds) f
  further_at front before d ds f o = record {
    ahead = d ∷ o.ahead;
    rest = o.rest;
    whole = ap (λ xs. d ∷ xs) o.whole;
    was_open = subst (λ xs. WasOpen t p xs before f places) (append_assoc front (d ∷ []) o.ahead) o.was_open;
  }

  with_facts : (front : List ℕ) (ds : List ℕ) (f : Fact) {xs ys : List Fact} → xs ≡ ys → OpenedAt front xs ds f
      → OpenedAt front ys ds f
  with_facts front ds f e o = record {
    ahead = o.ahead;
    rest = o.rest;
    whole = o.whole;
    was_open = subst (λ xs. WasOpen t p (front ++ o.ahead) xs f places) e o.was_open;
  }

  at_front : (front : List ℕ) (before : List Fact) (f g : Fact) → f ≡ g → WasOpen t p front before f places
      → WasOpen t p (front ++ []) (before ++ []) g places
  at_front front before f g same was =
      subst (λ x. WasOpen t p (front ++ []) (before ++ []) x places) same
      (subst (λ xs. WasOpen t p xs (before ++ []) f places) (sym (append-nil front))
      (subst (λ xs. WasOpen t p front xs f places) (sym (append-nil before)) was))

  pub opened : (front : List ℕ) (before : List Fact) (ds : List ℕ) (facts : List Fact)
      → AreOpenDecisions t p front before ds facts places
      → (b : List Fact) (f : Fact) (a : List Fact) → facts ≡ b ++ f ∷ a → Opened front before ds b f
  unfolding further_at with_facts
  opened front before [] facts h [] f a e = absurd (let none = h in cc)
  opened front before [] facts h (g ∷ b) f a e = absurd (let none = h in cc)
  opened front before (d ∷ ds) facts (inl h) b f a e =
      let o = opened (front ++ d ∷ []) before ds facts h.1 b f a e in
      record {
        itself = further_at front (before ++ b) d ds f o.itself;
        earlier = λ c g k is. further_at front (before ++ c) d o.itself.ahead g (o.earlier c g k is);
      }
  opened front before (d ∷ ds) facts (inr h) [] f a e =
      let same : h.0 ≡ f = (let is = h.2 in cc) in
      record {
        itself = record {
          ahead = [];
          rest = ds;
          whole = ap (λ x. x ∷ ds) (sym h.3 ∙ ap (λ (x : Fact). x.outcome) same);
          was_open = at_front front before h.0 f same h.4;
        };
        earlier = λ c g k is. absurd (nothing c g k is);
      }
    where
      nothing : (c : List Fact) (g : Fact) (k : List Fact) → [] ≡ c ++ g ∷ k → ⊥
      nothing [] g k is = cc
      nothing (x ∷ c) g k is = cc
  opened front before (d ∷ ds) facts (inr h) (g ∷ b) f a e =
      let same : h.0 ≡ g = (let is = h.2 in cc) in
      let left : h.1 ≡ b ++ f ∷ a = (let is = h.2 in cc) in
      let o = opened (front ++ d ∷ []) (before ++ h.0 ∷ []) ds h.1 h.5 b f a left in
      record {
        itself = further_at front (before ++ g ∷ b) d ds f
            (with_facts (front ++ d ∷ []) ds f (moved same b) o.itself);
        earlier = λ c l k is. among same o c l k is;
      }
    where
      moved : h.0 ≡ g → (c : List Fact) → (before ++ h.0 ∷ []) ++ c ≡ before ++ g ∷ c
      moved same c = append_assoc before (h.0 ∷ []) c ∙ ap (λ x. before ++ x ∷ c) same

      among : h.0 ≡ g → (o : Opened (front ++ d ∷ []) (before ++ h.0 ∷ []) ds b f)
          → (c : List Fact) (l : Fact) (k : List Fact) → g ∷ b ≡ c ++ l ∷ k
          → OpenedAt front (before ++ c) (d ∷ o.itself.ahead) l
      among same o [] l k is =
          let one : h.0 ≡ l = cc in
          record {
            ahead = [];
            rest = o.itself.ahead;
            whole = ap (λ x. x ∷ o.itself.ahead) (sym h.3 ∙ ap (λ (x : Fact). x.outcome) one);
            was_open = at_front front before h.0 l one h.4;
          }
      among same o (x ∷ c) l k is =
          let first : g ≡ x = cc in
          let rest : b ≡ c ++ l ∷ k = cc in
          further_at front (before ++ x ∷ c) d o.itself.ahead l
          (with_facts (front ++ d ∷ []) o.itself.ahead l (moved same c ∙ ap (λ y. before ++ y ∷ c) first)
          (o.earlier c l k rest))
