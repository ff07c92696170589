-- Induction over terms.
use Rattle.std.proofs.Common.{List, [], ◌∷◌, map, sym, subst}
use Rattle.cm_model.specs.declared.variable.SortVar.{SortVar}
use Rattle.cm_term.specs.declared.atom.Num.{Num}
use Rattle.cm_term.specs.declared.atom.Tag.{Tag}
use Rattle.cm_term.specs.declared.atom.OptVar.{OptVar}
use Rattle.cm_term.specs.declared.term.Term.{Term}
use Rattle.cm_term.specs.declared.term.Term.TheVariants as term
use Rattle.cm_term.specs.declared.term.Term.TheVariants.{rolls-Elem, rolls-Num, rolls-Tag, rolls-Rec, rolls-None}
use Rattle.cm_term.specs.declared.term.Term.TheVariants.{rolls-Some, rolls-Either}
use Rattle.cm_term.specs.declared.term.Term.TheViews.{roll-Term}
use Rattle.cm_term.specs.declared.term.Term.TheOpen.{Term-F}
use Rattle.cm_term.specs.declared.term.Term.TheFolds.{ind-Term, map-Term}

-- a fact of each term of a list
abbrev pub Each : (Term → Type 0) → List Term → Type 0
Each Q [] = Unit {0}
Each Q (t ∷ ts) = Q t × Each Q ts

module _ (Q : Term → Type 0) where
  abbrev Known : Type 0
  Known = (t : Term) × Q t

  each_known : (ks : List Known) → Each Q (map (λ k. k.0) ks)
  each_known [] = tt
  each_known (k ∷ ks) = (k.1, each_known ks)

  module _
      (elem : (x : SortVar) → Q (term.Elem x)) (num : (a : Num) → Q (term.Num a))
      (tag : (a : Tag) → Q (term.Tag a)) (rec : (ts : List Term) → Each Q ts → Q (term.Rec ts))
      (none : Q term.None) (some : (t : Term) → Q t → Q (term.Some t))
      (either : (o : OptVar) → Q (term.Either o)) where
    one_level : (y : Term-F Known) → Q (roll-Term (map-Term Known Term (λ k. k.0) y))
    one_level (Term-F.Elem x) = subst Q (sym (rolls-Elem x)) (elem x)
    one_level (Term-F.Num a) = subst Q (sym (rolls-Num a)) (num a)
    one_level (Term-F.Tag a) = subst Q (sym (rolls-Tag a)) (tag a)
    one_level (Term-F.Rec ks) =
        subst Q (sym (rolls-Rec (map (λ (k : Known). k.0) ks))) (rec (map (λ k. k.0) ks) (each_known ks))
    one_level Term-F.None = subst Q (sym rolls-None) none
    one_level (Term-F.Some k) = subst Q (sym (rolls-Some k.0)) (some k.0 k.1)
    one_level (Term-F.Either o) = subst Q (sym (rolls-Either o)) (either o)

    -- a fact of all terms, form by form
    pub term_ind : (t : Term) → Q t
    term_ind = ind-Term Q (λ x y is. subst (λ z. Q (roll-Term z)) is (one_level y))
