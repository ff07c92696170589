-- What a fold gives for each form of a term.
use Rattle.std.proofs.Common.{◌≡◌, List, map, sym, ap, ◌∙◌}
use Rattle.cm_model.specs.declared.variable.SortVar.{SortVar}
use Rattle.cm_term.specs.declared.atom.Num.{Num}
use Rattle.cm_term.specs.declared.atom.Tag.{Tag}
use Rattle.cm_term.specs.declared.atom.OptVar.{OptVar}
use Rattle.cm_term.specs.declared.term.Term.{Term}
use Rattle.cm_term.specs.declared.term.Term.TheVariants as term
use Rattle.cm_term.specs.declared.term.Term.TheVariants.{rolls-Elem, rolls-Num, rolls-Tag, rolls-Rec, rolls-None}
use Rattle.cm_term.specs.declared.term.Term.TheVariants.{rolls-Some, rolls-Either}
use Rattle.cm_term.specs.declared.term.Term.TheOpen.{Term-F}
use Rattle.cm_term.specs.declared.term.Term.TheFolds.{fold-Term, fold-roll-Term}

module _ {A : Type 0} (step : Term-F A → A) where
  pub fold-elem : (x : SortVar) → fold-Term A step (term.Elem x) ≡ step (Term-F.Elem x)
  fold-elem x = ap (fold-Term A step) (sym (rolls-Elem x)) ∙ fold-roll-Term A step (Term-F.Elem x)

  pub fold-num : (a : Num) → fold-Term A step (term.Num a) ≡ step (Term-F.Num a)
  fold-num a = ap (fold-Term A step) (sym (rolls-Num a)) ∙ fold-roll-Term A step (Term-F.Num a)

  pub fold-tag : (a : Tag) → fold-Term A step (term.Tag a) ≡ step (Term-F.Tag a)
  fold-tag a = ap (fold-Term A step) (sym (rolls-Tag a)) ∙ fold-roll-Term A step (Term-F.Tag a)

  pub fold-rec : (ts : List Term) → fold-Term A step (term.Rec ts) ≡ step (Term-F.Rec (map (fold-Term A step) ts))
  fold-rec ts = ap (fold-Term A step) (sym (rolls-Rec ts)) ∙ fold-roll-Term A step (Term-F.Rec ts)

  pub fold-none : fold-Term A step term.None ≡ step Term-F.None
  fold-none = ap (fold-Term A step) (sym rolls-None) ∙ fold-roll-Term A step Term-F.None

  pub fold-some : (t : Term) → fold-Term A step (term.Some t) ≡ step (Term-F.Some (fold-Term A step t))
  fold-some t = ap (fold-Term A step) (sym (rolls-Some t)) ∙ fold-roll-Term A step (Term-F.Some t)

  pub fold-either : (o : OptVar) → fold-Term A step (term.Either o) ≡ step (Term-F.Either o)
  fold-either o = ap (fold-Term A step) (sym (rolls-Either o)) ∙ fold-roll-Term A step (Term-F.Either o)
