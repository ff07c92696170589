-- What is asked of two terms, form by form.
use Rattle.std.proofs.Common.{◌≡◌, ℕ, Bool, true, false, List, [], map}
use Rattle.std.proofs.Common.{reverse, slice_get, Option, Some, None, refl, sym, ap, ◌∙◌}
use Rattle.std.proofs.Math.Path.{fun_ext}
use Rattle.cm_model.specs.declared.variable.SortVar.{SortVar}
use Rattle.cm_term.specs.declared.atom.Num.{Num}
use Rattle.cm_term.specs.declared.atom.Tag.{Tag}
use Rattle.cm_term.specs.declared.atom.Opt.{Opt}
use Rattle.cm_term.specs.declared.atom.Opt.TheVariants as opt
use Rattle.cm_term.specs.declared.question.Equal.TheVariants as equal
use Rattle.cm_term.specs.declared.term.Term.{Term, out-Term}
use Rattle.cm_term.specs.declared.term.Term.TheVariants as term
use Rattle.cm_term.specs.declared.term.Term.TheViews.{roll-out-Term}
use Rattle.cm_term.specs.declared.term.Term.TheOpen.{Term-F}
use Rattle.cm_term.specs.declared.term.Term.TheFolds.{fold-roll-Term, map-Term}
use Rattle.cm_term.proofs.Folds.{fold-elem, fold-num, fold-tag, fold-rec}
use Rattle.cm_cells.specs.Comparison.{elem_in, num_in, tag_in, fields_in}
use Rattle.cm_exec.specs.Asking.{Asking, Stops, Says, Inspects, Meets, bound, Asker, or_stops, opt_in, opt_of}
use Rattle.cm_exec.specs.Asking.{payload_of, tags_asked, fields_asked, option_step, options_asked, asks_step}
use Rattle.cm_exec.specs.Asking.{askers_below, asks_below}
use Rattle.cm_exec.specs.declared.comparison.Fields.{Fields}
use Rattle.cm_exec.specs.declared.comparison.Pair.{Pair}
use Rattle.cm_exec.specs.declared.comparison.Waiting.{Waiting}
use Rattle.cm_exec.specs.declared.comparison.Waiting.TheVariants as wait
use Rattle.cm_exec.specs.Comparing.{answered, waiting_for, asker_of, asker_in, looks, after, at}

-- one thing after another, and a third after both
pub bound_bound : (a : Asking) (f g : Bool → Asking) → bound (bound a f) g ≡ bound a (λ s. bound (f s) g)
bound_bound Stops f g = refl
bound_bound (Says b) f g = refl
bound_bound (Inspects q h) f g = ap (Inspects q) (fun_ext (λ d. bound_bound (h d) f g))
bound_bound (Meets e h) f g = ap (Meets e) (fun_ext (λ d. bound_bound (h d) f g))

module _ (ps : List Term) where
  pub asks_elem : (n : Option ℕ) (x : SortVar) (u : Term) → asks_below ps n (term.Elem x) u
      ≡ or_stops (elem_in (out-Term u)) (λ y. Meets (equal.Elems x y) Says)
  asks_elem n x u = ap (λ (f : Asker). f u) (fold-elem (asks_step ps (askers_below ps n)) x)

  pub asks_num : (n : Option ℕ) (a : Num) (u : Term) → asks_below ps n (term.Num a) u
      ≡ or_stops (num_in (out-Term u)) (λ b. Meets (equal.Nums a b) Says)
  asks_num n a u = ap (λ (f : Asker). f u) (fold-num (asks_step ps (askers_below ps n)) a)

  pub asks_tag : (n : Option ℕ) (a : Tag) (u : Term) → asks_below ps n (term.Tag a) u
      ≡ or_stops (tag_in (out-Term u)) (tags_asked a)
  asks_tag n a u = ap (λ (f : Asker). f u) (fold-tag (asks_step ps (askers_below ps n)) a)

  pub asks_rec : (n : Option ℕ) (ts : List Term) (u : Term) → asks_below ps n (term.Rec ts) u
      ≡ or_stops (fields_in (out-Term u)) (fields_asked (map (asks_below ps n) ts))
  asks_rec n ts u = ap (λ (f : Asker). f u) (fold-rec (asks_step ps (askers_below ps n)) ts)

  layer : (n : Option ℕ) (t : Term) → asks_below ps n t
      ≡ asks_step ps (askers_below ps n) (map-Term Term Asker (asks_below ps n) (out-Term t))
  layer n t = ap (asks_below ps n) (sym (roll-out-Term t))
      ∙ fold-roll-Term Asker (asks_step ps (askers_below ps n)) (out-Term t)

  option_layer : (n : Option ℕ) (y : Term-F Term) (l : Opt) (u : Term) → opt_in y ≡ Some l
      → asks_step ps (askers_below ps n) (map-Term Term Asker (asks_below ps n) y) u
      ≡ option_step ps l (asker_in ps n y) u
  option_layer n (Term-F.Elem x) l u e = absurd (cc)
  option_layer n (Term-F.Num a) l u e = absurd (cc)
  option_layer n (Term-F.Tag a) l u e = absurd (cc)
  option_layer n (Term-F.Rec ts) l u e = absurd (cc)
  option_layer n Term-F.None l u e =
      let same : opt.None ≡ l = cc in ap (λ (o : Opt). option_step ps o None u) same
  option_layer n (Term-F.Some t) l u e =
      let same : opt.Some ≡ l = cc in ap (λ (o : Opt). option_step ps o (Some (asks_below ps n t)) u) same
  option_layer n (Term-F.Either o) l u e =
      let same : opt.Var o ≡ l = cc in
      ap (λ (p : Opt). option_step ps p (slice_get (askers_below ps n) o.0) u) same

  pub asks_option : (n : Option ℕ) (t : Term) (l : Opt) (u : Term) → opt_of t ≡ Some l
      → asks_below ps n t u ≡ option_step ps l (asker_of ps n t) u
  asks_option n t l u e = ap (λ (f : Asker). f u) (layer n t) ∙ option_layer n (out-Term t) l u e

  -- looks at two terms, by what the right one is
  pub option_looked : (fs : List Fields) (p : Pair) (l : Opt) (o : Option Opt) → opt_of p.sides.left ≡ Some l
      → o ≡ opt_of p.sides.right
      → at ps fs (looks ps p) ≡ bound (or_stops o (λ r. options_asked l r (asker_of ps p.below p.sides.left)
      (payload_of ps p.sides.right))) (after ps (reverse fs))
  option_looked fs p l o e f = ap (λ s. bound s (after ps (reverse fs)))
      (asks_option p.below p.sides.left l p.sides.right e
      ∙ ap (λ q. or_stops q (λ r. options_asked l r (asker_of ps p.below p.sides.left)
      (payload_of ps p.sides.right))) (sym f))

-- the terms that are looked at, by the left one
pub elsewhere : (ps : List Term) (fs : List Fields) (p : Pair) (t : Term) → p.sides.left ≡ t
    → at ps fs (looks ps p) ≡ at ps fs (asks_below ps p.below t p.sides.right)
elsewhere ps fs p t e = ap (λ u. at ps fs (asks_below ps p.below u p.sides.right)) e

-- nothing is left behind the last record
pub said : (ps : List Term) (a : Asking) → bound a (after ps []) ≡ a
said ps Stops = refl
said ps (Says true) = refl
said ps (Says false) = refl
said ps (Inspects q f) = ap (Inspects q) (fun_ext (λ d. said ps (f d)))
said ps (Meets e f) = ap (Meets e) (fun_ext (λ b. said ps (f b)))

-- what comes after an outcome
pub answered_at : (ps : List Term) (fs : List Fields) (w : Waiting) (d : ℕ)
    → answered (at ps fs (waiting_for ps w)) d ≡ at ps fs (answered (waiting_for ps w) d)
answered_at ps fs (wait.LeftTag a b) d = refl
answered_at ps fs (wait.RightTag c b) d = refl
answered_at ps fs (wait.LeftOption l r p) d = refl
answered_at ps fs (wait.RightOption c r p) d = refl
answered_at ps fs (wait.Equality e) d = refl
