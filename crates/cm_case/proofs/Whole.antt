-- The case of a leaf, whole.
use Rattle.std.proofs.Common.{◌≡◌, ◌&&◌, ℕ, true, ◌≤◌, leb, List, [], ◌∷◌, ◌++◌, map, length, slice_get, Option, Some, None}
use Rattle.std.proofs.Common.{IsTrue, refl, sym, ap, ◌∙◌, subst}
use Rattle.std.specs.List.{AllByRecursion, list_all}
use Rattle.std.proofs.lemmas.Bool.{and_from, le-leb}
use Rattle.std.proofs.lemmas.List.{length-map}
use Rattle.cm_model.specs.Limits.{cell_limit}
use Rattle.cm_model.specs.Tables.{Tables}
use Rattle.cm_model.specs.WellTyped.{IsWellTyped}
use Rattle.cm_model.specs.declared.ty.Ty.{Ty}
use Rattle.cm_model.specs.declared.body.StateDecl.{StateDecl}
use Rattle.cm_model.specs.declared.pair.Pair.{Pair}
use Rattle.cm_value.specs.declared.value.Value.{Value}
use Rattle.cm_term.specs.declared.question.Equal.{Equal}
use Rattle.cm_term.specs.declared.question.Fact.{Fact}
use Rattle.cm_term.specs.declared.term.Term.{Term}
use Rattle.cm_term.specs.Valuation.{Valuation}
use Rattle.cm_term.specs.Terms.{vars_of}
use Rattle.cm_term.specs.Questions.{IsTold}
use Rattle.cm_cells.specs.Alike.{cell_under}
use Rattle.cm_cells.specs.CellTable.{Place}
use Rattle.cm_relation.specs.Relation.{AreKeys}
use Rattle.cm_cond.specs.declared.report.Case.{Case}
use Rattle.cm_cond.specs.Form.{is_case, are_cells, is_literal}
use Rattle.cm_beside.specs.declared.verdict.Verdict.TheVariants as verdict
use Rattle.cm_beside.specs.Fits.{Fits}
use Rattle.cm_beside.specs.Nodes.{pieces_of, grounds_of}
use Rattle.cm_beside.specs.Leaf.{AreKeyed, IsRightLeaf}
use Rattle.cm_beside.specs.Seen.{has_value}
use Rattle.cm_beside.specs.Enums.{enum_of}
use Rattle.cm_beside.proofs.Fitting.{member}
use Rattle.cm_beside.proofs.Keys.{key_is_plain}
use Rattle.cm_walk.specs.Prefixes.{AreOpenDecisions}
use Rattle.cm_name.specs.Naming.{KeyHasSymbols, cell_named}
use Rattle.cm_name.proofs.Named.{values_named}
use Rattle.cm_case.specs.Right.{IsRightCase}
use Rattle.cm_case.specs.Named.{IsNamedAfter}
use Rattle.cm_case.proofs.Lists.{all_so, all_parts, all_each}
use Rattle.cm_case.proofs.Extending.{has_more}
use Rattle.cm_case.proofs.Spelling.{cells_formed}
use Rattle.cm_case.proofs.Assembly.{Further, case_holds_so, case_cells, some_commutes, case_free}
use Rattle.cm_case.proofs.Sayable.{all_formed}
use Rattle.cm_case.proofs.KeyHas.{key_has}

module _ (t : Tables) (typed : IsWellTyped t) (p : Pair) (places : List Place) where
  -- the variables of the cells' keys have symbols
  pub keys_named : (v : Valuation) → AreKeyed t p v places
      → AllByRecursion (λ (q : Place). KeyHasSymbols (pieces_of t p places) q.key) places
  keys_named v keyed = all_each (λ (q : Place). KeyHasSymbols (pieces_of t p places) q.key) places
      (λ first q more split.
      let place = keyed first q more split in
      by first q more split place.1 place.2 place.1.key refl (cell_under v q).key q.key refl place.3)
    where
      by : (first : List Place) (q : Place) (more : List Place) → places ≡ first ++ q ∷ more → (d : StateDecl)
          → slice_get t.states q.state ≡ Some d → (u : Option Ty) → d.key ≡ u → (key : Option Value) (x : Option Term)
          → q.key ≡ x
          → AreKeys (Fits t (grounds_of (pieces_of t p places) (enum_of t p places) v (has_value t p first v))) u key x
          → KeyHasSymbols (pieces_of t p places) q.key
      by first q more split d at None f None None is a =
          subst (KeyHasSymbols (pieces_of t p places)) (sym is) tt
      by first q more split d at (Some u) f (Some k) (Some x) is a =
          let g = grounds_of (pieces_of t p places) (enum_of t p places) v (has_value t p first v) in
          let plain = key_is_plain t typed q.state d u k at f (member t g k u g.options x a) in
          subst (KeyHasSymbols (pieces_of t p places)) (sym is)
          (values_named t p places v (vars_of x) (all_so (λ y. has_value t p first v y ≡ true)
          (λ y. IsTrue (has_value t p places v y)) (vars_of x)
          (λ y h. subst (λ qs. has_value t p qs v y ≡ true) (sym split) (has_more t p first (q ∷ more) v y h))
          (key_has t g k u g.options x plain a)))
      by first q more split d at None f None (Some x) is a = absurd a
      by first q more split d at None f (Some k) x is a = absurd a
      by first q more split d at (Some u) f None x is a = absurd a
      by first q more split d at (Some u) f (Some k) None is a = absurd a

  module _ (path : List ℕ) (facts : List Fact) (es : List Equal) (right : IsRightLeaf t p path facts places (verdict.If es))
      (were_open : AreOpenDecisions t p [] [] path facts places) (more : List Fact)
      (further : Further t p facts places es more) (few : length places ≤ cell_limit) where
    w : Valuation
    w = further.some.0

    abbrev keyed : AreKeyed t p further.some.0 places
    keyed =
        right.keyed further.some.0 further.some.1 (all_parts (IsTold further.some.0) facts more further.some.2).0

    pub keys_have : AllByRecursion (λ (q : Place). KeyHasSymbols (pieces_of t p places) q.key) places
    keys_have = keys_named further.some.0 keyed

    module _ (c : Case) (named : IsNamedAfter (pieces_of t p places) places facts more c) where
      spelled : is_case t p c ≡ true
      spelled =
          let cells = map (cell_named (pieces_of t p places)) places in
          ap (λ ks. leb (length ks) cell_limit && are_cells t p [] ks && list_all (is_literal t p ks) c.literals)
          named.cells
          ∙ and_from (leb (length cells) cell_limit && are_cells t p [] cells)
          (list_all (is_literal t p cells) c.literals)
          (and_from (leb (length cells) cell_limit) (are_cells t p [] cells)
          (ap (λ n. leb n cell_limit) (length-map places (cell_named (pieces_of t p places)))
          ∙ le-leb (length places) cell_limit few)
          (cells_formed t typed p places further.some.0 keyed))
          (all_formed t typed p places path facts es right were_open more further c.literals named.literals)

      pub right_case : IsRightCase t p path c
      right_case = record {
        well_formed = spelled;
        some = some_commutes t typed p places path facts es right were_open more further c named.cells named.literals;
        holds = case_holds_so t typed p places path facts es right were_open more further c named.cells named.literals;
        cells = case_cells t typed p places path facts es right were_open more further c named.cells named.literals;
        free = case_free t typed p places path facts es right were_open more further c named.cells named.literals;
      }
