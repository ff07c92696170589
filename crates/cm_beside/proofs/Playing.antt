-- A script played on values, beside its plan played on terms.
use Rattle.std.proofs.Common.{◌≡◌, ◌+◌, ℕ, zero, suc, true, false, List, [], ◌∷◌, ◌++◌, map, length, get_or}
use Rattle.std.proofs.Common.{slice_get, slice_set, Option, Some, None, refl, sym, ap, ◌∙◌, subst, arith}
use Rattle.cm_model.specs.Tables.{Tables}
use Rattle.cm_model.specs.WellTyped.{IsWellTyped}
use Rattle.cm_model.specs.declared.ty.Ty.{Ty}
use Rattle.cm_model.specs.declared.body.Expr.{Expr}
use Rattle.cm_model.specs.declared.body.StateDecl.{StateDecl}
use Rattle.cm_value.specs.declared.value.Value.{Value}
use Rattle.cm_term.specs.declared.question.Question.{Question}
use Rattle.cm_term.specs.declared.term.Term.{Term}
use Rattle.cm_term.specs.declared.term.Term.TheVariants as term
use Rattle.cm_term.specs.Questions.{outcome_under}
use Rattle.cm_eval.specs.declared.log.CellName.{CellName}
use Rattle.cm_eval.specs.Script.{Replies, Blocks, Decides, Reads, Writes}
use Rattle.cm_eval.specs.Evaluation.{Doing, named}
use Rattle.cm_cells.specs.declared.order.Order.{Order}
use Rattle.cm_cells.specs.declared.order.Order.TheVariants as order
use Rattle.cm_cells.specs.CellTable.{CellTable, Place, with_cell, with_term, terms_in}
use Rattle.cm_story.specs.Tale.{Asks, Needs, Ends}
use Rattle.cm_exec.specs.Terms.{Plan}
use Rattle.cm_exec.specs.Run.{Telling, Replied, Blocked, Used, checked, added, touched_with, term_in}
use Rattle.cm_exec.specs.Run.{checking, asked, play, invariants_of, invariant_in, declared_in, value_type}
use Rattle.cm_story.specs.Story.{Story, StoryCells, blocked, held, with_new, with_written, filler}
use Rattle.cm_story.specs.Story as story
use Rattle.cm_relation.specs.Relation.{AreKeys, AreAll}
use Rattle.cm_beside.specs.Grounds.{Grounds}
use Rattle.cm_beside.specs.Fits.{Fits}
use Rattle.cm_beside.specs.Related.{Related, IsGround, is_question}
use Rattle.cm_beside.specs.Beside.{PairTale, followed_by, Beside}
use Rattle.cm_beside.proofs.Calls.{Any, invariant_fits}
use Rattle.cm_beside.specs.Places.{IsPlace, ArePlaces}
use Rattle.cm_beside.proofs.Touching.{touch_goes}

some_same : {X : Type 0} (x y : X) → Some x ≡ Some y → x ≡ y
some_same x y h = cc

module _ (t : Tables) (g : Grounds) where
  abbrev pub type_at : Place → Ty
  type_at p = value_type (slice_get t.states p.state)

  -- the types of the cells' values
  abbrev pub types : List Place → List Ty
  types ps = map type_at ps

  abbrev pub AllFit : List Ty → List Value → List Term → Type 0
  AllFit = AreAll (Fits t g)

  abbrev pub others_in : Order → CellTable → List Term
  others_in order.Ab cs = cs.ba
  others_in order.Ba cs = cs.ab

  -- in ab the other order holds what was there at first
  abbrev pub AsAtFirst : Order → CellTable → Type 0
  AsAtFirst order.Ab cs = cs.initial ≡ cs.ba
  AsAtFirst order.Ba cs = Unit {0}

  -- the cells of a story, and those of a run on terms in an order
  pub record CellsFit (o : Order) (cs : CellTable) (sc : StoryCells) : Type 0 where
    pub places : ArePlaces t g sc.places cs.places
    pub written : sc.written ≡ cs.written
    pub now : AllFit (types cs.places) sc.now (terms_in o cs)
    pub others : AllFit (types cs.places) sc.other (others_in o cs)
    pub first : AsAtFirst o cs

  one_more : (us : List Ty) (vs : List Value) (xs : List Term) (u : Ty) (v : Value) (x : Term) → AllFit us vs xs
      → Fits t g u v x → AllFit (us ++ u ∷ []) (vs ++ v ∷ []) (xs ++ x ∷ [])
  one_more [] [] [] u v x h f = (f, tt)
  one_more (w ∷ us) (y ∷ vs) (z ∷ xs) u v x h f = (h.0, one_more us vs xs u v x h.1 f)
  one_more [] [] (z ∷ xs) u v x h f = absurd h
  one_more [] (y ∷ vs) xs u v x h f = absurd h
  one_more (w ∷ us) [] xs u v x h f = absurd h
  one_more (w ∷ us) (y ∷ vs) [] u v x h f = absurd h

  one_place : (cs : List CellName) (ps : List Place) (c : CellName) (p : Place) → ArePlaces t g cs ps → IsPlace t g c p
      → ArePlaces t g (cs ++ c ∷ []) (ps ++ p ∷ [])
  one_place [] [] c p h is = (is, tt)
  one_place (e ∷ cs) (q ∷ ps) c p h is = (h.0, one_place cs ps c p h.1 is)
  one_place [] (q ∷ ps) c p h is = absurd h
  one_place (e ∷ cs) [] c p h is = absurd h

  as_many : (cs : List CellName) (ps : List Place) → ArePlaces t g cs ps → length cs ≡ length ps
  as_many [] [] h = refl
  as_many (c ∷ cs) (p ∷ ps) h = ap suc (as_many cs ps h.1)
  as_many [] (q ∷ ps) h = absurd h
  as_many (e ∷ cs) [] h = absurd h

  map_more : (ps : List Place) (p : Place) → types (ps ++ p ∷ []) ≡ types ps ++ type_at p ∷ []
  map_more [] p = refl
  map_more (q ∷ ps) p = ap (λ us. type_at q ∷ us) (map_more ps p)

  -- one of them is given, and replaced
  one_fits : (us : List Ty) (vs : List Value) (xs : List Term) (i : ℕ) (u : Ty) → AllFit us vs xs
      → slice_get us i ≡ Some u → Fits t g u (get_or vs i filler) (get_or xs i term.None)
  one_fits [] vs xs i u h at = absurd (cc)
  one_fits (w ∷ us) (v ∷ vs) (x ∷ xs) zero u h at = subst (λ z. Fits t g z v x) (some_same w u at) h.0
  one_fits (w ∷ us) (v ∷ vs) (x ∷ xs) (suc i) u h at = one_fits us vs xs i u h.1 at
  one_fits (w ∷ us) [] xs i u h at = absurd h
  one_fits (w ∷ us) (v ∷ vs) [] i u h at = absurd h

  one_set : (us : List Ty) (vs : List Value) (xs : List Term) (i : ℕ) (u : Ty) (v : Value) (x : Term) → AllFit us vs xs
      → slice_get us i ≡ Some u → Fits t g u v x → AllFit us (slice_set vs i v) (slice_set xs i x)
  one_set [] vs xs i u v x h at f = absurd (cc)
  one_set (w ∷ us) (y ∷ vs) (z ∷ xs) zero u v x h at f =
      (subst (λ q. Fits t g q v x) (sym (some_same w u at)) f, h.1)
  one_set (w ∷ us) (y ∷ vs) (z ∷ xs) (suc i) u v x h at f = (h.0, one_set us vs xs i u v x h.1 at f)
  one_set (w ∷ us) [] xs i u v x h at f = absurd h
  one_set (w ∷ us) (y ∷ vs) [] i u v x h at f = absurd h

  type_of_place : (ps : List Place) (i : ℕ) (q : Place) → slice_get ps i ≡ Some q
      → slice_get (types ps) i ≡ Some (type_at q)
  type_of_place [] i q at = absurd (cc)
  type_of_place (p ∷ ps) zero q at = ap (λ z. Some (type_at z)) (some_same p q at)
  type_of_place (p ∷ ps) (suc i) q at = type_of_place ps i q at

  last_place : (ps : List Place) (p : Place) → slice_get (ps ++ p ∷ []) (length ps) ≡ Some p
  last_place [] p = refl
  last_place (q ∷ ps) p = last_place ps p

  declared_type : (p : Place) (d : StateDecl) → slice_get t.states p.state ≡ Some d → type_at p ≡ d.value
  declared_type p d at = ap value_type at

  -- a cell more
  new_fits : (o : Order) (cs : CellTable) (sc : StoryCells) (c : CellName) (p : Place) (v : Value) (x : Term)
      → CellsFit o cs sc → IsPlace t g c p → Fits t g (type_at p) v x → CellsFit o (with_cell cs p x) (with_new sc c v)
  new_fits order.Ab cs sc c p v x h is f = record {
    places = one_place sc.places cs.places c p h.places is;
    written = ap (λ ws. ws ++ false ∷ []) h.written;
    now = subst (λ us. AllFit us (sc.now ++ v ∷ []) (cs.ab ++ x ∷ [])) (sym (map_more cs.places p))
        (one_more (types cs.places) sc.now cs.ab (type_at p) v x h.now f);
    others = subst (λ us. AllFit us (sc.other ++ v ∷ []) (cs.ba ++ x ∷ [])) (sym (map_more cs.places p))
        (one_more (types cs.places) sc.other cs.ba (type_at p) v x h.others f);
    first = ap (λ ys. ys ++ x ∷ []) h.first;
  }
  new_fits order.Ba cs sc c p v x h is f = record {
    places = one_place sc.places cs.places c p h.places is;
    written = ap (λ ws. ws ++ false ∷ []) h.written;
    now = subst (λ us. AllFit us (sc.now ++ v ∷ []) (cs.ba ++ x ∷ [])) (sym (map_more cs.places p))
        (one_more (types cs.places) sc.now cs.ba (type_at p) v x h.now f);
    others = subst (λ us. AllFit us (sc.other ++ v ∷ []) (cs.ab ++ x ∷ [])) (sym (map_more cs.places p))
        (one_more (types cs.places) sc.other cs.ab (type_at p) v x h.others f);
    first = tt;
  }

  written_fits : (o : Order) (cs : CellTable) (sc : StoryCells) (i : ℕ) (u : Ty) (v : Value) (x : Term) → CellsFit o cs sc
      → slice_get (types cs.places) i ≡ Some u → Fits t g u v x → CellsFit o (with_term o i x cs) (with_written sc i v)
  written_fits order.Ab cs sc i u v x h at f = record {
    places = h.places;
    written = ap (λ ws. slice_set ws i true) h.written;
    now = one_set (types cs.places) sc.now cs.ab i u v x h.now at f;
    others = h.others;
    first = h.first;
  }
  written_fits order.Ba cs sc i u v x h at f = record {
    places = h.places;
    written = ap (λ ws. slice_set ws i true) h.written;
    now = one_set (types cs.places) sc.now cs.ba i u v x h.now at f;
    others = h.others;
    first = tt;
  }

  read_fits : (o : Order) (cs : CellTable) (sc : StoryCells) (i : ℕ) (u : Ty) → CellsFit o cs sc
      → slice_get (types cs.places) i ≡ Some u → Fits t g u (held sc i) (term_in o cs i)
  read_fits order.Ab cs sc i u h at = one_fits (types cs.places) sc.now cs.ab i u h.now at
  read_fits order.Ba cs sc i u h at = one_fits (types cs.places) sc.now cs.ba i u h.now at

module _ (t : Tables) (typed : IsWellTyped t) (g : Grounds) (ground : IsGround g) where
  module _ (K : Term → CellTable → PairTale) where
    abbrev Both : Story → Telling → Type 0
    Both s y = Beside t g (followed_by y K) s

    asks_both : (cs : CellTable) (q : Question) → is_question t g q ≡ true → (k : ℕ → Story) (l : ℕ → Telling)
        → Both (k (outcome_under g.valuation q)) (l (outcome_under g.valuation q))
        → Both (Asks (outcome_under g.valuation q) k) (Asks (asked q cs) l)
    asks_both cs q is k l h = (k, refl, is, h)

    -- an invariant of a new cell
    checking_beside : (plan : Plan) (c : Doing) → Related t g Any c plan → (cs : CellTable) (more : Telling) (s : Story)
        → Both s more → Both (story.asked c s) (checking plan cs more)
    checking_beside (Replies x) c r cs more s h = subst (λ c. Both (story.asked c s) more) (sym r.1) h
    checking_beside Blocks c r cs more s h =
        subst (λ c. Both (story.asked c s) (Ends (Blocked cs))) (sym r) (false, refl, refl)
    checking_beside (Decides q f) c r cs more s h =
        subst (λ c. Both (story.asked c s) (checking (Decides q f) cs more)) (sym r.1) (
          (λ d. story.asked (r.0 d) s),
          refl,
          r.2,
          checking_beside (f (outcome_under g.valuation q)) (r.0 (outcome_under g.valuation q)) r.3 cs more s h,
        )
    checking_beside (Reads p f) c r cs more s h =
        subst (λ c. Both (story.asked c s) (Ends (Blocked cs))) (sym r.5) (false, refl, refl)
    checking_beside (Writes p x f) c r cs more s h =
        subst (λ c. Both (story.asked c s) (Ends (Blocked cs))) (sym r.7) (false, refl, refl)

    checked_beside : (s : ℕ) (d : StateDecl) → slice_get t.states s ≡ Some d → (v : Value) (x : Term)
        → Fits t g d.value v x → (cs : CellTable) (more : Telling) (rest : Story) → Both rest more
        → Both (story.checked t.ints d.inv v rest) (checked (invariant_in t.ints g.payloads d.inv) x cs more)
    checked_beside s d at v x f cs more rest h = by d.inv refl
      where
        by : (o : Option Expr) → d.inv ≡ o
            → Both (story.checked t.ints o v rest) (checked (invariant_in t.ints g.payloads o) x cs more)
        by None e = h
        by (Some i) e = checking_beside _ _ (invariant_fits t typed g ground s d i v x at e f) cs more rest h

    -- what is done with a touched cell's number
    abbrev Goes : Order → Place → (ℕ → StoryCells → Story) → Used → Type 0
    Goes o p k used =
        (i : ℕ) (cs : CellTable) (sc : StoryCells) → CellsFit t g o cs sc → slice_get (types t g cs.places) i ≡ Some (type_at t g p)
        → Both (k i sc) (used i cs)

    touched_beside : (o : Order) (c : CellName) (p : Place) → IsPlace t g c p → (cs : CellTable) (sc : StoryCells)
        → CellsFit t g o cs sc → (k : ℕ → StoryCells → Story) (used : Used) → Goes o p k used
        → Both (story.touched t.ints t.states c sc k) (touched_with (invariants_of t g.payloads p.state) p cs used)
    touched_beside o c p is cs sc h k used goes =
        subst (λ z. Both (story.touched_with t.ints z c sc k) (touched_with (invariants_of t g.payloads p.state) p cs used))
        (sym (ap (slice_get t.states) is.0 ∙ is.2))
        (subst (λ z. Both (story.touched_with t.ints (Some is.1) c sc k)
        (touched_with (declared_in t.ints g.payloads z) p cs used)) (sym is.2)
        (touch_goes t typed g Telling Both (λ q. Asks (asked q cs)) (asks_both cs) sc.places cs.places h.places 0 c p is
        (λ i. k i sc) (story.added t.ints is.1.inv c sc k) (λ n. used n cs)
        (added (invariant_in t.ints g.payloads is.1.inv) p cs used)
        (λ j q at same. (let e : j ≡ 0 + j = omega arith in
        subst (λ m. Both (k m sc) (used m cs)) e (goes j cs sc h (type_of_place t g cs.places j q at
        ∙ ap (λ s. Some (value_type (slice_get t.states s))) same)))) new))
      where
        new : Both (story.added t.ints is.1.inv c sc k) (added (invariant_in t.ints g.payloads is.1.inv) p cs used)
        new = (
          is.1,
          is.2,
          c.key,
          is.3,
          (λ v. story.checked t.ints is.1.inv v (k (length sc.places) (with_new sc c v))),
          ap (λ n. Needs n (λ v. story.checked t.ints is.1.inv v (k (length sc.places) (with_new sc c v)))) (same_name c p is.0),
          (λ v x f. checked_beside p.state is.1 is.2 v x f (with_cell cs p x) (used (length cs.places) (with_cell cs p x))
              (k (length sc.places) (with_new sc c v))
              (subst (λ n. Both (k n (with_new sc c v)) (used (length cs.places) (with_cell cs p x)))
              (sym (as_many t g sc.places cs.places h.places))
              (goes (length cs.places) (with_cell cs p x) (with_new sc c v)
              (new_fits t g o cs sc c p v x h is (subst (λ u. Fits t g u v x) (sym (declared_type t g p is.1 is.2)) f))
              (type_of_place t g (cs.places ++ p ∷ []) (length cs.places) p (last_place t g cs.places p))))),
        )
          where
            same_name : (c : CellName) (p : Place) → c.state ≡ p.state → c ≡ named p.state c.key
            same_name c p e = ap (λ s. named s c.key) e

    -- what is done with a reply
    abbrev Answers : (Value → Term → Type 0) → Order → (Value → StoryCells → Story) → Type 0
    Answers Q o k = (v : Value) (x : Term) → Q v x → (cs : CellTable) (sc : StoryCells) → CellsFit t g o cs sc
        → Beside t g (K x cs) (k v sc)

    place_is : (p : Place) (key : Option Value) (d : StateDecl) → slice_get t.states p.state ≡ Some d
        → AreKeys (Fits t g) d.key key p.key → IsPlace t g (named p.state key) p
    place_is p key d at h = (refl, d, at, h)

    -- a script and its plan
    pub play_beside : (Q : Value → Term → Type 0) (o : Order) (k : Value → StoryCells → Story) → Answers Q o k
        → (plan : Plan) (c : Doing) → Related t g Q c plan → (cs : CellTable) (sc : StoryCells) → CellsFit t g o cs sc
        → Both (story.play t.ints t.states c sc k) (play (invariants_of t g.payloads) o plan cs)
    play_beside Q o k answers (Replies x) c r cs sc h =
        subst (λ c. Both (story.play t.ints t.states c sc k) (Ends (Replied x cs))) (sym r.1) (answers r.0 x r.2 cs sc h)
    play_beside Q o k answers Blocks c r cs sc h =
        subst (λ c. Both (story.play t.ints t.states c sc k) (Ends (Blocked cs))) (sym r) (false, refl, refl)
    play_beside Q o k answers (Decides q f) c r cs sc h =
        subst (λ c. Both (story.play t.ints t.states c sc k) (play (invariants_of t g.payloads) o (Decides q f) cs))
        (sym r.1) (
          (λ d. story.play t.ints t.states (r.0 d) sc k),
          refl,
          r.2,
          play_beside Q o k answers (f (outcome_under g.valuation q)) (r.0 (outcome_under g.valuation q)) r.3 cs sc h,
        )
    play_beside Q o k answers (Reads p f) c r cs sc h =
        subst (λ c. Both (story.play t.ints t.states c sc k) (play (invariants_of t g.payloads) o (Reads p f) cs))
        (sym r.5)
        (touched_beside o (named p.state r.2) p (place_is p r.2 r.0 r.1 r.3) cs sc h
        (λ i more. story.play t.ints t.states (r.4 (held more i)) more k)
        (λ n more. play (invariants_of t g.payloads) o (f (term_in o more n)) more)
        (λ i ds sd hd at. play_beside Q o k answers (f (term_in o ds i)) (r.4 (held sd i))
        (r.6 (held sd i) (term_in o ds i) (subst (λ u. Fits t g u (held sd i) (term_in o ds i)) (declared_type t g p r.0 r.1)
        (read_fits t g o ds sd i (type_at t g p) hd at))) ds sd hd))
    play_beside Q o k answers (Writes p x f) c r cs sc h =
        subst (λ c. Both (story.play t.ints t.states c sc k) (play (invariants_of t g.payloads) o (Writes p x f) cs))
        (sym r.7)
        (touched_beside o (named p.state r.2) p (place_is p r.2 r.0 r.1 r.3) cs sc h
        (λ i more. story.play t.ints t.states r.6 (with_written more i r.4) k)
        (λ n more. play (invariants_of t g.payloads) o f (with_term o n x more))
        (λ i ds sd hd at. play_beside Q o k answers f r.6 r.8 (with_term o i x ds) (with_written sd i r.4)
        (written_fits t g o ds sd i (type_at t g p) r.4 x hd at
        (subst (λ u. Fits t g u r.4 x) (sym (declared_type t g p r.0 r.1)) r.5))))
