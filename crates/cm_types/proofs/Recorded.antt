-- A record in which no rule fails has the measures that tables give it.
use Rattle.std.proofs.Common.{◌≡◌, ℕ, suc, ◌+◌, ◌<◌, ◌≤◌, ◌&&◌, ◌||◌, nat_lt, Bool, true, false, List, [], ◌∷◌, ◌++◌}
use Rattle.std.proofs.Common.{map, length, sum, slice_get, Option, Some, refl, sym, ap, ◌∙◌, arith, append_assoc}
use Rattle.std.specs.List.{list_all}
use Rattle.std.proofs.lemmas.Bool.{ltb-true, lt-ltb, and_from}
use Rattle.std.proofs.lemmas.List.{length-append}
use Rattle.cm_model.specs.Tables.{Tables}
use Rattle.cm_model.specs.Types as types
use Rattle.cm_model.specs.Types.{or_else, record_values, is_type_before, is_type_in_use, width_in, widths, integers_in}
use Rattle.cm_model.specs.Types.{record_integers, holds_option_in, record_options, any_of}
use Rattle.cm_model.specs.declared.ty.RecDecl.{RecDecl}
use Rattle.cm_model.specs.declared.ty.Part.{Part}
use Rattle.cm_model.proofs.Larger.{count_values, values_kept}
use Rattle.cm_typing.specs.declared.flat.Base.{Base}
use Rattle.cm_typing.specs.declared.flat.Base.TheVariants.{Sort, Int, Enum, Record}
use Rattle.cm_typing.specs.declared.flat.Flat.{Flat}
use Rattle.cm_typing.specs.Flats as flats
use Rattle.cm_typing.specs.Flats.{is_small, widths_of, integers_of, any_option, option_in, record_flat, innermost}
use Rattle.cm_typing.specs.Flats.{ty_of_flat}
use Rattle.cm_types.proofs.Items.{GoesOn, stands_behind}
use Rattle.cm_types.proofs.Deepening.{fold_base, width_around, integers_around, options_around}
use Rattle.cm_types.proofs.Measured.{IsFlat, is_before, in_use}
use Rattle.cm_types.proofs.Standing.{AreParts}

-- The values of records

module _ {X : Type 0} (f : List X → RecDecl → X) where
  values_more : (before : List X) (xs : List RecDecl) (d : RecDecl)
      → record_values f before (xs ++ d ∷ []) ≡ record_values f before xs ++ f (record_values f before xs) d ∷ []
  values_more before [] d = refl
  values_more before (x ∷ xs) d = values_more (before ++ f before x ∷ []) xs d

  -- that of a record is made of those of the records before it
  pub value_there : (xs : List RecDecl) (d : RecDecl) (all : List RecDecl) → GoesOn (xs ++ d ∷ []) all
      → slice_get (record_values f [] all) (length xs) ≡ Some (f (record_values f [] xs) d)
  value_there xs d all g =
      let vs = record_values f [] xs in
      let at_end : slice_get (record_values f [] (xs ++ d ∷ [])) (length xs) ≡ Some (f vs d) =
      ap (λ l. slice_get l (length xs)) (values_more [] xs d)
      ∙ ap (slice_get (vs ++ f vs d ∷ [])) (sym (count_values f xs)) ∙ stands_behind vs (f vs d) [] in
      ap (λ l. slice_get (record_values f [] l) (length xs)) g.1
      ∙ values_kept f (xs ++ d ∷ []) g.0 (length xs) (shorter xs d) ∙ at_end
    where
      shorter : (xs : List RecDecl) (d : RecDecl) → length xs < length (xs ++ d ∷ [])
      shorter xs d = omega (arith, length-append xs (d ∷ []))

  pub value_before : (xs : List RecDecl) (d : RecDecl) (all : List RecDecl) → GoesOn (xs ++ d ∷ []) all → (r : ℕ)
      → r < length xs
      → slice_get (record_values f [] xs) r ≡ slice_get (record_values f [] all) r
  value_before xs d all g r lt =
      sym (ap (λ l. slice_get (record_values f [] l) r) (g.1 ∙ append_assoc xs (d ∷ []) g.0) ∙ values_kept f xs
      (d ∷ g.0) r lt)

-- A type of the first n records is measured by what these records have

module _ (t : Tables) (n : ℕ) where
  before_record : (r : ℕ) → is_type_before t n (innermost (Record r)) ≡ true → r < n
  before_record r h = ltb-true r n (sym (fold_base (types.ty_step t n) (Record r)) ∙ h)

  width_same : (vs ws : List ℕ) → ((r : ℕ) → r < n → slice_get vs r ≡ slice_get ws r) → (b : Base)
      → is_type_before t n (innermost b) ≡ true → width_in vs (innermost b) ≡ width_in ws (innermost b)
  width_same vs ws same (Sort s) h = fold_base (types.width_step vs) (Sort s)
      ∙ sym (fold_base (types.width_step ws) (Sort s))
  width_same vs ws same (Int i) h = fold_base (types.width_step vs) (Int i)
      ∙ sym (fold_base (types.width_step ws) (Int i))
  width_same vs ws same (Enum e) h = fold_base (types.width_step vs) (Enum e)
      ∙ sym (fold_base (types.width_step ws) (Enum e))
  width_same vs ws same (Record r) h =
      fold_base (types.width_step vs) (Record r) ∙ ap (or_else 0) (same r (before_record r h))
      ∙ sym (fold_base (types.width_step ws) (Record r))

  integers_same : (vs ws : List ℕ) → ((r : ℕ) → r < n → slice_get vs r ≡ slice_get ws r) → (b : Base)
      → is_type_before t n (innermost b) ≡ true → integers_in vs (innermost b) ≡ integers_in ws (innermost b)
  integers_same vs ws same (Sort s) h = fold_base (types.integers_step vs) (Sort s)
      ∙ sym (fold_base (types.integers_step ws) (Sort s))
  integers_same vs ws same (Int i) h = fold_base (types.integers_step vs) (Int i)
      ∙ sym (fold_base (types.integers_step ws) (Int i))
  integers_same vs ws same (Enum e) h = fold_base (types.integers_step vs) (Enum e)
      ∙ sym (fold_base (types.integers_step ws) (Enum e))
  integers_same vs ws same (Record r) h =
      fold_base (types.integers_step vs) (Record r) ∙ ap (or_else 0) (same r (before_record r h))
      ∙ sym (fold_base (types.integers_step ws) (Record r))

  option_same : (vs ws : List Bool) → ((r : ℕ) → r < n → slice_get vs r ≡ slice_get ws r) → (b : Base)
      → is_type_before t n (innermost b) ≡ true → holds_option_in vs (innermost b) ≡ holds_option_in ws (innermost b)
  option_same vs ws same (Sort s) h = fold_base (types.option_step vs) (Sort s)
      ∙ sym (fold_base (types.option_step ws) (Sort s))
  option_same vs ws same (Int i) h = fold_base (types.option_step vs) (Int i) ∙ sym (fold_base (types.option_step ws)
      (Int i))
  option_same vs ws same (Enum e) h = fold_base (types.option_step vs) (Enum e)
      ∙ sym (fold_base (types.option_step ws) (Enum e))
  option_same vs ws same (Record r) h =
      fold_base (types.option_step vs) (Record r) ∙ ap (or_else false) (same r (before_record r h))
      ∙ sym (fold_base (types.option_step ws) (Record r))

-- flat types that are there and measured, of parts one for one
abbrev pub AreFlat : (t : Tables) (n : ℕ) → List (Option Flat) → List Part → Type 0
AreFlat t n [] [] = Unit {0}
AreFlat t n (o ∷ os) (p ∷ ps) = ((f : Flat) × (o ≡ Some f) × (p.ty ≡ ty_of_flat f) × IsFlat t n f) × AreFlat t n os ps
AreFlat t n [] (p ∷ ps) = ⊥
AreFlat t n (o ∷ os) [] = ⊥

module _ (t : Tables) (n : ℕ) where
  pub flat_more : (os : List (Option Flat)) (ps : List Part) (o : Option Flat) (p : Part) (f : Flat) → AreFlat t n os ps
      → o ≡ Some f → p.ty ≡ ty_of_flat f → IsFlat t n f → AreFlat t n (os ++ o ∷ []) (ps ++ p ∷ [])
  flat_more [] [] o p f h e k g = ((f, e, k, g), tt)
  flat_more (x ∷ os) (q ∷ ps) o p f h e k g = (h.0, flat_more os ps o p f h.1 e k g)
  flat_more [] (q ∷ ps) o p f h e k g = absurd h
  flat_more (x ∷ os) [] o p f h e k g = absurd h

  pub flat_parts : (os : List (Option Flat)) (ps : List Part) → AreFlat t n os ps → AreParts os ps
  flat_parts [] [] h = tt
  flat_parts (o ∷ os) (p ∷ ps) h = ((h.0.0, h.0.1, h.0.2), flat_parts os ps h.1)
  flat_parts [] (p ∷ ps) h = absurd h
  flat_parts (o ∷ os) [] h = absurd h

  -- all are in use
  pub flat_in_use : n ≤ length t.records → (os : List (Option Flat)) (ps : List Part) → AreFlat t n os ps
      → list_all (λ p. is_type_before t n p.ty && is_type_in_use t p.ty) ps ≡ true
  flat_in_use few [] [] h = refl
  flat_in_use few (o ∷ os) (p ∷ ps) h =
      let used = and_from (is_type_before t n (ty_of_flat h.0.0)) (is_type_in_use t (ty_of_flat h.0.0))
      (is_before t n h.0.0 h.0.3)
      (in_use t n h.0.0 h.0.3 few) in
      and_from (is_type_before t n p.ty && is_type_in_use t p.ty) _
      (ap (λ u. is_type_before t n u && is_type_in_use t u) h.0.2 ∙ used) (flat_in_use few os ps h.1)
  flat_in_use few [] (p ∷ ps) h = absurd h
  flat_in_use few (o ∷ os) [] h = absurd h

  -- the measures of a list of parts, by the values of records of which the first n are right
  module _ (vs : List ℕ) (same : (r : ℕ) → r < n → slice_get vs r ≡ slice_get (widths t.records) r) where
    pub widths_are : (os : List (Option Flat)) (ps : List Part) → AreFlat t n os ps
        → map (λ p. width_in vs p.ty) ps ≡ map flats.width_in os
    widths_are [] [] h = refl
    widths_are (o ∷ os) (p ∷ ps) h =
        let f = h.0.0 in
        let one : width_in vs (ty_of_flat f) ≡ flats.width_of f =
        width_around vs f.options f.base
        ∙ ap (λ w. w + f.options) (width_same t n vs (widths t.records) same f.base h.0.3.before ∙ h.0.3.width) in
        ap (λ w. w ∷ map (λ (p : Part). width_in vs p.ty) ps) (ap (width_in vs) h.0.2 ∙ one
        ∙ sym (ap flats.width_in h.0.1))
        ∙ ap (λ ws. flats.width_in o ∷ ws) (widths_are os ps h.1)
    widths_are [] (p ∷ ps) h = absurd h
    widths_are (o ∷ os) [] h = absurd h

  module _ (vs : List ℕ) (same : (r : ℕ) → r < n → slice_get vs r ≡ slice_get (record_integers t.records) r) where
    pub integers_all : (os : List (Option Flat)) (ps : List Part) → AreFlat t n os ps
        → map (λ p. integers_in vs p.ty) ps ≡ map flats.integers_in os
    integers_all [] [] h = refl
    integers_all (o ∷ os) (p ∷ ps) h =
        let f = h.0.0 in
        let one : integers_in vs (ty_of_flat f) ≡ f.integers =
        integers_around vs f.options f.base
        ∙ integers_same t n vs (record_integers t.records) same f.base h.0.3.before ∙ h.0.3.integers in
        ap (λ w. w ∷ map (λ (p : Part). integers_in vs p.ty) ps) (ap (integers_in vs) h.0.2 ∙ one
        ∙ sym (ap flats.integers_in h.0.1))
        ∙ ap (λ ws. flats.integers_in o ∷ ws) (integers_all os ps h.1)
    integers_all [] (p ∷ ps) h = absurd h
    integers_all (o ∷ os) [] h = absurd h

  module _ (vs : List Bool) (same : (r : ℕ) → r < n → slice_get vs r ≡ slice_get (record_options t.records) r) where
    options_are : (os : List (Option Flat)) (ps : List Part) → AreFlat t n os ps
        → any_of (map (λ p. holds_option_in vs p.ty) ps) ≡ any_option os
    options_are [] [] h = refl
    options_are (o ∷ os) (p ∷ ps) h =
        let f = h.0.0 in
        let one : holds_option_in vs (ty_of_flat f) ≡ flats.holds_option f =
        options_around vs f.options f.base
        ∙ ap (λ b. b || nat_lt 0 f.options) (option_same t n vs (record_options t.records) same f.base h.0.3.before
        ∙ h.0.3.optional) in
        ap (λ b. b || any_of (map (λ (p : Part). holds_option_in vs p.ty) ps))
        (ap (holds_option_in vs) h.0.2 ∙ one ∙ sym (ap option_in h.0.1))
        ∙ ap (λ b. option_in o || b) (options_are os ps h.1)
    options_are [] (p ∷ ps) h = absurd h
    options_are (o ∷ os) [] h = absurd h

-- THE RECORD OF FIELDS OF THESE TYPES, behind the records so far
pub record_fits : (t : Tables) (xs : List RecDecl) (d : RecDecl) → GoesOn (xs ++ d ∷ []) t.records
    → (os : List (Option Flat))
    → AreFlat t (length xs) os d.fields → is_small (widths_of os + 1) (integers_of os) ≡ true
    → IsFlat t (suc (length xs)) (record_flat (length xs) os)
record_fits t xs d g os h small =
    let r = length xs in
    let ws = widths xs in
    let is = record_integers xs in
    let ps = record_options xs in
    let W = λ (records : List ℕ) (r : RecDecl). 1 + sum (map (λ p. width_in records p.ty) r.fields) in
    let I = λ (records : List ℕ) (r : RecDecl). sum (map (λ p. integers_in records p.ty) r.fields) in
    let P = λ (records : List Bool) (r : RecDecl). any_of (map (λ p. holds_option_in records p.ty) r.fields) in
    record {
      before = fold_base (types.ty_step t (suc r)) (Record r) ∙ lt-ltb r (suc r) (omega arith);
      width =
          fold_base (types.width_step (widths t.records)) (Record r) ∙ ap (or_else 0) (value_there W xs d t.records g)
          ∙ ap (λ ns. 1 + sum ns) (widths_are t r ws (value_before W xs d t.records g) os d.fields h)
          ∙ turned (widths_of os);
      integers =
          fold_base (types.integers_step (record_integers t.records)) (Record r)
          ∙ ap (or_else 0) (value_there I xs d t.records g)
          ∙ ap sum (integers_all t r is (value_before I xs d t.records g) os d.fields h);
      optional =
          fold_base (types.option_step (record_options t.records)) (Record r) ∙ ap (or_else false)
          (value_there P xs d t.records g)
          ∙ options_are t r ps (value_before P xs d t.records g) os d.fields h;
      small = ap (λ w. is_small w (integers_of os)) (nought (widths_of os + 1)) ∙ small;
    }
  where
    turned : (n : ℕ) → 1 + n ≡ n + 1
    turned n = omega arith

    nought : (n : ℕ) → n + 0 ≡ n
    nought n = omega arith
