-- The terms of fields, made one by one.
use Rattle.std.proofs.Common.{◌≡◌, ℕ, zero, suc, ◌+◌, ◌<◌, ◌≤◌, List, [], ◌∷◌, ◌++◌, map, take, drop, length, get_or}
use Rattle.std.proofs.Common.{slice_get, Some, append_assoc, refl, sym, ap, subst, ◌∙◌, arith}
use Rattle.std.proofs.lemmas.List.{append-nil, length-append}
use Rattle.std.proofs.lemmas.Option.{slice_get_past}
use Rattle.cm_model.specs.Types.{or_else}
use Rattle.cm_model.specs.declared.ty.Ty.{Ty}
use Rattle.cm_model.specs.declared.ty.Part.{Part}
use Rattle.cm_model.specs.declared.ty.IntDecl.{IntDecl}
use Rattle.cm_model.specs.declared.ty.EnumDecl.{EnumDecl}
use Rattle.cm_model.specs.declared.ty.RecDecl.{RecDecl}
use Rattle.cm_value.proofs.LeastRecords.{length_values, value_at}
use Rattle.cm_term.specs.declared.symbol.Step.{Step}
use Rattle.cm_term.specs.declared.symbol.Step.TheVariants as step
use Rattle.cm_term.specs.declared.symbol.Root.{Root}
use Rattle.cm_term.specs.declared.term.Term.{Term}
use Rattle.cm_term.specs.declared.term.Term.TheVariants as term
use Rattle.cm_ctx.specs.declared.piece.Counts.{Counts}
use Rattle.cm_ctx.specs.declared.piece.Variables.{Variables}
use Rattle.cm_ctx.specs.Making.{Place, place, counted, both, variables, Made, Maker, Fields}
use Rattle.cm_ctx.specs.Making.{first_field, fields_made, record_made, made_in}
use Rattle.cm_ctx.specs.Making.{record_maker, record_makers}
use Rattle.cm_ctx.specs.Growth.{Adds, AddsFields}

-- the fields up to number i are made
pub record Going (root : Root) (path : List Step) (from : Counts) (ms : List Maker) (old : Variables) (i : ℕ)
    (terms : List Term) (now : Variables) : Type 0 where
  pub terms_go : (fields_made 0 ms (place root path (counted from old))).terms ≡ terms ++
      (fields_made i (drop i ms) (place root path (counted from now))).terms
  pub variables_go : both old (fields_made 0 ms (place root path (counted from old))).variables ≡ both now
      (fields_made i (drop i ms) (place root path (counted from now))).variables

pub both_assoc : (u v w : Variables) → both (both u v) w ≡ both u (both v w)
both_assoc u v w = rw (
  append_assoc u.elements v.elements w.elements,
  append_assoc u.numbers v.numbers w.numbers,
  append_assoc u.tags v.tags w.tags,
  append_assoc u.options v.options w.options,
) refl

pub both_none : (u : Variables) → both u (variables [] [] [] []) ≡ u
both_none u = rw (append-nil u.elements, append-nil u.numbers, append-nil u.tags, append-nil u.options) refl

more : {A : Type 0} (n : ℕ) (xs : List A) (ys : List A) → n + length (xs ++ ys) ≡ (n + length xs) + length ys
more n xs ys = omega (arith, length-append xs ys)

pub counted_both : (c : Counts) (u v : Variables) → counted c (both u v) ≡ counted (counted c u) v
counted_both c u v = rw (
  more c.elements u.elements v.elements,
  more c.numbers u.numbers v.numbers,
  more c.tags u.tags v.tags,
  more c.options u.options v.options,
) refl

pub going_starts : (root : Root) (path : List Step) (from : Counts) (ms : List Maker) (old : Variables)
    → Going root path from ms old 0 [] old
going_starts root path from ms old = record { terms_go = refl; variables_go = refl }

pub going_more : (root : Root) (path : List Step) (from : Counts) (ms : List Maker) (old now new : Variables) (i : ℕ)
    (terms : List Term) (t : Term) (m : Maker)
    → drop i ms ≡ m ∷ drop (i + 1) ms → Going root path from ms old i terms now
    → Adds (m (place root (path ++ step.Field i ∷ []) (counted from now))) now new t
    → Going root path from ms old (i + 1) (terms ++ t ∷ []) new
going_more root path from ms old now new i terms t m e g a =
    let M : Made = m (place root (path ++ step.Field i ∷ []) (counted from now)) in
    let R : Fields = fields_made (i + 1) (drop (i + 1) ms) (place root path (counted (counted from now) M.variables)) in
    let here : place root path (counted from new) ≡ place root path (counted (counted from now) M.variables) =
    ap (place root path) (ap (counted from) a.variables ∙ counted_both from now M.variables) in
    let split : fields_made i (drop i ms) (place root path (counted from now)) ≡ first_field M R =
    ap (λ k. fields_made i k (place root path (counted from now))) e in
    record {
      terms_go = g.terms_go ∙ ap (λ (F : Fields). terms ++ F.terms) split ∙ ap (λ u. terms ++ u ∷ R.terms) (sym a.term)
          ∙ sym (append_assoc terms (t ∷ []) R.terms)
          ∙ ap (λ q. (terms ++ t ∷ []) ++ (fields_made (i + 1) (drop (i + 1) ms) q).terms) (sym here);
      variables_go = g.variables_go ∙ ap (λ (F : Fields). both now F.variables) split
          ∙ sym (both_assoc now M.variables R.variables)
          ∙ ap (λ v. both v R.variables) (sym a.variables)
          ∙ ap (λ q. both new (fields_made (i + 1) (drop (i + 1) ms) q).variables) (sym here);
    }

split_map : {A : Type 0} (f : A → Maker) (xs : List A) (i : ℕ) (d : A) → i < length xs
    → drop i (map f xs) ≡ f (get_or xs i d) ∷ drop (suc i) (map f xs)
split_map f [] i d h = absurd (omega arith)
split_map f (x ∷ xs) zero d h = refl
split_map f (x ∷ xs) (suc i) d h = split_map f xs i d (omega arith)

next : (i : ℕ) → suc i ≡ i + 1
next i = omega arith

pub going_step : (root : Root) (path : List Step) (from : Counts) (f : Ty → Maker) (parts : List Part)
    (old now new : Variables) (i : ℕ) (p : Part) (terms : List Term) (t : Term) (u : Ty)
    → i < length parts → u ≡ (get_or parts i p).ty
    → Going root path from (map (λ (q : Part). f q.ty) parts) old i terms now
    → Adds (f u (place root (path ++ step.Field i ∷ []) (counted from now))) now new t
    → Going root path from (map (λ (q : Part). f q.ty) parts) old (i + 1) (terms ++ t ∷ []) new
going_step root path from f parts old now new i p terms t u lt e g a =
    going_more root path from (map (λ (q : Part). f q.ty) parts) old now new i terms t (f u)
    (split_map (λ (q : Part). f q.ty) parts i p lt
    ∙ ap (λ k. f (get_or parts i p).ty ∷ drop k (map (λ (q : Part). f q.ty) parts)) (next i)
    ∙ ap (λ w. f w ∷ drop (i + 1) (map (λ (q : Part). f q.ty) parts)) (sym e)) g a

pub no_maker : (ints : List IntDecl) (enums : List EnumDecl) (rs : List RecDecl) (r : ℕ) → length rs ≤ r
    → or_else (record_made []) (slice_get (record_makers ints enums rs) r) ≡ record_made []
unfolding record_makers
no_maker ints enums rs r le = ap (or_else (record_made [])) (slice_get_past (record_makers ints enums rs) r
    (omega (arith, length_values (record_maker ints enums) [] rs)))

get_there : {X : Type 0} (xs : List X) (i : ℕ) (d : X) → i < length xs → slice_get xs i ≡ Some (get_or xs i d)
get_there [] i d lt = absurd (omega arith)
get_there (x ∷ xs) zero d lt = refl
get_there (x ∷ xs) (suc i) d lt = get_there xs i d (omega arith)

pub maker_there : (ints : List IntDecl) (enums : List EnumDecl) (rs : List RecDecl) (r : ℕ) (d : RecDecl)
    → r < length rs
    → or_else (record_made []) (slice_get (record_makers ints enums rs) r) ≡ record_maker ints enums
    (record_makers ints enums (take r rs)) (get_or rs r d)
unfolding record_makers
maker_there ints enums rs r d lt = ap (or_else (record_made [])) (value_at (record_maker ints enums) rs r
    (get_or rs r d) (get_there rs r d lt))

pub adds_nothing : (ints : List IntDecl) (enums : List EnumDecl) (rs : List RecDecl) (r : ℕ) (p : Place)
    (to : Variables) (t : Term) (ts : List Term) → length rs ≤ r → ts ≡ [] → t ≡ term.Rec ts
    → Adds (or_else (record_made []) (slice_get (record_makers ints enums rs) r) p) to to t
adds_nothing ints enums rs r p to t ts le none is =
    subst (λ (m : Maker). Adds (m p) to to t) (sym (no_maker ints enums rs r le))
    (record { term = is ∙ ap term.Rec none; variables = sym (both_none to) })

pub adds_record : (ints : List IntDecl) (enums : List EnumDecl) (rs : List RecDecl) (r : ℕ) (d : RecDecl) (k : ℕ)
    (p : Place) (old new : Variables) (t : Term) (ts : List Term) (parts : List Part)
    → r < length rs → k ≡ r → parts ≡ (get_or rs k d).fields → t ≡ term.Rec ts
    → AddsFields (fields_made 0 (map (λ (q : Part). made_in ints enums
    (record_makers ints enums (take k rs)) q.ty) parts) p) old new ts
    → Adds (or_else (record_made []) (slice_get (record_makers ints enums rs) r) p) old new t
adds_record ints enums rs r d k p old new t ts parts lt same are is a =
    let made : AddsFields (fields_made 0 (map (λ (q : Part). made_in ints enums
    (record_makers ints enums (take r rs)) q.ty) (get_or rs r d).fields) p) old new ts =
    subst (λ j. AddsFields (fields_made 0 (map (λ (q : Part). made_in ints enums
    (record_makers ints enums (take j rs)) q.ty) (get_or rs j d).fields) p) old new ts) same
    (subst (λ (qs : List Part). AddsFields (fields_made 0
    (map (λ (q : Part). made_in ints enums (record_makers ints enums (take k rs)) q.ty) qs) p) old new ts) are a) in
    subst (λ (m : Maker). Adds (m p) old new t) (sym (maker_there ints enums rs r d lt))
    (record { term = is ∙ ap term.Rec made.terms; variables = made.variables })
