-- The twin whose elements are their numbers of first appearance.
use Rattle.std.proofs.Common.{◌≡◌, ℕ, suc, ◌+◌, ◌==◌, Bool, true, false, ◌||◌, List, [], ◌∷◌, ◌++◌, map, get_or, refl}
use Rattle.std.proofs.Common.{sym, ap, ◌∙◌, subst, if◌then◌else◌, arith}
use Rattle.std.proofs.lemmas.Bool.{eqb-true, eq-eqb}
use Rattle.std.proofs.lemmas.List.{append-nil}
use Rattle.cm_model.specs.Tables.{Tables}
use Rattle.cm_model.specs.WellTyped.{IsWellTyped}
use Rattle.cm_model.specs.declared.pair.Pair.{Pair}
use Rattle.cm_world.specs.declared.world.World.{World}
use Rattle.cm_world.specs.World.{IsWorldOf}
use Rattle.cm_world.specs.Tests.{own_numbers, HasSignature}
use Rattle.cm_world.specs.Order.{touched_cells}
use Rattle.cm_world.specs.Path.{path_of_world}
use Rattle.cm_world.specs.Commuting.{Commutes}
use Rattle.cm_world.specs.Shape.{Mark, Element, Presence, Number, appeared, is_among, place_of, seen_with, numbers_from}
use Rattle.cm_world.specs.Shape.{marks_of_world, shape_of, Signature, signature_of}
use Rattle.cm_twin.specs.Names.{Names}
use Rattle.cm_twin.specs.Own.{AreUndone, IsOwnTwin, own_twin_of}
use Rattle.cm_twin.specs.Numbered.{mark_named, seen_in, numbers_of, numbering}
use Rattle.cm_twin.proofs.Own.{OwnTwin, own_twin}
use Rattle.cm_twin.proofs.Shapes.{world_marks, same_shape}

-- what is among some is among more, at the same place
among_more : (n : ℕ) (seen more : List ℕ) → is_among n seen ≡ true → is_among n (seen ++ more) ≡ true
among_more n [] more h = absurd (cc)
among_more n (m ∷ seen) more h = by (among_more n seen more) (m == n) h
  where
    by : (is_among n seen ≡ true → is_among n (seen ++ more) ≡ true) → (b : Bool) → (b || is_among n seen) ≡ true
        → (b || is_among n (seen ++ more)) ≡ true
    by rest true h = refl
    by rest false h = rest h

place_more : (n : ℕ) (seen more : List ℕ) → is_among n seen ≡ true → place_of n (seen ++ more) ≡ place_of n seen
place_more n [] more h = absurd (cc)
place_more n (m ∷ seen) more h = by (place_more n seen more) (m == n) h
  where
    by : (is_among n seen ≡ true → place_of n (seen ++ more) ≡ place_of n seen) → (b : Bool)
        → (b || is_among n seen) ≡ true
        → (if b then 0 else 1 + place_of n (seen ++ more)) ≡ (if b then 0 else 1 + place_of n seen)
    by rest true h = refl
    by rest false h = ap (λ k. 1 + k) (rest h)

-- one that is not among them gets the next place
among_last : (n : ℕ) (seen : List ℕ) → is_among n (seen ++ n ∷ []) ≡ true
among_last n [] = ap (λ b. b || false) (eq-eqb n n refl)
among_last n (m ∷ seen) = ap (λ b. (m == n) || b) (among_last n seen) ∙ by (m == n)
  where
    by : (b : Bool) → (b || true) ≡ true
    by true = refl
    by false = refl

place_last : (n : ℕ) (seen : List ℕ) → is_among n seen ≡ false → place_of n (seen ++ n ∷ []) ≡ place_of n seen
place_last n [] h = ap (λ b. if b then 0 else 1 + 0) (eq-eqb n n refl)
place_last n (m ∷ seen) h = by (place_last n seen) (m == n) h
  where
    by : (is_among n seen ≡ false → place_of n (seen ++ n ∷ []) ≡ place_of n seen) → (b : Bool)
        → (b || is_among n seen) ≡ false
        → (if b then 0 else 1 + place_of n (seen ++ n ∷ [])) ≡ (if b then 0 else 1 + place_of n seen)
    by rest true h = absurd (cc)
    by rest false h = ap (λ k. 1 + k) (rest h)

-- what stands at an element's place
get_place : (n : ℕ) (l : List ℕ) → is_among n l ≡ true → get_or l (place_of n l) 0 ≡ n
get_place n [] h = absurd (cc)
get_place n (m ∷ l) h = by (get_place n l) (m == n) refl h
  where
    by : (is_among n l ≡ true → get_or l (place_of n l) 0 ≡ n) → (b : Bool) → (m == n) ≡ b
        → (b || is_among n l) ≡ true → get_or (m ∷ l) (if b then 0 else 1 + place_of n l) 0 ≡ n
    by rest true e h = eqb-true m n e
    by rest false e h =
        let next : 1 + place_of n l ≡ suc (place_of n l) = omega arith in
        ap (λ k. get_or (m ∷ l) k 0) next ∙ rest h

appeared_append : (r : ℕ) (xs ys : List Mark) → appeared r (xs ++ ys) ≡ appeared r xs ++ appeared r ys
appeared_append r [] ys = refl
appeared_append r (Element s n ∷ xs) ys =
    ap (λ l. if s == r then n ∷ l else l) (appeared_append r xs ys) ∙ by (s == r)
  where
    by : (b : Bool) → (if b then n ∷ (appeared r xs ++ appeared r ys) else appeared r xs ++ appeared r ys)
        ≡ (if b then n ∷ appeared r xs else appeared r xs) ++ appeared r ys
    by true = refl
    by false = refl
appeared_append r (Presence d ∷ xs) ys = appeared_append r xs ys
appeared_append r (Number n ∷ xs) ys = appeared_append r xs ys

-- what appeared stays in front
grows : (s n r : ℕ) (seen : List Mark)
    → (more : List ℕ) × (appeared r (seen_with s n seen) ≡ appeared r seen ++ more)
grows s n r seen = by (is_among n (appeared s seen))
  where
    by : (b : Bool)
        → (more : List ℕ) × (appeared r (if b then seen else seen ++ Element s n ∷ []) ≡ appeared r seen ++ more)
    by true = ([], sym (append-nil (appeared r seen)))
    by false = (appeared r (Element s n ∷ []), appeared_append r seen (Element s n ∷ []))

among_grown : (s m r n : ℕ) (seen : List Mark) → is_among n (appeared r seen) ≡ true
    → is_among n (appeared r (seen_with s m seen)) ≡ true
among_grown s m r n seen h =
    let g = grows s m r seen in ap (is_among n) g.1 ∙ among_more n (appeared r seen) g.0 h

place_grown : (s m r n : ℕ) (seen : List Mark) → is_among n (appeared r seen) ≡ true
    → place_of n (appeared r (seen_with s m seen)) ≡ place_of n (appeared r seen)
place_grown s m r n seen h =
    let g = grows s m r seen in ap (place_of n) g.1 ∙ place_more n (appeared r seen) g.0 h

among_final : (r n : ℕ) (ms seen : List Mark) → is_among n (appeared r seen) ≡ true
    → is_among n (appeared r (seen_in seen ms)) ≡ true
among_final r n [] seen h = h
among_final r n (Element s m ∷ ms) seen h = among_final r n ms (seen_with s m seen) (among_grown s m r n seen h)
among_final r n (Presence d ∷ ms) seen h = among_final r n ms seen h
among_final r n (Number m ∷ ms) seen h = among_final r n ms seen h

place_final : (r n : ℕ) (ms seen : List Mark) → is_among n (appeared r seen) ≡ true
    → place_of n (appeared r (seen_in seen ms)) ≡ place_of n (appeared r seen)
place_final r n [] seen h = refl
place_final r n (Element s m ∷ ms) seen h =
    place_final r n ms (seen_with s m seen) (among_grown s m r n seen h) ∙ place_grown s m r n seen h
place_final r n (Presence d ∷ ms) seen h = place_final r n ms seen h
place_final r n (Number m ∷ ms) seen h = place_final r n ms seen h

-- an element behind others of its sort
own_last : (s n : ℕ) (seen : List Mark) → appeared s (seen ++ Element s n ∷ []) ≡ appeared s seen ++ n ∷ []
own_last s n seen =
    appeared_append s seen (Element s n ∷ [])
    ∙ ap (λ b. appeared s seen ++ (if b then n ∷ [] else [])) (eq-eqb s s refl)

among_seen : (s n : ℕ) (seen : List Mark) → is_among n (appeared s (seen_with s n seen)) ≡ true
among_seen s n seen = by (is_among n (appeared s seen)) refl
  where
    by : (b : Bool) → is_among n (appeared s seen) ≡ b
        → is_among n (appeared s (if b then seen else seen ++ Element s n ∷ [])) ≡ true
    by true e = e
    by false e = ap (is_among n) (own_last s n seen) ∙ among_last n (appeared s seen)

place_seen : (s n : ℕ) (seen : List Mark)
    → place_of n (appeared s (seen_with s n seen)) ≡ place_of n (appeared s seen)
place_seen s n seen = by (is_among n (appeared s seen)) refl
  where
    by : (b : Bool) → is_among n (appeared s seen) ≡ b
        → place_of n (appeared s (if b then seen else seen ++ Element s n ∷ [])) ≡ place_of n (appeared s seen)
    by true e = refl
    by false e = ap (place_of n) (own_last s n seen) ∙ place_last n (appeared s seen) e

-- the numbers are one to one on what appears
undone_in : (all ms seen : List Mark) → seen_in seen ms ≡ seen_in [] all → AreUndone (numbers_of all) ms
undone_in all [] seen e = tt
undone_in all (Element s n ∷ ms) seen e = (
  get_place n (appeared s (seen_in [] all))
      (subst (λ l. is_among n (appeared s l) ≡ true) e (among_final s n ms (seen_with s n seen) (among_seen s n seen))),
  undone_in all ms (seen_with s n seen) e,
)
undone_in all (Presence d ∷ ms) seen e = undone_in all ms seen e
undone_in all (Number n ∷ ms) seen e = undone_in all ms seen e

pub numbers_undone : (ms : List Mark) → AreUndone (numbers_of ms) ms
numbers_undone ms = undone_in ms ms [] refl

-- the numbers of the shape are the names
numbers_named : (ms seen : List Mark) → numbers_from seen ms
    ≡ own_numbers (map (mark_named (λ s n. place_of n (appeared s (seen_in seen ms)))) ms)
numbers_named [] seen = refl
numbers_named (Element s n ∷ ms) seen =
    ap (λ k. k ∷ numbers_from (seen_with s n seen) ms)
    (sym (place_final s n ms (seen_with s n seen) (among_seen s n seen) ∙ place_seen s n seen))
    ∙ ap (λ l. place_of n (appeared s (seen_in (seen_with s n seen) ms)) ∷ l) (numbers_named ms (seen_with s n seen))
numbers_named (Presence d ∷ ms) seen = ap (λ l. d ∷ l) (numbers_named ms seen)
numbers_named (Number n ∷ ms) seen = numbers_named ms seen

abbrev signature : List ℕ → List ℕ → Signature
signature path marks = record { path = path; shape = marks }

module _ (t : Tables) (typed : IsWellTyped t) (p : Pair) (w u : World) where
  -- what is so of the twin whose elements are their numbers
  pub record NumberedTwin : Type 0 where
    pub own : OwnTwin t (numbering t p w) typed p w u
    pub numbers : own_numbers (marks_of_world t p u) ≡ shape_of t p w
    pub signature : signature_of t p u ≡ signature_of t p w

  pub numbered : IsWorldOf t p w → IsOwnTwin t p (numbering t p w) w u → NumberedTwin
  numbered is named =
      let names : Names = numbering t p w in
      let undone : AreUndone names (marks_of_world t p w) = numbers_undone (marks_of_world t p w) in
      let own = own_twin t names typed p w u is undone named in
      let same = same_shape t names p w u undone own.twin own.alike.touches in
      record {
        own = own;
        numbers = ap own_numbers (world_marks t names p w u own.twin own.alike.touches)
            ∙ sym (numbers_named (marks_of_world t p w) []);
        signature = ap (λ l. signature l (shape_of t p u)) (sym own.alike.path)
            ∙ ap (signature (path_of_world t p w)) same;
      }

  -- where the first world commutes its signature is that of a commuting world whose elements are their numbers, with
  -- least values wherever it touches nothing
  pub numbered_has : IsWorldOf t p w → Commutes t p w → IsOwnTwin t p (numbering t p w) w u
      → HasSignature t p (signature_of t p w) u × (own_numbers (marks_of_world t p u) ≡ shape_of t p w)
      × (map (λ e. e.cell) u.init.exceptions ≡ touched_cells t p u)
  numbered_has is commutes named =
      let twin = numbered is named in (
        record {
          is_world = twin.own.is_world;
          commutes = twin.own.alike.commutes.0 commutes;
          is = twin.signature;
        },
        twin.numbers,
        twin.own.exceptions,
      )

-- there is such a world
pub own_twin_is : (t : Tables) (p : Pair) (names : Names) (w : World) → IsOwnTwin t p names w (own_twin_of t p names w)
own_twin_is t p names w = record { defaults = refl; exceptions = refl; a = refl; b = refl }
