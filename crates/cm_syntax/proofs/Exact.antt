-- A text has one right answer.
use Rattle.std.proofs.Common.{◌≡◌, ℕ, Bool, true, false, List, [], ◌∷◌, ◌++◌, Result, Ok, Err, refl, sym, ap, ◌∙◌}
use Rattle.std.proofs.Common.{subst, append_assoc, if◌then◌else◌}
use Rattle.std.proofs.lemmas.List.{append-nil}
use Rattle.cm_model.specs.declared.place.Place.{Place}
use Rattle.cm_tokens.specs.declared.token.Token.{Token}
use Rattle.cm_tokens.specs.declared.token.Placed.{Placed}
use Rattle.cm_syntax.specs.declared.tree.Tree.{Tree}
use Rattle.cm_syntax.specs.declared.fault.SyntaxFault.{SyntaxFault}
use Rattle.cm_syntax.specs.declared.fault.SyntaxFault.TheVariants.{Syntax, Deep, Memory}
use Rattle.cm_syntax.specs.Spelling.{tokens_of}
use Rattle.cm_syntax.specs.Text.{tokens, place_of, Begins, Stuck, is_shallow, too_deep, open_after, IsSyntaxAt}
use Rattle.cm_syntax.specs.Text.{IsDeepAt, IsRight, GivesAnswer}
use Rattle.cm_syntax.proofs.Laws.{unique, tokens_append}

begins_less : (p : List Token) (t : Token) (q : List Token) → Begins (p ++ t ∷ q) → Begins (p ++ t ∷ [])
begins_less p t q h = (h.0, q ++ h.1, h.2 ∙ append_assoc p (t ∷ q) h.1 ∙ sym (append_assoc p (t ∷ []) (q ++ h.1)))

shallow_less : (n : ℕ) (p : List Token) (t : Token) (q : List Token) → is_shallow n (p ++ t ∷ q) ≡ true
    → is_shallow n (p ++ t ∷ []) ≡ true
shallow_less n [] t q h = went (too_deep n t) h
  where
    went : (b : Bool) → (if b then false else is_shallow (open_after n t) q) ≡ true → (if b then false else true) ≡ true
    went true h = h
    went false h = refl
shallow_less n (u ∷ p) t q h = went (too_deep n u) h (shallow_less (open_after n u) p t q)
  where
    went : (b : Bool) → (if b then false else is_shallow (open_after n u) (p ++ t ∷ q)) ≡ true
        → (is_shallow (open_after n u) (p ++ t ∷ q) ≡ true → is_shallow (open_after n u) (p ++ t ∷ []) ≡ true)
        → (if b then false else is_shallow (open_after n u) (p ++ t ∷ [])) ≡ true
    went true h ih = h
    went false h ih = ih h

-- how two ways to part a text lie
data Compared (p q p' q' : List Placed) : Type 0 where
  alike : p ≡ p' → q ≡ q' → Compared p q p' q'
  shorter : (t : Placed) (m : List Placed) → p' ≡ p ++ t ∷ m → q ≡ t ∷ m ++ q' → Compared p q p' q'
  longer : (t : Placed) (m : List Placed) → p ≡ p' ++ t ∷ m → q' ≡ t ∷ m ++ q → Compared p q p' q'

compared : (p q p' q' : List Placed) → p ++ q ≡ p' ++ q' → Compared p q p' q'
compared [] q [] q' e = alike refl e
compared [] q (t ∷ p') q' e = shorter t p' refl e
compared (t ∷ p) q [] q' e = longer t p refl (sym e)
compared (x ∷ p) q (y ∷ p') q' e =
    let head_is : x ≡ y = cc in
    let rest_is : p ++ q ≡ p' ++ q' = cc in
    went head_is (compared p q p' q' rest_is)
  where
    went : x ≡ y → Compared p q p' q' → Compared (x ∷ p) q (y ∷ p') q'
    went h (alike a b) = alike (ap (λ r. x ∷ r) a ∙ ap (λ z. z ∷ p') h) b
    went h (shorter t m a b) = shorter t m (ap (λ r. y ∷ r) a ∙ ap (λ z. z ∷ (p ++ t ∷ m)) (sym h)) b
    went h (longer t m a b) = longer t m (ap (λ r. x ∷ r) a ∙ ap (λ z. z ∷ (p' ++ t ∷ m)) h) b

not_on : (p q : List Placed) (t : Placed) (m : List Placed) → Stuck (tokens p) (tokens q) → q ≡ t ∷ m
    → (more : List Placed) → Begins (tokens (p ++ t ∷ more)) → ⊥
not_on p q t m stuck is more b = subst (λ z. Stuck (tokens p) (tokens z)) is stuck
    (begins_less (tokens p) t.token (tokens more) (subst Begins (tokens_append p (t ∷ more)) b))

not_whole : (text p q : List Placed) (t : Tree) → Stuck (tokens p) (tokens q) → text ≡ p ++ q
    → tokens_of t ≡ tokens text → ⊥
not_whole text p [] t stuck e is = stuck t (is ∙ ap tokens (e ∙ append-nil p))
not_whole text p (x ∷ q) t stuck e is = stuck (
  t,
  tokens q,
  is ∙ ap tokens e ∙ tokens_append p (x ∷ q)
      ∙ sym (append_assoc (tokens p) (x.token ∷ []) (tokens q)),
)

two_syntax : (p q p' q' : List Placed) → Stuck (tokens p) (tokens q) → Stuck (tokens p') (tokens q')
    → Begins (tokens p) → Begins (tokens p') → Compared p q p' q' → place_of q ≡ place_of q'
two_syntax p q p' q' s s' b b' (alike e f) = ap place_of f
two_syntax p q p' q' s s' b b' (shorter t m e f) =
    absurd (not_on p q t (m ++ q') s f m (subst (λ z. Begins (tokens z)) e b'))
two_syntax p q p' q' s s' b b' (longer t m e f) =
    absurd (not_on p' q' t (m ++ q) s' f m (subst (λ z. Begins (tokens z)) e b))

sunk : (p : List Placed) (t : Placed) (m : List Placed) → is_shallow 0 (tokens (p ++ t ∷ m)) ≡ true
    → is_shallow 0 (tokens (p ++ t ∷ [])) ≡ false → ⊥
sunk p t m h d =
    let f : is_shallow 0 (tokens p ++ t.token ∷ []) ≡ true = shallow_less 0 (tokens p) t.token (tokens m)
    (ap (is_shallow 0) (sym (tokens_append p (t ∷ m))) ∙ h) in
    let e : true ≡ false = sym f ∙ ap (is_shallow 0) (sym (tokens_append p (t ∷ []))) ∙ d in absurd (cc e)

syntax_deep : (p q f : List Placed) (h : Placed) (r : List Placed) → Stuck (tokens p) (tokens q)
    → is_shallow 0 (tokens p) ≡ true → Begins (tokens (f ++ h ∷ [])) → is_shallow 0 (tokens (f ++ h ∷ [])) ≡ false
    → Compared p q f (h ∷ r) → ⊥
syntax_deep p q f h r s sh b d (alike e g) = not_on p q h r s g [] (subst (λ z. Begins (tokens (z ++ h ∷ [])))
    (sym e) b)
syntax_deep p q f h r s sh b d (shorter t m e g) = not_on p q t (m ++ h ∷ r) s g (m ++ h ∷ [])
    (subst (λ z. Begins (tokens z)) (ap (λ z. z ++ h ∷ []) e ∙ append_assoc p (t ∷ m) (h ∷ [])) b)
syntax_deep p q f h r s sh b d (longer t m e g) =
    let is : h ≡ t = cc in
    sunk f t m (subst (λ z. is_shallow 0 (tokens z) ≡ true) e sh)
    (subst (λ z. is_shallow 0 (tokens (f ++ z ∷ [])) ≡ false) is d)

two_deep : (f : List Placed) (h : Placed) (r f' : List Placed) (h' : Placed) (r' : List Placed)
    → is_shallow 0 (tokens f) ≡ true → is_shallow 0 (tokens f') ≡ true → is_shallow 0 (tokens (f ++ h ∷ [])) ≡ false
    → is_shallow 0 (tokens (f' ++ h' ∷ [])) ≡ false → Compared f (h ∷ r) f' (h' ∷ r') → h.at ≡ h'.at
two_deep f h r f' h' r' s s' d d' (alike e g) = ap place_of g
two_deep f h r f' h' r' s s' d d' (shorter t m e g) =
    let is : h ≡ t = cc in
    absurd (sunk f t m (subst (λ z. is_shallow 0 (tokens z) ≡ true) e s')
    (subst (λ z. is_shallow 0 (tokens (f ++ z ∷ [])) ≡ false) is d))
two_deep f h r f' h' r' s s' d d' (longer t m e g) =
    let is : h' ≡ t = cc in
    absurd (sunk f' t m (subst (λ z. is_shallow 0 (tokens z) ≡ true) e s)
    (subst (λ z. is_shallow 0 (tokens (f' ++ z ∷ [])) ≡ false) is d'))

tree_syntax : (text : List Placed) (t : Tree) (p : Place) → IsRight text (Ok t) → IsSyntaxAt text p → ⊥
tree_syntax text t p a b = not_whole text b.front b.rest t b.stuck b.parts a.0.0

tree_deep : (text : List Placed) (t : Tree) (p : Place) → IsRight text (Ok t) → IsDeepAt text p → ⊥
tree_deep text t p a b = sunk b.front b.here b.rest (subst (λ z. is_shallow 0 (tokens z) ≡ true) b.parts a.1) b.deep

fault_fault : (text : List Placed) (p r : Place) → IsSyntaxAt text p → IsDeepAt text r → ⊥
fault_fault text p r a b = syntax_deep a.front a.rest b.front b.here b.rest a.stuck a.shallow b.begins
    b.deep (compared a.front a.rest b.front (b.here ∷ b.rest) (sym a.parts ∙ b.parts))

pub one_right : (text : List Placed) (a b : Result Tree SyntaxFault) → IsRight text a → IsRight text b → GivesAnswer a b
one_right text (Ok t) (Ok u) h k = ap Ok (unique u t text k.0 h.0)
one_right text (Ok t) (Err (Syntax p)) h k = absurd (tree_syntax text t p h k)
one_right text (Ok t) (Err (Deep p)) h k = absurd (tree_deep text t p h k)
one_right text (Ok t) (Err Memory) h k = tt
one_right text (Err (Syntax p)) (Ok t) h k = absurd (tree_syntax text t p k h)
one_right text (Err (Syntax p)) (Err (Syntax r)) h k = ap (λ x. Err (Syntax x)) (sym k.at
    ∙ two_syntax k.front k.rest h.front h.rest k.stuck h.stuck k.begins h.begins
    (compared k.front k.rest h.front h.rest (sym k.parts ∙ h.parts)) ∙ h.at)
one_right text (Err (Syntax p)) (Err (Deep r)) h k = absurd (fault_fault text p r h k)
one_right text (Err (Syntax p)) (Err Memory) h k = tt
one_right text (Err (Deep p)) (Ok t) h k = absurd (tree_deep text t p k h)
one_right text (Err (Deep p)) (Err (Syntax r)) h k = absurd (fault_fault text r p k h)
one_right text (Err (Deep p)) (Err (Deep r)) h k = ap (λ x. Err (Deep x)) (sym k.at
    ∙ two_deep k.front k.here k.rest h.front h.here h.rest k.shallow h.shallow k.deep h.deep
    (compared k.front (k.here ∷ k.rest) h.front (h.here ∷ h.rest) (sym k.parts ∙ h.parts)) ∙ h.at)
one_right text (Err (Deep p)) (Err Memory) h k = tt
one_right text (Err Memory) b h k = tt
