-- Steps of the functions that read.
use Rattle.std.proofs.Common.{◌≡◌, ℕ, true, false, List, [], ◌∷◌, Some, None, Result, Ok, Err, refl, sym, ap, ◌∙◌}
use Rattle.std.proofs.Common.{subst, if◌then◌else◌}
use Rattle.cm_model.specs.declared.place.Place.{Place}
use Rattle.cm_tokens.specs.declared.token.Token.{Token}
use Rattle.cm_tokens.specs.declared.token.Placed.{Placed}
use Rattle.cm_syntax.specs.declared.tree.Tree.{Tree}
use Rattle.cm_syntax.specs.declared.fault.SyntaxFault.{SyntaxFault}
use Rattle.cm_syntax.specs.declared.fault.SyntaxFault.TheVariants as fault
use Rattle.cm_syntax.specs.Text.{too_deep, open_after, place_of}
use Rattle.cm_syntax.specs.inner.Machine.{Symbol, ValueOf, Stack, Values, Shift, Takes, Ends, Fails, mapped, shift}
use Rattle.cm_syntax.specs.inner.Machine.{reading, ended, moved, Answer, Syntax, Deep, Ahead, head, Gives, Stops, Reads}
use Rattle.cm_syntax.specs.inner.Machine.{Passes, Halts}

-- a mapped step at the head is a mapped run
mapped_ended : {a : Stack} (b : Stack) (f : Values a → Values b) (k : Values b → Tree) (x : Shift a)
    → ended k (mapped f x) ≡ ended (λ v. k (f v)) x
mapped_ended b f k (Takes later build) = refl
mapped_ended b f k (Ends v) = refl
mapped_ended b f k Fails = refl

mapped_moved : {a : Stack} (b : Stack) (left : List Placed) (f : Values a → Values b) (k : Values b
    → Tree) (x : Shift a) (go : (later : Stack) → (Values later → Tree) → Answer)
    → moved left k (mapped f x) go ≡ moved left (λ v. k (f v)) x go
mapped_moved b left f k (Takes later build) go = refl
mapped_moved b left f k (Ends v) go = refl
mapped_moved b left f k Fails go = refl

-- what follows a step that takes the token
abbrev after_step : ℕ → Placed → List Placed → (later : Stack) → (Values later → Tree) → Answer
after_step n p ps later j = if too_deep n p.token then Err (Deep (p ∷ ps)) else reading (open_after n p.token)
    later j ps

pub same_read : (n : ℕ) (a b : Stack) (f : Values a → Values b) (k : Values b → Tree) (ps : List Placed)
    → shift b (head ps) (place_of ps) ≡ mapped f (shift a (head ps) (place_of ps))
    → reading n b k ps ≡ reading n a (λ v. k (f v)) ps
same_read n a b f k [] e = ap (ended k) e ∙ mapped_ended b f k (shift a None (place_of []))
same_read n a b f k (p ∷ ps) e = ap (λ s. moved (p ∷ ps) k s (after_step n p ps)) e
    ∙ mapped_moved b (p ∷ ps) f k (shift a (Some p.token) p.at) (after_step n p ps)

fails_here : (n : ℕ) (st : Stack) (k : Values st → Tree) (ps : List Placed) → shift st (head ps) (place_of ps) ≡ Fails
    → reading n st k ps ≡ Err (Syntax ps)
fails_here n st k [] e = ap (ended k) e
fails_here n st k (p ∷ ps) e = ap (λ s. moved (p ∷ ps) k s (after_step n p ps)) e

-- no step is possible
pub stuck : (s : Symbol) (a : Ahead) (place : Place) → place_of a.left ≡ place
    → ((st : Stack) → shift (s ∷ st) (head a.left) (place_of a.left) ≡ Fails) → Stops s a (fault.Syntax place)
unfolding Stops
stuck s a place e h = (a.left, e, λ st k. fails_here a.opened (s ∷ st) k a.left (h st))

pub memory : (s : Symbol) (a : Ahead) → Stops s a fault.Memory
unfolding Stops
memory s a = tt

same_token : (ps : List Placed) (q : Placed) (rest : List Placed) (t : Token) → ps ≡ q ∷ rest → head ps ≡ Some t
    → t ≡ q.token
same_token ps q rest t e h = let f : Some t ≡ Some q.token = sym h ∙ ap head e in cc

pub takes_at : (n m : ℕ) (st : Stack) (k : Values st → Tree) (q : Placed) (ps : List Placed) (left : List Placed)
    → left ≡ q ∷ ps → too_deep n q.token ≡ false → m ≡ open_after n q.token → (later : Stack) (build : Values later
    → Values st) → shift st (Some q.token) q.at ≡ Takes later build
    → reading n st k left ≡ reading m later (λ v. k (build v)) ps
takes_at n m st k q ps left e shallow opened later build step =
    ap (reading n st k) e ∙ ap (λ s. moved (q ∷ ps) k s (after_step n q ps)) step
    ∙ ap (λ b. if b then Err (Deep (q ∷ ps)) else reading (open_after n q.token) later (λ v. k (build v)) ps) shallow
    ∙ ap (λ i. reading i later (λ v. k (build v)) ps) (sym opened)

-- the next token is passed
pub passes_to : (s : Symbol) (t : Token) (a b : Ahead) (p : Place) (st later : Stack) (build : Values later
    → Values (s ∷ st)) → head a.left ≡ Some t → Passes a p b → shift (s ∷ st) (Some t) p ≡ Takes later build
    → (k : Values (s ∷ st) → Tree) → reading a.opened (s ∷ st) k a.left ≡ reading b.opened later (λ v. k (build v))
    b.left
unfolding Passes
passes_to s t a b p st later build h q step k =
    takes_at a.opened b.opened (s ∷ st) k q.0 b.left a.left q.1 q.3 q.4 later build
    (subst (λ u. shift (s ∷ st) (Some u) q.0.at ≡ Takes later build) (same_token a.left q.0 b.left t q.1 h)
    (subst (λ x. shift (s ∷ st) (Some t) x ≡ Takes later build) (sym q.2) step))

sinks_at : (n : ℕ) (st : Stack) (k : Values st → Tree) (q : Placed) (ps : List Placed) (left : List Placed)
    → left ≡ q ∷ ps → too_deep n q.token ≡ true → (later : Stack) (build : Values later → Values st)
    → shift st (Some q.token) q.at ≡ Takes later build → reading n st k left ≡ Err (Deep left)
sinks_at n st k q ps left e deep later build step =
    ap (reading n st k) e ∙ ap (λ s. moved (q ∷ ps) k s (after_step n q ps)) step
    ∙ ap (λ b. if b then Err (Deep (q ∷ ps)) else reading (open_after n q.token) later (λ v. k (build v)) ps) deep
    ∙ ap (λ l. Err (Deep l)) (sym e)

-- the next token, that would be taken, can't be passed
pub halts_at : (s : Symbol) (t : Token) (a : Ahead) (e : SyntaxFault) → head a.left ≡ Some t → Halts a e
    → ((p : Place) (st : Stack) → (later : Stack) × (build : Values later → Values (s ∷ st))
    × (shift (s ∷ st) (Some t) p ≡ Takes later build)) → Stops s a e
unfolding Stops Halts
halts_at s t a fault.Memory h q step = tt
halts_at s t a (fault.Syntax place) h q step = let f : None ≡ Some t = sym (ap head q.0) ∙ h in absurd (cc f)
halts_at s t a (fault.Deep place) h q step = (
  a.left,
  ap place_of q.2 ∙ q.3,
  λ st k. let w = step q.0.at st in
      sinks_at a.opened (s ∷ st) k q.0 q.1 a.left q.2 q.4 w.0 w.1
      (subst (λ u. shift (s ∷ st) (Some u) q.0.at ≡ Takes w.0 w.1) (same_token a.left q.0 q.1 t q.2 h) w.2),
)

-- a part that comes next can't be read
pub stops_by : (s s' : Symbol) (a b : Ahead) (e : SyntaxFault) → ((st : Stack) (k : Values (s ∷ st) → Tree)
    → (later : Stack) × (j : Values (s' ∷ later) → Tree)
    × (reading a.opened (s ∷ st) k a.left ≡ reading b.opened (s' ∷ later) j b.left)) → Stops s' b e → Stops s a e
unfolding Stops
stops_by s s' a b fault.Memory leads h = tt
stops_by s s' a b (fault.Syntax place) leads h = (h.0, h.1, λ st k. let w = leads st k in w.2 ∙ h.2 w.0 w.1)
stops_by s s' a b (fault.Deep place) leads h = (h.0, h.1, λ st k. let w = leads st k in w.2 ∙ h.2 w.0 w.1)

-- A result that is known to be a value, or a fault.

pub reads_ok : {X : Type 0} (s : Symbol) (value : X → ValueOf s) (a b : Ahead) (r : Result X SyntaxFault) (x : X)
    → r ≡ Ok x → Reads s value a b r → Gives s a (value x) b
reads_ok s value a b r x e h = subst (Reads s value a b) e h

pub reads_err : {X : Type 0} (s : Symbol) (value : X → ValueOf s) (a b : Ahead) (r : Result X SyntaxFault)
    (e : SyntaxFault) → r ≡ Err e → Reads s value a b r → Stops s a e
reads_err s value a b r x e h = subst (Reads s value a b) e h

pub ruleset results = (reads_ok, reads_err, memory)
