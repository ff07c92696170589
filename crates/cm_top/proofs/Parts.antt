-- What a sink took of several pieces.
use Rattle.std.proofs.Common.{arith, ◌≡◌, ℕ, ◌+◌, ◌<◌, List, [], ◌∷◌, ◌++◌, length, map, take, drop, get_or, None, Some}
use Rattle.std.proofs.Common.{Option, Ok, Err, Result, ap, sym, subst, refl, ◌∙◌, OnErr, inl, inr, append_assoc}
use Rattle.std.proofs.Common.{add-one, drop-cons}
use Rattle.std.specs.Io.KnownBytes.{Appends}
use Rattle.std.proofs.lemmas.Bool.{cases_lt}
use Rattle.std.proofs.lemmas.List.{append-nil, map-append, take_all, take_at, take-append-drop, take-append-le}
use Rattle.std.proofs.lemmas.List.{take_more}
use Rattle.std.proofs.lemmas.List.Concat.{flat_map-append}
use Rattle.std.proofs.Math.Seq.{take-append-add}
use Rattle.cm_io.specs.Causes.{Rose}
use Rattle.cm_io.specs.Sink.{PutTakes, TakesPart}
use Rattle.cm_top.specs.Endings.{Tells}
use Rattle.cm_top.specs.Output.{TakesFront, joined}
use Rattle.cm_top.specs.inner.Pieces.{PutsAll}

pub joined-append : (ps qs : List (List ℕ)) → joined (ps ++ qs) ≡ joined ps ++ joined qs
joined-append ps qs = flat_map-append (λ p. p) ps qs

pub both : (old mid new : Option (List ℕ)) (front back : List ℕ) → Appends old mid front → Appends mid new back
    → Appends old new (front ++ back)
both None mid new front back a b = tt
both (Some x) None new front back a b = absurd a
both (Some x) (Some y) None front back a b = absurd b
both (Some x) (Some y) (Some z) front back a b = b ∙ ap (λ l. l ++ back) a ∙ append_assoc x front back

-- what was taken before, and then a part of a piece
pub part_last : (old mid new : Option (List ℕ)) (front piece : List ℕ) → Appends old mid front
    → TakesPart mid new piece → TakesPart old new (front ++ piece)
part_last None mid new front piece before part = (0, tt)
part_last (Some a) None new front piece before part = absurd before
part_last (Some a) (Some b) None front piece before part = absurd part.1
part_last (Some a) (Some b) (Some c) front piece before part = (
  length front + part.0,
  part.1 ∙ ap (λ l. l ++ take part.0 piece) before ∙ append_assoc a front (take part.0 piece)
      ∙ ap (λ l. a ++ l) (sym (take-append-add front piece part.0)),
)

pub all_part : (old new : Option (List ℕ)) (text : List ℕ) → Appends old new text → TakesPart old new text
all_part old new text taken =
    (length text, subst (Appends old new) (sym (take_all (length text) text (omega arith))) taken)

pub nothing : (old : Option (List ℕ)) → Appends old old []
nothing None = tt
nothing (Some a) = sym (append-nil a)

-- a part of the first of several pieces
pub front_first : (old new : Option (List ℕ)) (piece : List ℕ) (rest : List (List ℕ)) → TakesPart old new piece
    → TakesFront old new (piece ∷ rest)
front_first old new piece rest part = (piece ∷ [], rest, refl, subst (TakesPart old new) (sym (append-nil piece)) part)

-- pieces that were taken, and the first of those behind them
pub front_behind : (old mid new : Option (List ℕ)) (before pieces : List (List ℕ)) → Appends old mid (joined before)
    → TakesFront mid new pieces → TakesFront old new (before ++ pieces)
front_behind old mid new before pieces taken front = (
  before ++ front.0,
  front.1,
  ap (λ l. before ++ l) front.2 ∙
      sym (append_assoc before front.0 front.1),
  subst (TakesPart old new) (sym (joined-append before front.0))
      (part_last old mid new (joined before) (joined front.0) taken front.3),
)

-- and others behind them
pub front_more : (old new : Option (List ℕ)) (pieces more : List (List ℕ)) → TakesFront old new pieces
    → TakesFront old new (pieces ++ more)
front_more old new pieces more front =
    (front.0, front.1 ++ more, ap (λ l. l ++ more) front.2 ∙ append_assoc front.0 front.1 more, front.3)

-- the piece of one, and those before and behind it
pub around : {X : Type 0} (f : X → List ℕ) (xs : List X) (i : ℕ) (d : X) → i < length xs
    → map f xs ≡ map f (take i xs) ++ (f (get_or xs i d) ∷ map f (drop (i + 1) xs))
around f xs i d within =
    let next : drop i xs ≡ get_or xs i d ∷ drop (i + 1) xs = rw (add-one, drop-cons xs i d) refl in
    ap (map f) (sym (take-append-drop i xs)) ∙ map-append f (take i xs) (drop i xs) ∙
    ap (λ l. map f (take i xs) ++ map f l) next

-- one piece more was taken
pub one_more : {X : Type 0} (f : X → List ℕ) (xs : List X) (i : ℕ) (d : X) → i < length xs
    → joined (map f (take (i + 1) xs)) ≡ joined (map f (take i xs)) ++ f (get_or xs i d)
one_more f xs i d within =
    ap (λ l. joined (map f l)) (take_more xs i d within) ∙ ap joined (map-append f (take i xs) (get_or xs i d ∷ [])) ∙
    joined-append (map f (take i xs)) (f (get_or xs i d) ∷ []) ∙
    ap (λ l. joined (map f (take i xs)) ++ l) (append-nil (f (get_or xs i d)))

-- a last piece behind others
pub last_piece : {T E : Type 0} (old mid new : Option (List ℕ)) (before : List (List ℕ)) (piece : List ℕ)
    (r : Result T E) → Appends old mid (joined before) → PutTakes mid new r piece
    → PutsAll old new r (before ++ piece ∷ [])
last_piece old mid new before piece (Ok x) taken put =
    subst (Appends old new) (sym (joined-append before (piece ∷ []) ∙ ap (λ l. joined before ++ l) (append-nil piece)))
    (both old mid new (joined before) piece taken put)
last_piece old mid new before piece (Err e) taken put =
    front_behind old mid new before (piece ∷ []) taken (front_first mid new piece [] put)

-- a prefix of the middle is a prefix of the rest
front_of : (middle rest : List ℕ) (n : ℕ) → (m : ℕ) × (take m (middle ++ rest) ≡ take n middle)
front_of middle rest n =
    elim (cases_lt n (length middle)) [
      | inl below ↦ (n, take-append-le n middle rest (omega arith))
      | inr above ↦ (length middle, take_at middle rest (length middle) refl ∙ sym (take_all n middle above))
    ]

-- a part of a piece is a part of it with what stands behind it
pub part_first : (old new : Option (List ℕ)) (piece rest : List ℕ) → TakesPart old new piece
    → TakesPart old new (piece ++ rest)
part_first None new piece rest part = (0, tt)
part_first (Some a) None piece rest part = absurd part.1
part_first (Some a) (Some b) piece rest part =
    let m = front_of piece rest part.0 in
    (m.0, part.1 ∙ ap (λ l. a ++ l) (sym m.1))

pub put_more : {T E : Type 0} (old mid new : Option (List ℕ)) (r : Result T E) (front back : List ℕ)
    → Appends old mid front → PutTakes mid new r back → PutTakes old new r (front ++ back)
put_more old mid new (Ok x) front back before put = both old mid new front back before put
put_more old mid new (Err e) front back before put = part_last old mid new front back before put

-- a put that may have failed, as the count tells it
pub tells : {T E : Type 0} (old new : Option (List ℕ)) (before now : ℕ) (text : List ℕ) (r : Result T E)
    → PutTakes old new r text → OnErr r (Rose before now) → Tells old new before now text
tells old new before now text (Ok x) put cause = record { part = all_part old new text put; whole = λ _. put }
tells old new before now text (Err e) put cause = record { part = put; whole = λ calm. absurd (calm cause) }
