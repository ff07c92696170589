-- A run over a piece more.
use Rattle.std.proofs.Common.{◌≡◌, ℕ, ◌+◌, ◌<◌, List, [], ◌∷◌, ◌++◌, length, take, drop, get_or, Some, Option, Result}
use Rattle.std.proofs.Common.{Err, IfSome, ap, sym, subst, refl, ◌∙◌, append_assoc, add-one, drop-cons}
use Rattle.std.proofs.lemmas.List.{append-nil, take-append-drop, take_more}
use Rattle.std.proofs.lemmas.List.Elements.{All-cons, All-head, All-nil, All-tail}
use Rattle.std.specs.List.{All}
use Rattle.cm_mtrace.specs.Reader.{EndsBad, NamesFirst}
use Rattle.cm_mtrace.specs.Trace.{IsFirstBad, IsItem}
use Rattle.cm_mtrace.specs.declared.Item.{Item}
use Rattle.cm_mtrace.specs.declared.TraceFault.{TraceFault}
use Rattle.cm_mtrace.specs.declared.TraceFault.TheVariants.{BadLine, Memory}
use Rattle.cm_top.specs.inner.Run.{NamesBad}

-- the items before one, that one, and those behind it
pub around : (before its rest : List Item) (i : ℕ) (d : Item) → i < length its
    → before ++ its ++ rest ≡ (before ++ take i its) ++ get_or its i d ∷ (drop (i + 1) its ++ rest)
around before its rest i d within =
    let next : drop i its ≡ get_or its i d ∷ drop (i + 1) its = rw (add-one, drop-cons its i d) refl in
    let split : its ≡ take i its ++ get_or its i d ∷ drop (i + 1) its =
    sym (take-append-drop i its) ∙ ap (λ l. take i its ++ l) next in
    ap (λ l. before ++ l ++ rest) split
    ∙ ap (λ l. l ++ rest) (sym (append_assoc before (take i its) (get_or its i d ∷ drop (i + 1) its)))
    ∙ append_assoc (before ++ take i its) (get_or its i d ∷ drop (i + 1) its) rest

-- the items of two lists
pub all_parts : (xs ys : List Item) → All IsItem (xs ++ ys) → All IsItem xs × All IsItem ys
all_parts [] ys all = (All-nil IsItem, all)
all_parts (x ∷ xs) ys all =
    let rest = all_parts xs ys (All-tail IsItem x (xs ++ ys) all) in
    (All-cons IsItem x xs (All-head IsItem x (xs ++ ys) all) rest.0, rest.1)

pub one_more : (before its : List Item) (i : ℕ) (d : Item) → i < length its
    → (before ++ take i its) ++ get_or its i d ∷ [] ≡ before ++ take (i + 1) its
one_more before its i d within = append_assoc before (take i its) (get_or its i d ∷ []) ∙
    ap (λ l. before ++ l) (sym (take_more its i d within))

-- a first bad line stays the first
pub names_on : (text piece : List ℕ) (fault : TraceFault) → NamesFirst text fault → NamesFirst (text ++ piece) fault
names_on text piece (BadLine line) names =
    λ more. subst (λ t. IsFirstBad t line) (sym (append_assoc text piece more)) (names (piece ++ more))
names_on text piece Memory names = tt

pub names_bad : (text : List ℕ) (line : ℕ) → NamesFirst text (BadLine line) → IsFirstBad text line
names_bad text line names = subst (λ t. IsFirstBad t line) (append-nil text) (names [])

-- the fault at the stream's end
pub ends_bad : (text : List ℕ) (fault : TraceFault) → EndsBad text fault → NamesBad text fault
ends_bad text (BadLine line) bad = bad
ends_bad text Memory bad = tt

-- a reader that has a fault answers it
pub same_fault : {T : Type 0} (old : Option TraceFault) (f g : TraceFault) (r : Result T TraceFault) → old ≡ Some f
    → r ≡ Err g → IfSome old (λ h. r ≡ Err h) → g ≡ f
same_fault old f g r is fails again = let a = rw is at again in cc

pub refused_end : (text : List ℕ) (line : ℕ) (fault : TraceFault) → NamesFirst text (BadLine line)
    → fault ≡ BadLine line → NamesBad text fault
refused_end text line fault names is = subst (NamesBad text) (sym is) (names_bad text line names)
