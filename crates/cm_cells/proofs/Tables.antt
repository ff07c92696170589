-- Lists of cells as tables: one cell written, each cell begun anew.
use Rattle.std.proofs.Common.{◌≡◌, ℕ, zero, suc, ◌+◌, ◌<◌, ◌≤◌, Bool, List, [], ◌∷◌, map, length, slice_get, slice_set}
use Rattle.std.proofs.Common.{get_or, Option, Some, refl, sym, ap, ◌∙◌, arith}
use Rattle.std.proofs.lemmas.List.{map-set}
use Rattle.std.proofs.lemmas.Option.{slice_get_read}
use Rattle.cm_term.specs.declared.term.Term.{Term}
use Rattle.cm_cells.specs.declared.cell.Cell.{Cell}
use Rattle.cm_cells.specs.declared.order.Order.{Order}
use Rattle.cm_cells.specs.declared.order.Order.TheVariants as order
use Rattle.cm_cells.specs.CellTable.{CellTable, Place, with_term, started_anew}
use Rattle.cm_cells.specs.inner.Kept.{table_of, place_of, ab_of, ba_of, put, cleared}

module _ {X : Type 0} (f : Cell → X) where
  -- what a change of an item leaves as it is
  unchanged : (cs : List Cell) (i : ℕ) (c d : Cell) → slice_get cs i ≡ Some c → f d ≡ f c
      → map f (slice_set cs i d) ≡ map f cs
  unchanged [] i c d at same = refl
  unchanged (b ∷ cs) zero c d at same = ap (λ x. x ∷ map f cs) (same ∙ ap f (let e : c ≡ b = cc in e))
  unchanged (b ∷ cs) (suc i) c d at same = ap (λ xs. f b ∷ xs) (unchanged cs i c d at same)

  changed : (cs : List Cell) (i : ℕ) (d : Cell) (x : X) → f d ≡ x → map f (slice_set cs i d) ≡ slice_set (map f cs) i x
  changed cs i d x is = map-set f cs i d ∙ ap (λ y. slice_set (map f cs) i y) is

  through : (g : Cell → Cell) (h : Cell → X) → ((c : Cell) → f (g c) ≡ h c) → (cs : List Cell)
      → map f (map g cs) ≡ map h cs
  through g h e [] = refl
  through g h e (c ∷ cs) = ap (λ x. x ∷ map f (map g cs)) (e c) ∙ ap (λ xs. h c ∷ xs) (through g h e cs)

-- an item that was read at a place
pub at_place : (cs : List Cell) (i j : ℕ) (c : Cell) → j ≡ i → i < length cs → c ≡ get_or cs j c
    → slice_get cs i ≡ Some c
at_place cs i j c same lt is = slice_get_read cs (length cs) i c refl lt (is ∙ ap (λ k. get_or cs k c) same)

-- what is read of an item
pub read_of : {X Y : Type 0} (f : Cell → X) (g : X → Y) (cs : List Cell) (i : ℕ) (c : Cell)
    → slice_get cs i ≡ Some c → slice_get (map g (map f cs)) i ≡ Some (g (f c))
read_of f g [] i c at = absurd (cc)
read_of f g (b ∷ cs) zero c at = let e : b ≡ c = cc in ap (λ x. Some (g (f x))) e
read_of f g (b ∷ cs) (suc i) c at = read_of f g cs i c at

abbrev table : List Place → List Term → List Term → List Term → List Bool → CellTable
table ps ts xs ys ws = record { places = ps; initial = ts; ab = xs; ba = ys; written = ws }

same_table : {ps ps' : List Place} {ts ts' xs xs' ys ys' : List Term} {ws ws' : List Bool}
    → ps ≡ ps' → ts ≡ ts' → xs ≡ xs' → ys ≡ ys' → ws ≡ ws' → table ps ts xs ys ws ≡ table ps' ts' xs' ys' ws'
same_table {ps} {ps'} {ts} {ts'} {xs} {xs'} {ys} {ys'} {ws} {ws'} p t x y w =
    ap (λ z. table z ts xs ys ws) p ∙ ap (λ z. table ps' z xs ys ws) t ∙ ap (λ z. table ps' ts' z ys ws) x
    ∙ ap (λ z. table ps' ts' xs' z ws) y ∙ ap (λ z. table ps' ts' xs' ys' z) w

abbrev initial_of : Cell → Term
initial_of c = c.origin.initial

abbrev written_of : Cell → Bool
written_of c = c.written

-- a cell that an order writes
pub written_in : (o : Order) (t : Term) (cs : List Cell) (i : ℕ) (c : Cell) → slice_get cs i ≡ Some c
    → table_of (slice_set cs i (put o t c)) ≡ with_term o i t (table_of cs)
written_in order.Ab t cs i c at =
    let d = put order.Ab t c in
    same_table (unchanged place_of cs i c d at refl) (unchanged initial_of cs i c d at refl)
    (changed ab_of cs i d t refl) (unchanged ba_of cs i c d at refl) (changed written_of cs i d _ refl)
written_in order.Ba t cs i c at =
    let d = put order.Ba t c in
    same_table (unchanged place_of cs i c d at refl) (unchanged initial_of cs i c d at refl)
    (unchanged ab_of cs i c d at refl) (changed ba_of cs i d t refl) (changed written_of cs i d _ refl)

-- the first cells begun anew
abbrev pub anew_to : Order → ℕ → List Cell → List Cell
anew_to o zero cs = cs
anew_to o (suc i) [] = []
anew_to o (suc i) (c ∷ cs) = cleared o c ∷ anew_to o i cs

nothing : (o : Order) (i : ℕ) → [] ≡ anew_to o i []
nothing o zero = refl
nothing o (suc i) = refl

one_more : (o : Order) (i : ℕ) (cs : List Cell) (c : Cell) → slice_get (anew_to o i cs) i ≡ Some c
    → slice_set (anew_to o i cs) i (cleared o c) ≡ anew_to o (suc i) cs
one_more o zero [] c at = refl
one_more o zero (b ∷ cs) c at = ap (λ x. cleared o x ∷ cs) (let e : c ≡ b = cc in e)
one_more o (suc i) [] c at = nothing o (suc (suc i))
one_more o (suc i) (b ∷ cs) c at = ap (λ xs. cleared o b ∷ xs) (one_more o i cs c at)

pub anew_more : (o : Order) (i : ℕ) (cs : List Cell) (c : Cell) → slice_get (anew_to o i cs) i ≡ Some c
    → slice_set (anew_to o i cs) i (cleared o c) ≡ anew_to o (i + 1) cs
anew_more o i cs c at = one_more o i cs c at ∙ ap (λ n. anew_to o n cs) (let e : suc i ≡ i + 1 = omega arith in e)

pub anew_length : (o : Order) (i : ℕ) (cs : List Cell) → length (anew_to o i cs) ≡ length cs
anew_length o zero cs = refl
anew_length o (suc i) [] = refl
anew_length o (suc i) (c ∷ cs) = ap suc (anew_length o i cs)

anew_all : (o : Order) (i : ℕ) (cs : List Cell) → length cs ≤ i → anew_to o i cs ≡ map (cleared o) cs
anew_all o zero [] le = refl
anew_all o zero (c ∷ cs) le = absurd (omega arith)
anew_all o (suc i) [] le = refl
anew_all o (suc i) (c ∷ cs) le = ap (λ xs. cleared o c ∷ xs) (anew_all o i cs (omega arith))

cleared_all : (o : Order) (cs : List Cell) → table_of (map (cleared o) cs) ≡ started_anew o (table_of cs)
cleared_all order.Ab cs =
    let g = cleared order.Ab in
    same_table (through place_of g place_of (λ c. refl) cs) (through initial_of g initial_of (λ c. refl) cs)
    (through ab_of g initial_of (λ c. refl) cs) (through ba_of g ba_of (λ c. refl) cs)
    (through written_of g written_of (λ c. refl) cs)
cleared_all order.Ba cs =
    let g = cleared order.Ba in
    same_table (through place_of g place_of (λ c. refl) cs) (through initial_of g initial_of (λ c. refl) cs)
    (through ab_of g ab_of (λ c. refl) cs) (through ba_of g initial_of (λ c. refl) cs)
    (through written_of g written_of (λ c. refl) cs)

-- every cell begun anew
pub begun_anew : (o : Order) (i : ℕ) (cs ds : List Cell) → length cs ≤ i → ds ≡ anew_to o i cs
    → table_of ds ≡ started_anew o (table_of cs)
begun_anew o i cs ds le is = ap table_of (is ∙ anew_all o i cs le) ∙ cleared_all o cs
