-- Worked examples of pairs: shape, signature, open prefix, too many paths.
use Rattle.std.proofs.Common.{◌≡◌, ℕ, zero, suc, ℤ, ap, ◌∙◌, ◌<◌, pos, List, [], ◌∷◌, ◌++◌, get_or, Some, None, refl}
use Rattle.std.proofs.Common.{arith}
use Rattle.cm_model.specs.Tables.{Tables}
use Rattle.cm_model.specs.declared.ty.Ty.{Ty, out-Ty}
use Rattle.cm_value.proofs.Members.{member-int}
use Rattle.cm_value.specs.declared.value.Value.TheVariants as value
use Rattle.cm_value.proofs.Folds.{fold-elem, fold-int, fold-tag}
use Rattle.cm_value.proofs.Types.{out_sort, out_int, out_enum}
use Rattle.cm_eval.specs.State.{store}
use Rattle.cm_eval.specs.Evaluation.{named}
use Rattle.cm_eval.proofs.Examples.{out_elem, out_tag, elem_compared}
use Rattle.cm_eval.proofs.Examples as examples
use Rattle.cm_samples.specs.Examples.{pair, world}
use Rattle.cm_world.specs.Path.{path_of_world}
use Rattle.cm_world.specs.Shape.{shape_of, Signature, signature_of, Mark, Number, Marked, marks_of, mark_step}
use Rattle.cm_world.specs.Shape.{element_of}
use Rattle.cm_world.specs.World.{IsWorldOf, IsStateOf}
use Rattle.cm_world.specs.Over.{IsPath, AreDistinct, TooManyPaths}
use Rattle.cm_world.specs.OpenPrefix.{IsOpenPrefix}
use Rattle.cm_samples.specs.Counters.{inc_tables}
use Rattle.cm_samples.specs.Flags.{open_tables}
use Rattle.cm_samples.proofs.Meanings.{means-num, means-tag, means-local, means-whole, means-read, means-shift}
use Rattle.cm_samples.proofs.Meanings.{means-into, means-compare, means-not, turns-let, turns-set, turns-assume}
use Rattle.cm_samples.proofs.Meanings.{turns-return, same-elem}

-- the marks of a value by its form
marks-elem : (t : Tables) (u : Ty) (n : ℕ) → marks_of t (value.Elem n) u ≡ element_of (out-Ty u) n
marks-elem t u n = ap (λ (m : Marked). m u) (fold-elem (mark_step t) n)

marks-int : (t : Tables) (u : Ty) (n : ℤ) → marks_of t (value.Int n) u ≡ Number n ∷ []
marks-int t u n = ap (λ (m : Marked). m u) (fold-int (mark_step t) n)

marks-tag : (t : Tables) (u : Ty) (n : ℕ) → marks_of t (value.Tag n) u ≡ Number (pos n) ∷ []
marks-tag t u n = ap (λ (m : Marked). m u) (fold-tag (mark_step t) n)

-- both descriptors are the first element that appears
pub open_shape : shape_of open_tables (pair 0 0) (world (store (value.Tag 0 ∷ []) []) (value.Elem 7 ∷ [])
    (value.Elem 7 ∷ [])) ≡ 0 ∷ 0 ∷ []
unfolding open_tables
open_shape = simp (
  turns-assume,
  turns-set,
  turns-return,
  means-not,
  means-read,
  means-local,
  means-tag,
  elem_compared,
  same-elem,
  out_elem,
  out_tag,
  marks-elem,
  marks-tag,
  out_sort,
)

open_path : path_of_world open_tables (pair 0 0) (world (store (value.Tag 0 ∷ []) []) (value.Elem 7 ∷ [])
    (value.Elem 7 ∷ [])) ≡ 0 ∷ 1 ∷ 0 ∷ 0 ∷ 1 ∷ 0 ∷ []
unfolding open_tables
open_path = simp (
  turns-assume,
  turns-set,
  turns-return,
  means-not,
  means-read,
  means-local,
  means-tag,
  elem_compared,
  same-elem,
  out_elem,
  out_tag,
)

abbrev signature : List ℕ → List ℕ → Signature
signature path shape = record { path = path; shape = shape }

-- the path with the shape
pub open_signature : signature_of open_tables (pair 0 0) (world (store (value.Tag 0 ∷ []) []) (value.Elem 7 ∷ [])
    (value.Elem 7 ∷ []))
    ≡ record { path = 0 ∷ 1 ∷ 0 ∷ 0 ∷ 1 ∷ 0 ∷ []; shape = 0 ∷ 0 ∷ [] }
open_signature =
    ap (λ path. signature path (shape_of open_tables (pair 0 0) (world (store (value.Tag 0 ∷ []) [])
    (value.Elem 7 ∷ []) (value.Elem 7 ∷ [])))) open_path
    ∙ ap (signature (0 ∷ 1 ∷ 0 ∷ 0 ∷ 1 ∷ 0 ∷ [])) open_shape

inc_at_3 : path_of_world inc_tables (pair 0 0) (world (store (value.Int (pos 3) ∷ []) []) [] []) ≡ 2 ∷ []
unfolding inc_tables
inc_at_3 = simp (turns-set, turns-return, means-into, means-shift, means-whole, means-tag, examples.out_int)

inc_at_2 : path_of_world inc_tables (pair 0 0) (world (store (value.Int (pos 2) ∷ []) []) [] []) ≡ 1 ∷ 2 ∷ []
unfolding inc_tables
inc_at_2 = simp (turns-set, turns-return, means-into, means-shift, means-whole, means-tag, examples.out_int)

inc_state : IsStateOf inc_tables (store (value.Int (pos 2) ∷ []) [])
unfolding inc_tables
inc_state = record { defaults = simp (member-int, out_int); exceptions = refl; apart = refl }

inc_state_3 : IsStateOf inc_tables (store (value.Int (pos 3) ∷ []) [])
unfolding inc_tables
inc_state_3 = record { defaults = simp (member-int, out_int); exceptions = refl; apart = refl }

inc_world_2 : IsWorldOf inc_tables (pair 0 0) (world (store (value.Int (pos 2) ∷ []) []) [] [])
unfolding inc_tables
inc_world_2 = record { init = inc_state; a = refl; b = refl }

inc_world_3 : IsWorldOf inc_tables (pair 0 0) (world (store (value.Int (pos 3) ∷ []) []) [] [])
unfolding inc_tables
inc_world_3 = record { init = inc_state_3; a = refl; b = refl }

-- with 3 the first call is blocked at once, with 2 the second one is
path_3 : IsPath inc_tables (pair 0 0) (2 ∷ [])
path_3 = record { world = world (store (value.Int (pos 3) ∷ []) []) [] []; is_world = inc_world_3; has = inc_at_3 }

path_2 : IsPath inc_tables (pair 0 0) (1 ∷ 2 ∷ [])
path_2 = record { world = world (store (value.Int (pos 2) ∷ []) []) [] []; is_world = inc_world_2; has = inc_at_2 }

-- so the first decision is open
pub inc_parts : IsOpenPrefix inc_tables (pair 0 0) (1 ∷ [])
inc_parts = record {
  before = [];
  last = 1;
  other = 2;
  is = refl;
  differ = λ e. cc;
  begins = record { rest = 2 ∷ []; path = path_2 };
  parts = record { rest = []; path = path_3 };
}

different : AreDistinct {X = List ℕ} ((2 ∷ []) ∷ (1 ∷ 2 ∷ []) ∷ [])
different zero zero d lt in_list e = omega (arith, lt)
different zero (suc zero) d lt in_list e = cc
different zero (suc (suc j)) d lt in_list e = omega (arith, in_list)
different (suc i) zero d lt in_list e = omega (arith, lt)
different (suc i) (suc zero) d lt in_list e = omega (arith, lt)
different (suc i) (suc (suc j)) d lt in_list e = omega (arith, in_list)

paths : (i : ℕ) → i < 2 → IsPath inc_tables (pair 0 0) (get_or ((2 ∷ []) ∷ (1 ∷ 2 ∷ []) ∷ []) i [])
paths zero lt = path_3
paths (suc zero) lt = path_2
paths (suc (suc i)) lt = absurd (omega (arith, lt))

-- and the pair has more paths than one
pub inc_over : TooManyPaths inc_tables (pair 0 0) 1
inc_over = record {
  paths = (2 ∷ []) ∷ (1 ∷ 2 ∷ []) ∷ [];
  distinct = different;
  are = paths;
  many = omega arith;
}
