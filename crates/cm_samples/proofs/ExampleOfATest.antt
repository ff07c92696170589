-- A worked example of a test: the world of two calls that only reply.
use Rattle.std.proofs.Common.{◌≡◌, ℕ, List, [], ◌∷◌, ◌++◌, map, codes, refl, sym, ap, ◌∙◌, subst}
use Rattle.cm_value.specs.declared.value.Value.{Value}
use Rattle.cm_value.specs.declared.value.Value.TheVariants as value
use Rattle.cm_eval.specs.State.{store}
use Rattle.cm_eval.proofs.Examples.{out_tag}
use Rattle.cm_world.specs.declared.world.World.{World}
use Rattle.cm_world.specs.World.{IsWorldOf, IsStateOf}
use Rattle.cm_world.specs.Commuting.{Commutes}
use Rattle.cm_value.proofs.Folds.{fold-tag}
use Rattle.cm_eval.specs.Comparison.{variant, tag_of}
use Rattle.cm_world.specs.Order.{touched_cells}
use Rattle.cm_world.specs.Path.{path_of_world, logs, Inspecting, inspecting_step, inspection_logged, variants_logged}
use Rattle.cm_world.specs.Shape.{Mark, shape_of, shape_in, Signature, signature_of, Marked, marks_of, marks_of_world}
use Rattle.cm_world.specs.Shape.{fields_marked, cells_marked}
use Rattle.cm_world.specs.Tests.{HasSignature, IsTestOf, integers, own_numbers, AreAtMost}
use Rattle.cm_samples.specs.Yes.{yes_tables}
use Rattle.cm_samples.specs.Examples.{pair, world}
use Rattle.cm_samples.proofs.Meanings.{means-tag, turns-return}

abbrev least : World
least = world (store [] []) [] []

abbrev signature : Signature
signature = record { path = 1 ∷ 1 ∷ 1 ∷ 1 ∷ []; shape = [] }

least_world : IsWorldOf yes_tables (pair 0 0) least
unfolding yes_tables
least_world = record { init = record { defaults = refl; exceptions = refl; apart = refl }; a = refl; b = refl }

inspect-tag : (n : ℕ) (w : Value) (rest : List ℕ) → inspection_logged (value.Tag n) w rest ≡ variants_logged
    (variant n) (tag_of w) rest
inspect-tag n w rest = ap (λ (m : Inspecting (List ℕ)). m w rest) (fold-tag (inspecting_step (List ℕ) [] logs) n)

least_path : path_of_world yes_tables (pair 0 0) least ≡ 1 ∷ 1 ∷ 1 ∷ 1 ∷ []
unfolding yes_tables
least_path = simp (turns-return, means-tag, inspect-tag, out_tag)

least_commutes : Commutes yes_tables (pair 0 0) least
unfolding yes_tables
least_commutes = simp (turns-return, means-tag) (refl, refl, λ c is. refl)

no_marks : (ms : List Marked) → fields_marked ms [] ≡ []
no_marks [] = refl
no_marks (m ∷ ms) = refl

untouched : (v : World) → touched_cells yes_tables (pair 0 0) v ≡ []
unfolding yes_tables
untouched v = simp (turns-return, means-tag)

marks : (v : World) → marks_of_world yes_tables (pair 0 0) v ≡ []
unfolding yes_tables
marks v =
    ap (λ ms. ms ++ (fields_marked (map (marks_of yes_tables) v.b.vals) [] ++ cells_marked yes_tables
    v.init (touched_cells yes_tables (pair 0 0) v))) (no_marks (map (marks_of yes_tables) v.a.vals))
    ∙ ap (λ ms. ms ++ cells_marked yes_tables v.init (touched_cells yes_tables (pair 0 0) v))
    (no_marks (map (marks_of yes_tables) v.b.vals))
    ∙ ap (cells_marked yes_tables v.init) (untouched v)

abbrev with_path : List ℕ → List ℕ → Signature
with_path path shape = record { path = path; shape = shape }

least_signature : signature_of yes_tables (pair 0 0) least ≡ signature
least_signature = ap (λ path. with_path path (shape_of yes_tables (pair 0 0) least)) least_path
    ∙ ap (λ ms. with_path (1 ∷ 1 ∷ 1 ∷ 1 ∷ []) (shape_in ms)) (marks least)

-- the two calls only reply, so the test is the world without arguments and without exceptions
pub least_test : IsTestOf yes_tables (pair 0 0) signature least
unfolding yes_tables
least_test = record {
  has = record { is_world = least_world; commutes = least_commutes; is = least_signature };
  elements = ap own_numbers (marks least);
  least = λ v has. subst (λ ms. AreAtMost (integers (marks_of_world yes_tables (pair 0 0) least)) (integers ms))
      (sym (marks v))
      (subst (λ ms. AreAtMost (integers ms) []) (sym (marks least)) tt);
  defaults = refl;
  exceptions = sym (untouched least);
}
