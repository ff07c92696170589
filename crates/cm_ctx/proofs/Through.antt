-- Equivalences one behind another.
use Rattle.std.proofs.Common.{◌≡◌, ◌↔◌, ◌∙◌, sym}

pub through : {A B C : Type 0} → A ↔ B → B ↔ C → A ↔ C
through f g = ((λ a. g.0 (f.0 a)), (λ c. f.1 (g.1 c)))

pub of_same : {A X : Type 0} {i j k : X} → j ≡ k → A ↔ (i ≡ j) → A ↔ (i ≡ k)
of_same e f = ((λ a. f.0 a ∙ e), (λ h. f.1 (h ∙ sym e)))
