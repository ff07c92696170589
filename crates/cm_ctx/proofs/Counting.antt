-- How many variables there are, and valuations that are one on the first of them.
use Rattle.std.proofs.Common.{◌≤◌, ◌↔◌, refl, ◌∙◌, arith}
use Rattle.cm_term.specs.Valuation.{Valuation}
use Rattle.cm_ctx.specs.declared.piece.Counts.{Counts}
use Rattle.cm_ctx.specs.declared.piece.Variables.{Variables}
use Rattle.cm_ctx.specs.Making.{counted, both}
use Rattle.cm_ctx.specs.Giving.{Gives, Agree, IsWithin, IsVariant, HasPayload}
use Rattle.cm_ctx.proofs.Each.{each_append}

-- no more of each kind
pub record AtMost (c d : Counts) : Type 0 where
  pub elements : c.elements ≤ d.elements
  pub numbers : c.numbers ≤ d.numbers
  pub tags : c.tags ≤ d.tags
  pub options : c.options ≤ d.options

pub at_most : (c : Counts) (v : Variables) → AtMost c (counted c v)
at_most c v = record { elements = omega arith; numbers = omega arith; tags = omega arith; options = omega arith }

pub at_most_same : (c : Counts) → AtMost c c
at_most_same c = record { elements = omega arith; numbers = omega arith; tags = omega arith; options = omega arith }

pub agree_less : (c d : Counts) (v w : Valuation) → AtMost c d → Agree d v w → Agree c v w
agree_less c d v w m a = record {
  elements = λ x lt. a.elements x (let n = m.elements in omega arith);
  numbers = λ x lt. a.numbers x (let n = m.numbers in omega arith);
  tags = λ x lt. a.tags x (let n = m.tags in omega arith);
  present = λ x lt. a.present x (let n = m.options in omega arith);
  payloads = λ x lt. a.payloads x (let n = m.options in omega arith);
}

pub agree_then : (c : Counts) (u v w : Valuation) → Agree c u v → Agree c v w → Agree c u w
agree_then c u v w a b = record {
  elements = λ x lt. a.elements x lt ∙ b.elements x lt;
  numbers = λ x lt. a.numbers x lt ∙ b.numbers x lt;
  tags = λ x lt. a.tags x lt ∙ b.tags x lt;
  present = λ x lt. a.present x lt ∙ b.present x lt;
  payloads = λ x lt. a.payloads x lt ∙ b.payloads x lt;
}

pub agree_same : (c : Counts) (v : Valuation) → Agree c v v
agree_same c v = record {
  elements = λ x lt. refl;
  numbers = λ x lt. refl;
  tags = λ x lt. refl;
  present = λ x lt. refl;
  payloads = λ x lt. refl;
}

-- what is given to these variables and then to those
pub gives_both : (c : Counts) (u w : Variables) (v : Valuation) → Gives c (both u w) v
    ↔ (Gives c u v × Gives (counted c u) w v)
gives_both c u w v =
    let n = each_append (IsWithin v) c.numbers u.numbers w.numbers in
    let t = each_append (IsVariant v) c.tags u.tags w.tags in
    let o = each_append (HasPayload v) c.options u.options w.options in (
      (λ g.
          let a = n.0 g.numbers in
          let b = t.0 g.tags in
          let d = o.0 g.options in
          (record { numbers = a.0; tags = b.0; options = d.0 }, record { numbers = a.1; tags = b.1; options = d.1 })),
      (λ g. record {
        numbers = n.1 (g.0.numbers, g.1.numbers);
        tags = t.1 (g.0.tags, g.1.tags);
        options = o.1 (g.0.options, g.1.options);
      }),
    )
