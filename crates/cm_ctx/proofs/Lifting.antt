-- What is so of one part of a context is so of the whole.
use Rattle.std.proofs.Common.{◌≡◌, ◌↔◌, ℕ, ℤ, List, sym}
use Rattle.cm_sorts.specs.Partition.{Partition}
use Rattle.cm_sorts.specs.Partition as sorts
use Rattle.cm_order.specs.Differences.{Differences}
use Rattle.cm_order.specs.Differences as order
use Rattle.cm_ctx.specs.declared.choice.Choice.{Choice}
use Rattle.cm_value.specs.declared.value.Value.{Value}
use Rattle.cm_ctx.specs.Choices as choices
use Rattle.cm_ctx.specs.Choices.{AreChoices}
use Rattle.cm_term.specs.Valuation.{valuation}
use Rattle.cm_ctx.specs.declared.piece.Counts.{Counts}
use Rattle.cm_ctx.specs.Contexts.{Context, Satisfies, Allows, Implies, Keeps, IsSatisfiable, payloads_of}
use Rattle.cm_ctx.specs.Proper.{IsProper}
use Rattle.cm_ctx.proofs.Grounding.{ground}
use Rattle.cm_ctx.proofs.Decided.{own_of, own_satisfies}

-- a valuation made of its parts
pub whole : (m : Counts) (c : Context) → IsProper m c → (e : ℕ → ℕ) (n : ℕ → ℤ) (t p : ℕ → ℕ)
    → sorts.Satisfies c.classes e → order.Satisfies c.bounds n → choices.Satisfies c.tags t
    → choices.Satisfies c.options p
    → (f : ℕ → Value) × Satisfies c (valuation e n t p f)
whole m c h e n t p a b d g = let k = ground e n t p (payloads_of c.pieces) h.earlier in
    (k.0, record { elements = a; numbers = b; tags = d; options = g; payloads = k.1 })

pub satisfiable : (m : Counts) (c : Context) → IsProper m c → IsSatisfiable c
satisfiable m c h =
    let w = whole m c h h.elements.0 h.numbers.0 (own_of c.tags) (own_of c.options) h.elements.1 h.numbers.1
    (own_satisfies c.tags h.tags) (own_satisfies c.options h.options) in
    (valuation h.elements.0 h.numbers.0 (own_of c.tags) (own_of c.options) w.0, w.1)

pub elements_lift : (m : Counts) (c : Context) → IsProper m c → (P : (ℕ → ℕ) → Type 0) → sorts.Allows c.classes P
    ↔ Allows c (λ v. P v.element)
elements_lift m c h P = (
  (λ u.
      let w = whole m c h u.0 h.numbers.0 (own_of c.tags) (own_of c.options) u.1 h.numbers.1
      (own_satisfies c.tags h.tags) (own_satisfies c.options h.options) in
      (valuation u.0 h.numbers.0 (own_of c.tags) (own_of c.options) w.0, w.1, u.2)),
  (λ u. (u.0.element, u.1.elements, u.2)),
)

pub numbers_lift : (m : Counts) (c : Context) → IsProper m c → (P : (ℕ → ℤ) → Type 0) → order.Allows c.bounds P
    ↔ Allows c (λ v. P v.number)
numbers_lift m c h P = (
  (λ u.
      let w = whole m c h h.elements.0 u.0 (own_of c.tags) (own_of c.options) h.elements.1 u.1
      (own_satisfies c.tags h.tags) (own_satisfies c.options h.options) in
      (valuation h.elements.0 u.0 (own_of c.tags) (own_of c.options) w.0, w.1, u.2)),
  (λ u. (u.0.number, u.1.numbers, u.2)),
)

pub tags_lift : (m : Counts) (c : Context) → IsProper m c → (P : (ℕ → ℕ) → Type 0) → choices.Allows c.tags P
    ↔ Allows c (λ v. P v.tag)
tags_lift m c h P = (
  (λ u.
      let w = whole m c h h.elements.0 h.numbers.0 u.0 (own_of c.options) h.elements.1 h.numbers.1 u.1
      (own_satisfies c.options h.options) in
      (valuation h.elements.0 h.numbers.0 u.0 (own_of c.options) w.0, w.1, u.2)),
  (λ u. (u.0.tag, u.1.tags, u.2)),
)

pub options_lift : (m : Counts) (c : Context) → IsProper m c → (P : (ℕ → ℕ) → Type 0) → choices.Allows c.options P
    ↔ Allows c (λ v. P v.present)
options_lift m c h P = (
  (λ u.
      let w = whole m c h h.elements.0 h.numbers.0 (own_of c.tags) u.0 h.elements.1 h.numbers.1
      (own_satisfies c.tags h.tags) u.1 in
      (valuation h.elements.0 h.numbers.0 (own_of c.tags) u.0 w.0, w.1, u.2)),
  (λ u. (u.0.present, u.1.options, u.2)),
)

-- what each valuation of a part has, each of the whole has
pub tags_implied : (m : Counts) (c : Context) → IsProper m c → (P : (ℕ → ℕ) → Type 0)
    → ((t : ℕ → ℕ) → choices.Satisfies c.tags t → P t) ↔ Implies c (λ v. P v.tag)
tags_implied m c h P = (
  (λ all v s. all v.tag s.tags),
  (λ all t s.
      let w = whole m c h h.elements.0 h.numbers.0 t (own_of c.options) h.elements.1 h.numbers.1 s
      (own_satisfies c.options h.options) in
      all (valuation h.elements.0 h.numbers.0 t (own_of c.options) w.0) w.1),
)

pub options_implied : (m : Counts) (c : Context) → IsProper m c → (P : (ℕ → ℕ) → Type 0)
    → ((t : ℕ → ℕ) → choices.Satisfies c.options t → P t) ↔ Implies c (λ v. P v.present)
options_implied m c h P = (
  (λ all v s. all v.present s.options),
  (λ all t s.
      let w = whole m c h h.elements.0 h.numbers.0 (own_of c.tags) t h.elements.1 h.numbers.1
      (own_satisfies c.tags h.tags) s in
      all (valuation h.elements.0 h.numbers.0 (own_of c.tags) t w.0) w.1),
)

-- the outcome of a constant
pub constant_lift : (m : Counts) (c : Context) → IsProper m c → (k i : ℕ) → (i ≡ k) ↔ Allows c (λ v. k ≡ i)
constant_lift m c h k i = ((λ e. let w = satisfiable m c h in (w.0, w.1, sym e)), (λ w. sym w.2))

-- what one part keeps the whole keeps
pub elements_kept : (c : Context) (new : Partition) (P : (ℕ → ℕ) → Type 0) → sorts.Keeps c.classes new P
    → Keeps c (record c { classes = new }) (λ v. P v.element)
elements_kept c new P h v = (
  (λ s. let k = (h v.element).0 s.elements in (
    record
        { elements = k.0; numbers = s.numbers; tags = s.tags; options = s.options; payloads = s.payloads },
    k.1,
  )),
  (λ s. record {
    elements = (h v.element).1 (s.0.elements, s.1);
    numbers = s.0.numbers;
    tags = s.0.tags;
    options = s.0.options;
    payloads = s.0.payloads;
  }),
)

pub numbers_kept : (c : Context) (new : Differences) (P : (ℕ → ℤ) → Type 0) → order.Keeps c.bounds new P
    → Keeps c (record c { bounds = new }) (λ v. P v.number)
numbers_kept c new P h v = (
  (λ s. let k = (h v.number).0 s.numbers in (
    record
        { elements = s.elements; numbers = k.0; tags = s.tags; options = s.options; payloads = s.payloads },
    k.1,
  )),
  (λ s. record {
    elements = s.0.elements;
    numbers = (h v.number).1 (s.0.numbers, s.1);
    tags = s.0.tags;
    options = s.0.options;
    payloads = s.0.payloads;
  }),
)

pub tags_kept : (c : Context) (new : List Choice) (P : (ℕ → ℕ) → Type 0) → choices.Keeps c.tags new P
    → Keeps c (record c { tags = new }) (λ v. P v.tag)
tags_kept c new P h v = (
  (λ s. let k = (h v.tag).0 s.tags in (
    record {
      elements = s.elements;
      numbers = s.numbers;
      tags = k.0;
      options = s.options;
      payloads = s.payloads;
    },
    k.1,
  )),
  (λ s. record {
    elements = s.0.elements;
    numbers = s.0.numbers;
    tags = (h v.tag).1 (s.0.tags, s.1);
    options = s.0.options;
    payloads = s.0.payloads;
  }),
)

pub options_kept : (c : Context) (new : List Choice) (P : (ℕ → ℕ) → Type 0) → choices.Keeps c.options new P
    → Keeps c (record c { options = new }) (λ v. P v.present)
options_kept c new P h v = (
  (λ s. let k = (h v.present).0 s.options in (
    record
        { elements = s.elements; numbers = s.numbers; tags = s.tags; options = k.0; payloads = s.payloads },
    k.1,
  )),
  (λ s. record {
    elements = s.0.elements;
    numbers = s.0.numbers;
    tags = s.0.tags;
    options = (h v.present).1 (s.0.options, s.1);
    payloads = s.0.payloads;
  }),
)

pub constant_kept : (c : Context) (k i : ℕ) → k ≡ i → Keeps c c (λ v. k ≡ i)
constant_kept c k i e v = ((λ s. (s, e)), (λ s. s.0))
