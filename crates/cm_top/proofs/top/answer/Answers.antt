use Rattle.std.proofs.Common.{Err, refl, inl, inr}
use Rattle.cm_top.specs.declared.outcome.Outcome.TheVariants as ends
use Rattle.cm_top.proofs.top.answer.Goals as goal

pub returns-in-Err-Usage : goal.returns-in-Err-Usage
returns-in-Err-Usage g c =
    let none = c.in-Err-Usage.ensures.usage (λ i. Err (c.in-Err-Usage.field-0-is i)) in
    (ends.Usage, c.end-in-Err-Usage.ensures.status, c.end-in-Err-Usage.ensures.told, inl (refl, none, refl))

pub returns-in-Err-Memory : goal.returns-in-Err-Memory
returns-in-Err-Memory g c =
    (ends.Memory, c.end-in-Err-Memory.ensures.status, c.end-in-Err-Memory.ensures.told, inr (inl (refl, refl)))
