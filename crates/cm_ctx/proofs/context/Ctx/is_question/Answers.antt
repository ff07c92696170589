use Rattle.std.proofs.Common.{◌≡◌, ◌↔◌, ◌≤ℤ◌, IsTrue, ap, subst, rules, to_z, of_z, w64}
use Rattle.std.proofs.lemmas.Int.{ints, to_z-of_z}
use Rattle.cm_ctx.specs.declared.piece.Counts.{Counts}
use Rattle.cm_ctx.specs.Contexts.{IsNum, IsSmall, IsTag, IsOpt}
use Rattle.cm_ctx.proofs.context.Ctx.is_question.Goals as goal

pub returns-in-Elems : goal.returns-in-Elems
returns-in-Elems c = record { exact = rw (← c.self.view_is, c.in-Elems.is) c.are_of_one_sort.ensures.exact }

pub returns-in-Nums : goal.returns-in-Nums
returns-in-Nums c =
    let numbers = ap (λ (n : Counts). n.numbers) c.self.invariant.counts in
    let both = subst (λ n. IsTrue c.are_numbers.result ↔ (IsNum n c.in-Nums.left × IsNum n c.in-Nums.right)) numbers
    c.are_numbers.ensures in
    record { exact = rw (← c.self.view_is, c.in-Nums.is) both }

pub returns-in-Range : goal.returns-in-Range
returns-in-Range c =
    let numbers = ap (λ (n : Counts). n.numbers) c.self.invariant.counts in
    let lo_is : to_z w64 (of_z w64 c.in-Range.lo) ≡ c.in-Range.lo =
    to_z-of_z w64 c.in-Range.lo (search (rules, ints)) in
    let hi_is : to_z w64 (of_z w64 c.in-Range.hi) ≡ c.in-Range.hi =
    to_z-of_z w64 c.in-Range.hi (search (rules, ints)) in
    let ends : IsTrue c.is_range.result ↔ (IsNum c.self.inside.counts.numbers c.in-Range.of × IsSmall c.in-Range.lo
    × IsSmall c.in-Range.hi × (c.in-Range.lo ≤ℤ c.in-Range.hi)) = rw (lo_is, hi_is) at c.is_range.ensures in
    let all = subst (λ n. IsTrue c.is_range.result ↔ (IsNum n c.in-Range.of × IsSmall c.in-Range.lo
    × IsSmall c.in-Range.hi × (c.in-Range.lo ≤ℤ c.in-Range.hi))) numbers ends in
    record { exact = rw (← c.self.view_is, c.in-Range.is) all }

pub returns-in-TagOf : goal.returns-in-TagOf
returns-in-TagOf c =
    let tags = ap (λ (n : Counts). n.tags) c.self.invariant.counts in
    let one = subst (λ n. IsTrue c.is_tag.result ↔ IsTag n c.in-TagOf.tag) tags c.is_tag.ensures in
    record { exact = rw (← c.self.view_is, c.in-TagOf.is) one }

pub returns-in-OptOf : goal.returns-in-OptOf
returns-in-OptOf c =
    let options = ap (λ (n : Counts). n.options) c.self.invariant.counts in
    let one = subst (λ n. IsTrue c.is_opt.result ↔ IsOpt n c.in-OptOf.opt) options c.is_opt.ensures in
    record { exact = rw (← c.self.view_is, c.in-OptOf.is) one }
