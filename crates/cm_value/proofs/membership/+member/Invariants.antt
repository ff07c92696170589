-- What is left to test decides.
use Rattle.std.proofs.Common.{◌≡◌, map, drop}
use Rattle.cm_value.specs.Membership.{are_members, member_of}
use Rattle.cm_value.proofs.membership.+member.Given as goal

abbrev pub invariant-are_members-loop-i : goal.invariant-are_members-loop-i
invariant-are_members-loop-i l =
    are_members (map (member_of l.model) (drop l.i l.parts)) (map (λ p. p.ty) (drop l.i l.fields))
    ≡ are_members (map (member_of l.fn.model) l.fn.parts) (map (λ p. p.ty) l.fn.fields)
