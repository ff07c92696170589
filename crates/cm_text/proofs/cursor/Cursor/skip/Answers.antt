use Rattle.std.proofs.Common.{arith, ◌≤◌, drop, subst, sym}
use Rattle.std.specs.List.{prefix_len}
use Rattle.std.proofs.lemmas.List.{length-drop}
use Rattle.std.proofs.lemmas.List.Sums.{prefix_len-le-length}
use Rattle.cm_text.specs.Place.{is_in_line}
use Rattle.cm_text.specs.Standing.{Standing}
use Rattle.cm_text.proofs.Places.{kept_more}
use Rattle.cm_text.proofs.cursor.Cursor.skip.Goals as goal

pub overflow_add-self : goal.overflow_add-self
overflow_add-self c =
    let P : Standing → Type 0 = λ s. c.args.count ≤ prefix_len is_in_line (drop s.at s.text) in
    let in_line : c.args.count ≤ prefix_len is_in_line (drop c.self.inside.at c.self.inside.bytes.now) =
    subst P (sym c.self.view_is) c.requires in
    let behind = drop c.self.inside.at c.self.inside.bytes.now in
    omega (
      arith,
      in_line,
      prefix_len-le-length is_in_line behind,
      length-drop c.self.inside.at c.self.inside.bytes.now,
      c.self.invariant.short,
    )

pub invariant_of-self : goal.invariant_of-self
invariant_of-self c =
    let P : Standing → Type 0 = λ s. c.args.count ≤ prefix_len is_in_line (drop s.at s.text) in
    kept_more c.self.inside.bytes.now c.args.count c.self.inside.at c.self.inside.line c.self.inside.before
    c.self.invariant (subst P (sym c.self.view_is) c.requires)
