use Rattle.std.proofs.Common.{ap, sym, subst, ◌∙◌, ◌≡◌, ◌+◌, drop, refl, true}
use Rattle.std.specs.List.{prefix_len}
use Rattle.std.proofs.lemmas.Option.{MatchOption-at_some}
use Rattle.cm_text.specs.Place.{is_in_line}
use Rattle.cm_text.specs.Standing.{Standing}
use Rattle.cm_tokens.specs.Gap.{begins_comment, gap_of}
use Rattle.cm_tokens.proofs.Gaps.{at_comment, at_end, at_other, at_space, moved}
use Rattle.cm_tokens.proofs.gap.skip_one.Goals as goal

pub returns-in_default-clause-moves : goal.returns-in_default-clause-moves
returns-in_default-clause-moves c = (
  refl,
  at_end c.args.cursor.now.text c.args.cursor.now.at
      (sym c.in_default.ensures),
)

pub returns-then-is_space-clause-gap : goal.returns-then-is_space-clause-gap
returns-then-is_space-clause-gap c =
    let old = c.args.cursor.now in
    let new = c.next.new.self in
    let step : Standing = record { text = old.text; at = old.at + 1 } in
    let after : new ≡ step = MatchOption-at_some (new ≡ old) (λ _. new ≡ step) c.in-Some.byte (c.next.ensures.gives
    ∙ sym c.in-Some.ensures) c.next.ensures.moves in
    moved new old 1 after (at_space old.text old.at c.in-Some.byte (sym c.in-Some.ensures) (sym c.if-is_space.ensures))

pub returns-then-begins_comment-clause-gap : goal.returns-then-begins_comment-clause-gap
returns-then-begins_comment-clause-gap c =
    let old = c.args.cursor.now in
    let rest = drop old.at old.text in
    let comment : begins_comment rest ≡ true = ap begins_comment (sym c.rest-rest.ensures)
    ∙ sym c.if-begins_comment.ensures in
    let n : c.line_len.result ≡ prefix_len is_in_line rest = c.line_len.ensures
    ∙ ap (prefix_len is_in_line) c.rest-rest.ensures in
    moved c.skip.new.self old c.line_len.result c.skip.ensures
    (subst (λ k. gap_of rest ≡ k + gap_of (drop (old.at + k) old.text)) (sym n) (at_comment old.text old.at comment))

pub returns-clause-moves : goal.returns-clause-moves
returns-clause-moves c = (
  refl,
  at_other c.args.cursor.now.text c.args.cursor.now.at c.in-Some.byte (sym c.in-Some.ensures)
      (sym c.if-is_space.ensures) (ap begins_comment (sym c.rest-rest.ensures) ∙ sym c.if-begins_comment.ensures),
)
