use Rattle.std.proofs.Common.{◌≡◌, ◌≤◌, ◌∙◌, ap, drop, subst, sym}
use Rattle.std.specs.List.{prefix_len}
use Rattle.cm_text.specs.Place.{is_in_line}
use Rattle.cm_tokens.specs.First.{first_token}
use Rattle.cm_tokens.proofs.Firsts.{first_in_line}
use Rattle.cm_tokens.proofs.Listings.{read_is}
use Rattle.cm_tokens.proofs.tokens.read.Goals as goal

pub skip-requires : goal.skip-requires
skip-requires c =
    let cursor = c.skip_gap.new.cursor in
    let behind = drop cursor.at cursor.text in
    let len : c.in_ok-token.len ≡ (first_token behind).1 = (λ i. (c.in_ok-token.ensures i).1)
    ∙ ap (λ l. (first_token l).1) c.rest-rest.ensures in
    subst (λ k. k ≤ prefix_len is_in_line behind) (sym len) (first_in_line behind c.skip_gap.ensures.stops)

pub returns : goal.returns
returns c = read_is c.args.cursor.now c.skip_gap.new.cursor c.skip.new.self c.in_ok-token.token c.in_ok-token.len
    c.place-at.result c.rest-rest.result.now c.is_empty.result c.skip_gap.ensures.moves c.place-at.ensures
    c.rest-rest.ensures c.in_ok-token.ensures c.skip.ensures c.is_empty.ensures
