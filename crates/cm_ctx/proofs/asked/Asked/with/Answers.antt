use Rattle.std.proofs.Common.{◌≡◌, length, sym, ap, subst, List, ◌∙◌, ℕ, ◌+◌, ◌-◌, arith, slice_index_or}
use Rattle.std.proofs.Common.{replicate, [], ◌∷◌, ◌++◌}
use Rattle.cm_ctx.specs.declared.piece.Piece.{Piece}
use Rattle.cm_ctx.specs.Contexts.{payloads_of}
use Rattle.cm_ctx.specs.Asking.{IsNew, with_number, number_of}
use Rattle.cm_ctx.proofs.Indexing.{indexed_given}
use Rattle.cm_ctx.proofs.asked.Asked.with.Goals as goal

pub invariant_of-result : goal.invariant_of-result
invariant_of-result c =
    let ps = c.self.inside.pieces.items in
    let os = c.self.inside.options.items in
    let rs = c.self.inside.roots.items in
    let p = c.args.piece in
    let new : IsNew ps p.root = subst (λ (qs : List Piece). IsNew qs p.root) (sym c.self.view_is) c.requires.new in
    let row : p.from.options ≡ length (payloads_of ps) =
    subst (λ (qs : List Piece). p.from.options ≡ length (payloads_of qs)) (sym c.self.view_is) c.requires.row in
    let next : c.in-Ok.next ≡ length ps + 1 = c.in-Ok.ensures.1
    ∙ ap (λ (qs : List Piece). length qs + 1) c.as_slice-before.ensures.value in
    let table : (n : ℕ)
    → slice_index_or c.in_ok-roots.roots.items n 0 ≡ with_number rs (number_of p.root) (length ps + 1) n =
    λ n. subst (λ m. slice_index_or c.in_ok-roots.roots.items n 0 ≡ with_number rs (number_of p.root) m n) next
    (subst (λ k. slice_index_or c.in_ok-roots.roots.items n 0 ≡ with_number rs k c.in-Ok.next n) c.root_number.ensures
    (subst (λ (ns : List ℕ). slice_index_or c.in_ok-roots.roots.items n 0
    ≡ with_number ns c.root_number.result c.in-Ok.next n) c.as_slice.ensures.value (c.in_ok-roots.ensures n))) in
    indexed_given ps os rs c.self.invariant p new row c.in_ok-roots.roots.items table c.in_ok-pieces.pieces.items
    c.in_ok-options.options.items c.len-count.result (c.in-Ok.next - 1)
    (c.in_ok-pieces.ensures ∙ ap (λ (qs : List Piece). qs ++ p ∷ []) c.as_slice-before.ensures.value)
    (c.in_ok-options.ensures ∙ ap (λ qs. qs ++ replicate c.len-count.result
    (c.in-Ok.next - 1)) c.as_slice-2.ensures.value) c.len-count.ensures (omega (arith, next))
