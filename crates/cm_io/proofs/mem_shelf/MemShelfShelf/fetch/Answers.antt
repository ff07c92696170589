use Rattle.std.proofs.Common.{◌≡◌, ◌+◌, ◌∙◌, None, true, ap, refl, arith}
use Rattle.cm_io.specs.MemShelf.{bytes_of, is_named}
use Rattle.cm_io.proofs.Named.{named_among-none, Rose-missing, Rose-named}
use Rattle.cm_io.proofs.mem_shelf.MemShelfShelf.fetch.Goals as goal

pub returns-in-None-clause-cause : goal.returns-in-None-clause-cause
returns-in-None-clause-cause c =
    let gone : None ≡ bytes_of c.self.inside.files c.args.name.now =
    c.in-None.ensures ∙ ap (λ files. bytes_of files c.args.name.now) c.as_slice-2.ensures in
    rw (← c.self.view_is, c.saturating_add-self-inside.ensures, c.saturating_add-self-inside-in-None.ensures, ← gone)
    (Rose-missing c.self.inside.fails c.self.inside.calls c.self.inside.missing (omega arith))

pub returns-in-None-clause-quiet : goal.returns-in-None-clause-quiet
returns-in-None-clause-quiet c = λ none name held.
    let unnamed = named_among-none c.self.inside.fails c.saturating_add-self-inside.result
    (ap (λ s. s.fails) c.self.view_is ∙ none) in
    rw (held, unnamed) refl

pub returns-in-Some-clause-cause : goal.returns-in-Some-clause-cause
returns-in-Some-clause-cause c =
    let named : true ≡ is_named c.self.inside.fails (c.self.inside.calls + 1) =
    c.if-fails.ensures.named ∙ ap (λ fails. is_named fails (c.self.inside.calls + 1)) c.as_slice.ensures in
    rw (← c.self.view_is, c.saturating_add-self-inside.ensures)
    (Rose-named c.self.inside.fails c.self.inside.calls _ named (c.if-fails.ensures.within refl))

pub returns-in-Some-2-clause-quiet : goal.returns-in-Some-2-clause-quiet
returns-in-Some-2-clause-quiet c = λ none name held.
    let unnamed = named_among-none c.self.inside.fails c.saturating_add-self-inside.result
    (ap (λ s. s.fails) c.self.view_is ∙ none) in
    rw (held, unnamed) refl
