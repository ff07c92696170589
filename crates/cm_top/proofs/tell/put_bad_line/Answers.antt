use Rattle.std.proofs.Common.{◌≡◌, ◌++◌, codes, List, ℕ, append_assoc, subst, sym, ap, refl, ◌∙◌}
use Rattle.std.specs.Fmt.{decimal}
use Rattle.cm_io.specs.Sink.{PutTakes, TakesPart}
use Rattle.cm_top.specs.Endings.{bad_line_text}
use Rattle.cm_top.proofs.Parts.{part_first, put_more}
use Rattle.cm_top.proofs.tell.put_bad_line.Goals as goal

-- the three parts of the front, and the two behind them
refused_text : (file line : List ℕ) (n : ℕ) (name : List ℕ) → name ≡ file → line ≡ decimal n
    → (codes "commuter: " ++ name ++ codes ":") ++ (line ++ codes ": bad trace line\n") ≡ bad_line_text file n
refused_text file line n name e f =
    ap (λ l. (codes "commuter: " ++ name ++ codes ":") ++ (l ++ codes ": bad trace line\n")) f
    ∙ ap (λ m. (codes "commuter: " ++ m ++ codes ":") ++ (decimal n ++ codes ": bad trace line\n")) e
    ∙ sym (append_assoc (codes "commuter: " ++ file ++ codes ":") (decimal n) (codes ": bad trace line\n"))

pub returns-in-Ok-clause-taken : goal.returns-in-Ok-clause-taken
returns-in-Ok-clause-taken g c =
    let old = g.E.Sink.written c.args.err.now in
    let mid = g.E.Sink.written c.put_three.new.out in
    let new = g.E.Sink.written c.put_both.new.out in
    let name = c.as_bytes.result.now in
    let digits = c.as_bytes-in-Ok.result.now in
    let text = refused_text c.args.file.now digits c.args.line name c.as_bytes.ensures.value
    (c.as_bytes-in-Ok.ensures.value ∙ c.format.ensures.text) in
    (subst (PutTakes old new c.put_both.result) text
    (put_more old mid new c.put_both.result (codes "commuter: " ++ name ++ codes ":")
    (digits ++ codes ": bad trace line\n") c.in-Ok.ensures.taken c.put_both.ensures.taken))

pub returns-in-Err-clause-taken : goal.returns-in-Err-clause-taken
returns-in-Err-clause-taken g c =
    let old = g.E.Sink.written c.args.err.now in
    let new = g.E.Sink.written c.put_three.new.out in
    let name = c.as_bytes.result.now in
    let text = (refused_text c.args.file.now (decimal c.args.line) c.args.line name c.as_bytes.ensures.value refl) in
    (subst (TakesPart old new) text
    (part_first old new (codes "commuter: " ++ name ++ codes ":")
    (decimal c.args.line ++ codes ": bad trace line\n") c.in-Err.ensures.taken))
