use Rattle.std.proofs.Common.{◌≡◌, ◌∙◌, sym, map, string_bytes, ap}
use Rattle.cm_typing.proofs.NameLemmas.{grown, seen}
use Rattle.cm_typing.proofs.names.Names.push.Goals as goal

pub returns : goal.returns
returns c =
    rw (← c.self.view_is, ← c.as_str.ensures) (ap (map seen) c.in_ok-insert.ensures.entries
    ∙ grown c.as_str.result.now c.in_ok-name.name c.args.entry c.in_ok-name.ensures.ok
    c.self.inside.names.entries (rw (← c.self.view_is, ← c.as_str.ensures) at c.requires))
