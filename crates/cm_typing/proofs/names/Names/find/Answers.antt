use Rattle.std.proofs.Common.{◌≡◌, ◌∙◌, sym, map, string_bytes, ap}
use Rattle.cm_typing.proofs.NameLemmas.{found}
use Rattle.cm_typing.proofs.names.Names.find.Goals as goal

pub returns : goal.returns
returns c = rw (← c.self.view_is, ← c.as_str.ensures) (c.get.ensures.value
    ∙ found c.as_str.result.now c.self.inside.names.entries)
