use Rattle.std.proofs.Common.{◌≡◌, ◌∙◌, sym, map, string_bytes, ap}
use Rattle.cm_typing.specs.Names.{it_name}
use Rattle.cm_typing.proofs.NameLemmas.{there}
use Rattle.cm_typing.proofs.names.Names.has_it.Goals as goal

pub returns : goal.returns
returns c = rw (← c.self.view_is) (c.contains_key.ensures ∙ there it_name c.self.inside.names.entries)
