use Rattle.std.proofs.Common.{◌≡◌, ◌∙◌, sym, map, string_bytes, ap}
use Rattle.std.proofs.lemmas.List.{take-map}
use Rattle.cm_typing.proofs.NameLemmas.{seen}
use Rattle.cm_typing.proofs.names.Names.cut.Goals as goal

pub returns : goal.returns
returns c = rw (← c.self.view_is) (ap (map seen) c.truncate.ensures.entries
    ∙ sym (take-map seen c.args.len c.self.inside.names.entries))
