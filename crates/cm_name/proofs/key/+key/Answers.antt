use Rattle.std.proofs.Common.{rules, subst}
use Rattle.cm_term.specs.declared.term.Term.TheViews.{the_lemmas}
use Rattle.cm_name.specs.Naming.{HasSymbols}
use Rattle.cm_name.proofs.Keys.{fields_named}
use Rattle.cm_name.proofs.key.+key.Goals as goal

pub key_named-record_key-requires : goal.key_named-record_key-requires
key_named-record_key-requires t c =
    let named = fields_named c.args.ctx.now.pieces c.in-Rec.fields
    (subst (HasSymbols c.args.ctx.now.pieces) c.in-Rec.is c.requires) in search (rules, the_lemmas)
