use Rattle.std.proofs.Common.{◌∙◌, ap, is_some, Option, ℕ}
use Rattle.sap_net.proofs.Places.{placed}
use Rattle.sap_share.proofs.name_table.is_indexed.Goals as goal

pub returns : goal.returns
returns c = λ names is.
    c.is_some.ensures ∙ ap (λ (o : Option ℕ). is_some o) (c.at_name.ensures ∙ is c.args.name.now) ∙ placed names c.args.name.now
