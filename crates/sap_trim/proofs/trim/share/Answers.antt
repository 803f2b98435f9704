use Rattle.std.proofs.Common.{◌∙◌, sym, subst}
use Rattle.sap_net.specs.IsNetlist.{IsNetlist}
use Rattle.sap_trim.specs.Tidied.{SettledNet}
use Rattle.sap_trim.proofs.trim.share.Goals as goal

pub new-requires : goal.new-requires
new-requires c = subst IsNetlist (sym (c.in_ok-parts.ensures {u = tt})) (c.in_ok-made.ensures {u = tt}).rules

pub returns : goal.returns
returns c = subst (SettledNet c.args.netlist) (sym (c.new.ensures ∙ c.in_ok-parts.ensures {u = tt})) (c.in_ok-made.ensures {u = tt})
