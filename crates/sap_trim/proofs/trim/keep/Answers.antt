use Rattle.std.proofs.Common.{◌∙◌, sym, subst}
use Rattle.sap_net.specs.IsNetlist.{IsNetlist}
use Rattle.sap_trim.specs.Tidied.{Tidied}
use Rattle.sap_trim.specs.Walked.{state_of}
use Rattle.sap_trim.proofs.trim.keep.Goals as goal

pub new-requires : goal.new-requires
new-requires c = subst IsNetlist (sym (c.in_ok-parts.ensures {u = tt})) (c.in_ok-made.ensures {u = tt}).rules

pub returns : goal.returns
returns c = subst (Tidied c.args.netlist.now (state_of c.args.walk)) (sym (c.new.ensures ∙ c.in_ok-parts.ensures {u = tt})) (c.in_ok-made.ensures {u = tt})
