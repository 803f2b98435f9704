use Rattle.std.proofs.Common.{◌∙◌, sym, subst}
use Rattle.sap_net.specs.IsNetlist.{IsNetlist}
use Rattle.sap_trim.specs.Alike.{DeclaresAlike, RunsAlike}
use Rattle.sap_trim.specs.Folded.{IsFolded}
use Rattle.sap_trim.proofs.trim.fold_wires.Goals as goal

pub new-requires : goal.new-requires
new-requires c = subst IsNetlist (sym (c.in_ok-parts.ensures {u = tt})) c.in_ok-made.ensures.rules

pub returns-clause-declares : goal.returns-clause-declares
returns-clause-declares c = subst (DeclaresAlike c.args.netlist.now) (sym (c.new.ensures ∙ c.in_ok-parts.ensures {u = tt})) c.in_ok-made.ensures.declares

pub returns-clause-same : goal.returns-clause-same
returns-clause-same c = subst (RunsAlike c.args.netlist.now) (sym (c.new.ensures ∙ c.in_ok-parts.ensures {u = tt})) c.in_ok-made.ensures.same

pub returns-clause-folded : goal.returns-clause-folded
returns-clause-folded c = subst IsFolded (sym (c.new.ensures ∙ c.in_ok-parts.ensures {u = tt})) c.in_ok-made.ensures.folded
