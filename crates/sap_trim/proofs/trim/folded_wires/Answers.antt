use Rattle.std.proofs.Common.{List, ap₂}
use Rattle.sap_net.specs.declared.parts.Wire.{Wire}
use Rattle.sap_maps.specs.Scope.{find}
use Rattle.sap_share.specs.Sets.{holds}
use Rattle.sap_trim.specs.Walked.{state_of}
use Rattle.sap_trim.specs.Built.{built}
use Rattle.sap_trim.proofs.Passes.{Folded, folded_all}
use Rattle.sap_trim.proofs.trim.folded_wires.Goals as goal
use Rattle.sap_trim.proofs.trim.folded_wires.Goals.{After-made_by}

all : (c : After-made_by) → Folded c.args.netlist.now (built c.args.netlist.now c.made_by.result.wires.items (find c.made_by.result.stands))
all c =
    folded_all c.args.netlist.now (holds c.args.lasting.now) (state_of c.in_ok-walk.walk) (state_of c.fold_all.new.self) c.wires.result.now
    (built c.args.netlist.now c.made_by.result.wires.items (find c.made_by.result.stands)) c.rules.ensures c.requires.lasting
    c.in_ok-walk.ensures.begins c.wires.ensures c.in_ok-fold_all.ensures.walked
    c.fold_all.new.self.wires.numbers c.in_ok-fold_all.ensures.orderly
    (ap₂ (λ (ws : List Wire) e. built c.args.netlist.now ws (find e)) c.made_by.ensures.wires c.made_by.ensures.stands)

pub returns-clause-rules : goal.returns-clause-rules
returns-clause-rules c = (all (goal.at.returns-clause-rules c).After-made_by).rules

pub returns-clause-declares : goal.returns-clause-declares
returns-clause-declares c = (all (goal.at.returns-clause-declares c).After-made_by).declares

pub returns-clause-same : goal.returns-clause-same
returns-clause-same c = (all (goal.at.returns-clause-same c).After-made_by).same

pub returns-clause-folded : goal.returns-clause-folded
returns-clause-folded c = (all (goal.at.returns-clause-folded c).After-made_by).folded
