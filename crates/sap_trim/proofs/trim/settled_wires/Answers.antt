use Rattle.std.proofs.Common.{List, ap₂, subst}
use Rattle.sap_net.specs.declared.parts.Wire.{Wire}
use Rattle.sap_maps.specs.Scope.{find}
use Rattle.sap_share.specs.Sets.{holds}
use Rattle.sap_trim.specs.Stays.{AllStay}
use Rattle.sap_trim.specs.Walked.{state_of}
use Rattle.sap_trim.specs.Built.{built}
use Rattle.sap_trim.proofs.Passes.{settled_all}
use Rattle.sap_trim.proofs.trim.settled_wires.Goals as goal

pub with_starts-requires : goal.with_starts-requires
with_starts-requires c = subst (λ (ws : List Wire). AllStay ws (find c.in_ok-stays.stays)) c.wires.ensures (c.in_ok-stays.ensures {u = tt})

pub returns : goal.returns
returns c =
    settled_all c.args.netlist.now (holds c.args.lasting.now) (state_of c.in_ok-walk.walk) (state_of c.settle_all.new.self)
    c.wires-2.result.now (built c.args.netlist.now c.made_by.result.wires.items (find c.made_by.result.stands)) c.rules.ensures c.requires
    c.in_ok-walk.ensures.begins c.wires-2.ensures c.in_ok-settle_all.ensures.walked
    c.settle_all.new.self.wires.numbers c.in_ok-settle_all.ensures.orderly
    (ap₂ (λ (ws : List Wire) e. built c.args.netlist.now ws (find e)) c.made_by.ensures.wires c.made_by.ensures.stands)
