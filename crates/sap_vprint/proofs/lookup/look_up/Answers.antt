use Rattle.sap_vprint.proofs.LookedUp.{looked_up}
use Rattle.sap_vprint.proofs.lookup.look_up.Goals as goal

pub returns : goal.returns
returns c =
    looked_up c.args.netlist.now c.args.name.now c.memory.result c.memory.ensures.found c.memory.ensures.absent
    c.in_default-wire.ensures.absent c.in_default-register.ensures.absent c.in_default-input.ensures.absent
