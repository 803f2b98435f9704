use Rattle.sap_gen.proofs.Sound.{size_well_formed}
use Rattle.sap_gen.proofs.checked.no_fault.Goals as goal

pub returns : goal.returns
returns c =
    size_well_formed c.args.lattice.now c.requires c.args.size.registers c.args.size.states c.args.size.some_register c.args.size.few_registers c.args.size.some_state
    c.args.size.few_states
