use Rattle.std.proofs.Common.{ap, ◌∙◌}
use Rattle.sap_tree.specs.Whole.{is_whole}
use Rattle.sap_gen.proofs.Built.{design_built}
use Rattle.sap_gen.proofs.Trees.{tree_is_whole}
use Rattle.sap_gen.proofs.design.design.Goals as goal

pub new-requires : goal.new-requires
new-requires c =
    ap is_whole (design_built c.args.size.registers c.args.size.states c.in_ok-declarations.declarations.items c.in_ok-states.states.items
    c.in_ok-declarations.ensures c.in_ok-states.ensures)
    ∙ tree_is_whole c.args.size.registers c.args.size.states c.args.size.some_register c.args.size.few_registers c.args.size.some_state c.args.size.few_states

pub returns : goal.returns
returns c =
    c.new.ensures
    ∙ design_built c.args.size.registers c.args.size.states c.in_ok-declarations.declarations.items c.in_ok-states.states.items c.in_ok-declarations.ensures c.in_ok-states.ensures
