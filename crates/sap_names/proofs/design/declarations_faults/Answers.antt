use Rattle.std.proofs.Common.{◌∙◌, arith}
use Rattle.sap_lattice.specs.Levels.{order_of}
use Rattle.sap_names.proofs.Lists.{declarations_step}
use Rattle.sap_names.proofs.design.declarations_faults.Goals as goal

pub loop-declaration-preserved : goal.loop-declaration-preserved
loop-declaration-preserved c =
    declarations_step c.args.lattice.now.names (order_of c.args.lattice.now).le c.args.declarations.now c.loop-declaration.declaration-index _ _ _ (omega arith)
    c.declaration-item.is c.declaration_faults.ensures ∙ c.loop-declaration.invariant
