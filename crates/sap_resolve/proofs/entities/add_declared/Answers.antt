use Rattle.std.proofs.Common.{◌∙◌, arith}
use Rattle.sap_resolve.proofs.Worlds.{declared_step, declared_end, names_step, names_end}
use Rattle.sap_resolve.proofs.entities.add_declared.Goals as goal

pub loop-declaration-preserved : goal.loop-declaration-preserved
loop-declaration-preserved c = (
  declared_step c.args.lattice.now c.args.declarations.now c.loop-declaration.declaration-index c.declaration-item.result
      c.loop-declaration.made.items _ _ (omega arith) c.declaration-item.is
      c.in_ok-push.ensures.items c.in_ok-declared.ensures.entity
      ∙ c.loop-declaration.invariant.0,
  names_step c.args.declarations.now c.loop-declaration.declaration-index c.declaration-item.result c.loop-declaration.made.items
      _ _ (omega arith) c.declaration-item.is c.in_ok-push.ensures.items
      c.in_ok-declared.ensures.name
      ∙ c.loop-declaration.invariant.1,
)

pub returns-clause-entities : goal.returns-clause-entities
returns-clause-entities c = declared_end c.args.lattice.now c.args.declarations.now c.loop-declaration.declaration-index _ _ (omega arith) c.loop-declaration.invariant.0

pub returns-clause-names : goal.returns-clause-names
returns-clause-names c = names_end c.args.declarations.now c.loop-declaration.declaration-index _ _ (omega arith) c.loop-declaration.invariant.1
