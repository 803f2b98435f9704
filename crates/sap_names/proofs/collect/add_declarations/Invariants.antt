use Rattle.std.proofs.Common.{◌≡◌, ◌++◌, drop}
use Rattle.sap_names.specs.Entities.{declared_in}
use Rattle.sap_names.proofs.collect.add_declarations.Given as goal

abbrev pub invariant-loop-declaration : goal.invariant-loop-declaration
invariant-loop-declaration l = l.list.items ++ declared_in (drop l.declaration-index l.declarations) ≡ l.initial.list.items ++ declared_in l.declarations
