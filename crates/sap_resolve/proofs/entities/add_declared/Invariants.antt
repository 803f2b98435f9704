use Rattle.std.proofs.Common.{◌≡◌, ◌++◌, drop, map}
use Rattle.sap_names.specs.Entities.{declared_in}
use Rattle.sap_resolved.specs.Worlds.{all_declared}
use Rattle.sap_resolve.specs.Lists.{names_of, own_names}
use Rattle.sap_program.specs.Views.{entity_of}
use Rattle.sap_resolve.proofs.entities.add_declared.Given as goal

-- with those of what is left
abbrev pub invariant-loop-declaration : goal.invariant-loop-declaration
invariant-loop-declaration l =
    (map entity_of l.made.items ++ all_declared l.lattice (drop l.declaration-index l.declarations) ≡ map entity_of l.initial.made.items ++ all_declared l.lattice l.declarations)
    × (own_names l.made.items ++ names_of (declared_in (drop l.declaration-index l.declarations)) ≡ own_names l.initial.made.items ++ names_of (declared_in l.declarations))
