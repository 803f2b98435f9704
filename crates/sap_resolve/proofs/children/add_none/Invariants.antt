use Rattle.std.proofs.Common.{◌≡◌, ◌++◌, drop}
use Rattle.sap_resolved.specs.Worlds.{no_children}
use Rattle.sap_resolve.proofs.children.add_none.Given as goal

-- with those of what is left
abbrev pub invariant-loop-declaration : goal.invariant-loop-declaration
invariant-loop-declaration l = l.made.items ++ no_children (drop l._declaration-index l.declarations) ≡ l.initial.made.items ++ no_children l.declarations
