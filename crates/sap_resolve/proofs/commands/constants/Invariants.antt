use Rattle.std.proofs.Common.{◌≡◌, ◌++◌, drop}
use Rattle.sap_resolve.specs.Lists.{numbers_of}
use Rattle.sap_resolve.proofs.commands.constants.Given as goal

-- with those of what is left
abbrev pub invariant-loop-e : goal.invariant-loop-e
invariant-loop-e l = l.made.items ++ numbers_of (drop l.e-index l.list) ≡ numbers_of l.list
