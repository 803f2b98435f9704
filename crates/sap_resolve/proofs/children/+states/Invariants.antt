use Rattle.std.proofs.Common.{◌≡◌, ◌++◌, drop}
use Rattle.sap_resolve.specs.Lists.{group_children}
use Rattle.sap_resolve.proofs.children.+states.Given as goal

-- with those of what is left
abbrev pub invariant-add_states-loop-s : goal.invariant-add_states-loop-s
invariant-add_states-loop-s l = l.made.items ++ group_children (drop l.s-index l.group) ≡ l.initial.made.items ++ group_children l.group
