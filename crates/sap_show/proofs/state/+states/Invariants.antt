use Rattle.std.proofs.Common.{◌≡◌, ◌++◌, drop}
use Rattle.sap_show.specs.Lists.{group_text}
use Rattle.sap_show.proofs.state.+states.Given as goal

-- with the text of what is left
abbrev pub invariant-states-loop-one : goal.invariant-states-loop-one
invariant-states-loop-one l = l.out.items ++ group_text l.margin (drop l.one-index l.list) ≡ l.initial.out.items ++ group_text l.margin l.list
