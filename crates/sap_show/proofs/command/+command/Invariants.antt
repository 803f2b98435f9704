use Rattle.std.proofs.Common.{◌≡◌, ◌++◌, drop}
use Rattle.sap_show.specs.Lists.{list_arms_text, list_text}
use Rattle.sap_show.proofs.command.+command.Given as goal

-- with the text of what is left
abbrev pub invariant-commands-loop-one : goal.invariant-commands-loop-one
invariant-commands-loop-one l = l.out.items ++ list_text l.margin (drop l.one-index l.list) ≡ l.initial.out.items ++ list_text l.margin l.list

abbrev pub invariant-arms-loop-arm : goal.invariant-arms-loop-arm
invariant-arms-loop-arm l = l.out.items ++ list_arms_text l.margin (drop l.arm-index l.list) ≡ l.initial.out.items ++ list_arms_text l.margin l.list
