use Rattle.std.proofs.Common.{◌≡◌, ◌++◌, drop}
use Rattle.sap_check.specs.Lists.{arms_sites, surroundings_of, list_sites}
use Rattle.sap_check.proofs.sites.+body.Given as goal

-- with those of what is left
abbrev pub invariant-add_list-loop-command : goal.invariant-add_list-loop-command
invariant-add_list-loop-command l =
    l.sites.items ++ list_sites (surroundings_of l.names l.body) (drop l.command-index l.commands) ≡ l.initial.sites.items ++ list_sites (surroundings_of l.names l.body) l.commands

abbrev pub invariant-add_arms-loop-arm : goal.invariant-add_arms-loop-arm
invariant-add_arms-loop-arm l =
    l.sites.items ++ arms_sites (surroundings_of l.names l.body) (drop l.arm-index l.arms) ≡ l.initial.sites.items ++ arms_sites (surroundings_of l.names l.body) l.arms
