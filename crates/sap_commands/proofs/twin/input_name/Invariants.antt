use Rattle.std.proofs.Common.{◌≡◌, [], drop, get_or}
use Rattle.sap_commands.specs.Twin.{input_names}
use Rattle.sap_commands.proofs.twin.input_name.Given as goal

abbrev pub invariant-loop-number : goal.invariant-loop-number
invariant-loop-number l = get_or (input_names (drop l.number l.names)) l.left [] ≡ get_or (input_names l.names) l.fn.place []
