use Rattle.std.proofs.Common.{take}
use Rattle.sap_names.specs.Index.{Numbers}
use Rattle.sap_names.proofs.entities.numbers.Given as goal

abbrev pub invariant-loop-number : goal.invariant-loop-number
invariant-loop-number l = Numbers (take l.number l.entities) l.map.entries
