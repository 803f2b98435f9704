use Rattle.std.proofs.Common.{take}
use Rattle.sap_net.specs.NameMaps.{Indexes}
use Rattle.sap_wave.specs.Shown.{names_in}
use Rattle.sap_wave.proofs.registers.index_registers.Given as goal

abbrev pub invariant-loop-k : goal.invariant-loop-k
invariant-loop-k l = Indexes l.places (names_in (take l.k l.registers))
