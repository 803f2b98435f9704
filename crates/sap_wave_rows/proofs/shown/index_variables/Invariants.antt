use Rattle.std.proofs.Common.{take}
use Rattle.sap_net.specs.NameMaps.{Indexes}
use Rattle.sap_wave.specs.Waves.{names_of}
use Rattle.sap_wave_rows.proofs.shown.index_variables.Given as goal

abbrev pub invariant-loop-k : goal.invariant-loop-k
invariant-loop-k l = Indexes l.places (names_of (take l.k l.variables))
