use Rattle.std.proofs.Common.{take}
use Rattle.sap_wave.specs.Dumping.{StandAt}
use Rattle.sap_wave.proofs.dumper.places_of.Given as goal

-- the places so far
abbrev pub invariant-loop-variable : goal.invariant-loop-variable
invariant-loop-variable l = StandAt l.runner.net (take l.variable-index l.variables) l.places.items
