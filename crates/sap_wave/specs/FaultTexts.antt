-- The text of a fault.
use Rattle.std.specs.Prelude.{ℕ, List, ◌++◌, codes}
use Rattle.std.specs.Fmt.{decimal}
use Rattle.sap_wave.specs.Code.{number}
use Rattle.sap_wave.specs.declared.fault.WaveFault.{WaveFault}
use Rattle.sap_wave.specs.declared.fault.WaveFault.TheVariants.{Rule, Memory}

-- How a fault of a dump is written.
abbrev pub wave_text : WaveFault → List ℕ
wave_text (Rule code line) = codes "Y" ++ decimal (number code) ++ codes " line " ++ decimal line
wave_text Memory = codes "memory"
