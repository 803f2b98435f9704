-- The text of a refused line.
use Rattle.std.specs.Prelude.{ℕ, List, ◌++◌, codes}
use Rattle.std.specs.Fmt.{decimal}
use Rattle.sap_stim.specs.Code.{number}
use Rattle.sap_stim.specs.declared.fault.StimFault.{StimFault}

-- How a fault of a stimulus is written.
abbrev pub stimulus_text : StimFault → List ℕ
stimulus_text fault = codes "S" ++ decimal (number fault.code) ++ codes " line " ++ decimal fault.line
