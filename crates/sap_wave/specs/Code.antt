-- The numbers of the codes.
use Rattle.std.specs.Prelude.{ℕ}
use Rattle.sap_wave.specs.declared.fault.WaveCode.{WaveCode}
use Rattle.sap_wave.specs.declared.fault.WaveCode.TheVariants.{Y1, Y2, Y3, Y4, Y5}

-- The number of a code.
abbrev pub number : WaveCode → ℕ
number Y1 = 1
number Y2 = 2
number Y3 = 3
number Y4 = 4
number Y5 = 5
