-- The numbers of the codes.
use Rattle.std.specs.Prelude.{ℕ}
use Rattle.sap_stim.specs.declared.fault.StimCode.{StimCode}
use Rattle.sap_stim.specs.declared.fault.StimCode.TheVariants.{S1, S2, S3, S4, S5, S6}

-- The number of a code.
abbrev pub number : StimCode → ℕ
number S1 = 1
number S2 = 2
number S3 = 3
number S4 = 4
number S5 = 5
number S6 = 6
