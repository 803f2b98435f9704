-- The codes of module faults.
use Rattle.std.specs.Prelude.{ℕ}
use Rattle.sap_vjudge.specs.declared.code.Code.{Code}
use Rattle.sap_vjudge.specs.declared.code.Code.TheVariants as judged
use Rattle.sap_vread.specs.declared.fault.ModCode.{ModCode}
use Rattle.sap_vread.specs.declared.fault.ModCode.TheVariants.{V1, V2, V3, V4, V5, V6, V7}

-- The number of a code.
abbrev pub number : ModCode → ℕ
number V1 = 1
number V2 = 2
number V3 = 3
number V4 = 4
number V5 = 5
number V6 = 6
number V7 = 7

-- The code of a fault of a text's file.
abbrev pub code_of : Code → ModCode
code_of judged.V3 = V3
code_of judged.V4 = V4
code_of judged.V5 = V5
code_of judged.V6 = V6
code_of judged.V7 = V7
