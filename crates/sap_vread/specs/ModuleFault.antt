-- The fault of a text that is no module.
use Rattle.std.specs.Prelude.{ℕ, List}
use Rattle.sap_vtext.specs.Items.{File}
use Rattle.sap_vjudge.specs.FirstFault.{IsFirstFault}
use Rattle.sap_vjudge.specs.declared.code.Code.{Code}
use Rattle.sap_vparse.specs.Text.{IsReadFault, IsText}
use Rattle.sap_vlex.specs.declared.fault.ReadFault.TheVariants as r
use Rattle.sap_vread.specs.Codes.{code_of}
use Rattle.sap_text.specs.Places.{place_at}
use Rattle.sap_vread.specs.declared.fault.ModCode.TheVariants.{V1, V2}
use Rattle.sap_vread.specs.declared.fault.ModFault.{ModFault}
use Rattle.sap_vread.specs.declared.fault.ModFault.TheVariants.{Rule}

-- The first byte at which no token begins; or, where the bytes are tokens, the first of these that cannot follow; or,
-- where the tokens are a file, its first fault of V3 to V7, by place and then by code. `at` is how many bytes of the
-- text stand before the place.
pub data IsModuleFault (text : List ℕ) : ModFault → Type 0 where
  no_token : {at : ℕ} → IsReadFault text (r.V1 at) → IsModuleFault text (Rule V1 (place_at text at))
  unexpected : {at : ℕ} → IsReadFault text (r.V2 at) → IsModuleFault text (Rule V2 (place_at text at))
  in_file : {file : File} {code : Code} {at : ℕ} → IsText text file → IsFirstFault file code at
      → IsModuleFault text (Rule (code_of code) (place_at text at))
