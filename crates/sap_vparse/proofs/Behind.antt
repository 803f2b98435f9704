-- The place behind the tokens that were read.
use Rattle.std.proofs.Common.{◌≡◌, ◌≢◌, ℕ, List, [], ◌∷◌, refl}
use Rattle.sap_vtext.specs.Tokens.{Token}
use Rattle.sap_vparse.specs.Reading.{head, here, of_nothing}
use Rattle.sap_vparse.specs.Text.{fault_place}

pub at_token : (text : List ℕ) (left : List Token) → head left ≢ of_nothing → here left ≡ fault_place text left
unfolding head
at_token text [] ne = absurd (ne refl)
at_token text (x ∷ ts) ne = refl
