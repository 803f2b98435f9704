-- The place of a fault.
use Rattle.sap_lemmas.proofs.Common.{◌≡◌, ◌≢◌, ℕ, List, [], ◌∷◌, length, take, refl, ap, sym, ◌∙◌, arith, common_steps}
use Rattle.sap_text.specs.Places as places
use Rattle.sap_text.specs.Places.{place_after, place_at}
use Rattle.sap_parse.specs.Reading.{ahead}
use Rattle.sap_parse.specs.Stages.{front_place}
use Rattle.sap_parse.specs.Text.{fault_place}
use Rattle.sap_parse.specs.declared.cursor.Ahead.TheVariants as a
use Rattle.sap_lex.specs.declared.token.Token.{Token}

whole : (text : List ℕ) → text ≡ take (length text) text
whole text = grind (arith, common_steps)

pub at_end : (text : List ℕ) (left : List Token) → left ≡ [] → place_after places.first_place text ≡ fault_place text left
unfolding place_at
at_end text left e = ap (place_after places.first_place) (whole text) ∙ ap (fault_place text) (sym e)

pub at_token : (text : List ℕ) (left : List Token) → ahead left ≢ a.Nothing → front_place left ≡ fault_place text left
unfolding ahead
at_token text [] h = absurd (h refl)
at_token text (t ∷ ts) h = refl
