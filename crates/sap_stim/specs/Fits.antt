-- Streams whose lines fit the fields.
use Rattle.std.specs.Prelude.{◌≡◌, ◌<◌, ◌^◌, ℕ, List, Bool, true, false}
use Rattle.std.specs.List.{AllZip, AllByRecursion}
use Rattle.sap_lattice.specs.Levels.{Levels, order_of}
use Rattle.sap_meaning.specs.Cycle.{Tagged as Given}
use Rattle.sap_stim.specs.declared.field.Field.{Field}
use Rattle.sap_stim.specs.declared.field.Field.TheVariants.{Tagged, Plain}
use Rattle.sap_stim.specs.Line.{field_width}
use Rattle.sap_stim.specs.Stimulus.{stimulus_of}

-- The field has no level.
abbrev pub is_plain : Field → Bool
is_plain (Tagged width) = false
is_plain (Plain width) = true

-- A number within the width, and a level, which of a plain field is bottom.
pub record InputFits (ls : Levels) (f : Field) (x : Given) : Type 0 where
  pub value : x.number < 2 ^ field_width f
  pub level : x.level < (order_of ls).count
  pub bottom : is_plain f ≡ true → x.level ≡ (order_of ls).bottom

-- One input for each field.
abbrev pub LineFits : Levels → List Field → List Given → Type 0
LineFits ls = AllZip (InputFits ls)

-- Each cycle of a stream fits the fields.
abbrev pub StreamFits : Levels → List Field → List (List Given) → Type 0
StreamFits ls fs stream = AllByRecursion (LineFits ls fs) stream

-- Where bottom is a level, what is read of a stimulus fits.
abbrev pub StimulusFits : Type 0
StimulusFits = (ls : Levels) (fs : List Field) (bytes : List ℕ)
    → (order_of ls).bottom < (order_of ls).count → StreamFits ls fs (stimulus_of ls fs bytes).stream
