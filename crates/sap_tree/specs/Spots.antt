-- Where an expression stands.
use Rattle.sap_tree.specs.Syntax.{Expression, literal, sized_literal, variable, cell_at, unary_of, binary_of, choice, slice, concat, zero_extend}
use Rattle.sap_text.specs.declared.place.Place.{Place}
use Rattle.sap_tree.specs.declared.place.Spot.{Spot}

-- The two places of an expression: of its first token, the parentheses around it included, and of its own token.
unfoldable pub spot_of : Expression → Spot
spot_of (literal spot n) = spot
spot_of (sized_literal spot w n) = spot
spot_of (variable spot name) = spot
spot_of (cell_at spot name index) = spot
spot_of (unary_of spot o x) = spot
spot_of (binary_of spot o x y) = spot
spot_of (choice spot x y z) = spot
spot_of (slice spot x high low) = spot
spot_of (concat spot parts) = spot
spot_of (zero_extend spot x w) = spot

-- `first_of` is the place of an expression's first token.
unfoldable pub first_of : Expression → Place
unfolding spot_of
first_of x = (spot_of x).first

-- The spot of an expression in parentheses that begin at this place, from the spot that it has without them.
abbrev pub from_place : Place → Spot → Spot
from_place place spot = record { first = place; at = spot.at }

-- `enclosed` is the expression in parentheses that begin at this place.
unfoldable pub enclosed : Place → Expression → Expression
enclosed place (literal spot n) = literal (from_place place spot) n
enclosed place (sized_literal spot w n) = sized_literal (from_place place spot) w n
enclosed place (variable spot name) = variable (from_place place spot) name
enclosed place (cell_at spot name index) = cell_at (from_place place spot) name index
enclosed place (unary_of spot o x) = unary_of (from_place place spot) o x
enclosed place (binary_of spot o x y) = binary_of (from_place place spot) o x y
enclosed place (choice spot x y z) = choice (from_place place spot) x y z
enclosed place (slice spot x high low) = slice (from_place place spot) x high low
enclosed place (concat spot parts) = concat (from_place place spot) parts
enclosed place (zero_extend spot x w) = zero_extend (from_place place spot) x w
