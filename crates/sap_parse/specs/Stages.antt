-- Places between the tokens of a design's text, and single tokens.
use Rattle.std.specs.Prelude.{◌≡◌, ℕ, List, [], ◌∷◌, None}
use Rattle.sap_parse.specs.Limits.{Counts, none_yet, tally, breach}
use Rattle.sap_lex.specs.declared.limit.Limit.{Limit}
use Rattle.sap_parse.specs.declared.role.Role.{Role}
use Rattle.sap_lex.specs.declared.token.Kind.TheVariants as k
use Rattle.sap_lex.specs.declared.token.Kind.{Kind}
use Rattle.sap_lex.specs.declared.token.Sign.{Sign}
use Rattle.sap_lex.specs.declared.token.Token.{Token}
use Rattle.sap_tree.specs.declared.word.Word.{Word}
use Rattle.sap_tree.specs.declared.name.Mention.{Mention}
use Rattle.sap_text.specs.declared.place.Place.{Place}
use Rattle.sap_tree.specs.declared.place.Spot.{Spot}
use Rattle.sap_tree.specs.declared.syntax.Numeral.{Numeral}
use Rattle.sap_walk.specs.Limits.{Past, passed}
use Rattle.sap_walk.specs.Walk as w

-- A stage is what is kept of the tokens before, and the tokens that are left.
abbrev pub Stage : Type 0
Stage = w.Stage (Past Counts Limit) Token

-- `at_start` is the stage before the first token.
abbrev pub at_start : List Token → Stage
at_start ts = record { past = record { before = 0; counts = none_yet; first = None }; left = ts }

-- At `p` stands a token of this kind in this role, and `q` comes behind it.
pub record IsToken (p : Stage) (role : Role) (kind : Kind) (q : Stage) : Type 0 where
  pub token : Token
  pub left : p.left ≡ token ∷ q.left
  pub past : q.past ≡ passed tally breach role token p.past
  pub is : token.kind ≡ kind

-- The token between two stages is this sign.
abbrev pub IsSign : Stage → Role → Sign → Stage → Type 0
IsSign p role sign q = IsToken p role (k.Sign sign) q

-- The token between two stages is this keyword.
abbrev pub IsWord : Stage → Role → Word → Stage → Type 0
IsWord p role word q = IsToken p role (k.Word word) q

-- The token between two stages is this name.
abbrev pub IsName : Stage → Role → List ℕ → Stage → Type 0
IsName p role name q = IsToken p role (k.Name name) q

-- The token between two stages is this number.
abbrev pub IsNumber : Stage → Role → ℕ → Stage → Type 0
IsNumber p role n q = IsToken p role (k.Number n) q

-- The token between two stages is this number with this width.
abbrev pub IsSized : Stage → Role → ℕ → ℕ → Stage → Type 0
IsSized p role width n q = IsToken p role (k.Sized width n) q

-- `front_place` is the place of the first token, if there is one.
abbrev pub front_place : List Token → Place
front_place [] = record { line = 0; column = 0 }
front_place (t ∷ ts) = t.place

-- The place of the first token that is left.
abbrev pub here : Stage → Place
here p = front_place p.left

-- An expression that begins here and is named after the token here has this spot.
abbrev pub spot_here : Stage → Spot
spot_here p = record { first = here p; at = here p }

-- `mention` is a name that stands here.
abbrev pub mention : Stage → List ℕ → Mention
mention p name = record { place = here p; name = name }

-- `numeral` is a number that stands here.
abbrev pub numeral : Stage → ℕ → Numeral
numeral p n = record { place = here p; value = n }
