-- What the tokens of a text are: a design, within the limits or not, or where they go wrong.
use Rattle.std.specs.Prelude.{◌≡◌, ℕ, List, [], Option, None}
use Rattle.sap_parse.specs.Grammar.{Design}
use Rattle.sap_parse.specs.Stages.{Stage, at_start}
use Rattle.sap_lex.specs.declared.limit.Limit.{Limit}
use Rattle.sap_lex.specs.declared.token.Token.{Token}
use Rattle.sap_tree.specs.Syntax.{DesignTree}
use Rattle.sap_walk.specs.Prefix as prefix

-- The tokens are this design, limits aside. The first of them that breaks a limit, if any, is told by its number from
-- 0, with that limit.
pub record Spells (ts : List Token) (d : DesignTree) (first : Option (ℕ × Limit)) : Type 0 where
  pub end : Stage
  pub design : Design (at_start ts) d end
  pub whole : end.left ≡ []
  pub first_is : end.past.first ≡ first

-- The tokens are this design, within the limits.
abbrev pub IsDesign : List Token → DesignTree → Type 0
IsDesign ts d = Spells ts d None

-- The tokens spell some design, which breaks this limit first, or none.
abbrev pub SpellsSome : List Token → Option (ℕ × Limit) → Type 0
SpellsSome ts first = (d : DesignTree) × Spells ts d first

-- Limits aside, no design begins with the tokens up to the first of those that are left, while one does with those
-- before it; or, where none are left, one begins with all tokens, which are no design.
abbrev pub IsUnexpected : List Token → List Token → Type 0
IsUnexpected ts left = prefix.IsUnexpected SpellsSome ts left

-- The first of those that are left is the first token that breaks a limit, and this is the limit.
abbrev pub IsOver : List Token → List Token → Limit → Type 0
IsOver ts left limit = prefix.IsOver SpellsSome ts left limit
