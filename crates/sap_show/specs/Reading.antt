-- What a text is read as, places aside.
use Rattle.std.specs.Prelude.{◌≡◌, ◌≤◌, ℕ, List, IsTrue, length}
use Rattle.sap_parse.specs.Fault.{IsDesign}
use Rattle.sap_lex.specs.Lexing.{AreTokens}
use Rattle.sap_parse.specs.Limits.{most_bytes}
use Rattle.sap_parse.specs.Text.{IsText}
use Rattle.sap_lex.specs.declared.token.Token.{Token}
use Rattle.sap_show.specs.Canonical.{canonical_text}
use Rattle.sap_tree.specs.Bare.{bare}
use Rattle.sap_tree.specs.Syntax.{DesignTree}
use Rattle.sap_tree.specs.Whole.{is_whole}

-- The tokens of the text are a design that is the same as this one, places aside, and none of them breaks a limit; of
-- the text's bytes nothing is asked.
pub record ReadsAs (text : List ℕ) (design : DesignTree) : Type 0 where
  pub tokens : List Token
  pub lexed : AreTokens text tokens
  pub tree : DesignTree
  pub whole : IsDesign tokens tree
  pub same : bare tree ≡ bare design

-- A text within the limit on its bytes is a design that is the same as this one, places aside.
abbrev pub IsTextOfSame : List ℕ → DesignTree → Type 0
IsTextOfSame text design = length text ≤ most_bytes → (tree : DesignTree) × IsText text tree × (bare tree ≡ bare design)

-- Designs that are the same, places aside, have one canonical text.
abbrev pub PlacesAside : Type 0
PlacesAside = (one other : DesignTree) → bare one ≡ bare other → canonical_text one ≡ canonical_text other

-- The design that a canonical text is has this canonical text.
abbrev pub ShownAgain : Type 0
ShownAgain = (design tree : DesignTree) → IsTrue (is_whole design) → IsText (canonical_text design) tree
    → canonical_text tree ≡ canonical_text design
