-- How signs are spelled, and which sign or word a text spells.
use Rattle.std.specs.Prelude.{ℕ, List, [], ◌∷◌, ◌++◌, codes, Option}
use Rattle.std.specs.List.{find}
use Rattle.std.specs.Str.{bytes_eq}
use Rattle.sap_lex.specs.declared.token.Sign.TheVariants as s
use Rattle.sap_lex.specs.declared.token.Sign.{Sign}
use Rattle.sap_tree.specs.Words.{word_text, first_words, later_words}
use Rattle.sap_tree.specs.declared.word.Word.TheVariants as w
use Rattle.sap_tree.specs.declared.word.Word.{Word}

-- The bytes by which a sign is spelled.
abbrev pub sign_text : Sign → List ℕ
sign_text s.Becomes = codes ":="
sign_text s.Equal = codes "=="
sign_text s.NotEqual = codes "!="
sign_text s.LessOrEqual = codes "<="
sign_text s.ShiftLeft = codes "<<"
sign_text s.ShiftRight = codes ">>"
sign_text s.OpenParen = codes "("
sign_text s.CloseParen = codes ")"
sign_text s.OpenBrace = codes "{"
sign_text s.CloseBrace = codes "}"
sign_text s.OpenBracket = codes "["
sign_text s.CloseBracket = codes "]"
sign_text s.Colon = codes ":"
sign_text s.Semicolon = codes ";"
sign_text s.Comma = codes ","
sign_text s.Question = codes "?"
sign_text s.Is = codes "="
sign_text s.Less = codes "<"
sign_text s.Plus = codes "+"
sign_text s.Minus = codes "-"
sign_text s.Star = codes "*"
sign_text s.Ampersand = codes "&"
sign_text s.Bar = codes "|"
sign_text s.Caret = codes "^"
sign_text s.Tilde = codes "~"

-- The signs of two bytes.
abbrev pub pair_signs : List Sign
pair_signs = s.Becomes ∷ s.Equal ∷ s.NotEqual ∷ s.LessOrEqual ∷ s.ShiftLeft ∷ s.ShiftRight ∷ []

-- The signs of one byte.
abbrev pub single_signs : List Sign
single_signs = s.OpenParen ∷ s.CloseParen ∷ s.OpenBrace ∷ s.CloseBrace ∷ s.OpenBracket ∷ s.CloseBracket
    ∷ s.Colon ∷ s.Semicolon ∷ s.Comma
    ∷ s.Question ∷ s.Is ∷ s.Less ∷ s.Plus ∷ s.Minus ∷ s.Star ∷ s.Ampersand ∷ s.Bar ∷ s.Caret ∷ s.Tilde ∷ []

-- All signs.
abbrev pub signs : List Sign
signs = pair_signs ++ single_signs

-- The sign of a list that a text spells, if it spells one.
abbrev pub sign_among : List Sign → List ℕ → Option Sign
sign_among list text = find (λ sign. bytes_eq text (sign_text sign)) list

-- The sign that a text spells, if it spells one.
abbrev pub sign_of : List ℕ → Option Sign
sign_of text = sign_among signs text

-- The sign that two bytes spell, if they spell one.
unfoldable pub pair_sign : ℕ → ℕ → Option Sign
pair_sign first second = sign_among pair_signs (first ∷ second ∷ [])

-- The sign that a byte is, if it is one.
unfoldable pub single_sign : ℕ → Option Sign
single_sign byte = sign_among single_signs (byte ∷ [])

-- The word of a list that a text spells, if it spells one.
abbrev pub word_among : List Word → List ℕ → Option Word
word_among list text = find (λ word. bytes_eq text (word_text word)) list

-- The keyword of version 1 that a text spells, if it spells one.
abbrev pub word_of : List ℕ → Option Word
word_of text = word_among first_words text

-- The keywords of declarations, states and kinds.
abbrev pub declaration_words : List Word
declaration_words = w.Input ∷ w.Reg ∷ w.Mem ∷ w.State ∷ w.Dynamic ∷ w.Enforced ∷ w.Under ∷ []

-- The keywords of commands in version 1.
abbrev pub command_words : List Word
command_words = w.If ∷ w.Else ∷ w.Goto ∷ w.Fall ∷ w.SetTag ∷ w.Otherwise ∷ []

-- The keywords of expressions and tag expressions.
abbrev pub expression_words : List Word
expression_words = w.Tag ∷ w.Level ∷ w.Join ∷ w.Zext ∷ []

-- The keyword of declarations that a text is, if it is one.
unfoldable pub declaration_word : List ℕ → Option Word
declaration_word text = word_among declaration_words text

-- The keyword of commands that a text is, if it is one.
unfoldable pub command_word : List ℕ → Option Word
command_word text = word_among command_words text

-- The keyword of expressions that a text is, if it is one.
unfoldable pub expression_word : List ℕ → Option Word
expression_word text = word_among expression_words text

-- The keyword of version 2 alone that a text spells, if it spells one.
abbrev pub later_word_of : List ℕ → Option Word
later_word_of text = word_among later_words text
