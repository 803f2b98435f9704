-- What the text of a token is, and where the tokens of a text lie.
use Rattle.std.specs.Prelude.{◌≡◌, ℕ, ◌-◌, ◌^◌, ◌<◌, ◌≤◌, List, [], ◌∷◌, ◌++◌, length, take, drop, Bool, true, false, not, ◌||◌, codes}
use Rattle.std.specs.List.{list_all}
use Rattle.std.specs.Str.Parse.{digits_value}
use Rattle.sap_tree.specs.Words.{is_word, is_keyword, is_second, word_text}
use Rattle.sap_tree.specs.declared.version.Version.{Version}
use Rattle.sap_tree.specs.declared.word.Word.TheVariants as w
use Rattle.sap_tree.specs.declared.word.Word.{Word}
use Rattle.sap_text.specs.Runs.{is_in}
use Rattle.sap_lex.specs.Spelling.{sign_text}
use Rattle.sap_text.specs.declared.scan.Class.TheVariants as c
use Rattle.sap_text.specs.declared.scan.Class.{Class}
use Rattle.sap_lex.specs.declared.token.Kind.TheVariants as k
use Rattle.sap_lex.specs.declared.token.Kind.{Kind}
use Rattle.sap_lex.specs.declared.token.Token.{Token}

-- Digits of a base that spell n, which is below 2^64.
pub record SpellsNumber (class : Class) (base n : ℕ) (text : List ℕ) : Type 0 where
  pub some : 0 < length text
  pub digits : list_all (is_in class) text ≡ true
  pub value : digits_value base text ≡ n
  pub fits : n < 2 ^ 64

-- A text spells a sized number in decimal or in hexadecimal digits.
pub data SpellsSized (width n : ℕ) (text : List ℕ) : Type 0 where
  decimal : (front digits : List ℕ) → text ≡ front ++ (codes "'d" ++ digits)
      → SpellsNumber c.Decimal 10 width front → SpellsNumber c.Decimal 10 n digits
      → SpellsSized width n text
  hexadecimal : (front digits : List ℕ) → text ≡ front ++ (codes "'h" ++ digits)
      → SpellsNumber c.Decimal 10 width front → SpellsNumber c.Hexadecimal 16 n digits
      → SpellsSized width n text

-- Words of the second version alone.
abbrev pub is_later : Word → Bool
is_later w.Then = true
is_later w.Case = true
is_later w.Sapper = true
is_later w.Two = true
is_later word = false

-- This is a keyword of the version.
abbrev pub is_of : Version → Word → Bool
is_of version word = is_second version || not (is_later word)

-- In a text of this version.
abbrev pub Spells : Version → Kind → List ℕ → Type 0
Spells version (k.Word word) text = (text ≡ word_text word) × (is_of version word ≡ true)
Spells version (k.Sign sign) text = text ≡ sign_text sign
Spells version (k.Name name) text = (text ≡ name) × (is_word name ≡ true) × (is_keyword version name ≡ false)
Spells version (k.Number n) text = SpellsNumber c.Decimal 10 n text
Spells version (k.Sized width n) text = SpellsSized width n text

-- The slice of the source at a token's span.
abbrev pub text_of : List ℕ → Token → List ℕ
text_of source token = take (token.to - token.from) (drop token.from source)

-- A token's place in the text spells it.
abbrev pub HasText : Version → List ℕ → Token → Type 0
HasText version source token = Spells version token.kind (text_of source token)

-- Each span begins where the last one ends, or behind it, and has a byte; they lie between these two bytes.
abbrev pub AreInOrder : ℕ → ℕ → List Token → Type 0
AreInOrder from to [] = from ≤ to
AreInOrder from to (token ∷ tokens) = (from ≤ token.from) × (token.from < token.to) × AreInOrder token.to to tokens
