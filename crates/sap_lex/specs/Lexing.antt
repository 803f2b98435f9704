-- The tokens of a text.
use Rattle.std.specs.Prelude.{◌≡◌, ℕ, ◌+◌, ◌<◌, ◌≤◌, List, [], ◌∷◌, map, Option, Some, None, Bool, false, ◌&&◌, ◌==◌, if◌then◌else◌, length, drop}
use Rattle.std.specs.List.{AllByRecursion}
use Rattle.std.specs.Str.{bytes_eq}
use Rattle.sap_tree.specs.Words.{word_text}
use Rattle.sap_text.specs.Places.{place_at}
use Rattle.sap_text.specs.declared.place.Place.{Place}
use Rattle.sap_tree.specs.declared.version.Version.TheVariants as v
use Rattle.sap_tree.specs.declared.version.Version.{Version}
use Rattle.sap_tree.specs.declared.word.Word.TheVariants as w
use Rattle.sap_tree.specs.declared.word.Word.{Word}
use Rattle.sap_walk.specs.Reached as walk
use Rattle.sap_lex.specs.Lexemes.{lexeme_of}
use Rattle.sap_lex.specs.Spelling.{later_word_of}
use Rattle.sap_lex.specs.declared.fault.ReadFault.TheVariants as f
use Rattle.sap_lex.specs.declared.fault.ReadFault.{ReadFault}
use Rattle.sap_lex.specs.declared.lexeme.Lexeme.TheVariants as l
use Rattle.sap_lex.specs.declared.lexeme.Lexeme.{Lexeme}
use Rattle.sap_lex.specs.declared.token.Kind.TheVariants as k
use Rattle.sap_lex.specs.declared.token.Kind.{Kind}
use Rattle.sap_lex.specs.declared.token.Token.{Token}

-- tokens

-- A blank or a comment is at a place of a text.
abbrev pub IsBlankAt : List ℕ → ℕ → ℕ → Type 0
IsBlankAt text n len = lexeme_of (drop n text) ≡ l.Blank len

-- The token stands at byte `n` of a text and has `len` bytes.
pub record StandsAt (text : List ℕ) (n : ℕ) (token : Token) (len : ℕ) : Type 0 where
  pub lexeme : lexeme_of (drop n text) ≡ l.Token token.kind len
  pub place : token.place ≡ place_at text n
  pub from : token.from ≡ n
  pub to : token.to ≡ n + len

-- The bytes of a text up to a place are these tokens, with blanks before, between and after them.
abbrev pub Reached : List ℕ → ℕ → List Token → Type 0
Reached text = walk.Reached (IsBlankAt text) (StandsAt text)

-- Where the first token of a text is the name `sapper`, it is a word, and so is a second one that is the number 2,
-- spelled by one digit. Behind them the keywords of the second version are words.

-- A token is the name `sapper`.
abbrev pub is_sapper : Kind → Bool
is_sapper (k.Name name) = bytes_eq name (word_text w.Sapper)
is_sapper kind = false

-- A token is the number 2.
abbrev pub is_number_two : Kind → Bool
is_number_two (k.Number n) = n == 2
is_number_two kind = false

-- A token is the digit `2` alone.
abbrev pub is_two : Token → Bool
is_two t = is_number_two t.kind && t.to == t.from + 1

-- The kind of the keyword if there is one, else the kind that it was.
abbrev pub kind_by : Option Word → Kind → Kind
kind_by None kind = kind
kind_by (Some word) kind = k.Word word

-- The keyword of version 2 that a name is, if it is one.
abbrev pub later_word_in : Kind → Option Word
later_word_in (k.Name name) = later_word_of name
later_word_in kind = None

-- What a token is in version 2.
abbrev pub later_kind : Kind → Kind
later_kind kind = kind_by (later_word_in kind) kind

-- A token of another kind at the same place.
abbrev pub with_kind : Token → Kind → Token
with_kind t kind = record t { kind = kind }

-- A token as version 2 takes it.
abbrev pub later_token : Token → Token
later_token t = with_kind t (later_kind t.kind)

-- The token after `sapper`: the word `2` if it is this digit alone, else as version 2 takes it.
abbrev pub second_token : Token → Token
second_token t = if is_two t then with_kind t (k.Word w.Two) else later_token t

-- The tokens after the word `sapper`, as version 2 takes them.
abbrev pub behind_sapper : List Token → List Token
behind_sapper [] = []
behind_sapper (t ∷ ts) = second_token t ∷ map later_token ts

-- The tokens of a design, as its version takes them.
unfoldable pub keyed : List Token → List Token
keyed [] = []
keyed (t ∷ ts) = if is_sapper t.kind then with_kind t (k.Word w.Sapper) ∷ behind_sapper ts else t ∷ ts

-- Each token has a byte.
abbrev pub AreSpanned : List Token → Type 0
AreSpanned tokens = AllByRecursion (λ t. t.from < t.to) tokens

-- The bytes of a text are these tokens, with the words of its version as keywords.
pub record AreTokens (text : List ℕ) (tokens : List Token) : Type 0 where
  pub found : List Token
  pub reached : Reached text (length text) found
  pub keyed_are : tokens ≡ keyed found

-- the version of a text, by its tokens

-- The version of a design that begins with this keyword.
abbrev pub version_of_word : Word → Version
version_of_word w.Sapper = v.Two
version_of_word word = v.One

-- The version of a design that begins with this token.
abbrev pub version_of_kind : Kind → Version
version_of_kind (k.Word word) = version_of_word word
version_of_kind kind = v.One

-- The version of a design: 2 if its first token is the word `sapper`, else 1.
unfoldable pub version_of : List Token → Version
version_of [] = v.One
version_of (t ∷ ts) = version_of_kind t.kind

-- Behind these tokens no token and no blank begins at this place.
pub record IsBadAt (text : List ℕ) (place : Place) : Type 0 where
  pub at : ℕ
  pub within : at < length text
  pub tokens : List Token
  pub before : Reached text at tokens
  pub bad : lexeme_of (drop at text) ≡ l.Bad
  pub there : place ≡ place_at text at

-- A fault of the lexer: only E1 is one, at the first byte that begins no token.
abbrev pub IsLexFault : List ℕ → ReadFault → Type 0
IsLexFault text (f.E1 place) = IsBadAt text place
IsLexFault text (f.E2 place) = ⊥
IsLexFault text (f.E18 place limit) = ⊥
IsLexFault text f.Memory = ⊥

-- A lexeme is no longer than the text.
abbrev pub IsWithin : List ℕ → Lexeme → Type 0
IsWithin text (l.Blank len) = (0 < len) × (len ≤ length text)
IsWithin text (l.Token kind len) = (0 < len) × (len ≤ length text)
IsWithin text l.Bad = Unit {0}
