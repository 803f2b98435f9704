-- What stands at the front of a text, as the lexer finds it.
use Rattle.std.specs.Prelude.{ℕ, ◌+◌, List, [], ◌∷◌, ◌++◌, take, drop, Bool, not, ◌&&◌, ◌==◌, if◌then◌else◌, Option, Some, None, find, slice_index}
use Rattle.std.specs.Char.{is_ascii_digit}
use Rattle.std.specs.Str.{byte, bytes_eq}
use Rattle.sap_text.specs.Blanks.{is_blank, is_comment}
use Rattle.sap_text.specs.Names.{is_initial}
use Rattle.sap_text.specs.Runs.{number_of, run}
use Rattle.sap_text.specs.declared.scan.Class.TheVariants as c
use Rattle.sap_vtext.specs.Lexing as l
use Rattle.sap_vtext.specs.Lexing.{sign_text, word_text}
use Rattle.sap_vlex.specs.Spelling.{kind_of_token, sign_of, word_of}
use Rattle.sap_vlex.specs.declared.lexeme.Lexeme.TheVariants.{Blank, Token, Bad}
use Rattle.sap_vlex.specs.declared.lexeme.Lexeme.{Lexeme}
use Rattle.sap_vlex.specs.declared.token.Kind.TheVariants as k
use Rattle.sap_vlex.specs.declared.token.Sign.TheVariants as s
use Rattle.sap_vlex.specs.declared.token.Sign.{Sign}
use Rattle.sap_vlex.specs.declared.token.Word.TheVariants as w
use Rattle.sap_vlex.specs.declared.token.Word.{Word}

-- The same in the words of the module grammar.
abbrev pub front_of : Lexeme → l.Front
front_of (Blank len) = l.blank len
front_of (Token kind len) = l.token (kind_of_token kind) len
front_of Bad = l.bad

-- Of some keywords, the one that is spelled so.
abbrev pub word_among : List Word → List ℕ → Option Word
word_among list text = find (λ word. bytes_eq text (word_text (word_of word))) list

-- The keywords by where they stand: around the items and in declarations, at the front of the other items, and within
-- an item.
abbrev pub declaration_words : List Word
declaration_words = w.Module ∷ w.Endmodule ∷ w.Input ∷ w.Output ∷ w.Reg ∷ w.Wire ∷ []

-- The keywords with which items begin, beside the declarations'.
abbrev pub item_words : List Word
item_words = w.Assign ∷ w.Initial ∷ w.Always ∷ w.Posedge ∷ []

-- The keywords within items.
abbrev pub inner_words : List Word
inner_words = w.If ∷ w.For ∷ w.Integer ∷ w.Clk ∷ w.I ∷ []

-- The keyword within items that a text is.
abbrev pub inner_word : List ℕ → Option Word
inner_word text = word_among inner_words text

-- The keyword of items that a text is.
abbrev pub item_word : List ℕ → Option Word
item_word text = word_among (item_words ++ inner_words) text

-- The keyword that is spelled so.
abbrev pub word_in : List ℕ → Option Word
word_in text = word_among (declaration_words ++ item_words ++ inner_words) text

-- A keyword as a token, else a name.
abbrev pub word_or_name : Option Word → List ℕ → ℕ → Lexeme
word_or_name (Some word) name len = Token (k.Word word) len
word_or_name None name len = Token (k.Name name) len

-- The word with which the bytes begin.
unfoldable pub name_at : List ℕ → Lexeme
name_at bytes = let name = take (run c.Inner bytes) bytes in word_or_name (word_in name) name (run c.Inner bytes)

-- A number as a token, where it is below the bound.
abbrev pub number_lexeme : Option ℕ → ℕ → Lexeme
number_lexeme (Some n) len = Token (k.Number n len) len
number_lexeme None len = Bad

-- A constant as a token, where both numbers are below the bound.
abbrev pub constant_lexeme : Option ℕ → Option ℕ → ℕ → Lexeme
constant_lexeme (Some width) (Some n) len = Token (k.Constant width n) len
constant_lexeme (Some width) None len = Bad
constant_lexeme None n len = Bad

-- The first `width` bytes are digits; whether they are the width of a constant.
abbrev pub is_constant : (width : ℕ) → List ℕ → Bool
is_constant width bytes =
    not (slice_index bytes 0 == byte "0") && (slice_index bytes width == byte "'"
    && (slice_index bytes (width + 1) == byte "d" && is_ascii_digit (slice_index bytes (width + 2))))

-- The constant with which the bytes begin.
unfoldable pub constant_at : (width : ℕ) → List ℕ → Lexeme
constant_at width bytes =
    let digits = run c.Decimal (drop (width + 2) bytes) in
    constant_lexeme (number_of 10 (take width bytes))
    (number_of 10 (take digits (drop (width + 2) bytes))) (width + 2 + digits)

-- The number with which the bytes begin.
unfoldable pub number_at : List ℕ → Lexeme
number_at bytes =
    let digits = run c.Decimal bytes in
    if is_constant digits bytes then constant_at digits bytes
    else number_lexeme (number_of 10 (take digits bytes)) digits

-- Of some signs, the one that is spelled so.
abbrev pub sign_among : List Sign → List ℕ → Option Sign
sign_among list text = find (λ sign. bytes_eq text (sign_text (sign_of sign))) list

-- The signs of two bytes, and those of one.
abbrev pub pair_signs : List Sign
pair_signs = s.Equal ∷ s.NotEqual ∷ s.LessOrEqual ∷ s.ShiftLeft ∷ s.ShiftRight ∷ []

-- The signs of one byte.
abbrev pub single_signs : List Sign
single_signs =
    s.OpenParen ∷ s.CloseParen ∷ s.OpenBrace ∷ s.CloseBrace ∷ s.OpenBracket ∷ s.CloseBracket ∷ s.Comma
    ∷ s.Semicolon ∷ s.Colon ∷ s.Question ∷ s.At ∷ s.Is ∷ s.Less ∷ s.Plus
    ∷ s.Minus ∷ s.Star ∷ s.Ampersand ∷ s.Bar ∷ s.Caret ∷ s.Tilde ∷ []

-- The sign that two bytes spell, and the one that a single byte does.
unfoldable pub pair_sign : ℕ → ℕ → Option Sign
pair_sign first second = sign_among pair_signs (first ∷ second ∷ [])

-- The sign of one byte.
unfoldable pub single_sign : ℕ → Option Sign
single_sign byte = sign_among single_signs (byte ∷ [])

-- A sign as a token, else another lexeme.
abbrev pub sign_or : Option Sign → ℕ → Lexeme → Lexeme
sign_or (Some sign) len other = Token (k.Sign sign) len
sign_or None len other = other

-- The sign of one byte with which the bytes begin.
unfoldable pub single_at : List ℕ → Lexeme
single_at bytes = sign_or (single_sign (slice_index bytes 0)) 1 Bad

-- The longest sign with which the bytes begin.
unfoldable pub sign_at : List ℕ → Lexeme
sign_at bytes = sign_or (pair_sign (slice_index bytes 0) (slice_index bytes 1)) 2 (single_at bytes)

-- What the bytes begin with.
unfoldable pub lexeme_of : List ℕ → Lexeme
lexeme_of bytes =
    let first = slice_index bytes 0 in
    if is_blank first then Blank 1
    else (if is_comment bytes then Blank (run c.Comment bytes)
    else (if is_initial first then name_at bytes
    else (if is_ascii_digit first then number_at bytes
    else sign_at bytes)))
