-- What stands at the front of a text: tokens are taken longest first.
use Rattle.std.specs.Prelude.{ℕ, ◌+◌, List, length, take, drop, Bool, true, false, ◌||◌, ◌==◌, if◌then◌else◌, Option, Some, None, slice_index}
use Rattle.std.specs.Char.{is_ascii_digit}
use Rattle.std.specs.Str.{byte}
use Rattle.sap_text.specs.Blanks.{is_blank, is_comment}
use Rattle.sap_text.specs.Names.{is_initial, is_inner}
use Rattle.sap_text.specs.Runs.{number_of, run}
use Rattle.sap_text.specs.declared.scan.Class.TheVariants as c
use Rattle.sap_text.specs.declared.scan.Class.{Class}
use Rattle.sap_lex.specs.Spelling.{word_of, sign_of}
use Rattle.sap_lex.specs.declared.lexeme.Lexeme.TheVariants.{Blank, Token, Bad}
use Rattle.sap_lex.specs.declared.lexeme.Lexeme.{Lexeme}
use Rattle.sap_lex.specs.declared.token.Kind.TheVariants as k
use Rattle.sap_lex.specs.declared.token.Sign.{Sign}
use Rattle.sap_tree.specs.declared.word.Word.{Word}

-- words and names

-- The token of a keyword if there is one, else that of a name.
abbrev pub word_or_name : Option Word → List ℕ → ℕ → Lexeme
word_or_name (Some word) name len = Token (k.Word word) len
word_or_name None name len = Token (k.Name name) len

-- The word or name at the front of a text.
unfoldable pub name_at : List ℕ → Lexeme
name_at bytes = let name = take (run c.Inner bytes) bytes in word_or_name (word_of name) name (run c.Inner bytes)

-- numbers

-- A letter, a digit, `_` or `'` may not follow a number directly.
abbrev pub clings : ℕ → Bool
clings b = is_inner b || b == byte "'"

-- A number's token, unless it is too large or something clings to it.
abbrev pub number_lexeme : Option ℕ → Bool → ℕ → Lexeme
number_lexeme (Some n) false len = Token (k.Number n) len
number_lexeme (Some n) true len = Bad
number_lexeme None clinging len = Bad

-- A sized number's token, unless a part of it is too large or something clings to it.
abbrev pub sized_lexeme : Option ℕ → Option ℕ → Bool → ℕ → Lexeme
sized_lexeme (Some width) (Some n) false len = Token (k.Sized width n) len
sized_lexeme (Some width) (Some n) true len = Bad
sized_lexeme (Some width) None clinging len = Bad
sized_lexeme None n clinging len = Bad

-- The sized number at the front of a text: `width` decimal digits, two more bytes, and then one or more digits of the
-- class.
unfoldable pub sized_in : Class → (base : ℕ) → (width : ℕ) → List ℕ → Lexeme
sized_in class base width bytes =
    let digits = run class (drop (width + 2) bytes) in
    if digits == 0 then Bad
    else sized_lexeme (number_of 10 (take width bytes)) (number_of base (take digits (drop (width + 2) bytes)))
    (clings (slice_index bytes (width + 2 + digits))) (width + 2 + digits)

-- The sized number at the front of a text whose width has `width` digits: decimal if a `d` is after the `'`,
-- hexadecimal if an `h` is.
unfoldable pub sized_at : (width : ℕ) → List ℕ → Lexeme
sized_at width bytes =
    if slice_index bytes (width + 1) == byte "d" then sized_in c.Decimal 10 width bytes
    else (if slice_index bytes (width + 1) == byte "h" then sized_in c.Hexadecimal 16 width bytes
    else Bad)

-- The number, with or without a width, at the front of a text.
unfoldable pub number_at : List ℕ → Lexeme
number_at bytes =
    let digits = run c.Decimal bytes in
    if slice_index bytes digits == byte "'" then sized_at digits bytes
    else number_lexeme (number_of 10 (take digits bytes)) (clings (slice_index bytes digits)) digits

-- signs of two bytes, or of one

-- The token of a sign if there is one, else the other lexeme.
abbrev pub sign_or : Option Sign → ℕ → Lexeme → Lexeme
sign_or (Some sign) len other = Token (k.Sign sign) len
sign_or None len other = other

-- The sign at the front of a text: one of two bytes before one of one byte.
unfoldable pub sign_at : List ℕ → Lexeme
sign_at bytes = sign_or (sign_of (take 2 bytes)) (length (take 2 bytes))
    (sign_or (sign_of (take 1 bytes)) (length (take 1 bytes)) Bad)

-- What is at the front of a text: a blank or a comment, a token, or a byte that begins none.
unfoldable pub lexeme_of : List ℕ → Lexeme
lexeme_of bytes =
    let first = slice_index bytes 0 in
    if is_blank first then Blank 1
    else (if is_comment bytes then Blank (run c.Comment bytes)
    else (if is_initial first then name_at bytes
    else (if is_ascii_digit first then number_at bytes
    else sign_at bytes)))
