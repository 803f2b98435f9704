-- The tokens that a text is made of, taken longest first.
use Rattle.std.specs.Prelude.{◌≡◌, ℕ, ◌+◌, ◌^◌, List, [], ◌∷◌, length, drop, Bool, not, ◌&&◌, ◌==◌, nat_eq, nat_lt, if◌then◌else◌, Option, Some, None, codes, find, slice_index, take_while}
use Rattle.std.specs.List.{prefix_len, starts_with}
use Rattle.std.specs.Char.{is_ascii_digit}
use Rattle.std.specs.Str.{byte, bytes_eq}
use Rattle.std.specs.Str.Parse.{digits_value}
pub use Rattle.sap_text.specs.Blanks.{is_blank, is_in_line}
use Rattle.sap_net.specs.Names.{is_initial, is_inner}
use Rattle.sap_vtext.specs.Tokens.{Word, module_word, endmodule_word, input_word, output_word, reg_word, wire_word, assign_word, initial_word, always_word, posedge_word, if_word, for_word, integer_word, clk_word, i_word, Sign, open_paren, close_paren, open_brace, close_brace, open_bracket, close_bracket, comma, semicolon, colon, question, at, is, equal, not_equal, less, less_or_equal, shift_left, shift_right, plus, minus, star, ampersand, bar, caret, tilde, Kind, word, sign, name, number, constant, Token}

-- How a keyword is written.
abbrev pub word_text : Word → List ℕ
word_text module_word = codes "module"
word_text endmodule_word = codes "endmodule"
word_text input_word = codes "input"
word_text output_word = codes "output"
word_text reg_word = codes "reg"
word_text wire_word = codes "wire"
word_text assign_word = codes "assign"
word_text initial_word = codes "initial"
word_text always_word = codes "always"
word_text posedge_word = codes "posedge"
word_text if_word = codes "if"
word_text for_word = codes "for"
word_text integer_word = codes "integer"
word_text clk_word = codes "clk"
word_text i_word = codes "i"

-- The keywords.
abbrev pub words : List Word
words = module_word ∷ endmodule_word ∷ input_word ∷ output_word ∷ reg_word ∷ wire_word ∷ assign_word
    ∷ initial_word ∷ always_word
    ∷ posedge_word ∷ if_word ∷ for_word ∷ integer_word ∷ clk_word ∷ i_word ∷ []

-- How a sign is written.
abbrev pub sign_text : Sign → List ℕ
sign_text open_paren = codes "("
sign_text close_paren = codes ")"
sign_text open_brace = codes "{"
sign_text close_brace = codes "}"
sign_text open_bracket = codes "["
sign_text close_bracket = codes "]"
sign_text comma = codes ","
sign_text semicolon = codes ";"
sign_text colon = codes ":"
sign_text question = codes "?"
sign_text at = codes "@"
sign_text is = codes "="
sign_text equal = codes "=="
sign_text not_equal = codes "!="
sign_text less = codes "<"
sign_text less_or_equal = codes "<="
sign_text shift_left = codes "<<"
sign_text shift_right = codes ">>"
sign_text plus = codes "+"
sign_text minus = codes "-"
sign_text star = codes "*"
sign_text ampersand = codes "&"
sign_text bar = codes "|"
sign_text caret = codes "^"
sign_text tilde = codes "~"

-- All signs, those of two bytes first, so that the longest is found first.
abbrev pub signs : List Sign
signs =
    equal ∷ not_equal ∷ less_or_equal ∷ shift_left ∷ shift_right ∷ open_paren ∷ close_paren ∷ open_brace
    ∷ close_brace ∷ open_bracket ∷ close_bracket ∷ comma ∷ semicolon
    ∷ colon ∷ question ∷ at ∷ is ∷ less ∷ plus ∷ minus ∷ star ∷ ampersand ∷ bar ∷ caret ∷ tilde ∷ []

-- At the front of a text stands white space or a comment, or a token, each with its length, or neither.
pub data Front : Type 0 where
  blank : ℕ → Front
  token : Kind → ℕ → Front
  bad : Front

-- A word that is a keyword is that keyword, another is a name.
abbrev pub word_or_name : Option Word → List ℕ → Kind
word_or_name (Some w) bs = word w
word_or_name None bs = name bs

-- `kind_of_name` is the keyword that is written so, or else the name.
abbrev pub kind_of_name : List ℕ → Kind
kind_of_name bs = word_or_name (find (λ w. bytes_eq bs (word_text w)) words) bs

-- A run of name bytes as a token.
abbrev pub name_front : List ℕ → Front
name_front run = token (kind_of_name run) (length run)

-- A sign as a token, or no token.
abbrev pub sign_or_bad : Option Sign → Front
sign_or_bad (Some s) = token (sign s) (length (sign_text s))
sign_or_bad None = bad

-- The longest sign with which the bytes begin.
abbrev pub sign_front : List ℕ → Front
sign_front bs = sign_or_bad (find (λ s. starts_with nat_eq bs (sign_text s)) signs)

-- The number is below 2^64.
abbrev pub is_below_2_64 : ℕ → Bool
is_below_2_64 n = nat_lt n (2 ^ 64)

-- A run of digits as a number, where it is below 2^64.
abbrev pub number_front : List ℕ → Front
number_front digits = if is_below_2_64 (digits_value 10 digits)
    then token (number (digits_value 10 digits) (length digits)) (length digits) else bad

-- The token of a constant that is written with these digits of its width and of its number, if both are below 2^64.
abbrev pub constant_front : List ℕ → List ℕ → Front
constant_front width digits =
    if is_below_2_64 (digits_value 10 width) && is_below_2_64 (digits_value 10 digits)
    then token (constant (digits_value 10 width) (digits_value 10 digits)) (length width + 2 + length digits)
    else bad

-- The digits with which the bytes begin.
abbrev pub digits_of_front : List ℕ → List ℕ
digits_of_front bs = take_while is_ascii_digit bs

-- Digits that don't begin with 0 are a constant's width where `'d` and a digit follow.
abbrev pub is_constant : List ℕ → List ℕ → Bool
is_constant digits after = not (slice_index digits 0 == byte "0")
    && (starts_with nat_eq after (codes "'d") && is_ascii_digit (slice_index after 2))

-- A run of digits and what follows: a constant where `'d` and a digit follow, else a number.
abbrev pub digits_front : List ℕ → List ℕ → Front
digits_front digits after = if is_constant digits after
    then constant_front digits (digits_of_front (drop 2 after)) else number_front digits

-- What the bytes begin with: a blank, a comment, a name, a number, a constant or a sign.
unfoldable pub front : List ℕ → Front
front [] = bad
front (b ∷ bs) =
    if is_blank b then blank 1
    else (if starts_with nat_eq (b ∷ bs) (codes "//") then blank (prefix_len is_in_line (b ∷ bs))
    else (if is_initial b then name_front (take_while is_inner (b ∷ bs))
    else (if is_ascii_digit b then digits_front (digits_of_front (b ∷ bs))
    (drop (length (digits_of_front (b ∷ bs))) (b ∷ bs))
    else sign_front (b ∷ bs))))

-- The text behind the first `from` bytes is these tokens, with white space and comments between them.
pub data Lexed : ℕ → List ℕ → List Token → Type 0 where
  end : {from : ℕ} → Lexed from [] []
  blank_first : {from : ℕ} {bs : List ℕ} {tokens : List Token} (len : ℕ) → front bs ≡ blank len
      → Lexed (from + len) (drop len bs) tokens
      → Lexed from bs tokens
  token_first : {from : ℕ} {bs : List ℕ} {tokens : List Token} (kind : Kind) (len : ℕ) → front bs ≡ token kind len
      → Lexed (from + len) (drop len bs) tokens → Lexed from bs (record { place = from; kind = kind } ∷ tokens)
