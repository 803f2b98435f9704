-- The tokens of the module grammar, from the reader's types.
use Rattle.std.specs.Prelude.{List, map}
use Rattle.sap_vtext.specs.Tokens as t
use Rattle.sap_vlex.specs.declared.token.Kind.{Kind}
use Rattle.sap_vlex.specs.declared.token.Kind.TheVariants as k
use Rattle.sap_vlex.specs.declared.token.Sign.{Sign}
use Rattle.sap_vlex.specs.declared.token.Sign.TheVariants as s
use Rattle.sap_vlex.specs.declared.token.Token.{Token}
use Rattle.sap_vlex.specs.declared.token.Word.{Word}
use Rattle.sap_vlex.specs.declared.token.Word.TheVariants as w

-- The keyword that a stored one stands for.
abbrev pub word_of : Word → t.Word
word_of w.Module = t.module_word
word_of w.Endmodule = t.endmodule_word
word_of w.Input = t.input_word
word_of w.Output = t.output_word
word_of w.Reg = t.reg_word
word_of w.Wire = t.wire_word
word_of w.Assign = t.assign_word
word_of w.Initial = t.initial_word
word_of w.Always = t.always_word
word_of w.Posedge = t.posedge_word
word_of w.If = t.if_word
word_of w.For = t.for_word
word_of w.Integer = t.integer_word
word_of w.Clk = t.clk_word
word_of w.I = t.i_word

-- The sign that a stored one stands for.
abbrev pub sign_of : Sign → t.Sign
sign_of s.OpenParen = t.open_paren
sign_of s.CloseParen = t.close_paren
sign_of s.OpenBrace = t.open_brace
sign_of s.CloseBrace = t.close_brace
sign_of s.OpenBracket = t.open_bracket
sign_of s.CloseBracket = t.close_bracket
sign_of s.Comma = t.comma
sign_of s.Semicolon = t.semicolon
sign_of s.Colon = t.colon
sign_of s.Question = t.question
sign_of s.At = t.at
sign_of s.Is = t.is
sign_of s.Equal = t.equal
sign_of s.NotEqual = t.not_equal
sign_of s.Less = t.less
sign_of s.LessOrEqual = t.less_or_equal
sign_of s.ShiftLeft = t.shift_left
sign_of s.ShiftRight = t.shift_right
sign_of s.Plus = t.plus
sign_of s.Minus = t.minus
sign_of s.Star = t.star
sign_of s.Ampersand = t.ampersand
sign_of s.Bar = t.bar
sign_of s.Caret = t.caret
sign_of s.Tilde = t.tilde

-- The kind of token that a stored one stands for.
abbrev pub kind_of_token : Kind → t.Kind
kind_of_token (k.Word word) = t.word (word_of word)
kind_of_token (k.Sign sign) = t.sign (sign_of sign)
kind_of_token (k.Name name) = t.name name
kind_of_token (k.Number n digits) = t.number n digits
kind_of_token (k.Constant width n) = t.constant width n

-- The token that a stored one stands for.
abbrev pub token_of : Token → t.Token
token_of x = record { place = x.place; kind = kind_of_token x.kind }

-- The tokens that stored ones stand for.
abbrev pub tokens_of : List Token → List t.Token
tokens_of ts = map token_of ts
