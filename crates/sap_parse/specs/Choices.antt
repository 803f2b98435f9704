-- What the reader chooses by the next token.
use Rattle.std.specs.Prelude.{ℕ, ◌==◌, if◌then◌else◌, Bool, true, false, Option, Some, None}
use Rattle.sap_parse.specs.Table.{operator_of}
use Rattle.sap_parse.specs.declared.choice.CommandHead.TheVariants as c
use Rattle.sap_parse.specs.declared.choice.CommandHead.{CommandHead}
use Rattle.sap_parse.specs.declared.choice.DeclarationHead.TheVariants as d
use Rattle.sap_parse.specs.declared.choice.DeclarationHead.{DeclarationHead}
use Rattle.sap_parse.specs.declared.choice.Primary.TheVariants as p
use Rattle.sap_parse.specs.declared.choice.Primary.{Primary}
use Rattle.sap_parse.specs.declared.choice.TagHead.TheVariants as h
use Rattle.sap_parse.specs.declared.choice.TagHead.{TagHead}
use Rattle.sap_parse.specs.declared.cursor.Ahead.TheVariants as a
use Rattle.sap_parse.specs.declared.cursor.Ahead.{Ahead}
use Rattle.sap_lex.specs.declared.token.Sign.TheVariants as s
use Rattle.sap_lex.specs.declared.token.Sign.{Sign}
use Rattle.sap_tree.specs.declared.word.Word.TheVariants as w
use Rattle.sap_tree.specs.declared.word.Word.{Word}
use Rattle.sap_tree.specs.Precedence.{precedence}
use Rattle.sap_tree.specs.declared.syntax.BinaryOperator.{BinaryOperator}
use Rattle.sap_tree.specs.declared.syntax.UnaryOperator.TheVariants as u
use Rattle.sap_tree.specs.declared.syntax.UnaryOperator.{UnaryOperator}

-- operands that begin with no name

-- Which primary expression begins with a sign, if any does.
abbrev pub sign_primary : Sign → Primary
sign_primary s.OpenParen = p.Paren
sign_primary s.OpenBrace = p.Braces
sign_primary sign = p.Neither

-- Which primary expression begins with a keyword, if any does.
abbrev pub word_primary : Word → Primary
word_primary w.Zext = p.Zext
word_primary word = p.Neither

-- Which primary expression begins with the next token, if any does.
unfoldable pub primary_of : Ahead → Primary
primary_of a.Number = p.Number
primary_of a.Sized = p.Sized
primary_of (a.Sign sign) = sign_primary sign
primary_of (a.Word word) = word_primary word
primary_of a.Name = p.Neither
primary_of a.Nothing = p.Neither

-- What is a constant of a `case`.
abbrev pub is_constant : Primary → Bool
is_constant p.Number = true
is_constant p.Sized = true
is_constant primary = false

-- operators

-- A binary operator, if it has this precedence.
abbrev pub of_precedence : ℕ → Option BinaryOperator → Option BinaryOperator
of_precedence l None = None
of_precedence l (Some o) = if precedence o == l then Some o else None

-- The binary operator of this precedence that the next token is, if it is one.
unfoldable pub operator_at : ℕ → Ahead → Option BinaryOperator
operator_at l (a.Sign sign) = of_precedence l (operator_of sign)
operator_at l (a.Word word) = None
operator_at l a.Number = None
operator_at l a.Sized = None
operator_at l a.Name = None
operator_at l a.Nothing = None

-- The unary operator that a sign is, if it is one.
abbrev pub unary_operator_of : Sign → Option UnaryOperator
unary_operator_of s.Tilde = Some u.Not
unary_operator_of s.Minus = Some u.Neg
unary_operator_of s.Ampersand = Some u.AllOnes
unary_operator_of s.Bar = Some u.AnyOne
unary_operator_of s.Caret = Some u.Odd
unary_operator_of sign = None

-- The unary operator that the next token is, if it is one.
unfoldable pub unary_at : Ahead → Option UnaryOperator
unary_at (a.Sign sign) = unary_operator_of sign
unary_at (a.Word word) = None
unary_at a.Number = None
unary_at a.Sized = None
unary_at a.Name = None
unary_at a.Nothing = None

-- tag expressions

-- Which tag expression begins with a keyword, if any does.
abbrev pub word_tag : Word → TagHead
word_tag w.Tag = h.Tag
word_tag w.Level = h.Level
word_tag w.Join = h.Join
word_tag word = h.Neither

-- Which tag expression begins with the next token, if any does.
unfoldable pub tag_head : Ahead → TagHead
tag_head a.Name = h.Name
tag_head (a.Word word) = word_tag word
tag_head (a.Sign sign) = h.Neither
tag_head a.Number = h.Neither
tag_head a.Sized = h.Neither
tag_head a.Nothing = h.Neither

-- commands

-- Which command begins with a keyword, if any does.
abbrev pub word_command : Word → CommandHead
word_command w.SetTag = c.SetTag
word_command w.Goto = c.Goto
word_command w.Fall = c.Fall
word_command w.If = c.If
word_command w.Case = c.Case
word_command word = c.Neither

-- Which command begins with the next token, if any does.
unfoldable pub command_head : Ahead → CommandHead
command_head a.Name = c.Name
command_head (a.Word word) = word_command word
command_head (a.Sign sign) = c.Neither
command_head a.Number = c.Neither
command_head a.Sized = c.Neither
command_head a.Nothing = c.Neither

-- declarations

-- Which declaration begins with a keyword, if any does.
abbrev pub word_declaration : Word → DeclarationHead
word_declaration w.Input = d.Input
word_declaration w.Reg = d.Register
word_declaration w.Mem = d.Memory
word_declaration word = d.Neither

-- Which declaration begins with the next token, if any does.
unfoldable pub declaration_head : Ahead → DeclarationHead
declaration_head (a.Word word) = word_declaration word
declaration_head a.Name = d.Neither
declaration_head (a.Sign sign) = d.Neither
declaration_head a.Number = d.Neither
declaration_head a.Sized = d.Neither
declaration_head a.Nothing = d.Neither
