-- The design grammar as the walk reads it: what each token does with each symbol.
use Rattle.std.specs.Prelude.{ℕ, zero, suc, ◌+◌, ◌-◌, ◌==◌, if◌then◌else◌, Bool, true, false, List, [], ◌∷◌, ◌++◌, Option, Some, None}
use Rattle.std.specs.Str.{bytes_eq}
use Rattle.sap_parse.specs.Limits.{Counts, tally, breach}
use Rattle.sap_lex.specs.Spelling.{sign_text}
use Rattle.sap_lex.specs.declared.limit.Limit.{Limit}
use Rattle.sap_parse.specs.declared.role.Role.TheVariants as r
use Rattle.sap_parse.specs.declared.role.Role.{Role}
use Rattle.sap_lex.specs.declared.token.Kind.TheVariants as k
use Rattle.sap_lex.specs.declared.token.Kind.{Kind}
use Rattle.sap_lex.specs.declared.token.Sign.TheVariants as s
use Rattle.sap_lex.specs.declared.token.Sign.{Sign as SignOf}
use Rattle.sap_lex.specs.declared.token.Token.{Token}
use Rattle.sap_tree.specs.declared.word.Word.TheVariants as w
use Rattle.sap_tree.specs.declared.word.Word.{Word as WordOf}
use Rattle.sap_tree.specs.Precedence.{precedence, unary_precedence}
use Rattle.sap_tree.specs.Words.{word_text}
use Rattle.sap_tree.specs.declared.syntax.BinaryOperator.TheVariants as b
use Rattle.sap_tree.specs.declared.syntax.BinaryOperator.{BinaryOperator}
use Rattle.sap_walk.specs.Limits.{Limited}
use Rattle.sap_walk.specs.Rows.{push, optional, ◌or◌, firsts}
use Rattle.sap_walk.specs.Walk.{Next, begins, empty_here, cannot_stand}

-- What may be to come. The numbers are depths, of `bin` and `tail` precedences. `prim` is an operand that begins with
-- no name. What may follow a name in an expression is `behind_name`, and what may follow the `[` and a first number
-- there `behind_bracket` and `behind_number`. `target` and `cell_part` follow the name of a command and of a `setTag`.
-- Behind the last of `last_states` stands nothing.
pub data Symbol : Type 0 where
  sign : Role → SignOf → Symbol
  word : Role → WordOf → Symbol
  any_name : Role → Symbol
  number : Role → Symbol
  sized : Role → Symbol
  expr choice unary post prim paren braces zext behind_name behind_bracket behind_number slices slice parts : Symbol
  bin tail : ℕ → Symbol
  texpr tag_of level_at join texprs : Symbol
  simple set_tag goto fall : ℕ → Symbol
  target cell_part : Symbol
  cmd if_command case_command ending else_part block cmds arm arms : ℕ → Symbol
  constant constants : Symbol
  authority kind_of enforced initial declaration input register memory declarations : Symbol
  state states : ℕ → Symbol
  last_states header design : Symbol

-- What a symbol does with a token: the symbols that are left to be read, or that the token can't appear there.
abbrev pub Row : Type 0
Row = Next Symbol Role

-- single tokens: a sign and a word by how they are spelled

-- The token is the symbol, or it can't appear there.
abbrev pub if_same : Role → Bool → Row
if_same role true = begins role []
if_same role false = cannot_stand

-- A sign takes the token that is the same sign.
abbrev pub sign_next : Role → SignOf → Kind → Row
sign_next role j (k.Sign i) = if_same role (bytes_eq (sign_text i) (sign_text j))
sign_next role j i = cannot_stand

-- A keyword takes the token that is the same keyword.
abbrev pub word_next : Role → WordOf → Kind → Row
word_next role j (k.Word i) = if_same role (bytes_eq (word_text i) (word_text j))
word_next role j i = cannot_stand

-- A name takes each token that is a name.
abbrev pub name_next : Role → Kind → Row
name_next role (k.Name name) = begins role []
name_next role i = cannot_stand

-- A number takes each token that is a number.
abbrev pub number_next : Role → Kind → Row
number_next role (k.Number n) = begins role []
number_next role i = cannot_stand

-- A sized number takes each token that is one.
abbrev pub sized_next : Role → Kind → Row
sized_next role (k.Sized width n) = begins role []
sized_next role i = cannot_stand

-- A production that begins with a sign.
abbrev pub after_sign : Role → SignOf → List Symbol → Kind → Row
after_sign role j σ i = push (sign_next role j i) σ

-- A production that begins with a keyword.
abbrev pub after_word : Role → WordOf → List Symbol → Kind → Row
after_word role j σ i = push (word_next role j i) σ

-- A production that begins with a name.
abbrev pub after_name : Role → List Symbol → Kind → Row
after_name role σ i = push (name_next role i) σ

-- expressions

-- The binary operator that a sign is, if it is one.
abbrev pub operator_of : SignOf → Option BinaryOperator
operator_of s.Bar = Some b.Or
operator_of s.Caret = Some b.Xor
operator_of s.Ampersand = Some b.And
operator_of s.Equal = Some b.Eq
operator_of s.NotEqual = Some b.Ne
operator_of s.Less = Some b.Lt
operator_of s.LessOrEqual = Some b.Le
operator_of s.ShiftLeft = Some b.Shl
operator_of s.ShiftRight = Some b.Shr
operator_of s.Plus = Some b.Add
operator_of s.Minus = Some b.Sub
operator_of s.Star = Some b.Mul
operator_of j = None

-- Whether the sign can be a unary operator.
abbrev pub is_unary : SignOf → Bool
is_unary s.Tilde = true
is_unary s.Minus = true
is_unary s.Ampersand = true
is_unary s.Bar = true
is_unary s.Caret = true
is_unary j = false

-- Further operators of the tightest precedences, so many of them.
abbrev pub tightest : ℕ → List Symbol
tightest zero = []
tightest (suc n) = tightest n ++ tail (unary_precedence - suc n) ∷ []

-- Further operators of this precedence, or a tighter one.
abbrev pub tails : ℕ → List Symbol
tails l = tightest (unary_precedence - l)

-- A production that begins with a unary operator.
abbrev pub signed_next : Kind → Row
signed_next (k.Sign j) = if is_unary j then begins r.Inner (unary ∷ []) else cannot_stand
signed_next i = cannot_stand

-- An expression in parentheses.
abbrev pub paren_next : Kind → Row
paren_next = after_sign r.Opening s.OpenParen (expr ∷ sign r.Closing s.CloseParen ∷ [])

-- A concatenation.
abbrev pub braces_next : Kind → Row
braces_next = after_sign r.Opening s.OpenBrace (expr ∷ sign r.Inner s.Comma ∷ expr ∷ parts
    ∷ sign r.Closing s.CloseBrace ∷ [])

-- A zero extension.
abbrev pub zext_next : Kind → Row
zext_next = after_word r.Inner w.Zext (sign r.Opening s.OpenParen ∷ expr ∷ sign r.Inner s.Comma
    ∷ number r.Inner ∷ sign r.Closing s.CloseParen ∷ [])

-- A primary expression that doesn't begin with a name.
abbrev pub prim_next : Kind → Row
prim_next i = number_next r.Inner i or sized_next r.Inner i or paren_next i or braces_next i or zext_next i

-- A primary expression with the slices after it.
abbrev pub post_next : Kind → Row
post_next i = after_name r.Inner (behind_name ∷ []) i or push (prim_next i) (slices ∷ [])

-- An expression in which no binary operator is outermost.
abbrev pub unary_next : Kind → Row
unary_next i = signed_next i or post_next i

-- A slice's brackets and range.
abbrev pub slice_next : Kind → Row
slice_next = after_sign r.Opening s.OpenBracket (number r.Inner ∷ sign r.Inner s.Colon ∷ number r.Inner
    ∷ sign r.Closing s.CloseBracket ∷ [])

-- The slices after an expression, if there are any.
abbrev pub slices_next : Kind → Row
slices_next i = optional (push (slice_next i) (slices ∷ []))

-- An operator of this precedence, with the operand after it, or nothing.
abbrev pub same_level : ℕ → Option BinaryOperator → Row
same_level l None = empty_here
same_level l (Some o) = if precedence o == l then begins r.Inner (bin (l + 1) ∷ tail l ∷ []) else empty_here

-- The operators of one precedence with the operands after them, if there are any.
abbrev pub tail_next : ℕ → Kind → Row
tail_next l (k.Sign j) = same_level l (operator_of j)
tail_next l i = empty_here

-- The rest of a conditional expression from its `?`, if there is one.
abbrev pub choice_next : Kind → Row
choice_next i = optional (after_sign r.Inner s.Question (expr ∷ sign r.Inner s.Colon ∷ expr ∷ []) i)

-- The symbols of which an expression with a first operand is made.
abbrev pub operand_next : Kind → Symbol → Row
operand_next i (sign role j) = sign_next role j i
operand_next i unary = unary_next i
operand_next i slices = slices_next i
operand_next i (tail l) = tail_next l i
operand_next i choice = choice_next i
operand_next i symbol = cannot_stand

-- The symbols of an expression.
abbrev pub expr_symbols : List Symbol
expr_symbols = unary ∷ (tails 1 ++ choice ∷ [])

-- The rest of an index that begins with a number.
abbrev pub index_symbols : List Symbol
index_symbols = slices ∷ (tails 1 ++ choice ∷ sign r.Closing s.CloseBracket ∷ slices ∷ [])

-- An expression.
abbrev pub expr_next : Kind → Row
expr_next i = firsts (operand_next i) expr_symbols

-- What may follow a name in an expression: a cell's index or a slice's range.
abbrev pub after_name_next : Kind → Row
after_name_next i = optional (after_sign r.Opening s.OpenBracket (behind_bracket ∷ []) i)

-- What follows an opening bracket after a name: a range, or an index.
abbrev pub after_bracket_next : Kind → Row
after_bracket_next i = push (number_next r.Inner i) (behind_number ∷ []) or push (expr_next i)
    (sign r.Closing s.CloseBracket ∷ slices ∷ [])

-- What follows a number after such a bracket: the rest of a range, or the rest of an index.
abbrev pub after_number_next : Kind → Row
after_number_next i =
    after_sign r.Inner s.Colon (number r.Inner ∷ sign r.Closing s.CloseBracket ∷ slices ∷ []) i
    or firsts (operand_next i) index_symbols

-- tag expressions

-- The tag of an expression.
abbrev pub tag_of_next : Kind → Row
tag_of_next = after_word r.Inner w.Tag (sign r.Opening s.OpenParen ∷ expr ∷ sign r.Closing s.CloseParen ∷ [])

-- The level at an expression's number.
abbrev pub level_at_next : Kind → Row
level_at_next = after_word r.Inner w.Level (sign r.Opening s.OpenParen ∷ expr ∷ sign r.Closing s.CloseParen ∷ [])

-- A join.
abbrev pub join_next : Kind → Row
join_next = after_word r.Inner w.Join (sign r.Opening s.OpenParen ∷ texpr ∷ sign r.Inner s.Comma ∷ texpr
    ∷ texprs ∷ sign r.Closing s.CloseParen ∷ [])

-- A tag expression.
abbrev pub texpr_next : Kind → Row
texpr_next i = name_next r.Inner i or tag_of_next i or level_at_next i or join_next i

-- commands

-- A `setTag`.
abbrev pub set_tag_next : ℕ → Kind → Row
set_tag_next depth =
    after_word (r.Command depth) w.SetTag
    (sign r.Plain s.OpenParen ∷ any_name r.Plain ∷ cell_part ∷ sign r.Plain s.Comma ∷ texpr
    ∷ sign r.Plain s.CloseParen ∷ [])

-- A `goto`.
abbrev pub goto_next : ℕ → Kind → Row
goto_next depth = after_word (r.Command depth) w.Goto (any_name r.Plain ∷ [])

-- A `fall`.
abbrev pub fall_next : ℕ → Kind → Row
fall_next depth = word_next (r.Command depth) w.Fall

-- A step.
abbrev pub simple_next : ℕ → Kind → Row
simple_next depth i = after_name (r.Command depth) (target ∷ []) i or set_tag_next depth i or goto_next
    depth i or fall_next depth i

-- What follows the name of a step's target: a value, or an index and a value.
abbrev pub target_next : Kind → Row
target_next i =
    after_sign r.Plain s.Becomes (expr ∷ []) i
    or after_sign r.Plain s.OpenBracket (expr ∷ sign r.Plain s.CloseBracket ∷ sign r.Plain s.Becomes ∷ expr ∷ []) i

-- The index of a cell, if there is one.
abbrev pub cell_part_next : Kind → Row
cell_part_next i = optional (after_sign r.Plain s.OpenBracket (expr ∷ sign r.Plain s.CloseBracket ∷ []) i)

-- An `if`.
abbrev pub if_next : ℕ → Kind → Row
if_next depth =
    after_word (r.Command depth) w.If (sign r.Plain s.OpenParen ∷ expr ∷ sign r.Plain s.CloseParen
    ∷ block (depth + 1) ∷ else_part (depth + 1) ∷ [])

-- A constant of an arm.
abbrev pub constant_next : Kind → Row
constant_next i = number_next r.Plain i or sized_next r.Plain i

-- Further constants of an arm, if there are any.
abbrev pub constants_next : Kind → Row
constants_next i = optional (after_sign r.Plain s.Comma (constant ∷ constants ∷ []) i)

-- An arm of a `case`.
abbrev pub arm_next : ℕ → Kind → Row
arm_next depth i = push (constant_next i) (constants ∷ sign r.Plain s.Colon ∷ block depth ∷ [])

-- Further arms of a `case`, and its `else`.
abbrev pub arms_next : ℕ → Kind → Row
arms_next depth i = push (arm_next depth i) (arms depth ∷ []) or after_word r.Plain w.Else (block depth ∷ []) i

-- A `case`.
abbrev pub case_next : ℕ → Kind → Row
case_next depth =
    after_word (r.Command depth) w.Case
    (sign r.Plain s.OpenParen ∷ expr ∷ sign r.Plain s.CloseParen ∷ sign r.Plain s.OpenBrace
    ∷ arm (depth + 1) ∷ arms (depth + 1) ∷ sign r.Plain s.CloseBrace ∷ [])

-- A command.
abbrev pub cmd_next : ℕ → Kind → Row
cmd_next depth i = push (simple_next depth i) (ending depth ∷ []) or if_next depth i or case_next depth i

-- How a step ends: a semicolon, an `otherwise`, or a `then` with its `otherwise`.
abbrev pub ending_next : ℕ → Kind → Row
ending_next depth i =
    sign_next r.Plain s.Semicolon i
    or after_word r.Plain w.Otherwise (block (depth + 1) ∷ []) i
    or after_word r.Plain w.Then (block (depth + 1) ∷ word r.Plain w.Otherwise ∷ block (depth + 1) ∷ []) i

-- An `else`, if there is one.
abbrev pub else_next : ℕ → Kind → Row
else_next depth i = optional (after_word r.Plain w.Else (block depth ∷ []) i)

-- A block.
abbrev pub block_next : ℕ → Kind → Row
block_next depth = after_sign r.Plain s.OpenBrace (cmds depth ∷ sign r.Plain s.CloseBrace ∷ [])

-- The commands of a block, if there are any.
abbrev pub cmds_next : ℕ → Kind → Row
cmds_next depth i = optional (push (cmd_next depth i) (cmds depth ∷ []))

-- kinds and declarations

-- The authority of an enforced entity, if it is written.
abbrev pub authority_next : Kind → Row
authority_next i = optional (after_word r.Plain w.Under (any_name r.Plain ∷ []) i)

-- The kind `enforced`.
abbrev pub enforced_next : Kind → Row
enforced_next = after_word r.Plain w.Enforced (any_name r.Plain ∷ authority ∷ [])

-- A kind.
abbrev pub kind_next : Kind → Row
kind_next i = word_next r.Plain w.Dynamic i or enforced_next i

-- A start number, if it is written.
abbrev pub initial_next : Kind → Row
initial_next i = optional (after_sign r.Plain s.Is (number r.Plain ∷ []) i)

-- The declaration of an input.
abbrev pub input_next : Kind → Row
input_next = after_word r.Input w.Input (any_name r.Plain ∷ sign r.Plain s.Colon ∷ number r.Plain
    ∷ sign r.Plain s.Semicolon ∷ [])

-- The declaration of a register.
abbrev pub register_next : Kind → Row
register_next =
    after_word r.Register w.Reg (any_name r.Plain ∷ sign r.Plain s.Colon ∷ number r.Plain ∷ kind_of
    ∷ initial ∷ sign r.Plain s.Semicolon ∷ [])

-- The declaration of a memory.
abbrev pub memory_next : Kind → Row
memory_next =
    after_word r.Memory w.Mem
    (any_name r.Plain ∷ sign r.Plain s.Colon ∷ number r.Plain ∷ sign r.Plain s.OpenBracket
    ∷ number r.Plain ∷ sign r.Plain s.CloseBracket
    ∷ kind_of ∷ sign r.Plain s.Semicolon ∷ [])

-- A declaration.
abbrev pub declaration_next : Kind → Row
declaration_next i = input_next i or register_next i or memory_next i

-- The declarations of a design, if there are any.
abbrev pub declarations_next : Kind → Row
declarations_next i = optional (push (declaration_next i) (declarations ∷ []))

-- states

-- A state.
abbrev pub state_next : ℕ → Kind → Row
state_next depth =
    after_word (r.State depth) w.State
    (any_name r.Plain ∷ kind_of ∷ sign r.Plain s.OpenBrace ∷ cmds 1 ∷ states (depth + 1)
    ∷ sign r.Plain s.CloseBrace ∷ [])

-- The children of a state, if there are any.
abbrev pub states_next : ℕ → Kind → Row
states_next depth i = optional (push (state_next depth i) (states depth ∷ []))

-- A top-level state, with those after it.
abbrev pub last_states_next : Kind → Row
last_states_next i = push (state_next 1 i) (last_states ∷ [])

-- The line that says that a design is of version 2, if there is one.
abbrev pub header_next : Kind → Row
header_next i = optional (after_word r.Plain w.Sapper (word r.Plain w.Two ∷ sign r.Plain s.Semicolon ∷ []) i)

-- The symbols of which a design is made.
abbrev pub part_next : Kind → Symbol → Row
part_next i header = header_next i
part_next i declarations = declarations_next i
part_next i (state depth) = state_next depth i
part_next i last_states = last_states_next i
part_next i symbol = cannot_stand

-- The symbols of a whole design.
abbrev pub design_symbols : List Symbol
design_symbols = header ∷ declarations ∷ state 1 ∷ last_states ∷ []

-- What each symbol of the grammar does with each token.
abbrev pub next : Symbol → Kind → Row
next (sign role j) i = sign_next role j i
next (word role j) i = word_next role j i
next (any_name role) i = name_next role i
next (number role) i = number_next role i
next (sized role) i = sized_next role i
next expr i = expr_next i
next choice i = choice_next i
next unary i = unary_next i
next post i = post_next i
next prim i = prim_next i
next paren i = paren_next i
next braces i = braces_next i
next zext i = zext_next i
next behind_name i = after_name_next i
next behind_bracket i = after_bracket_next i
next behind_number i = after_number_next i
next slices i = slices_next i
next slice i = slice_next i
next parts i = optional (after_sign r.Inner s.Comma (expr ∷ parts ∷ []) i)
next (bin l) i = firsts (operand_next i) (unary ∷ tails l)
next (tail l) i = tail_next l i
next texpr i = texpr_next i
next tag_of i = tag_of_next i
next level_at i = level_at_next i
next join i = join_next i
next texprs i = optional (after_sign r.Inner s.Comma (texpr ∷ texprs ∷ []) i)
next (simple depth) i = simple_next depth i
next (set_tag depth) i = set_tag_next depth i
next (goto depth) i = goto_next depth i
next (fall depth) i = fall_next depth i
next target i = target_next i
next cell_part i = cell_part_next i
next (cmd depth) i = cmd_next depth i
next (if_command depth) i = if_next depth i
next (case_command depth) i = case_next depth i
next (ending depth) i = ending_next depth i
next (else_part depth) i = else_next depth i
next (block depth) i = block_next depth i
next (cmds depth) i = cmds_next depth i
next (arm depth) i = arm_next depth i
next (arms depth) i = arms_next depth i
next constant i = constant_next i
next constants i = constants_next i
next authority i = authority_next i
next kind_of i = kind_next i
next enforced i = enforced_next i
next initial i = initial_next i
next declaration i = declaration_next i
next input i = input_next i
next register i = register_next i
next memory i = memory_next i
next declarations i = declarations_next i
next (state depth) i = state_next depth i
next (states depth) i = states_next depth i
next last_states i = last_states_next i
next header i = header_next i
next design i = firsts (part_next i) design_symbols

-- A symbol may stand for no token at all.
abbrev pub may_be_empty : Symbol → Bool
may_be_empty choice = true
may_be_empty behind_name = true
may_be_empty slices = true
may_be_empty parts = true
may_be_empty (tail l) = true
may_be_empty texprs = true
may_be_empty cell_part = true
may_be_empty (else_part depth) = true
may_be_empty (cmds depth) = true
may_be_empty constants = true
may_be_empty authority = true
may_be_empty initial = true
may_be_empty declarations = true
may_be_empty (states depth) = true
may_be_empty last_states = true
may_be_empty header = true
may_be_empty symbol = false

-- The design grammar, with its limits, in the form that the walk reads.
abbrev pub grammar : Limited
grammar = record {
  Symbol = Symbol;
  Role = Role;
  Token = Token;
  Counts = Counts;
  Limit = Limit;
  next = λ symbol t. next symbol t.kind;
  may_be_empty = may_be_empty;
  tally = tally;
  breach = breach;
}
