-- The pieces of a canonical text: tokens with their roles, and the blanks between them. The pieces of each construct stand in front of those that follow.
use Rattle.sap_lemmas.proofs.Common.{ℕ, zero, suc, ◌+◌, List, [], ◌∷◌, ◌++◌, Bool, true, false, Option, Some, None, codes, decimal, nat_lt, flat_map}
use Rattle.sap_parse.specs.Grammar.{sign_of, unary_sign_of}
use Rattle.sap_lex.specs.Spelling.{sign_text}
use Rattle.sap_parse.specs.declared.role.Role.TheVariants as r
use Rattle.sap_parse.specs.declared.role.Role.{Role}
use Rattle.sap_lex.specs.declared.token.Kind.TheVariants as k
use Rattle.sap_lex.specs.declared.token.Kind.{Kind}
use Rattle.sap_lex.specs.declared.token.Sign.TheVariants as s
use Rattle.sap_lex.specs.declared.token.Sign.{Sign}
use Rattle.sap_tree.specs.declared.word.Word.TheVariants as w
use Rattle.sap_tree.specs.Prelude.{precedence, unary_precedence, slice_precedence, precedence_of, Expression, Expressions, literal, sized_literal, variable, cell_at, unary_of, binary_of, choice, slice, concat, zero_extend, no_part, and_part, TagExpression, TagExpressions, level_of, tag_at, level_at, join_of, no_tag, and_tag, SimpleCommand, assign, write, set_tag, set_cell_tag, go_to, fall_to_child, Command, lone, try, if_else, try_then, case_of, Arms, last_arm, and_arm, CommandBlock, command_block, ElseBlock, no_else, with_else, CommandList, no_command, and_command, StateTree, state_node, StateList, no_state, and_state, DesignTree, word_text}
use Rattle.sap_tree.specs.declared.word.Word.{Word}
use Rattle.sap_tree.specs.declared.syntax.Decl.{Decl}
use Rattle.sap_tree.specs.declared.syntax.Kind.{Kind as KindTree}
use Rattle.sap_tree.specs.declared.syntax.Numeral.{Numeral}
use Rattle.sap_tree.specs.declared.syntax.Under.{Under}
use Rattle.sap_tree.specs.declared.version.Version.TheVariants.{One, Two}
use Rattle.sap_tree.specs.declared.version.Version.{Version}
use Rattle.sap_tree.specs.declared.syntax.Decl.TheVariants as d
use Rattle.sap_tree.specs.declared.syntax.Kind.TheVariants as how

pub data Piece : Type 0 where
  space line : Piece
  token : Role → Kind → Piece

abbrev pub kind_bytes : Kind → List ℕ
kind_bytes (k.Word x) = word_text x
kind_bytes (k.Sign x) = sign_text x
kind_bytes (k.Name n) = n
kind_bytes (k.Number n) = decimal n
kind_bytes (k.Sized width n) = decimal width ++ (codes "'d" ++ decimal n)

abbrev pub piece_bytes : Piece → List ℕ
piece_bytes space = 32 ∷ []
piece_bytes line = 10 ∷ []
piece_bytes (token role kind) = kind_bytes kind

abbrev pub bytes_of : List Piece → List ℕ
bytes_of ps = flat_map piece_bytes ps

abbrev pub sign : Role → Sign → Piece
sign role x = token role (k.Sign x)

abbrev pub word : Role → Word → Piece
word role x = token role (k.Word x)

abbrev pub name : Role → List ℕ → Piece
name role n = token role (k.Name n)

abbrev pub number : Role → ℕ → Piece
number role n = token role (k.Number n)

-- expressions

abbrev pub wrapped : Bool → (List Piece → List Piece) → List Piece → List Piece
wrapped true inner rest = sign r.Opening s.OpenParen ∷ inner (sign r.Closing s.CloseParen ∷ rest)
wrapped false inner rest = inner rest

abbrev pub bounds : ℕ → ℕ → List Piece → List Piece
bounds high low rest = sign r.Opening s.OpenBracket ∷ number r.Inner high ∷ sign r.Inner s.Colon ∷ number r.Inner low ∷ sign r.Closing s.CloseBracket ∷ rest

abbrev mutual
  pub expression : Expression → List Piece → List Piece
  expression (literal spot n) rest = number r.Inner n ∷ rest
  expression (sized_literal spot width n) rest = token r.Inner (k.Sized width n) ∷ rest
  expression (variable spot n) rest = name r.Inner n ∷ rest
  expression (cell_at spot n i) rest = name r.Inner n ∷ sign r.Opening s.OpenBracket ∷ expression i (sign r.Closing s.CloseBracket ∷ rest)
  expression (unary_of spot o x) rest = sign r.Inner (unary_sign_of o) ∷ wrapped (nat_lt (precedence_of x) unary_precedence) (λ ps. expression x ps) rest
  expression (binary_of spot o x y) rest =
      wrapped (nat_lt (precedence_of x) (precedence o)) (λ ps. expression x ps)
      (space ∷ sign r.Inner (sign_of o) ∷ space ∷ wrapped (nat_lt (precedence_of y) (precedence o + 1)) (λ ps. expression y ps) rest)
  expression (choice spot x y z) rest =
      wrapped (nat_lt (precedence_of x) 1) (λ ps. expression x ps)
      (space ∷ sign r.Inner s.Question ∷ space ∷ expression y (space ∷ sign r.Inner s.Colon ∷ space ∷ expression z rest))
  expression (slice spot x high low) rest = wrapped (nat_lt (precedence_of x) slice_precedence) (λ ps. expression x ps) (bounds high low rest)
  expression (concat spot xs) rest = sign r.Opening s.OpenBrace ∷ parts xs (sign r.Closing s.CloseBrace ∷ rest)
  expression (zero_extend spot x width) rest =
      word r.Inner w.Zext ∷ sign r.Opening s.OpenParen
      ∷ expression x (sign r.Inner s.Comma ∷ space ∷ number r.Inner width ∷ sign r.Closing s.CloseParen ∷ rest)

  pub parts : Expressions → List Piece → List Piece
  parts no_part rest = rest
  parts (and_part x xs) rest = expression x (more_parts xs rest)

  pub more_parts : Expressions → List Piece → List Piece
  more_parts no_part rest = rest
  more_parts (and_part x xs) rest = sign r.Inner s.Comma ∷ space ∷ expression x (more_parts xs rest)

abbrev mutual
  pub tag : TagExpression → List Piece → List Piece
  tag (level_of n) rest = name r.Inner n.name ∷ rest
  tag (tag_at place x) rest = word r.Inner w.Tag ∷ sign r.Opening s.OpenParen ∷ expression x (sign r.Closing s.CloseParen ∷ rest)
  tag (level_at place x) rest = word r.Inner w.Level ∷ sign r.Opening s.OpenParen ∷ expression x (sign r.Closing s.CloseParen ∷ rest)
  tag (join_of place xs) rest = word r.Inner w.Join ∷ sign r.Opening s.OpenParen ∷ tags xs (sign r.Closing s.CloseParen ∷ rest)

  pub tags : TagExpressions → List Piece → List Piece
  tags no_tag rest = rest
  tags (and_tag x xs) rest = tag x (more_tags xs rest)

  pub more_tags : TagExpressions → List Piece → List Piece
  more_tags no_tag rest = rest
  more_tags (and_tag x xs) rest = sign r.Inner s.Comma ∷ space ∷ tag x (more_tags xs rest)

-- the constants of an arm

abbrev pub constant : Expression → List Piece → List Piece
constant (literal spot n) rest = number r.Plain n ∷ rest
constant (sized_literal spot width n) rest = token r.Plain (k.Sized width n) ∷ rest
constant x rest = expression x rest

abbrev pub more_constants : Expressions → List Piece → List Piece
more_constants no_part rest = rest
more_constants (and_part x xs) rest = sign r.Plain s.Comma ∷ space ∷ constant x (more_constants xs rest)

abbrev pub constants : Expressions → List Piece → List Piece
constants no_part rest = rest
constants (and_part x xs) rest = constant x (more_constants xs rest)

-- commands, at a level of indentation and at a depth

abbrev pub cell : Role → List ℕ → Expression → List Piece → List Piece
cell role n i rest = name role n ∷ sign r.Plain s.OpenBracket ∷ expression i (sign r.Plain s.CloseBracket ∷ rest)

abbrev pub simple : ℕ → SimpleCommand → List Piece → List Piece
simple depth (assign n x) rest = name (r.Command depth) n.name ∷ space ∷ sign r.Plain s.Becomes ∷ space ∷ expression x rest
simple depth (write n i x) rest = cell (r.Command depth) n.name i (space ∷ sign r.Plain s.Becomes ∷ space ∷ expression x rest)
simple depth (set_tag place n x) rest =
    word (r.Command depth) w.SetTag ∷ sign r.Plain s.OpenParen ∷ name r.Plain n.name ∷ sign r.Plain s.Comma ∷ space ∷ tag x (sign r.Plain s.CloseParen ∷ rest)
simple depth (set_cell_tag place n i x) rest =
    word (r.Command depth) w.SetTag ∷ sign r.Plain s.OpenParen ∷ cell r.Plain n.name i (sign r.Plain s.Comma ∷ space ∷ tag x (sign r.Plain s.CloseParen ∷ rest))
simple depth (go_to place n) rest = word (r.Command depth) w.Goto ∷ space ∷ name r.Plain n.name ∷ rest
simple depth (fall_to_child place) rest = word (r.Command depth) w.Fall ∷ rest

abbrev pub margin : ℕ → List Piece → List Piece
margin zero rest = rest
margin (suc level) rest = space ∷ space ∷ margin level rest

abbrev mutual
  pub command : Command → ℕ → ℕ → List Piece → List Piece
  command (lone c) level depth rest = margin level (simple depth c (sign r.Plain s.Semicolon ∷ line ∷ rest))
  command (try c place handler) level depth rest = margin level (simple depth c (space ∷ word r.Plain w.Otherwise ∷ block handler level depth (line ∷ rest)))
  command (if_else place x one other) level depth rest =
      margin level (word (r.Command depth) w.If ∷ space ∷ sign r.Plain s.OpenParen
      ∷ expression x (sign r.Plain s.CloseParen ∷ block one level depth (else_part other level depth (line ∷ rest))))
  command (try_then c place accepted refused) level depth rest =
      margin level (simple depth c (space ∷ word r.Plain w.Then
      ∷ block accepted level depth (space ∷ word r.Plain w.Otherwise ∷ block refused level depth (line ∷ rest))))
  command (case_of place x list) level depth rest =
      margin level (word (r.Command depth) w.Case ∷ space ∷ sign r.Plain s.OpenParen
      ∷ expression x (sign r.Plain s.CloseParen ∷ space ∷ sign r.Plain s.OpenBrace ∷ line
      ∷ arms list (suc level) depth (margin level (sign r.Plain s.CloseBrace ∷ line ∷ rest))))

  -- arms, and the block after `else`
  pub arms : Arms → ℕ → ℕ → List Piece → List Piece
  arms (last_arm b) level depth rest = margin level (word r.Plain w.Else ∷ block b level depth (line ∷ rest))
  arms (and_arm xs b list) level depth rest = margin level (constants xs (sign r.Plain s.Colon ∷ block b level depth (line ∷ arms list level depth rest)))

  pub block : CommandBlock → ℕ → ℕ → List Piece → List Piece
  block (command_block cs after) level depth rest =
      space ∷ sign r.Plain s.OpenBrace ∷ line ∷ commands cs (suc level) (depth + 1) (margin level (sign r.Plain s.CloseBrace ∷ rest))

  pub else_part : ElseBlock → ℕ → ℕ → List Piece → List Piece
  else_part no_else level depth rest = rest
  else_part (with_else b) level depth rest = space ∷ word r.Plain w.Else ∷ block b level depth rest

  pub commands : CommandList → ℕ → ℕ → List Piece → List Piece
  commands no_command level depth rest = rest
  commands (and_command c cs) level depth rest = command c level depth (commands cs level depth rest)

-- declarations

abbrev pub authority : Option Under → List Piece → List Piece
authority None rest = rest
authority (Some under) rest = space ∷ word r.Plain w.Under ∷ space ∷ name r.Plain under.level.name ∷ rest

abbrev pub kind : KindTree → List Piece → List Piece
kind (how.Dynamic place) rest = word r.Plain w.Dynamic ∷ rest
kind (how.Enforced n under) rest = word r.Plain w.Enforced ∷ space ∷ name r.Plain n.name ∷ authority under rest

abbrev pub start : Option Numeral → List Piece → List Piece
start None rest = rest
start (Some n) rest = space ∷ sign r.Plain s.Is ∷ space ∷ number r.Plain n.value ∷ rest

abbrev pub declared : Role → Word → List ℕ → ℕ → List Piece → List Piece
declared role x n width rest = word role x ∷ space ∷ name r.Plain n ∷ space ∷ sign r.Plain s.Colon ∷ space ∷ number r.Plain width ∷ rest

abbrev pub declaration : Decl → List Piece → List Piece
declaration (d.Input place n width) rest = declared r.Input w.Input n.name width.value (sign r.Plain s.Semicolon ∷ line ∷ rest)
declaration (d.Register place n width x initial) rest =
    declared r.Register w.Reg n.name width.value (space ∷ kind x (start initial (sign r.Plain s.Semicolon ∷ line ∷ rest)))
declaration (d.Memory place n width depth x) rest =
    declared r.Memory w.Mem n.name width.value
    (sign r.Plain s.OpenBracket ∷ number r.Plain depth.value ∷ sign r.Plain s.CloseBracket ∷ space ∷ kind x (sign r.Plain s.Semicolon ∷ line ∷ rest))

abbrev pub declarations : List Decl → List Piece → List Piece
declarations [] rest = rest
declarations (x ∷ xs) rest = declaration x (declarations xs rest)

-- states

abbrev pub body : CommandBlock → ℕ → List Piece → List Piece
body (command_block cs after) level rest = commands cs level 1 rest

abbrev mutual
  pub state : StateTree → ℕ → ℕ → List Piece → List Piece
  state (state_node place n x inner children) level depth rest =
      margin level (word (r.State depth) w.State ∷ space ∷ name r.Plain n.name ∷ space ∷ kind x (space ∷ sign r.Plain s.OpenBrace ∷ line
      ∷ body inner (suc level) (states children (suc level) (depth + 1) (margin level (sign r.Plain s.CloseBrace ∷ line ∷ rest)))))

  pub states : StateList → ℕ → ℕ → List Piece → List Piece
  states no_state level depth rest = rest
  states (and_state x xs) level depth rest = state x level depth (states xs level depth rest)

-- the first line
abbrev pub header : Version → List Piece → List Piece
header One rest = rest
header Two rest = word r.Plain w.Sapper ∷ space ∷ word r.Plain w.Two ∷ sign r.Plain s.Semicolon ∷ line ∷ rest

-- what stands behind it
abbrev pub parts_of : DesignTree → List Piece
parts_of x = declarations x.declarations (states x.states 0 1 [])

abbrev pub design : DesignTree → List Piece
design x = header x.version (parts_of x)
