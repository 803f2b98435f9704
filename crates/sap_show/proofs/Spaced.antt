-- No piece of a canonical text runs into the next, and each is spelled as its token.
use Rattle.sap_lemmas.proofs.Common.{◌≡◌, ◌+◌, ℕ, zero, suc, List, [], ◌∷◌, Bool, true, false, refl, ap, ◌∙◌, Option, Some, None, nat_lt, nat_le, ◌&&◌, list_all, and_parts}
use Rattle.sap_tree.proofs.SyntaxLemmas.{expression_of_outermost, tag_of_outermost}
use Rattle.sap_parse.specs.Grammar.{sign_of, unary_sign_of}
use Rattle.sap_parse.specs.declared.role.Role.TheVariants as r
use Rattle.sap_parse.specs.declared.role.Role.{Role}
use Rattle.sap_lex.specs.declared.token.Kind.TheVariants as k
use Rattle.sap_lex.specs.declared.token.Kind.{Kind}
use Rattle.sap_lex.specs.declared.token.Sign.TheVariants as s
use Rattle.sap_tree.specs.declared.word.Word.TheVariants as w
use Rattle.sap_tree.specs.Prelude.{most_arms, most_blocks, precedence, unary_precedence, slice_precedence, precedence_of, Expression, Expressions, literal, sized_literal, variable, cell_at, unary_of, binary_of, choice, slice, concat, zero_extend, no_part, and_part, TagExpression, TagExpressions, level_of, tag_at, level_at, join_of, no_tag, and_tag, SimpleCommand, assign, write, set_tag, set_cell_tag, go_to, fall_to_child, Command, lone, try, if_else, try_then, case_of, Arms, last_arm, and_arm, CommandBlock, command_block, ElseBlock, no_else, with_else, CommandList, no_command, and_command, StateTree, state_node, StateList, no_state, and_state, DesignTree, is_expression, are_expressions, has_two_parts, is_number, is_tag, are_tags, has_two_tags, is_outermost, is_outermost_tag, is_simple, is_command, is_block, is_else, is_constant, are_constants, has_constant, has_arm, arm_count, are_arms, are_commands, is_kind, is_authority, is_start, is_state, are_states, has_state, block_depth, is_tree, is_declaration, is_name, is_second}
use Rattle.sap_tree.specs.declared.word.Word.{Word}
use Rattle.sap_tree.specs.declared.syntax.BinaryOperator.{BinaryOperator}
use Rattle.sap_tree.specs.declared.syntax.Decl.{Decl}
use Rattle.sap_tree.specs.declared.syntax.Kind.{Kind as KindTree}
use Rattle.sap_tree.specs.declared.syntax.Numeral.{Numeral}
use Rattle.sap_tree.specs.declared.syntax.UnaryOperator.{UnaryOperator}
use Rattle.sap_tree.specs.declared.syntax.Under.{Under}
use Rattle.sap_tree.specs.declared.version.Version.{Version}
use Rattle.sap_show.proofs.Pieces.{Piece, space, line, token, sign, word, name, number, wrapped, bounds, expression, parts, more_parts, tag, tags, more_tags, constant, more_constants, constants, cell, simple, margin, command, arms, block, else_part, commands, authority, kind, start, declared, declaration, declarations, state, states, parts_of}
use Rattle.sap_tree.specs.declared.syntax.BinaryOperator.TheVariants as b
use Rattle.sap_tree.specs.declared.syntax.Decl.TheVariants as d
use Rattle.sap_tree.specs.declared.syntax.Kind.TheVariants as how
use Rattle.sap_tree.specs.declared.syntax.UnaryOperator.TheVariants as u

-- what stands next ends a word, a name or a number
abbrev pub ends_run : List Piece → Bool
ends_run [] = true
ends_run (space ∷ ps) = true
ends_run (line ∷ ps) = true
ends_run (token role (k.Sign x) ∷ ps) = true
ends_run (token role x ∷ ps) = false

-- what stands next makes no longer sign of `:`, `=` or `<`
abbrev pub ends_sign : List Piece → Bool
ends_sign [] = true
ends_sign (space ∷ ps) = true
ends_sign (line ∷ ps) = true
ends_sign (token role (k.Number n) ∷ ps) = true
ends_sign (token role x ∷ ps) = false

abbrev pub follows : Kind → List Piece → Bool
follows (k.Sign s.Colon) ps = ends_sign ps
follows (k.Sign s.Is) ps = ends_sign ps
follows (k.Sign s.Less) ps = ends_sign ps
follows (k.Sign x) ps = true
follows x ps = ends_run ps

-- a word that stands behind the first line in a text of this version
abbrev pub is_written : Version → Word → Bool
is_written version w.Then = is_second version
is_written version w.Case = is_second version
is_written version w.Sapper = false
is_written version w.Two = false
is_written version x = true

abbrev pub is_spelled : Version → Kind → Bool
is_spelled version (k.Word x) = is_written version x
is_spelled version (k.Sign x) = true
is_spelled version (k.Name n) = is_name version n
is_spelled version (k.Number n) = is_number n
is_spelled version (k.Sized width n) = is_number width && is_number n

-- each piece is spelled as its token, and ends where the next begins
abbrev pub apart : Version → List Piece → Bool
apart version [] = true
apart version (space ∷ ps) = apart version ps
apart version (line ∷ ps) = apart version ps
apart version (token role x ∷ ps) = is_spelled version x && (follows x ps && apart version ps)

three : (a c e : Bool) → a ≡ true → c ≡ true → e ≡ true → (a && (c && e)) ≡ true
three a c e p q h = ap (λ z. z && (c && e)) p ∙ ap (λ z. z && e) q ∙ h

-- these pieces stand apart in front of any that end a run
abbrev Apart : Version → (List Piece → List Piece) → Type 0
Apart version ps = (rest : List Piece) → ends_run rest ≡ true → apart version rest ≡ true → apart version (ps rest) ≡ true

a_name : (version : Version) (role : Role) (n : List ℕ) → is_name version n ≡ true → Apart version (λ rest. name role n ∷ rest)
a_name version role n h rest e a = three (is_name version n) (ends_run rest) (apart version rest) h e a

a_number : (version : Version) (role : Role) (n : ℕ) → is_number n ≡ true → Apart version (λ rest. number role n ∷ rest)
a_number version role n h rest e a = three (is_number n) (ends_run rest) (apart version rest) h e a

unary_apart : (version : Version) (o : UnaryOperator) (rest : List Piece) → apart version rest ≡ true → apart version (sign r.Inner (unary_sign_of o) ∷ rest) ≡ true
unary_apart version u.Not rest h = h
unary_apart version _ rest h = h

binary_apart : (version : Version) (o : BinaryOperator) (rest : List Piece) → apart version rest ≡ true → apart version (space ∷ sign r.Inner (sign_of o) ∷ space ∷ rest) ≡ true
binary_apart version b.Or rest h = h
binary_apart version _ rest h = h

wrapped_apart : (version : Version) (t : Bool) (own_pieces : List Piece → List Piece) → Apart version own_pieces → Apart version (wrapped t own_pieces)
wrapped_apart version true own_pieces own rest e a = own (sign r.Closing s.CloseParen ∷ rest) refl a
wrapped_apart version false own_pieces own rest e a = own rest e a

bounds_apart : (version : Version) (high low : ℕ) → is_number high ≡ true → is_number low ≡ true → Apart version (bounds high low)
bounds_apart version high low h l rest e a =
    a_number version r.Inner high h (sign r.Inner s.Colon ∷ number r.Inner low ∷ sign r.Closing s.CloseBracket ∷ rest) refl
    (a_number version r.Inner low l (sign r.Closing s.CloseBracket ∷ rest) refl a)

-- a list of parts is apart as one with a comma in front is
parts_apart : (version : Version) (xs : Expressions) (rest : List Piece) → apart version (more_parts xs rest) ≡ true → apart version (parts xs rest) ≡ true
parts_apart version no_part rest a = a
parts_apart version _ rest a = a

mutual
  unfolding is_expression

  expression_apart : (version : Version) (x : Expression) → is_expression version x ≡ true → Apart version (expression x)
  expression_apart version (literal spot n) h rest e a = a_number version r.Inner n h rest e a
  expression_apart version (sized_literal spot width n) h rest e a = three (is_number width && is_number n) (ends_run rest) (apart version rest) h e a
  expression_apart version (variable spot n) h rest e a = a_name version r.Inner n h rest e a
  expression_apart version (cell_at spot n i) h rest e a =
      let f = and_parts (is_name version n) (is_expression version i) h in
      a_name version r.Inner n f.0 (sign r.Opening s.OpenBracket ∷ expression i (sign r.Closing s.CloseBracket ∷ rest)) refl
      (expression_apart version i f.1 (sign r.Closing s.CloseBracket ∷ rest) refl a)
  expression_apart version (unary_of spot o x) h rest e a =
      unary_apart version o (wrapped (nat_lt (precedence_of x) unary_precedence) (λ ps. expression x ps) rest)
      (wrapped_apart version (nat_lt (precedence_of x) unary_precedence) (λ ps. expression x ps) (λ ps i j. expression_apart version x h ps i j) rest e a)
  expression_apart version (binary_of spot o x y) h rest e a =
      let f = and_parts (is_expression version x) (is_expression version y) h in
      let behind = wrapped (nat_lt (precedence_of y) (precedence o + 1)) (λ ps. expression y ps) rest in
      wrapped_apart version (nat_lt (precedence_of x) (precedence o)) (λ ps. expression x ps) (λ ps i j. expression_apart version x f.0 ps i j)
      (space ∷ sign r.Inner (sign_of o) ∷ space ∷ behind) refl
      (binary_apart version o behind
      (wrapped_apart version (nat_lt (precedence_of y) (precedence o + 1)) (λ ps. expression y ps) (λ ps i j. expression_apart version y f.1 ps i j) rest e a))
  expression_apart version (choice spot x y z) h rest e a =
      let f = and_parts (is_expression version x && is_expression version y) (is_expression version z) h in
      let g = and_parts (is_expression version x) (is_expression version y) f.0 in
      wrapped_apart version (nat_lt (precedence_of x) 1) (λ ps. expression x ps) (λ ps i j. expression_apart version x g.0 ps i j)
      (space ∷ sign r.Inner s.Question ∷ space ∷ expression y (space ∷ sign r.Inner s.Colon ∷ space ∷ expression z rest)) refl
      (expression_apart version y g.1 (space ∷ sign r.Inner s.Colon ∷ space ∷ expression z rest) refl (expression_apart version z f.1 rest e a))
  expression_apart version (slice spot x high low) h rest e a =
      let f = and_parts (is_expression version x && is_number high) (is_number low) h in
      let g = and_parts (is_expression version x) (is_number high) f.0 in
      wrapped_apart version (nat_lt (precedence_of x) slice_precedence) (λ ps. expression x ps) (λ ps i j. expression_apart version x g.0 ps i j)
      (bounds high low rest) refl (bounds_apart version high low g.1 f.1 rest e a)
  expression_apart version (concat spot xs) h rest e a =
      parts_apart version xs (sign r.Closing s.CloseBrace ∷ rest)
      (more_parts_apart version xs (and_parts (has_two_parts xs) (are_expressions version xs) h).1 (sign r.Closing s.CloseBrace ∷ rest) refl a)
  expression_apart version (zero_extend spot x width) h rest e a =
      let f = and_parts (is_expression version x) (is_number width) h in
      expression_apart version x f.0 (sign r.Inner s.Comma ∷ space ∷ number r.Inner width ∷ sign r.Closing s.CloseParen ∷ rest) refl
      (a_number version r.Inner width f.1 (sign r.Closing s.CloseParen ∷ rest) refl a)

  more_parts_apart : (version : Version) (xs : Expressions) → are_expressions version xs ≡ true → Apart version (more_parts xs)
  more_parts_apart version no_part h rest e a = a
  more_parts_apart version (and_part x xs) h rest e a =
      let f = and_parts (is_expression version x) (are_expressions version xs) h in
      expression_apart version x f.0 (more_parts xs rest) (more_parts_end xs rest e) (more_parts_apart version xs f.1 rest e a)

  more_parts_end : (xs : Expressions) (rest : List Piece) → ends_run rest ≡ true → ends_run (more_parts xs rest) ≡ true
  more_parts_end no_part rest e = e
  more_parts_end (and_part x xs) rest e = refl

more_tags_end : (xs : TagExpressions) (rest : List Piece) → ends_run rest ≡ true → ends_run (more_tags xs rest) ≡ true
more_tags_end no_tag rest e = e
more_tags_end (and_tag x xs) rest e = refl

tags_apart : (version : Version) (xs : TagExpressions) (rest : List Piece) → apart version (more_tags xs rest) ≡ true → apart version (tags xs rest) ≡ true
tags_apart version no_tag rest a = a
tags_apart version _ rest a = a

mutual
  unfolding is_tag

  tag_apart : (version : Version) (x : TagExpression) → is_tag version x ≡ true → Apart version (tag x)
  tag_apart version (level_of n) h rest e a = a_name version r.Inner n.name h rest e a
  tag_apart version (tag_at place x) h rest e a = expression_apart version x h (sign r.Closing s.CloseParen ∷ rest) refl a
  tag_apart version (level_at place x) h rest e a = expression_apart version x h (sign r.Closing s.CloseParen ∷ rest) refl a
  tag_apart version (join_of place xs) h rest e a =
      tags_apart version xs (sign r.Closing s.CloseParen ∷ rest)
      (more_tags_apart version xs (and_parts (has_two_tags xs) (are_tags version xs) h).1 (sign r.Closing s.CloseParen ∷ rest) refl a)

  more_tags_apart : (version : Version) (xs : TagExpressions) → are_tags version xs ≡ true → Apart version (more_tags xs)
  more_tags_apart version no_tag h rest e a = a
  more_tags_apart version (and_tag x xs) h rest e a =
      let f = and_parts (is_tag version x) (are_tags version xs) h in
      tag_apart version x f.0 (more_tags xs rest) (more_tags_end xs rest e) (more_tags_apart version xs f.1 rest e a)

cell_apart : (version : Version) (role : Role) (n : List ℕ) (i : Expression) → is_name version n ≡ true → is_outermost version i ≡ true → Apart version (cell role n i)
cell_apart version role n i h f rest e a =
    a_name version role n h (sign r.Plain s.OpenBracket ∷ expression i (sign r.Plain s.CloseBracket ∷ rest)) refl
    (expression_apart version i (expression_of_outermost version i f) (sign r.Plain s.CloseBracket ∷ rest) refl a)

simple_apart : (version : Version) (depth : ℕ) (c : SimpleCommand) → is_simple version c ≡ true → Apart version (simple depth c)
unfolding is_simple
simple_apart version depth (assign n x) h rest e a =
    let f = and_parts (is_name version n.name) (is_outermost version x) h in
    a_name version (r.Command depth) n.name f.0 (space ∷ sign r.Plain s.Becomes ∷ space ∷ expression x rest) refl
    (expression_apart version x (expression_of_outermost version x f.1) rest e a)
simple_apart version depth (write n i x) h rest e a =
    let f = and_parts (is_name version n.name && is_outermost version i) (is_outermost version x) h in
    let g = and_parts (is_name version n.name) (is_outermost version i) f.0 in
    cell_apart version (r.Command depth) n.name i g.0 g.1 (space ∷ sign r.Plain s.Becomes ∷ space ∷ expression x rest) refl
    (expression_apart version x (expression_of_outermost version x f.1) rest e a)
simple_apart version depth (set_tag place n x) h rest e a =
    let f = and_parts (is_name version n.name) (is_outermost_tag version x) h in
    a_name version r.Plain n.name f.0 (sign r.Plain s.Comma ∷ space ∷ tag x (sign r.Plain s.CloseParen ∷ rest)) refl
    (tag_apart version x (tag_of_outermost version x f.1) (sign r.Plain s.CloseParen ∷ rest) refl a)
simple_apart version depth (set_cell_tag place n i x) h rest e a =
    let f = and_parts (is_name version n.name && is_outermost version i) (is_outermost_tag version x) h in
    let g = and_parts (is_name version n.name) (is_outermost version i) f.0 in
    cell_apart version r.Plain n.name i g.0 g.1 (sign r.Plain s.Comma ∷ space ∷ tag x (sign r.Plain s.CloseParen ∷ rest)) refl
    (tag_apart version x (tag_of_outermost version x f.1) (sign r.Plain s.CloseParen ∷ rest) refl a)
simple_apart version depth (go_to place n) h rest e a = a_name version r.Plain n.name h rest e a
simple_apart version depth (fall_to_child place) h rest e a = three true (ends_run rest) (apart version rest) refl e a

-- constants

constant_apart : (version : Version) (x : Expression) → is_constant x ≡ true → Apart version (constant x)
constant_apart version (literal spot n) h rest e a = a_number version r.Plain n h rest e a
constant_apart version (sized_literal spot width n) h rest e a = three (is_number width && is_number n) (ends_run rest) (apart version rest) h e a
constant_apart version _ h rest e a = absurd (cc)

more_constants_end : (xs : Expressions) (rest : List Piece) → ends_run rest ≡ true → ends_run (more_constants xs rest) ≡ true
more_constants_end no_part rest e = e
more_constants_end (and_part x xs) rest e = refl

more_constants_apart : (version : Version) (xs : Expressions) → are_constants xs ≡ true → Apart version (more_constants xs)
more_constants_apart version no_part h rest e a = a
more_constants_apart version (and_part x xs) h rest e a =
    let f = and_parts (is_constant x) (are_constants xs) h in
    constant_apart version x f.0 (more_constants xs rest) (more_constants_end xs rest e) (more_constants_apart version xs f.1 rest e a)

constants_apart : (version : Version) (xs : Expressions) → are_constants xs ≡ true → Apart version (constants xs)
constants_apart version no_part h rest e a = a
constants_apart version xs h rest e a = more_constants_apart version xs h rest e a

margin_apart : (version : Version) (level : ℕ) (rest : List Piece) → apart version rest ≡ true → apart version (margin level rest) ≡ true
margin_apart version zero rest a = a
margin_apart version (suc level) rest a = margin_apart version level rest a

mutual
  unfolding is_command

  command_apart : (version : Version) (c : Command) (level depth : ℕ) → is_command version c ≡ true → (rest : List Piece)
      → apart version rest ≡ true → apart version (command c level depth rest) ≡ true
  command_apart version (lone c) level depth h rest a =
      margin_apart version level _ (simple_apart version depth c h (sign r.Plain s.Semicolon ∷ line ∷ rest) refl a)
  command_apart version (try c place handler) level depth h rest a =
      let f = and_parts (is_simple version c) (is_block version handler) h in
      margin_apart version level _
      (simple_apart version depth c f.0 (space ∷ word r.Plain w.Otherwise ∷ block handler level depth (line ∷ rest)) refl
      (three true _ _ refl (block_ends handler level depth (line ∷ rest)) (block_apart version handler level depth f.1 (line ∷ rest) a)))
  command_apart version (if_else place x one other) level depth h rest a =
      let f = and_parts (is_outermost version x && is_block version one) (is_else version other) h in
      let g = and_parts (is_outermost version x) (is_block version one) f.0 in
      margin_apart version level _
      (expression_apart version x (expression_of_outermost version x g.0) (sign r.Plain s.CloseParen ∷ block one level depth (else_part other level depth (line ∷ rest))) refl
      (block_apart version one level depth g.1 (else_part other level depth (line ∷ rest)) (else_apart version other level depth f.1 (line ∷ rest) a)))
  command_apart version (try_then c place one other) level depth h rest a =
      let f = and_parts (is_second version && is_simple version c && is_block version one) (is_block version other) h in
      let g = and_parts (is_second version && is_simple version c) (is_block version one) f.0 in
      let i = and_parts (is_second version) (is_simple version c) g.0 in
      let last = space ∷ word r.Plain w.Otherwise ∷ block other level depth (line ∷ rest) in
      margin_apart version level _
      (simple_apart version depth c i.1 (space ∷ word r.Plain w.Then ∷ block one level depth last) refl
      (three (is_second version) _ _ i.0 (block_ends one level depth last)
      (block_apart version one level depth g.1 last
      (three true _ _ refl (block_ends other level depth (line ∷ rest)) (block_apart version other level depth f.1 (line ∷ rest) a)))))
  command_apart version (case_of place x list) level depth h rest a =
      let f = and_parts (is_second version && is_outermost version x && has_arm list && nat_le (arm_count list) most_arms) (are_arms version list) h in
      let g = and_parts (is_second version && is_outermost version x && has_arm list) (nat_le (arm_count list) most_arms) f.0 in
      let i = and_parts (is_second version && is_outermost version x) (has_arm list) g.0 in
      let j = and_parts (is_second version) (is_outermost version x) i.0 in
      let foot = margin level (sign r.Plain s.CloseBrace ∷ line ∷ rest) in
      margin_apart version level _
      (three (is_second version) true _ j.0 refl
      (expression_apart version x (expression_of_outermost version x j.1) (sign r.Plain s.CloseParen ∷ space ∷ sign r.Plain s.OpenBrace
      ∷ line ∷ arms list (suc level) depth foot) refl
      (arms_apart version list (suc level) depth f.1 foot (margin_apart version level _ a))))

  arms_apart : (version : Version) (list : Arms) (level depth : ℕ) → are_arms version list ≡ true → (rest : List Piece)
      → apart version rest ≡ true → apart version (arms list level depth rest) ≡ true
  arms_apart version (last_arm b) level depth h rest a =
      margin_apart version level _ (three true _ _ refl (block_ends b level depth (line ∷ rest)) (block_apart version b level depth h (line ∷ rest) a))
  arms_apart version (and_arm xs b list) level depth h rest a =
      let f = and_parts (has_constant xs && are_constants xs && is_block version b) (are_arms version list) h in
      let g = and_parts (has_constant xs && are_constants xs) (is_block version b) f.0 in
      let i = and_parts (has_constant xs) (are_constants xs) g.0 in
      let behind = line ∷ arms list level depth rest in
      margin_apart version level _
      (constants_apart version xs i.1 (sign r.Plain s.Colon ∷ block b level depth behind) refl
      (three true _ _ refl (block_ends_sign b level depth behind) (block_apart version b level depth g.1 behind (arms_apart version list level depth f.1 rest a))))

  block_ends_sign : (x : CommandBlock) (level depth : ℕ) (rest : List Piece) → ends_sign (block x level depth rest) ≡ true
  block_ends_sign (command_block cs after) level depth rest = refl

  block_ends : (x : CommandBlock) (level depth : ℕ) (rest : List Piece) → ends_run (block x level depth rest) ≡ true
  block_ends (command_block cs after) level depth rest = refl

  block_apart : (version : Version) (x : CommandBlock) (level depth : ℕ) → is_block version x ≡ true → (rest : List Piece)
      → apart version rest ≡ true → apart version (block x level depth rest) ≡ true
  block_apart version (command_block cs after) level depth h rest a =
      commands_apart version cs (suc level) (depth + 1) h (margin level (sign r.Plain s.CloseBrace ∷ rest)) (margin_apart version level _ a)

  else_apart : (version : Version) (x : ElseBlock) (level depth : ℕ) → is_else version x ≡ true → (rest : List Piece)
      → apart version rest ≡ true → apart version (else_part x level depth rest) ≡ true
  else_apart version no_else level depth h rest a = a
  else_apart version (with_else x) level depth h rest a = three true _ _ refl (block_ends x level depth rest) (block_apart version x level depth h rest a)

  commands_apart : (version : Version) (cs : CommandList) (level depth : ℕ) → are_commands version cs ≡ true → (rest : List Piece)
      → apart version rest ≡ true → apart version (commands cs level depth rest) ≡ true
  commands_apart version no_command level depth h rest a = a
  commands_apart version (and_command c cs) level depth h rest a =
      let f = and_parts (is_command version c) (are_commands version cs) h in
      command_apart version c level depth f.0 (commands cs level depth rest) (commands_apart version cs level depth f.1 rest a)

authority_apart : (version : Version) (x : Option Under) → is_authority version x ≡ true → Apart version (authority x)
authority_apart version None h rest e a = a
authority_apart version (Some under) h rest e a = a_name version r.Plain under.level.name h rest e a

authority_ends : (x : Option Under) (rest : List Piece) → ends_run rest ≡ true → ends_run (authority x rest) ≡ true
authority_ends None rest e = e
authority_ends (Some under) rest e = refl

kind_apart : (version : Version) (x : KindTree) → is_kind version x ≡ true → Apart version (kind x)
kind_apart version (how.Dynamic place) h rest e a = three true _ _ refl e a
kind_apart version (how.Enforced n under) h rest e a =
    let f = and_parts (is_name version n.name) (is_authority version under) h in
    a_name version r.Plain n.name f.0 (authority under rest) (authority_ends under rest e) (authority_apart version under f.1 rest e a)

start_apart : (version : Version) (x : Option Numeral) → is_start x ≡ true → Apart version (start x)
start_apart version None h rest e a = a
start_apart version (Some n) h rest e a = a_number version r.Plain n.value h rest e a

start_ends : (x : Option Numeral) (rest : List Piece) → ends_run rest ≡ true → ends_run (start x rest) ≡ true
start_ends None rest e = e
start_ends (Some n) rest e = refl

declared_apart : (version : Version) (role : Role) (x : Word) (n : List ℕ) (width : ℕ) → is_written version x ≡ true → is_name version n ≡ true → is_number width ≡ true
    → Apart version (declared role x n width)
declared_apart version role x n width known h f rest e a =
    three (is_written version x) true _ known refl
    (a_name version r.Plain n h (space ∷ sign r.Plain s.Colon ∷ space ∷ number r.Plain width ∷ rest) refl (a_number version r.Plain width f rest e a))

declaration_apart : (version : Version) (x : Decl) → is_declaration version x ≡ true → (rest : List Piece) → apart version rest ≡ true → apart version (declaration x rest) ≡ true
declaration_apart version (d.Input place n width) h rest a =
    let f = and_parts (is_name version n.name) (is_number width.value) h in
    declared_apart version r.Input w.Input n.name width.value refl f.0 f.1 (sign r.Plain s.Semicolon ∷ line ∷ rest) refl a
declaration_apart version (d.Register place n width x initial) h rest a =
    let f = and_parts (is_name version n.name && is_number width.value && is_kind version x) (is_start initial) h in
    let g = and_parts (is_name version n.name && is_number width.value) (is_kind version x) f.0 in
    let i = and_parts (is_name version n.name) (is_number width.value) g.0 in
    let last = sign r.Plain s.Semicolon ∷ line ∷ rest in
    declared_apart version r.Register w.Reg n.name width.value refl i.0 i.1 (space ∷ kind x (start initial last)) refl
    (kind_apart version x g.1 (start initial last) (start_ends initial last refl) (start_apart version initial f.1 last refl a))
declaration_apart version (d.Memory place n width depth x) h rest a =
    let f = and_parts (is_name version n.name && is_number width.value && is_number depth.value) (is_kind version x) h in
    let g = and_parts (is_name version n.name && is_number width.value) (is_number depth.value) f.0 in
    let i = and_parts (is_name version n.name) (is_number width.value) g.0 in
    let last = sign r.Plain s.Semicolon ∷ line ∷ rest in
    declared_apart version r.Memory w.Mem n.name width.value refl i.0 i.1
    (sign r.Plain s.OpenBracket ∷ number r.Plain depth.value ∷ sign r.Plain s.CloseBracket ∷ space ∷ kind x last) refl
    (a_number version r.Plain depth.value g.1 (sign r.Plain s.CloseBracket ∷ space ∷ kind x last) refl (kind_apart version x f.1 last refl a))

declarations_apart : (version : Version) (xs : List Decl) → list_all (is_declaration version) xs ≡ true → (rest : List Piece)
    → apart version rest ≡ true → apart version (declarations xs rest) ≡ true
declarations_apart version [] h rest a = a
declarations_apart version (x ∷ xs) h rest a =
    let f = and_parts (is_declaration version x) (list_all (is_declaration version) xs) h in
    declaration_apart version x f.0 (declarations xs rest) (declarations_apart version xs f.1 rest a)

mutual
  unfolding is_state is_command

  state_apart : (version : Version) (x : StateTree) (level depth : ℕ) → is_state version x ≡ true → (rest : List Piece)
      → apart version rest ≡ true → apart version (state x level depth rest) ≡ true
  state_apart version (state_node place n x (command_block cs after) children) level depth h rest a =
      let inside = command_block cs after in
      let f = and_parts (is_name version n.name && is_kind version x && is_block version inside && nat_le (block_depth inside) most_blocks) (are_states version children) h in
      let g = and_parts (is_name version n.name && is_kind version x && is_block version inside) (nat_le (block_depth inside) most_blocks) f.0 in
      let i = and_parts (is_name version n.name && is_kind version x) (is_block version inside) g.0 in
      let j = and_parts (is_name version n.name) (is_kind version x) i.0 in
      let last = margin level (sign r.Plain s.CloseBrace ∷ line ∷ rest) in
      let below = states children (suc level) (depth + 1) last in
      margin_apart version level _
      (a_name version r.Plain n.name j.0 (space ∷ kind x (space ∷ sign r.Plain s.OpenBrace ∷ line ∷ commands cs (suc level) 1 below)) refl
      (kind_apart version x j.1 (space ∷ sign r.Plain s.OpenBrace ∷ line ∷ commands cs (suc level) 1 below) refl
      (commands_apart version cs (suc level) 1 i.1 below (states_apart version children (suc level) (depth + 1) f.1 last (margin_apart version level _ a)))))

  states_apart : (version : Version) (xs : StateList) (level depth : ℕ) → are_states version xs ≡ true → (rest : List Piece)
      → apart version rest ≡ true → apart version (states xs level depth rest) ≡ true
  states_apart version no_state level depth h rest a = a
  states_apart version (and_state x xs) level depth h rest a =
      let f = and_parts (is_state version x) (are_states version xs) h in
      state_apart version x level depth f.0 (states xs level depth rest) (states_apart version xs level depth f.1 rest a)

pub design_apart : (x : DesignTree) → is_tree x ≡ true → apart x.version (parts_of x) ≡ true
design_apart x h =
    let f = and_parts (list_all (is_declaration x.version) x.declarations && has_state x.states) (are_states x.version x.states) h in
    let g = and_parts (list_all (is_declaration x.version) x.declarations) (has_state x.states) f.0 in
    declarations_apart x.version x.declarations g.0 (states x.states 0 1 []) (states_apart x.version x.states 0 1 f.1 [] refl)
