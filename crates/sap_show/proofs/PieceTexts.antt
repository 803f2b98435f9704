-- The canonical text is that of the pieces.
use Rattle.sap_lemmas.proofs.Common.{◌≡◌, ℕ, zero, suc, ◌+◌, List, [], ◌∷◌, ◌++◌, refl, sym, ap, ◌∙◌, append_assoc, Bool, true, false, Option, Some, None, cond, codes, decimal, nat_lt, flat_map, append-nil}
use Rattle.sap_parse.specs.Grammar.{sign_of, unary_sign_of}
use Rattle.sap_lex.specs.Spelling.{sign_text}
use Rattle.sap_parse.specs.declared.role.Role.TheVariants as r
use Rattle.sap_parse.specs.declared.role.Role.{Role}
use Rattle.sap_lex.specs.declared.token.Sign.TheVariants as s
use Rattle.sap_tree.specs.declared.word.Word.TheVariants as w
use Rattle.sap_show.specs.Canonical.{unary_text, binary_text, operand_text, bounds_text, expression_text, parts_text, more_parts_text, tag_text, tags_text, more_tags_text, cell_text, simple_text, command_text, block_text, else_text, arms_text, commands_text, authority_text, kind_text, start_text, declaration_text, head_text, body_text, state_text, states_text, version_text, canonical_text}
use Rattle.sap_show.proofs.Pieces.{Piece, space, line, bytes_of, sign, word, name, number, wrapped, bounds, expression, parts, more_parts, tag, tags, more_tags, constant, more_constants, constants, cell, simple, margin, command, arms, block, else_part, commands, authority, kind, start, declaration, declarations, body, state, states, header, parts_of, design}
use Rattle.sap_tree.specs.Prelude.{precedence, unary_precedence, slice_precedence, precedence_of, Expression, Expressions, literal, sized_literal, variable, cell_at, unary_of, binary_of, choice, slice, concat, zero_extend, no_part, and_part, TagExpression, TagExpressions, level_of, tag_at, level_at, join_of, no_tag, and_tag, SimpleCommand, assign, write, set_tag, set_cell_tag, go_to, fall_to_child, Command, lone, try, if_else, try_then, case_of, Arms, last_arm, and_arm, CommandBlock, command_block, ElseBlock, no_else, with_else, CommandList, no_command, and_command, StateTree, state_node, StateList, no_state, and_state, DesignTree}
use Rattle.sap_tree.specs.declared.syntax.BinaryOperator.{BinaryOperator}
use Rattle.sap_tree.specs.declared.syntax.Decl.{Decl}
use Rattle.sap_tree.specs.declared.syntax.Kind.{Kind as KindTree}
use Rattle.sap_tree.specs.declared.syntax.Numeral.{Numeral}
use Rattle.sap_tree.specs.declared.syntax.UnaryOperator.{UnaryOperator}
use Rattle.sap_tree.specs.declared.syntax.Under.{Under}
use Rattle.sap_tree.specs.declared.version.Version.TheVariants.{One, Two}
use Rattle.sap_tree.specs.declared.version.Version.{Version}
use Rattle.sap_tree.specs.declared.syntax.BinaryOperator.TheVariants as b
use Rattle.sap_tree.specs.declared.syntax.Decl.TheVariants as d
use Rattle.sap_tree.specs.declared.syntax.Kind.TheVariants as how
use Rattle.sap_tree.specs.declared.syntax.UnaryOperator.TheVariants as u

unary_is : (o : UnaryOperator) → sign_text (unary_sign_of o) ≡ unary_text o
unary_is u.Not = refl
unary_is _ = refl

binary_is : (o : BinaryOperator) → 32 ∷ (sign_text (sign_of o) ++ (32 ∷ [])) ≡ binary_text o
binary_is b.Or = refl
binary_is _ = refl

binary_before : (o : BinaryOperator) (t : List ℕ) → 32 ∷ (sign_text (sign_of o) ++ (32 ∷ t)) ≡ binary_text o ++ t
binary_before o t = ap (λ z. 32 ∷ z) (sym (append_assoc (sign_text (sign_of o)) (32 ∷ []) t)) ∙ ap (λ z. z ++ t) (binary_is o)

-- pieces in front of others, whose bytes are these
abbrev pub Says : (List Piece → List Piece) → List ℕ → Type 0
Says ps text = (rest : List Piece) → bytes_of (ps rest) ≡ text ++ bytes_of rest

wrapped_says : (asked : ℕ) (x : Expression) (inner : List Piece → List Piece) (text : List ℕ) → Says inner text
    → Says (wrapped (nat_lt (precedence_of x) asked) inner) (operand_text asked x text)
unfolding operand_text
wrapped_says asked x inner text own rest = by_test (nat_lt (precedence_of x) asked) where
  by_test : (t : Bool) → bytes_of (wrapped t inner rest) ≡ cond t (codes "(" ++ (text ++ codes ")")) text ++ bytes_of rest
  by_test true = ap (λ z. 40 ∷ z) (own (sign r.Closing s.CloseParen ∷ rest) ∙ sym (append_assoc text (codes ")") (bytes_of rest)))
  by_test false = own rest

bounds_say : (high low : ℕ) → Says (bounds high low) (bounds_text high low)
bounds_say high low rest =
    ap (λ z. 91 ∷ z)
    (ap (λ z. decimal high ++ (58 ∷ z)) (sym (append_assoc (decimal low) (codes "]") (bytes_of rest)))
    ∙ sym (append_assoc (decimal high) (58 ∷ (decimal low ++ codes "]")) (bytes_of rest)))

-- a text, and one behind it
cat : (a b t : List ℕ) (z : List ℕ) → z ≡ b ++ t → a ++ z ≡ (a ++ b) ++ t
cat a b t z e = ap (λ y. a ++ y) e ∙ sym (append_assoc a b t)

mutual
  unfolding expression_text

  pub expression_says : (x : Expression) → Says (expression x) (expression_text x)
  expression_says (literal spot n) rest = refl
  expression_says (sized_literal spot width n) rest = refl
  expression_says (variable spot n) rest = refl
  expression_says (cell_at spot n i) rest =
      cat n (codes "[" ++ (expression_text i ++ codes "]")) (bytes_of rest) _ (ap (λ z. 91 ∷ z)
      (expression_says i (sign r.Closing s.CloseBracket ∷ rest) ∙ sym (append_assoc (expression_text i) (codes "]") (bytes_of rest))))
  expression_says (unary_of spot o x) rest =
      ap (λ z. z ++ bytes_of (wrapped (nat_lt (precedence_of x) unary_precedence) (λ ps. expression x ps) rest)) (unary_is o)
      ∙ cat (unary_text o) (operand_text unary_precedence x (expression_text x)) (bytes_of rest) _
      (wrapped_says unary_precedence x (λ ps. expression x ps) (expression_text x) (λ ps. expression_says x ps) rest)
  expression_says (binary_of spot o x y) rest =
      wrapped_says (precedence o) x (λ ps. expression x ps) (expression_text x) (λ ps. expression_says x ps)
      (space ∷ sign r.Inner (sign_of o) ∷ space ∷ wrapped (nat_lt (precedence_of y) (precedence o + 1)) (λ ps. expression y ps) rest)
      ∙ cat (operand_text (precedence o) x (expression_text x)) (binary_text o ++ operand_text (precedence o + 1) y (expression_text y)) (bytes_of rest) _
      (binary_before o (bytes_of (wrapped (nat_lt (precedence_of y) (precedence o + 1)) (λ ps. expression y ps) rest))
      ∙ cat (binary_text o) (operand_text (precedence o + 1) y (expression_text y)) (bytes_of rest) _
      (wrapped_says (precedence o + 1) y (λ ps. expression y ps) (expression_text y) (λ ps. expression_says y ps) rest))
  expression_says (choice spot x y z) rest =
      wrapped_says 1 x (λ ps. expression x ps) (expression_text x) (λ ps. expression_says x ps)
      (space ∷ sign r.Inner s.Question ∷ space ∷ expression y (space ∷ sign r.Inner s.Colon ∷ space ∷ expression z rest))
      ∙ cat (operand_text 1 x (expression_text x)) (codes " ? " ++ (expression_text y ++ (codes " : " ++ expression_text z))) (bytes_of rest) _
      (ap (λ v. codes " ? " ++ v)
      (expression_says y (space ∷ sign r.Inner s.Colon ∷ space ∷ expression z rest)
      ∙ cat (expression_text y) (codes " : " ++ expression_text z) (bytes_of rest) _ (ap (λ v. codes " : " ++ v) (expression_says z rest))))
  expression_says (slice spot x high low) rest =
      wrapped_says slice_precedence x (λ ps. expression x ps) (expression_text x) (λ ps. expression_says x ps) (bounds high low rest)
      ∙ cat (operand_text slice_precedence x (expression_text x)) (bounds_text high low) (bytes_of rest) _ (bounds_say high low rest)
  expression_says (concat spot xs) rest =
      ap (λ z. 123 ∷ z) (parts_say xs (sign r.Closing s.CloseBrace ∷ rest) ∙ sym (append_assoc (parts_text xs) (codes "}") (bytes_of rest)))
  expression_says (zero_extend spot x width) rest =
      ap (λ z. codes "zext(" ++ z)
      (expression_says x (sign r.Inner s.Comma ∷ space ∷ number r.Inner width ∷ sign r.Closing s.CloseParen ∷ rest)
      ∙ cat (expression_text x) (codes ", " ++ (decimal width ++ codes ")")) (bytes_of rest) _
      (ap (λ z. codes ", " ++ z) (sym (append_assoc (decimal width) (codes ")") (bytes_of rest)))))

  parts_say : (xs : Expressions) → Says (parts xs) (parts_text xs)
  parts_say no_part rest = refl
  parts_say (and_part x xs) rest =
      expression_says x (more_parts xs rest) ∙ cat (expression_text x) (more_parts_text xs) (bytes_of rest) _ (more_parts_say xs rest)

  more_parts_say : (xs : Expressions) → Says (more_parts xs) (more_parts_text xs)
  more_parts_say no_part rest = refl
  more_parts_say (and_part x xs) rest =
      ap (λ z. codes ", " ++ z)
      (expression_says x (more_parts xs rest) ∙ cat (expression_text x) (more_parts_text xs) (bytes_of rest) _ (more_parts_say xs rest))

mutual
  unfolding tag_text

  pub tag_says : (x : TagExpression) → Says (tag x) (tag_text x)
  tag_says (level_of n) rest = refl
  tag_says (tag_at place x) rest =
      ap (λ z. codes "tag(" ++ z) (expression_says x (sign r.Closing s.CloseParen ∷ rest) ∙ sym (append_assoc (expression_text x) (codes ")") (bytes_of rest)))
  tag_says (level_at place x) rest =
      ap (λ z. codes "level(" ++ z) (expression_says x (sign r.Closing s.CloseParen ∷ rest) ∙ sym (append_assoc (expression_text x) (codes ")") (bytes_of rest)))
  tag_says (join_of place xs) rest =
      ap (λ z. codes "join(" ++ z) (tags_say xs (sign r.Closing s.CloseParen ∷ rest) ∙ sym (append_assoc (tags_text xs) (codes ")") (bytes_of rest)))

  tags_say : (xs : TagExpressions) → Says (tags xs) (tags_text xs)
  tags_say no_tag rest = refl
  tags_say (and_tag x xs) rest = tag_says x (more_tags xs rest) ∙ cat (tag_text x) (more_tags_text xs) (bytes_of rest) _ (more_tags_say xs rest)

  more_tags_say : (xs : TagExpressions) → Says (more_tags xs) (more_tags_text xs)
  more_tags_say no_tag rest = refl
  more_tags_say (and_tag x xs) rest =
      ap (λ z. codes ", " ++ z) (tag_says x (more_tags xs rest) ∙ cat (tag_text x) (more_tags_text xs) (bytes_of rest) _ (more_tags_say xs rest))

constant_says : (x : Expression) → Says (constant x) (expression_text x)
unfolding expression_text
constant_says (literal spot n) rest = refl
constant_says (sized_literal spot width n) rest = refl
constant_says x rest = expression_says x rest

more_constants_say : (xs : Expressions) → Says (more_constants xs) (more_parts_text xs)
unfolding expression_text
more_constants_say no_part rest = refl
more_constants_say (and_part x xs) rest =
    ap (λ z. codes ", " ++ z)
    (constant_says x (more_constants xs rest) ∙ cat (expression_text x) (more_parts_text xs) (bytes_of rest) _ (more_constants_say xs rest))

constants_say : (xs : Expressions) → Says (constants xs) (parts_text xs)
unfolding expression_text
constants_say no_part rest = refl
constants_say (and_part x xs) rest =
    constant_says x (more_constants xs rest) ∙ cat (expression_text x) (more_parts_text xs) (bytes_of rest) _ (more_constants_say xs rest)

cell_says : (role : Role) (n : List ℕ) (i : Expression) → Says (cell role n i) (cell_text n i)
unfolding cell_text
cell_says role n i rest =
    cat n (codes "[" ++ (expression_text i ++ codes "]")) (bytes_of rest) _ (ap (λ z. 91 ∷ z)
    (expression_says i (sign r.Plain s.CloseBracket ∷ rest) ∙ sym (append_assoc (expression_text i) (codes "]") (bytes_of rest))))

-- `, `, a tag expression and `)`
new_tag_says : (x : TagExpression) → Says (λ rest. sign r.Plain s.Comma ∷ space ∷ tag x (sign r.Plain s.CloseParen ∷ rest)) (codes ", " ++ (tag_text x ++ codes ")"))
new_tag_says x rest = ap (λ z. codes ", " ++ z) (tag_says x (sign r.Plain s.CloseParen ∷ rest) ∙ sym (append_assoc (tag_text x) (codes ")") (bytes_of rest)))

simple_says : (depth : ℕ) (c : SimpleCommand) → Says (simple depth c) (simple_text c)
unfolding simple_text
simple_says depth (assign n x) rest =
    cat n.name (codes " := " ++ expression_text x) (bytes_of rest) _ (ap (λ z. codes " := " ++ z) (expression_says x rest))
simple_says depth (write n i x) rest =
    cell_says (r.Command depth) n.name i (space ∷ sign r.Plain s.Becomes ∷ space ∷ expression x rest)
    ∙ cat (cell_text n.name i) (codes " := " ++ expression_text x) (bytes_of rest) _ (ap (λ z. codes " := " ++ z) (expression_says x rest))
simple_says depth (set_tag place n x) rest =
    ap (λ z. codes "setTag(" ++ z) (cat n.name (codes ", " ++ (tag_text x ++ codes ")")) (bytes_of rest) _ (new_tag_says x rest))
simple_says depth (set_cell_tag place n i x) rest =
    ap (λ z. codes "setTag(" ++ z)
    (cell_says r.Plain n.name i (sign r.Plain s.Comma ∷ space ∷ tag x (sign r.Plain s.CloseParen ∷ rest))
    ∙ cat (cell_text n.name i) (codes ", " ++ (tag_text x ++ codes ")")) (bytes_of rest) _ (new_tag_says x rest))
simple_says depth (go_to place n) rest = refl
simple_says depth (fall_to_child place) rest = refl

-- the spaces of a level
abbrev pub spaces : ℕ → List ℕ
spaces zero = []
spaces (suc level) = 32 ∷ 32 ∷ spaces level

margin_says : (level : ℕ) → Says (margin level) (spaces level)
margin_says zero rest = refl
margin_says (suc level) rest = ap (λ z. 32 ∷ 32 ∷ z) (margin_says level rest)

deeper : (level : ℕ) → spaces level ++ codes "  " ≡ spaces (suc level)
deeper zero = refl
deeper (suc level) = ap (λ z. 32 ∷ 32 ∷ z) (deeper level)

mutual
  unfolding command_text

  command_says : (c : Command) (level depth : ℕ) → Says (command c level depth) (command_text (spaces level) c)
  command_says (lone c) level depth rest =
      margin_says level (simple depth c (sign r.Plain s.Semicolon ∷ line ∷ rest))
      ∙ cat (spaces level) (simple_text c ++ codes ";\n") (bytes_of rest) _
      (simple_says depth c (sign r.Plain s.Semicolon ∷ line ∷ rest) ∙ sym (append_assoc (simple_text c) (codes ";\n") (bytes_of rest)))
  command_says (try c place handler) level depth rest =
      margin_says level (simple depth c (space ∷ word r.Plain w.Otherwise ∷ block handler level depth (line ∷ rest)))
      ∙ cat (spaces level) (simple_text c ++ (codes " otherwise" ++ (block_text (spaces level) handler ++ codes "\n"))) (bytes_of rest) _
      (simple_says depth c (space ∷ word r.Plain w.Otherwise ∷ block handler level depth (line ∷ rest))
      ∙ cat (simple_text c) (codes " otherwise" ++ (block_text (spaces level) handler ++ codes "\n")) (bytes_of rest) _
      (ap (λ z. codes " otherwise" ++ z)
      (block_says handler level depth (line ∷ rest) ∙ sym (append_assoc (block_text (spaces level) handler) (codes "\n") (bytes_of rest)))))
  command_says (if_else place x one other) level depth rest =
      margin_says level (word (r.Command depth) w.If ∷ space ∷ sign r.Plain s.OpenParen
      ∷ expression x (sign r.Plain s.CloseParen ∷ block one level depth (else_part other level depth (line ∷ rest))))
      ∙ cat (spaces level) (codes "if (" ++ (expression_text x
      ++ (codes ")" ++ (block_text (spaces level) one ++ (else_text (spaces level) other ++ codes "\n"))))) (bytes_of rest) _
      (ap (λ z. codes "if (" ++ z)
      (expression_says x (sign r.Plain s.CloseParen ∷ block one level depth (else_part other level depth (line ∷ rest)))
      ∙ cat (expression_text x) (codes ")" ++ (block_text (spaces level) one ++ (else_text (spaces level) other ++ codes "\n"))) (bytes_of rest) _
      (ap (λ z. codes ")" ++ z)
      (block_says one level depth (else_part other level depth (line ∷ rest))
      ∙ cat (block_text (spaces level) one) (else_text (spaces level) other ++ codes "\n") (bytes_of rest) _
      (else_says other level depth (line ∷ rest) ∙ sym (append_assoc (else_text (spaces level) other) (codes "\n") (bytes_of rest)))))))
  command_says (try_then c place one other) level depth rest =
      let m = spaces level in
      let last = space ∷ word r.Plain w.Otherwise ∷ block other level depth (line ∷ rest) in
      let foot = block_text m other ++ codes "\n" in
      margin_says level (simple depth c (space ∷ word r.Plain w.Then ∷ block one level depth last))
      ∙ cat m (simple_text c ++ (codes " then" ++ (block_text m one ++ (codes " otherwise" ++ foot)))) (bytes_of rest) _
      (simple_says depth c (space ∷ word r.Plain w.Then ∷ block one level depth last)
      ∙ cat (simple_text c) (codes " then" ++ (block_text m one ++ (codes " otherwise" ++ foot))) (bytes_of rest) _
      (ap (λ z. codes " then" ++ z)
      (block_says one level depth last
      ∙ cat (block_text m one) (codes " otherwise" ++ foot) (bytes_of rest) _
      (ap (λ z. codes " otherwise" ++ z)
      (block_says other level depth (line ∷ rest) ∙ sym (append_assoc (block_text m other) (codes "\n") (bytes_of rest)))))))
  command_says (case_of place x list) level depth rest =
      let m = spaces level in
      let foot = margin level (sign r.Plain s.CloseBrace ∷ line ∷ rest) in
      let end = m ++ codes "}\n" in
      let behind = sign r.Plain s.CloseParen ∷ space ∷ sign r.Plain s.OpenBrace ∷ line ∷ arms list (suc level) depth foot in
      margin_says level (word (r.Command depth) w.Case ∷ space ∷ sign r.Plain s.OpenParen ∷ expression x behind)
      ∙ cat m (codes "case (" ++ (expression_text x ++ (codes ") {\n" ++ (arms_text (m ++ codes "  ") list ++ end)))) (bytes_of rest) _
      (ap (λ z. codes "case (" ++ z)
      (expression_says x behind
      ∙ cat (expression_text x) (codes ") {\n" ++ (arms_text (m ++ codes "  ") list ++ end)) (bytes_of rest) _
      (ap (λ z. codes ") {\n" ++ z)
      (arms_say list (suc level) depth foot
      ∙ cat (arms_text (spaces (suc level)) list) end (bytes_of rest) _
      (margin_says level (sign r.Plain s.CloseBrace ∷ line ∷ rest) ∙ sym (append_assoc m (codes "}\n") (bytes_of rest)))
      ∙ ap (λ y. (arms_text y list ++ end) ++ bytes_of rest) (sym (deeper level))))))

  arms_say : (list : Arms) (level depth : ℕ) → Says (arms list level depth) (arms_text (spaces level) list)
  arms_say (last_arm b) level depth rest =
      let m = spaces level in
      margin_says level (word r.Plain w.Else ∷ block b level depth (line ∷ rest))
      ∙ cat m (codes "else" ++ (block_text m b ++ codes "\n")) (bytes_of rest) _
      (ap (λ z. codes "else" ++ z) (block_says b level depth (line ∷ rest) ∙ sym (append_assoc (block_text m b) (codes "\n") (bytes_of rest))))
  arms_say (and_arm xs b list) level depth rest =
      let m = spaces level in
      let behind = line ∷ arms list level depth rest in
      let end = codes "\n" ++ arms_text m list in
      margin_says level (constants xs (sign r.Plain s.Colon ∷ block b level depth behind))
      ∙ cat m (parts_text xs ++ (codes ":" ++ (block_text m b ++ end))) (bytes_of rest) _
      (constants_say xs (sign r.Plain s.Colon ∷ block b level depth behind)
      ∙ cat (parts_text xs) (codes ":" ++ (block_text m b ++ end)) (bytes_of rest) _
      (ap (λ z. codes ":" ++ z)
      (block_says b level depth behind ∙ cat (block_text m b) end (bytes_of rest) _ (ap (λ z. codes "\n" ++ z) (arms_say list level depth rest)))))

  block_says : (x : CommandBlock) (level depth : ℕ) → Says (block x level depth) (block_text (spaces level) x)
  block_says (command_block cs after) level depth rest =
      ap (λ z. codes " {\n" ++ z)
      (commands_say cs (suc level) (depth + 1) (margin level (sign r.Plain s.CloseBrace ∷ rest))
      ∙ cat (commands_text (spaces (suc level)) cs) (spaces level ++ codes "}") (bytes_of rest) _
      (margin_says level (sign r.Plain s.CloseBrace ∷ rest) ∙ sym (append_assoc (spaces level) (codes "}") (bytes_of rest)))
      ∙ ap (λ m. (commands_text m cs ++ (spaces level ++ codes "}")) ++ bytes_of rest) (sym (deeper level)))

  else_says : (x : ElseBlock) (level depth : ℕ) → Says (else_part x level depth) (else_text (spaces level) x)
  else_says no_else level depth rest = refl
  else_says (with_else x) level depth rest = ap (λ z. codes " else" ++ z) (block_says x level depth rest)

  commands_say : (cs : CommandList) (level depth : ℕ) → Says (commands cs level depth) (commands_text (spaces level) cs)
  commands_say no_command level depth rest = refl
  commands_say (and_command c cs) level depth rest =
      command_says c level depth (commands cs level depth rest)
      ∙ cat (command_text (spaces level) c) (commands_text (spaces level) cs) (bytes_of rest) _ (commands_say cs level depth rest)

authority_says : (x : Option Under) → Says (authority x) (authority_text x)
authority_says None rest = refl
authority_says (Some under) rest = refl

kind_says : (x : KindTree) → Says (kind x) (kind_text x)
kind_says (how.Dynamic place) rest = refl
kind_says (how.Enforced n under) rest =
    ap (λ z. codes "enforced " ++ z) (cat n.name (authority_text under) (bytes_of rest) _ (authority_says under rest))

start_says : (x : Option Numeral) → Says (start x) (start_text x)
start_says None rest = refl
start_says (Some n) rest = refl

declaration_says : (x : Decl) → Says (declaration x) (declaration_text x)
unfolding declaration_text
declaration_says (d.Input place n width) rest =
    ap (λ z. codes "input " ++ z)
    (cat n.name (codes " : " ++ (decimal width.value ++ codes ";\n")) (bytes_of rest) _
    (ap (λ z. codes " : " ++ z) (sym (append_assoc (decimal width.value) (codes ";\n") (bytes_of rest)))))
declaration_says (d.Register place n width x initial) rest =
    let tail = kind_text x ++ (start_text initial ++ codes ";\n") in
    ap (λ z. codes "reg " ++ z)
    (cat n.name (codes " : " ++ (decimal width.value ++ (codes " " ++ tail))) (bytes_of rest) _
    (ap (λ z. codes " : " ++ z)
    (cat (decimal width.value) (codes " " ++ tail) (bytes_of rest) _
    (ap (λ z. codes " " ++ z)
    (kind_says x (start initial (sign r.Plain s.Semicolon ∷ line ∷ rest))
    ∙ cat (kind_text x) (start_text initial ++ codes ";\n") (bytes_of rest) _
    (start_says initial (sign r.Plain s.Semicolon ∷ line ∷ rest) ∙ sym (append_assoc (start_text initial) (codes ";\n") (bytes_of rest))))))))
declaration_says (d.Memory place n width depth x) rest =
    let tail = kind_text x ++ codes ";\n" in
    ap (λ z. codes "mem " ++ z)
    (cat n.name (codes " : " ++ (decimal width.value ++ (codes "[" ++ (decimal depth.value ++ (codes "] " ++ tail))))) (bytes_of rest) _
    (ap (λ z. codes " : " ++ z)
    (cat (decimal width.value) (codes "[" ++ (decimal depth.value ++ (codes "] " ++ tail))) (bytes_of rest) _
    (ap (λ z. codes "[" ++ z)
    (cat (decimal depth.value) (codes "] " ++ tail) (bytes_of rest) _
    (ap (λ z. codes "] " ++ z)
    (kind_says x (sign r.Plain s.Semicolon ∷ line ∷ rest) ∙ sym (append_assoc (kind_text x) (codes ";\n") (bytes_of rest)))))))))

declarations_say : (xs : List Decl) → Says (declarations xs) (flat_map declaration_text xs)
declarations_say [] rest = refl
declarations_say (x ∷ xs) rest =
    declaration_says x (declarations xs rest)
    ∙ cat (declaration_text x) (flat_map declaration_text xs) (bytes_of rest) _ (declarations_say xs rest)

body_says : (x : CommandBlock) (level : ℕ) → Says (body x level) (body_text (spaces level) x)
body_says (command_block cs after) level rest = commands_say cs level 1 rest

head_says : (n : List ℕ) (x : KindTree) (depth : ℕ)
    → Says (λ rest. word (r.State depth) w.State ∷ space ∷ name r.Plain n ∷ space ∷ kind x (space ∷ sign r.Plain s.OpenBrace ∷ line ∷ rest)) (head_text n x)
unfolding head_text
head_says n x depth rest =
    ap (λ z. codes "state " ++ z)
    (cat n (codes " " ++ (kind_text x ++ codes " {\n")) (bytes_of rest) _
    (ap (λ z. codes " " ++ z) (kind_says x (space ∷ sign r.Plain s.OpenBrace ∷ line ∷ rest) ∙ sym (append_assoc (kind_text x) (codes " {\n") (bytes_of rest)))))

mutual
  unfolding state_text

  state_says : (x : StateTree) (level depth : ℕ) → Says (state x level depth) (state_text (spaces level) x)
  state_says (state_node place n x inner children) level depth rest =
      let last = margin level (sign r.Plain s.CloseBrace ∷ line ∷ rest) in
      let below = states children (suc level) (depth + 1) last in
      let m = spaces (suc level) in
      let foot = spaces level ++ codes "}\n" in
      margin_says level _
      ∙ ap (λ z. spaces level ++ z)
      (head_says n.name x depth (body inner (suc level) below)
      ∙ cat (head_text n.name x) (body_text m inner ++ (states_text m children ++ foot)) (bytes_of rest) _
      (body_says inner (suc level) below
      ∙ cat (body_text m inner) (states_text m children ++ foot) (bytes_of rest) _
      (states_say children (suc level) (depth + 1) last
      ∙ cat (states_text m children) foot (bytes_of rest) _
      (margin_says level (sign r.Plain s.CloseBrace ∷ line ∷ rest) ∙ sym (append_assoc (spaces level) (codes "}\n") (bytes_of rest))))))
      ∙ ap (λ v. spaces level ++ ((head_text n.name x ++ (body_text v inner ++ (states_text v children ++ foot))) ++ bytes_of rest)) (sym (deeper level))
      ∙ sym (append_assoc (spaces level) (head_text n.name x
      ++ (body_text (spaces level ++ codes "  ") inner ++ (states_text (spaces level ++ codes "  ") children ++ foot))) (bytes_of rest))

  states_say : (xs : StateList) (level depth : ℕ) → Says (states xs level depth) (states_text (spaces level) xs)
  states_say no_state level depth rest = refl
  states_say (and_state x xs) level depth rest =
      state_says x level depth (states xs level depth rest)
      ∙ cat (state_text (spaces level) x) (states_text (spaces level) xs) (bytes_of rest) _ (states_say xs level depth rest)

header_says : (version : Version) → Says (header version) (version_text version)
header_says One rest = refl
header_says Two rest = refl

pub design_says : (x : DesignTree) → bytes_of (design x) ≡ canonical_text x
unfolding canonical_text
design_says x =
    header_says x.version (parts_of x)
    ∙ ap (λ z. version_text x.version ++ z)
    (declarations_say x.declarations (states x.states 0 1 [])
    ∙ ap (λ z. flat_map declaration_text x.declarations ++ z) (states_say x.states 0 1 [] ∙ append-nil (states_text [] x.states)))
