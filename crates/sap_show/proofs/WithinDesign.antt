-- The same of tag expressions, commands, declarations and states.
use Rattle.sap_lemmas.proofs.Common.{◌≡◌, ◌≤◌, ◌+◌, ℕ, zero, suc, List, [], ◌∷◌, max, Bool, true, false, cond, refl, ap, ◌∙◌, arith, subst, Option, Some, None, sum_by-cons, list_all, count_by, nat_le, ◌&&◌, and_parts, leb-true}
use Rattle.sap_parse.specs.Limits.{Counts, none_yet, breach_of_name, above, ◌or_else◌}
use Rattle.sap_lex.specs.declared.limit.Limit.TheVariants as l
use Rattle.sap_parse.specs.declared.role.Role.TheVariants as r
use Rattle.sap_lex.specs.declared.token.Kind.TheVariants as k
use Rattle.sap_lex.specs.declared.token.Kind.{Kind}
use Rattle.sap_lex.specs.declared.token.Sign.TheVariants as s
use Rattle.sap_tree.specs.declared.word.Word.TheVariants as w
use Rattle.sap_tree.specs.declared.word.Word.{Word}
use Rattle.sap_show.proofs.Pieces.{Piece, space, line, token, sign, word, name, number, expression, tag, tags, more_tags, constant, more_constants, constants, simple, margin, command, arms, block, else_part, commands, authority, kind, start, declarations, state, states, header, parts_of, design}
use Rattle.sap_show.proofs.Within.{Within, at, Counted, inner_step, inner_free, opening_free, closing_step, not_above, short_name, expression_counted}
use Rattle.sap_tree.specs.Prelude.{tokens, brackets, tag_tokens, tag_part_tokens, tag_brackets, tag_part_brackets, fits, tag_fits, most_brackets, most_tokens, most_commands, most_arms, most_blocks, most_states, Expression, literal, sized_literal, Expressions, no_part, and_part, TagExpression, TagExpressions, level_of, tag_at, level_at, join_of, no_tag, and_tag, SimpleCommand, assign, write, set_tag, set_cell_tag, go_to, fall_to_child, Command, lone, try, if_else, try_then, case_of, Arms, last_arm, and_arm, CommandBlock, command_block, ElseBlock, no_else, with_else, CommandList, no_command, and_command, StateTree, state_node, StateList, no_state, and_state, DesignTree, is_expression, is_tag, are_tags, has_two_tags, is_outermost, is_outermost_tag, is_simple, is_command, is_block, is_else, is_constant, are_constants, has_constant, has_arm, arm_count, are_arms, are_commands, is_kind, is_authority, is_start, is_number, is_declaration, is_input, is_register, is_memory, is_state, are_states, has_state, command_count, block_count, else_count, arms_count, list_count, command_depth, block_depth, else_depth, arms_depth, list_depth, state_count, states_count, state_depth, states_depth, state_commands, states_commands, is_tree, is_within_limits, is_whole, is_name, is_second}
use Rattle.sap_tree.specs.declared.syntax.Decl.{Decl}
use Rattle.sap_tree.specs.declared.syntax.Kind.{Kind as KindTree}
use Rattle.sap_tree.specs.declared.syntax.Numeral.{Numeral}
use Rattle.sap_tree.specs.declared.syntax.Under.{Under}
use Rattle.sap_tree.specs.declared.version.Version.TheVariants.{One, Two}
use Rattle.sap_tree.specs.declared.version.Version.{Version}
use Rattle.sap_tree.specs.Limits.{most_nesting, most_inputs, most_registers, most_memories}
use Rattle.sap_tree.specs.declared.syntax.Decl.TheVariants as d
use Rattle.sap_tree.specs.declared.syntax.Kind.TheVariants as how

-- tag expressions
module _ (c : Counts) where
  -- a word, and an expression in parentheses
  word_counted : (version : Version) (v : Word) (x : Expression) → is_expression version x ≡ true
      → Counted c (tokens x + 3) (1 + brackets x) (λ rest. word r.Inner v ∷ sign r.Opening s.OpenParen ∷ expression x (sign r.Closing s.CloseParen ∷ rest))
  word_counted version v x h t u b rest e top room a = (
    inner_free t (k.Word v) refl (omega arith),
    (
      opening_free (t + 1) b (omega arith) (omega arith),
      (expression_counted c version x h (t + 1 + 1) (t + 1 + 1 + tokens x) (b + 1) (sign r.Closing s.CloseParen ∷ rest) refl (omega arith) (omega arith)
          (closing_step c (t + 1 + 1 + tokens x) u b s.CloseParen rest (omega arith) top a)),
    ),
  )

  mutual
    unfolding is_tag tag_tokens tag_brackets

    pub tag_counted : (version : Version) (x : TagExpression) → is_tag version x ≡ true → Counted c (tag_tokens x) (tag_brackets x) (tag x)
    tag_counted version (level_of n) h t u b rest e top room a = inner_step c t u b (k.Name n.name) rest (short_name version n.name h) e top a
    tag_counted version (tag_at place x) h t u b rest e top room a = word_counted version w.Tag x h t u b rest e top room a
    tag_counted version (level_at place x) h t u b rest e top room a = word_counted version w.Level x h t u b rest e top room a
    tag_counted version (join_of place xs) h t u b rest e top room a =
        let f = and_parts (has_two_tags xs) (are_tags version xs) h in
        let same : u ≡ t + (2 + tag_part_tokens xs) = e in
        let fits : b + (1 + tag_part_brackets xs) ≤ most_brackets = room in (
          inner_free t (k.Word w.Join) refl (omega arith),
          (opening_free (t + 1) b (omega arith) (omega arith), (tags_counted version xs f.0 f.1 (t + 1 + 1) u b rest (omega arith) top fits a)),
        )

    tags_counted : (version : Version) (xs : TagExpressions) → has_two_tags xs ≡ true → are_tags version xs ≡ true
        → (t u b : ℕ) (rest : List Piece) → u ≡ t + tag_part_tokens xs → u ≤ most_tokens
        → b + (1 + tag_part_brackets xs) ≤ most_brackets → Within (at c u b) rest → Within (at c t (b + 1)) (tags xs (sign r.Closing s.CloseParen ∷ rest))
    tags_counted version no_tag two h t u b rest e top room a = absurd (cc)
    tags_counted version (and_tag x xs) two h t u b rest e top room a =
        let f = and_parts (is_tag version x) (are_tags version xs) h in
        let same : u ≡ t + (tag_tokens x + 1 + tag_part_tokens xs) = e in
        let fits : b + (1 + max (tag_brackets x) (tag_part_brackets xs)) ≤ most_brackets = room in
        tag_counted version x f.0 t (t + tag_tokens x) (b + 1) (more_tags xs (sign r.Closing s.CloseParen ∷ rest)) refl (omega arith) (omega arith)
        (more_tags_counted version xs f.1 (t + tag_tokens x) u b rest (omega arith) top (omega arith) a)

    more_tags_counted : (version : Version) (xs : TagExpressions) → are_tags version xs ≡ true → (t u b : ℕ) (rest : List Piece)
        → u ≡ t + (1 + tag_part_tokens xs) → u ≤ most_tokens
        → b + (1 + tag_part_brackets xs) ≤ most_brackets → Within (at c u b) rest → Within (at c t (b + 1)) (more_tags xs (sign r.Closing s.CloseParen ∷ rest))
    more_tags_counted version no_tag h t u b rest e top room a = closing_step c t u b s.CloseParen rest e top a
    more_tags_counted version (and_tag x xs) h t u b rest e top room a =
        let f = and_parts (is_tag version x) (are_tags version xs) h in
        let same : u ≡ t + (1 + (tag_tokens x + 1 + tag_part_tokens xs)) = e in
        let fits : b + (1 + max (tag_brackets x) (tag_part_brackets xs)) ≤ most_brackets = room in (
          inner_free t (k.Sign s.Comma) refl (omega arith),
          (tag_counted version x f.0 (t + 1) (t + 1 + tag_tokens x) (b + 1) (more_tags xs (sign r.Closing s.CloseParen ∷ rest)) refl (omega arith) (omega arith)
              (more_tags_counted version xs f.1 (t + 1 + tag_tokens x) u b rest (omega arith) top (omega arith) a)),
        )

-- with whatever is counted of the expression before
abbrev Always : Counts → List Piece → Type 0
Always c ps = (t b : ℕ) → Within (at c t b) ps

plain_free : (kind : Kind) → breach_of_name kind ≡ None → (breach_of_name kind or_else None) ≡ None
plain_free kind free = ap (λ o. o or_else None) free

plain : (c : Counts) (kind : Kind) (ps : List Piece) → breach_of_name kind ≡ None → Within (at c 0 0) ps → Always c (token r.Plain kind ∷ ps)
plain c kind ps free h t b = (ap (λ o. o or_else None) free, h)

zero_more : (n : ℕ) → n ≡ 0 + n
zero_more n = omega arith

none_open : (n : ℕ) → n ≤ most_brackets → 0 + n ≤ most_brackets
none_open n h = omega arith

-- an expression that stands in no other, in front of a token that stands in none
outermost : (version : Version) (c : Counts) (x : Expression) (rest : List Piece) → is_outermost version x ≡ true → Always c rest → Within (at c 0 0) (expression x rest)
outermost version c x rest h a =
    let f = and_parts (is_expression version x) (fits x) h in
    let g = and_parts (nat_le (tokens x) most_tokens) (nat_le (brackets x) most_brackets) f.1 in
    expression_counted c version x f.0 0 (tokens x) 0 rest (zero_more (tokens x)) (leb-true (tokens x) most_tokens g.0)
    (none_open (brackets x) (leb-true (brackets x) most_brackets g.1)) (a (tokens x) 0)

outermost_tag : (version : Version) (c : Counts) (x : TagExpression) (rest : List Piece) → is_outermost_tag version x ≡ true → Always c rest → Within (at c 0 0) (tag x rest)
outermost_tag version c x rest h a =
    let f = and_parts (is_tag version x) (tag_fits x) h in
    let g = and_parts (nat_le (tag_tokens x) most_tokens) (nat_le (tag_brackets x) most_brackets) f.1 in
    tag_counted c version x f.0 0 (tag_tokens x) 0 rest (zero_more (tag_tokens x)) (leb-true (tag_tokens x) most_tokens g.0)
    (none_open (tag_brackets x) (leb-true (tag_brackets x) most_brackets g.1)) (a (tag_tokens x) 0)

-- commands

abbrev with_commands : Counts → ℕ → Counts
with_commands c n = record c { commands = n }

begins_free : (c : Counts) (depth : ℕ) (kind : Kind) → breach_of_name kind ≡ None → c.commands + 1 ≤ most_commands → depth ≤ most_blocks
    → (breach_of_name kind or_else (above most_commands (c.commands + 1) l.Commands or_else above most_blocks depth l.Blocks)) ≡ None
begins_free c depth kind free n m =
    ap (λ o. o or_else (above most_commands (c.commands + 1) l.Commands or_else above most_blocks depth l.Blocks)) free
    ∙ ap (λ o. o or_else above most_blocks depth l.Blocks) (not_above most_commands (c.commands + 1) l.Commands n) ∙ not_above most_blocks depth l.Blocks m

begins_command : (c : Counts) (depth : ℕ) (kind : Kind) (ps : List Piece) → breach_of_name kind ≡ None → c.commands + 1 ≤ most_commands → depth ≤ most_blocks
    → Within (at (with_commands c (c.commands + 1)) 0 0) ps → Always c (token (r.Command depth) kind ∷ ps)
begins_command c depth kind ps free n m h t b = (begins_free c depth kind free n m, h)

simple_within : (version : Version) (depth : ℕ) (x : SimpleCommand) → is_simple version x ≡ true → (c : Counts) (rest : List Piece)
    → c.commands + 1 ≤ most_commands → depth ≤ most_blocks
    → Always (with_commands c (c.commands + 1)) rest → Always c (simple depth x rest)
unfolding is_simple
simple_within version depth (assign n x) h c rest m p a =
    let f = and_parts (is_name version n.name) (is_outermost version x) h in
    let c' : Counts = with_commands c (c.commands + 1) in
    (λ t b. (begins_free c depth (k.Name n.name) (short_name version n.name f.0) m p, (plain_free (k.Sign s.Becomes) refl, (outermost version c' x rest f.1 a))))
simple_within version depth (write n i x) h c rest m p a =
    let f = and_parts (is_name version n.name && is_outermost version i) (is_outermost version x) h in
    let g = and_parts (is_name version n.name) (is_outermost version i) f.0 in
    let c' : Counts = with_commands c (c.commands + 1) in
    (λ t b. (
      begins_free c depth (k.Name n.name) (short_name version n.name g.0) m p,
      (
        plain_free (k.Sign s.OpenBracket) refl,
        (outermost version c' i (sign r.Plain s.CloseBracket ∷ space ∷ sign r.Plain s.Becomes ∷ space ∷ expression x rest) g.1
            (plain c' (k.Sign s.CloseBracket) (space ∷ sign r.Plain s.Becomes ∷ space ∷ expression x rest) refl
            (plain c' (k.Sign s.Becomes) (space ∷ expression x rest) refl (outermost version c' x rest f.1 a) 0 0))),
      ),
    ))
simple_within version depth (set_tag place n x) h c rest m p a =
    let f = and_parts (is_name version n.name) (is_outermost_tag version x) h in
    let c' : Counts = with_commands c (c.commands + 1) in
    (λ t b. (
      begins_free c depth (k.Word w.SetTag) refl m p,
      (
        plain_free (k.Sign s.OpenParen) refl,
        (
          plain_free (k.Name n.name) (short_name version n.name f.0),
          (plain_free (k.Sign s.Comma) refl, (outermost_tag version c' x (sign r.Plain s.CloseParen ∷ rest) f.1 (plain c' (k.Sign s.CloseParen) rest refl (a 0 0)))),
        ),
      ),
    ))
simple_within version depth (set_cell_tag place n i x) h c rest m p a =
    let f = and_parts (is_name version n.name && is_outermost version i) (is_outermost_tag version x) h in
    let g = and_parts (is_name version n.name) (is_outermost version i) f.0 in
    let c' : Counts = with_commands c (c.commands + 1) in
    (λ t b. (
      begins_free c depth (k.Word w.SetTag) refl m p,
      (
        plain_free (k.Sign s.OpenParen) refl,
        (
          plain_free (k.Name n.name) (short_name version n.name g.0),
          (
            plain_free (k.Sign s.OpenBracket) refl,
            (outermost version c' i (sign r.Plain s.CloseBracket ∷ sign r.Plain s.Comma ∷ space ∷ tag x (sign r.Plain s.CloseParen ∷ rest)) g.1
                (plain c' (k.Sign s.CloseBracket) (sign r.Plain s.Comma ∷ space ∷ tag x (sign r.Plain s.CloseParen ∷ rest)) refl
                (plain c' (k.Sign s.Comma) (space ∷ tag x (sign r.Plain s.CloseParen ∷ rest)) refl
                (outermost_tag version c' x (sign r.Plain s.CloseParen ∷ rest) f.1 (plain c' (k.Sign s.CloseParen) rest refl (a 0 0))) 0 0))),
          ),
        ),
      ),
    ))
simple_within version depth (go_to place n) h c rest m p a =
    let c' : Counts = with_commands c (c.commands + 1) in
    (λ t b. (begins_free c depth (k.Word w.Goto) refl m p, (plain c' (k.Name n.name) rest (short_name version n.name h) (a 0 0) 0 0)))
simple_within version depth (fall_to_child place) h c rest m p a = begins_command c depth (k.Word w.Fall) rest refl m p (a 0 0)

-- constants

constant_within : (c : Counts) (x : Expression) → is_constant x ≡ true → (rest : List Piece) → Within (at c 0 0) rest → Always c (constant x rest)
constant_within c (literal spot n) h rest a t b = plain c (k.Number n) rest refl a t b
constant_within c (sized_literal spot width n) h rest a t b = plain c (k.Sized width n) rest refl a t b
constant_within c _ h rest a t b = absurd (cc)

more_constants_within : (c : Counts) (xs : Expressions) → are_constants xs ≡ true → (rest : List Piece) → Within (at c 0 0) rest → Within (at c 0 0) (more_constants xs rest)
more_constants_within c no_part h rest a = a
more_constants_within c (and_part x xs) h rest a =
    let f = and_parts (is_constant x) (are_constants xs) h in
    (plain_free (k.Sign s.Comma) refl, constant_within c x f.0 (more_constants xs rest) (more_constants_within c xs f.1 rest a) 0 0)

-- behind whatever is counted before
constants_within : (c : Counts) (xs : Expressions) → has_constant xs ≡ true → are_constants xs ≡ true → (rest : List Piece) → Within (at c 0 0) rest → Always c (constants xs rest)
constants_within c no_part some h rest a t b = absurd (cc)
constants_within c (and_part x xs) some h rest a t b =
    let f = and_parts (is_constant x) (are_constants xs) h in
    constant_within c x f.0 (more_constants xs rest) (more_constants_within c xs f.1 rest a) t b

margin_within : (level : ℕ) (c : Counts) (rest : List Piece) → Within c rest → Within c (margin level rest)
margin_within zero c rest h = h
margin_within (suc level) c rest h = margin_within level c rest h

mutual
  unfolding is_command command_count block_count else_count arms_count list_count command_depth block_depth else_depth arms_depth list_depth

  command_within : (version : Version) (x : Command) (level depth : ℕ) → is_command version x ≡ true
      → (c : Counts) (n m : ℕ) (rest : List Piece) → m ≡ n + command_count x → m ≤ most_commands
      → depth + command_depth x ≤ most_blocks + 1 → Always (with_commands c m) rest → Always (with_commands c n) (command x level depth rest)
  command_within version (lone x) level depth h c n m rest e top deep a t b =
      margin_within level _ _
      (simple_within version depth x h (with_commands c n) (sign r.Plain s.Semicolon ∷ line ∷ rest) (omega arith) (omega arith)
      (plain (with_commands c (n + 1)) (k.Sign s.Semicolon) (line ∷ rest) refl (subst (λ i. Within (at (with_commands c i) 0 0) rest) e (a 0 0))) t b)
  command_within version (try x place handler) level depth h c n m rest e top deep a t b =
      let f = and_parts (is_simple version x) (is_block version handler) h in
      let same : m ≡ n + (1 + block_count handler) = e in
      let fits : depth + (1 + block_depth handler) ≤ most_blocks + 1 = deep in
      margin_within level _ _
      (simple_within version depth x f.0 (with_commands c n) (space ∷ word r.Plain w.Otherwise ∷ block handler level depth (line ∷ rest)) (omega arith) (omega arith)
      (plain (with_commands c (n + 1)) (k.Word w.Otherwise) (block handler level depth (line ∷ rest)) refl
      (block_within version handler level depth f.1 c (n + 1) m (line ∷ rest) (omega arith) top (omega arith) a 0 0)) t b)
  command_within version (if_else place x one other) level depth h c n m rest e top deep a t b =
      let f = and_parts (is_outermost version x && is_block version one) (is_else version other) h in
      let g = and_parts (is_outermost version x) (is_block version one) f.0 in
      let same : m ≡ n + (1 + (block_count one + else_count other)) = e in
      let fits : depth + (1 + max (block_depth one) (else_depth other)) ≤ most_blocks + 1 = deep in
      let c' : Counts = with_commands c (n + 1) in
      let blocks = block one level depth (else_part other level depth (line ∷ rest)) in
      margin_within level _ _ (
        begins_free (with_commands c n) depth (k.Word w.If) refl (omega arith) (omega arith),
        (
          plain_free (k.Sign s.OpenParen) refl,
          outermost version c' x (sign r.Plain s.CloseParen ∷ blocks) g.0
              (plain c' (k.Sign s.CloseParen) blocks refl
              (block_within version one level depth g.1 c (n + 1) (n + 1 + block_count one) (else_part other level depth (line ∷ rest)) refl (omega arith) (omega arith)
              (else_within version other level depth f.1 c (n + 1 + block_count one) m (line ∷ rest) (omega arith) top (omega arith) a) 0 0)),
        ),
      )
  command_within version (try_then x place one other) level depth h c n m rest e top deep a t b =
      let f = and_parts (is_second version && is_simple version x && is_block version one) (is_block version other) h in
      let g = and_parts (is_second version && is_simple version x) (is_block version one) f.0 in
      let i = and_parts (is_second version) (is_simple version x) g.0 in
      let same : m ≡ n + (1 + (block_count one + block_count other)) = e in
      let fits : depth + (1 + max (block_depth one) (block_depth other)) ≤ most_blocks + 1 = deep in
      let c' : Counts = with_commands c (n + 1 + block_count one) in
      let last = space ∷ word r.Plain w.Otherwise ∷ block other level depth (line ∷ rest) in
      margin_within level _ _
      (simple_within version depth x i.1 (with_commands c n) (space ∷ word r.Plain w.Then ∷ block one level depth last) (omega arith) (omega arith)
      (plain (with_commands c (n + 1)) (k.Word w.Then) (block one level depth last) refl
      (block_within version one level depth g.1 c (n + 1) (n + 1 + block_count one) last refl (omega arith) (omega arith)
      (plain c' (k.Word w.Otherwise) (block other level depth (line ∷ rest)) refl
      (block_within version other level depth f.1 c (n + 1 + block_count one) m (line ∷ rest) (omega arith) top (omega arith) a 0 0)) 0 0)) t b)
  command_within version (case_of place x list) level depth h c n m rest e top deep a t b =
      let f = and_parts (is_second version && is_outermost version x && has_arm list && nat_le (arm_count list) most_arms) (are_arms version list) h in
      let g = and_parts (is_second version && is_outermost version x && has_arm list) (nat_le (arm_count list) most_arms) f.0 in
      let i = and_parts (is_second version && is_outermost version x) (has_arm list) g.0 in
      let j = and_parts (is_second version) (is_outermost version x) i.0 in
      let same : m ≡ n + (1 + arms_count list) = e in
      let fits : depth + (1 + arms_depth list) ≤ most_blocks + 1 = deep in
      let c' : Counts = with_commands c (n + 1) in
      let foot = margin level (sign r.Plain s.CloseBrace ∷ line ∷ rest) in
      let behind = space ∷ sign r.Plain s.OpenBrace ∷ line ∷ arms list (suc level) depth foot in
      margin_within level _ _ (
        begins_free (with_commands c n) depth (k.Word w.Case) refl (omega arith) (omega arith),
        (
          plain_free (k.Sign s.OpenParen) refl,
          outermost version c' x (sign r.Plain s.CloseParen ∷ behind) j.1
              (plain c' (k.Sign s.CloseParen) behind refl
              (plain c' (k.Sign s.OpenBrace) (line ∷ arms list (suc level) depth foot) refl
              (arms_within version list (suc level) depth f.1 c (n + 1) m foot (omega arith) top (omega arith)
              (λ t b. margin_within level _ _ (plain (with_commands c m) (k.Sign s.CloseBrace) (line ∷ rest) refl (a 0 0) t b)) 0 0) 0 0)),
        ),
      )

  arms_within : (version : Version) (list : Arms) (level depth : ℕ) → are_arms version list ≡ true
      → (c : Counts) (n m : ℕ) (rest : List Piece) → m ≡ n + arms_count list → m ≤ most_commands
      → depth + 1 + arms_depth list ≤ most_blocks + 1 → Always (with_commands c m) rest → Always (with_commands c n) (arms list level depth rest)
  arms_within version (last_arm b) level depth h c n m rest e top deep a t u =
      margin_within level _ _
      (plain (with_commands c n) (k.Word w.Else) (block b level depth (line ∷ rest)) refl (block_within version b level depth h c n m (line ∷ rest) e top deep a 0 0) t u)
  arms_within version (and_arm xs b list) level depth h c n m rest e top deep a t u =
      let f = and_parts (has_constant xs && are_constants xs && is_block version b) (are_arms version list) h in
      let g = and_parts (has_constant xs && are_constants xs) (is_block version b) f.0 in
      let i = and_parts (has_constant xs) (are_constants xs) g.0 in
      let same : m ≡ n + (block_count b + arms_count list) = e in
      let fits : depth + 1 + max (block_depth b) (arms_depth list) ≤ most_blocks + 1 = deep in
      let behind = line ∷ arms list level depth rest in
      margin_within level _ _
      (constants_within (with_commands c n) xs i.0 i.1 (sign r.Plain s.Colon ∷ block b level depth behind)
      (plain (with_commands c n) (k.Sign s.Colon) (block b level depth behind) refl
      (block_within version b level depth g.1 c n (n + block_count b) behind refl (omega arith) (omega arith)
      (arms_within version list level depth f.1 c (n + block_count b) m rest (omega arith) top (omega arith) a) 0 0) 0 0) t u)

  block_within : (version : Version) (x : CommandBlock) (level depth : ℕ) → is_block version x ≡ true
      → (c : Counts) (n m : ℕ) (rest : List Piece) → m ≡ n + block_count x → m ≤ most_commands
      → depth + 1 + block_depth x ≤ most_blocks + 1 → Always (with_commands c m) rest → Always (with_commands c n) (block x level depth rest)
  block_within version (command_block cs behind) level depth h c n m rest e top deep a =
      (λ t b. (
        plain_free (k.Sign s.OpenBrace) refl,
        (commands_within version cs (suc level) (depth + 1) h c n m (margin level (sign r.Plain s.CloseBrace ∷ rest)) e top deep
            (λ t b. margin_within level _ _ (plain (with_commands c m) (k.Sign s.CloseBrace) rest refl (a 0 0) t b)) 0 0),
      ))

  else_within : (version : Version) (x : ElseBlock) (level depth : ℕ) → is_else version x ≡ true
      → (c : Counts) (n m : ℕ) (rest : List Piece) → m ≡ n + else_count x → m ≤ most_commands
      → depth + 1 + else_depth x ≤ most_blocks + 1 → Always (with_commands c m) rest → Always (with_commands c n) (else_part x level depth rest)
  else_within version no_else level depth h c n m rest e top deep a =
      let same : m ≡ n = omega arith in subst (λ i. Always (with_commands c i) rest) same a
  else_within version (with_else x) level depth h c n m rest e top deep a =
      (λ t b. (plain_free (k.Word w.Else) refl, (block_within version x level depth h c n m rest e top deep a 0 0)))

  commands_within : (version : Version) (cs : CommandList) (level depth : ℕ) → are_commands version cs ≡ true
      → (c : Counts) (n m : ℕ) (rest : List Piece) → m ≡ n + list_count cs → m ≤ most_commands
      → depth + list_depth cs ≤ most_blocks + 1 → Always (with_commands c m) rest → Always (with_commands c n) (commands cs level depth rest)
  commands_within version no_command level depth h c n m rest e top deep a =
      let same : m ≡ n = omega arith in subst (λ i. Always (with_commands c i) rest) same a
  commands_within version (and_command x cs) level depth h c n m rest e top deep a =
      let f = and_parts (is_command version x) (are_commands version cs) h in
      let same : m ≡ n + (command_count x + list_count cs) = e in
      let fits : depth + max (command_depth x) (list_depth cs) ≤ most_blocks + 1 = deep in
      command_within version x level depth f.0 c n (n + command_count x) (commands cs level depth rest) refl (omega arith) (omega arith)
      (commands_within version cs level depth f.1 c (n + command_count x) m rest (omega arith) top (omega arith) a)

-- kinds and declarations

authority_within : (version : Version) (x : Option Under) → is_authority version x ≡ true → (c : Counts) (rest : List Piece)
    → Within (at c 0 0) rest → Within (at c 0 0) (authority x rest)
authority_within version None h c rest a = a
authority_within version (Some under) h c rest a = (plain_free (k.Word w.Under) refl, (plain c (k.Name under.level.name) rest (short_name version under.level.name h) a 0 0))

kind_within : (version : Version) (x : KindTree) → is_kind version x ≡ true → (c : Counts) (rest : List Piece) → Within (at c 0 0) rest → Within (at c 0 0) (kind x rest)
kind_within version (how.Dynamic place) h c rest a = plain c (k.Word w.Dynamic) rest refl a 0 0
kind_within version (how.Enforced n under) h c rest a =
    let f = and_parts (is_name version n.name) (is_authority version under) h in
    (plain_free (k.Word w.Enforced) refl, (plain_free (k.Name n.name) (short_name version n.name f.0), (authority_within version under f.1 c rest a)))

start_within : (x : Option Numeral) (c : Counts) (rest : List Piece) → Within (at c 0 0) rest → Within (at c 0 0) (start x rest)
start_within None c rest a = a
start_within (Some n) c rest a = (plain_free (k.Sign s.Is) refl, (plain c (k.Number n.value) rest refl a 0 0))

-- behind the word of a declaration
declared_within : (version : Version) (n : List ℕ) (width : ℕ) → is_name version n ≡ true → (c : Counts) (rest : List Piece) → Within (at c 0 0) rest
    → Within (at c 0 0) (space ∷ name r.Plain n ∷ space ∷ sign r.Plain s.Colon ∷ space ∷ number r.Plain width ∷ rest)
declared_within version n width h c rest a = (plain_free (k.Name n) (short_name version n h), (plain_free (k.Sign s.Colon) refl, (plain c (k.Number width) rest refl a 0 0)))

-- as many declarations of a sort behind this one, where it is counted
behind_one : (sort : Decl → Bool) (x : Decl) (xs : List Decl) (before all : ℕ) → all ≡ before + count_by sort (x ∷ xs)
    → all ≡ cond (sort x) (before + 1) before + count_by sort xs
behind_one sort x xs before all e = by_test (sort x) (e ∙ ap (λ n. before + n) (sum_by-cons (λ y. cond (sort y) 1 0) x xs)) where
  by_test : (t : Bool) → all ≡ before + (cond t 1 0 + count_by sort xs) → all ≡ cond t (before + 1) before + count_by sort xs
  by_test true e = omega arith
  by_test false e = omega arith

abbrev with_declared : Counts → ℕ → ℕ → ℕ → Counts
with_declared c i n m = record c { inputs = i; registers = n; memories = m }

pub declarations_within : (version : Version) (xs : List Decl) → list_all (is_declaration version) xs ≡ true → (c : Counts) (rest : List Piece) (i n m : ℕ)
    → i ≡ c.inputs + count_by is_input xs → n ≡ c.registers + count_by is_register xs → m ≡ c.memories + count_by is_memory xs
    → i ≤ most_inputs → n ≤ most_registers → m ≤ most_memories → Within (at (with_declared c i n m) 0 0) rest → Within (at c 0 0) (declarations xs rest)
declarations_within version [] h c rest i n m e f g p q o a =
    let no_inputs : i ≡ c.inputs + 0 = e in
    let no_registers : n ≡ c.registers + 0 = f in
    let no_memories : m ≡ c.memories + 0 = g in
    let x : i ≡ c.inputs = omega arith in
    let y : n ≡ c.registers = omega arith in
    let z : m ≡ c.memories = omega arith in
    subst (λ v. Within (at (with_declared c c.inputs c.registers v) 0 0) rest) z
    (subst (λ v. Within (at (with_declared c c.inputs v m) 0 0) rest) y (subst (λ v. Within (at (with_declared c v n m) 0 0) rest) x a))
declarations_within version (d.Input place x width ∷ xs) h c rest i n m e f g p q o a =
    let u = and_parts (is_name version x.name && is_number width.value) (list_all (is_declaration version) xs) h in
    let v = and_parts (is_name version x.name) (is_number width.value) u.0 in
    let c' : Counts = with_declared c (c.inputs + 1) c.registers c.memories in
    let inputs_left : i ≡ c.inputs + 1 + count_by is_input xs = behind_one is_input (d.Input place x width) xs c.inputs i e in
    let registers_left : n ≡ c.registers + count_by is_register xs = behind_one is_register (d.Input place x width) xs c.registers n f in
    let memories_left : m ≡ c.memories + count_by is_memory xs = behind_one is_memory (d.Input place x width) xs c.memories m g in (
      not_above most_inputs (c.inputs + 1) l.Inputs (omega arith),
      declared_within version x.name width.value v.0 c' (sign r.Plain s.Semicolon ∷ line ∷ declarations xs rest)
          (plain_free (k.Sign s.Semicolon) refl, (declarations_within version xs u.1 c' rest i n m inputs_left registers_left memories_left p q o a)),
    )
declarations_within version (d.Register place x width y initial ∷ xs) h c rest i n m e f g p q o a =
    let u = and_parts (is_name version x.name && is_number width.value && is_kind version y && is_start initial) (list_all (is_declaration version) xs) h in
    let v = and_parts (is_name version x.name && is_number width.value) (is_kind version y)
    (and_parts (is_name version x.name && is_number width.value && is_kind version y) (is_start initial) u.0).0 in
    let z = and_parts (is_name version x.name) (is_number width.value) v.0 in
    let c' : Counts = with_declared c c.inputs (c.registers + 1) c.memories in
    let inputs_left : i ≡ c.inputs + count_by is_input xs = behind_one is_input (d.Register place x width y initial) xs c.inputs i e in
    let registers_left : n ≡ c.registers + 1 + count_by is_register xs = behind_one is_register (d.Register place x width y initial) xs c.registers n f in
    let memories_left : m ≡ c.memories + count_by is_memory xs = behind_one is_memory (d.Register place x width y initial) xs c.memories m g in
    let last = sign r.Plain s.Semicolon ∷ line ∷ declarations xs rest in (
      not_above most_registers (c.registers + 1) l.Registers (omega arith),
      declared_within version x.name width.value z.0 c' (space ∷ kind y (start initial last))
          (kind_within version y v.1 c' (start initial last)
          (start_within initial c' last (
            plain_free (k.Sign s.Semicolon) refl,
            (declarations_within version xs u.1 c' rest i n m inputs_left registers_left memories_left p q o a),
          ))),
    )
declarations_within version (d.Memory place x width depth y ∷ xs) h c rest i n m e f g p q o a =
    let u = and_parts (is_name version x.name && is_number width.value && is_number depth.value && is_kind version y) (list_all (is_declaration version) xs) h in
    let v = and_parts (is_name version x.name && is_number width.value && is_number depth.value) (is_kind version y) u.0 in
    let z = and_parts (is_name version x.name) (is_number width.value) (and_parts (is_name version x.name && is_number width.value) (is_number depth.value) v.0).0 in
    let c' : Counts = with_declared c c.inputs c.registers (c.memories + 1) in
    let inputs_left : i ≡ c.inputs + count_by is_input xs = behind_one is_input (d.Memory place x width depth y) xs c.inputs i e in
    let registers_left : n ≡ c.registers + count_by is_register xs = behind_one is_register (d.Memory place x width depth y) xs c.registers n f in
    let memories_left : m ≡ c.memories + 1 + count_by is_memory xs = behind_one is_memory (d.Memory place x width depth y) xs c.memories m g in
    let last = sign r.Plain s.Semicolon ∷ line ∷ declarations xs rest in (
      not_above most_memories (c.memories + 1) l.Memories (omega arith),
      declared_within version x.name width.value z.0 c' (sign r.Plain s.OpenBracket ∷ number r.Plain depth.value ∷ sign r.Plain s.CloseBracket ∷ space ∷ kind y last) (
        plain_free (k.Sign s.OpenBracket) refl,
        (
          plain_free (k.Number depth.value) refl,
          (
            plain_free (k.Sign s.CloseBracket) refl,
            (kind_within version y v.1 c' last (
              plain_free (k.Sign s.Semicolon) refl,
              (declarations_within version xs u.1 c' rest i n m inputs_left registers_left memories_left p q o a),
            )),
          ),
        ),
      ),
    )

-- states

abbrev with_states : Counts → ℕ → ℕ → Counts
with_states c i n = record c { states = i; commands = n }

begins_state : (n depth : ℕ) → n + 1 ≤ most_states → depth ≤ most_nesting
    → (breach_of_name (k.Word w.State) or_else (above most_states (n + 1) l.States or_else above most_nesting depth l.Nesting)) ≡ None
begins_state n depth h m = ap (λ o. o or_else above most_nesting depth l.Nesting) (not_above most_states (n + 1) l.States h) ∙ not_above most_nesting depth l.Nesting m

mutual
  unfolding is_state is_command state_count states_count state_commands states_commands state_depth states_depth command_count block_count
      else_count arms_count list_count command_depth block_depth else_depth arms_depth list_depth

  state_within : (version : Version) (x : StateTree) (level depth : ℕ) → is_state version x ≡ true
      → (c : Counts) (i j n m : ℕ) (rest : List Piece) → j ≡ i + state_count x → j ≤ most_states
      → m ≡ n + state_commands x → m ≤ most_commands → depth + state_depth x ≤ most_nesting + 1
      → Always (with_states c j m) rest → Always (with_states c i n) (state x level depth rest)
  state_within version (state_node place name x (command_block cs behind) children) level depth h c i j n m rest e top f much deep a t b =
      let inside = command_block cs behind in
      let u = and_parts (is_name version name.name && is_kind version x && is_block version inside && nat_le (block_depth inside) most_blocks) (are_states version children) h in
      let v = and_parts (is_name version name.name && is_kind version x && is_block version inside) (nat_le (block_depth inside) most_blocks) u.0 in
      let y = and_parts (is_name version name.name && is_kind version x) (is_block version inside) v.0 in
      let z = and_parts (is_name version name.name) (is_kind version x) y.0 in
      let states_are : j ≡ i + (1 + states_count children) = e in
      let commands_are : m ≡ n + (list_count cs + states_commands children) = f in
      let fits : depth + (1 + states_depth children) ≤ most_nesting + 1 = deep in
      let short : list_depth cs ≤ most_blocks = leb-true (list_depth cs) most_blocks v.1 in
      let last = margin level (sign r.Plain s.CloseBrace ∷ line ∷ rest) in
      let below = states children (suc level) (depth + 1) last in
      let c' : Counts = with_states c (i + 1) n in
      margin_within level _ _ (
        begins_state i depth (omega arith) (omega arith),
        (
          plain_free (k.Name name.name) (short_name version name.name z.0),
          (kind_within version x z.1 c' (space ∷ sign r.Plain s.OpenBrace ∷ line ∷ commands cs (suc level) 1 below) (
            plain_free (k.Sign s.OpenBrace) refl,
            (commands_within version cs (suc level) 1 y.1 c' n (n + list_count cs) below refl (omega arith) (omega arith)
                (states_within version children (suc level) (depth + 1) u.1 c (i + 1) j (n + list_count cs) m last (omega arith) top (omega arith) much (omega arith)
                (λ t b. margin_within level _ _ (plain (with_states c j m) (k.Sign s.CloseBrace) (line ∷ rest) refl (a 0 0) t b))) 0 0),
          )),
        ),
      )

  states_within : (version : Version) (xs : StateList) (level depth : ℕ) → are_states version xs ≡ true
      → (c : Counts) (i j n m : ℕ) (rest : List Piece) → j ≡ i + states_count xs → j ≤ most_states
      → m ≡ n + states_commands xs → m ≤ most_commands → depth + states_depth xs ≤ most_nesting + 1
      → Always (with_states c j m) rest → Always (with_states c i n) (states xs level depth rest)
  states_within version no_state level depth h c i j n m rest e top f much deep a =
      let x : j ≡ i = omega arith in
      let y : m ≡ n = omega arith in
      subst (λ v. Always (with_states c i v) rest) y (subst (λ v. Always (with_states c v m) rest) x a)
  states_within version (and_state x xs) level depth h c i j n m rest e top f much deep a =
      let g = and_parts (is_state version x) (are_states version xs) h in
      let states_are : j ≡ i + (state_count x + states_count xs) = e in
      let commands_are : m ≡ n + (state_commands x + states_commands xs) = f in
      let fits : depth + max (state_depth x) (states_depth xs) ≤ most_nesting + 1 = deep in
      state_within version x level depth g.0 c i (i + state_count x) n (n + state_commands x) (states xs level depth rest) refl (omega arith) refl (omega arith) (omega arith)
      (states_within version xs level depth g.1 c (i + state_count x) j (n + state_commands x) m rest (omega arith) top (omega arith) much (omega arith) a)

header_within : (version : Version) (rest : List Piece) → Within (at none_yet 0 0) rest → Within none_yet (header version rest)
header_within One rest a = a
header_within Two rest a = (plain_free (k.Word w.Sapper) refl, (plain_free (k.Word w.Two) refl, (plain_free (k.Sign s.Semicolon) refl, a)))

pub design_within : (x : DesignTree) → is_whole x ≡ true → Within none_yet (design x)
unfolding is_whole
design_within x h =
    let f = and_parts (is_tree x) (is_within_limits x) h in
    let g = and_parts (list_all (is_declaration x.version) x.declarations && has_state x.states) (are_states x.version x.states) f.0 in
    let g' = and_parts (list_all (is_declaration x.version) x.declarations) (has_state x.states) g.0 in
    let in1 = nat_le (count_by is_input x.declarations) most_inputs in
    let in2 = nat_le (count_by is_register x.declarations) most_registers in
    let in3 = nat_le (count_by is_memory x.declarations) most_memories in
    let in4 = nat_le (states_count x.states) most_states in
    let in5 = nat_le (states_depth x.states) most_nesting in
    let in6 = nat_le (states_commands x.states) most_commands in
    let l1 = and_parts (in1 && in2 && in3 && in4 && in5) in6 f.1 in
    let l2 = and_parts (in1 && in2 && in3 && in4) in5 l1.0 in
    let l3 = and_parts (in1 && in2 && in3) in4 l2.0 in
    let l4 = and_parts (in1 && in2) in3 l3.0 in
    let l5 = and_parts in1 in2 l4.0 in
    let i = count_by is_input x.declarations in
    let n = count_by is_register x.declarations in
    let m = count_by is_memory x.declarations in
    header_within x.version (parts_of x)
    (declarations_within x.version x.declarations g'.0 none_yet (states x.states 0 1 []) i n m (zero_more i) (zero_more n) (zero_more m)
    (leb-true i most_inputs l5.0) (leb-true n most_registers l5.1) (leb-true m most_memories l4.1)
    (states_within x.version x.states 0 1 g.1 (with_declared none_yet i n m) 0 (states_count x.states) 0 (states_commands x.states) [] (zero_more (states_count x.states))
    (leb-true (states_count x.states) most_states l3.1) (zero_more (states_commands x.states)) (leb-true (states_commands x.states) most_commands l1.1)
    (one_more (states_depth x.states) (leb-true (states_depth x.states) most_nesting l2.1)) (λ t b. tt) 0 0))
  where
    one_more : (n : ℕ) → n ≤ most_nesting → 1 + n ≤ most_nesting + 1
    one_more n h = omega arith
