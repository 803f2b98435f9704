-- The canonical text doesn't look at places.
use Rattle.sap_lemmas.proofs.Common.{ap₂, ◌≡◌, ℕ, ◌+◌, List, [], ◌∷◌, ◌++◌, refl, sym, ap, ◌∙◌, Option, Some, None, cond, codes, decimal, nat_lt, flat_map, map}
use Rattle.sap_show.specs.Canonical.{unary_text, binary_text, operand_text, bounds_text, expression_text, parts_text, more_parts_text, tag_text, tags_text, more_tags_text, cell_text, simple_text, command_text, block_text, else_text, arms_text, commands_text, authority_text, kind_text, start_text, declaration_text, head_text, body_text, state_text, states_text, version_text, canonical_text}
use Rattle.sap_tree.specs.Prelude.{bare_expression, bare_expressions, bare_tag, bare_tags, bare_simple, bare_command, bare_block, bare_else, bare_arms, bare_list, bare_authority, bare_kind, bare_start, bare_declaration, bare_state, bare_states, bare, precedence, unary_precedence, slice_precedence, precedence_of, Expression, Expressions, literal, sized_literal, variable, cell_at, unary_of, binary_of, choice, slice, concat, zero_extend, no_part, and_part, TagExpression, TagExpressions, level_of, tag_at, level_at, join_of, no_tag, and_tag, SimpleCommand, assign, write, set_tag, set_cell_tag, go_to, fall_to_child, Command, lone, try, if_else, try_then, case_of, Arms, last_arm, and_arm, CommandBlock, command_block, ElseBlock, no_else, with_else, CommandList, no_command, and_command, StateTree, state_node, StateList, no_state, and_state, DesignTree}
use Rattle.sap_tree.specs.declared.syntax.Decl.{Decl}
use Rattle.sap_tree.specs.declared.syntax.Kind.{Kind as KindTree}
use Rattle.sap_tree.specs.declared.syntax.Numeral.{Numeral}
use Rattle.sap_tree.specs.declared.syntax.Under.{Under}
use Rattle.sap_tree.specs.declared.syntax.Decl.TheVariants as d
use Rattle.sap_tree.specs.declared.syntax.Kind.TheVariants as how

both : {a b c d : List ℕ} → a ≡ b → c ≡ d → a ++ c ≡ b ++ d
both p q = ap₂ (λ (s t : List ℕ). s ++ t) p q

same_precedence : (x : Expression) → precedence_of (bare_expression x) ≡ precedence_of x
unfolding bare_expression precedence_of
same_precedence (literal spot n) = refl
same_precedence _ = refl

operand_same : (asked : ℕ) (x : Expression) → expression_text (bare_expression x) ≡ expression_text x
    → operand_text asked (bare_expression x) (expression_text (bare_expression x)) ≡ operand_text asked x (expression_text x)
unfolding operand_text
operand_same asked x e =
    ap (λ n. cond (nat_lt n asked) (codes "(" ++ (expression_text (bare_expression x) ++ codes ")")) (expression_text (bare_expression x))) (same_precedence x)
    ∙ ap (λ t. cond (nat_lt (precedence_of x) asked) (codes "(" ++ (t ++ codes ")")) t) e

mutual
  unfolding expression_text bare_expression

  expression_same : (x : Expression) → expression_text (bare_expression x) ≡ expression_text x
  expression_same (literal spot n) = refl
  expression_same (sized_literal spot width n) = refl
  expression_same (variable spot n) = refl
  expression_same (cell_at spot n i) = ap (λ t. n ++ (codes "[" ++ (t ++ codes "]"))) (expression_same i)
  expression_same (unary_of spot o x) = ap (λ t. unary_text o ++ t) (operand_same unary_precedence x (expression_same x))
  expression_same (binary_of spot o x y) =
      ap₂ (λ (s t : List ℕ). s ++ (binary_text o ++ t)) (operand_same (precedence o) x (expression_same x)) (operand_same (precedence o + 1) y (expression_same y))
  expression_same (choice spot x y z) =
      ap₂ (λ (s t : List ℕ). s ++ (codes " ? " ++ t)) (operand_same 1 x (expression_same x))
      (ap₂ (λ (s t : List ℕ). s ++ (codes " : " ++ t)) (expression_same y) (expression_same z))
  expression_same (slice spot x high low) = ap (λ t. t ++ bounds_text high low) (operand_same slice_precedence x (expression_same x))
  expression_same (concat spot xs) = ap (λ t. codes "{" ++ (t ++ codes "}")) (parts_same xs)
  expression_same (zero_extend spot x width) = ap (λ t. codes "zext(" ++ (t ++ (codes ", " ++ (decimal width ++ codes ")")))) (expression_same x)

  parts_same : (xs : Expressions) → parts_text (bare_expressions xs) ≡ parts_text xs
  parts_same no_part = refl
  parts_same (and_part x xs) = both (expression_same x) (more_parts_same xs)

  more_parts_same : (xs : Expressions) → more_parts_text (bare_expressions xs) ≡ more_parts_text xs
  more_parts_same no_part = refl
  more_parts_same (and_part x xs) = ap (λ t. codes ", " ++ t) (both (expression_same x) (more_parts_same xs))

mutual
  unfolding tag_text bare_tag

  tag_same : (x : TagExpression) → tag_text (bare_tag x) ≡ tag_text x
  tag_same (level_of n) = refl
  tag_same (tag_at place x) = ap (λ t. codes "tag(" ++ (t ++ codes ")")) (expression_same x)
  tag_same (level_at place x) = ap (λ t. codes "level(" ++ (t ++ codes ")")) (expression_same x)
  tag_same (join_of place xs) = ap (λ t. codes "join(" ++ (t ++ codes ")")) (tags_same xs)

  tags_same : (xs : TagExpressions) → tags_text (bare_tags xs) ≡ tags_text xs
  tags_same no_tag = refl
  tags_same (and_tag x xs) = both (tag_same x) (more_tags_same xs)

  more_tags_same : (xs : TagExpressions) → more_tags_text (bare_tags xs) ≡ more_tags_text xs
  more_tags_same no_tag = refl
  more_tags_same (and_tag x xs) = ap (λ t. codes ", " ++ t) (both (tag_same x) (more_tags_same xs))

cell_same : (n : List ℕ) (i : Expression) → cell_text n (bare_expression i) ≡ cell_text n i
unfolding cell_text
cell_same n i = ap (λ t. n ++ (codes "[" ++ (t ++ codes "]"))) (expression_same i)

simple_same : (c : SimpleCommand) → simple_text (bare_simple c) ≡ simple_text c
unfolding simple_text bare_simple
simple_same (assign n x) = ap (λ t. n.name ++ (codes " := " ++ t)) (expression_same x)
simple_same (write n i x) = ap₂ (λ (s t : List ℕ). s ++ (codes " := " ++ t)) (cell_same n.name i) (expression_same x)
simple_same (set_tag place n x) = ap (λ t. codes "setTag(" ++ (n.name ++ (codes ", " ++ (t ++ codes ")")))) (tag_same x)
simple_same (set_cell_tag place n i x) = ap₂ (λ (s t : List ℕ). codes "setTag(" ++ (s ++ (codes ", " ++ (t ++ codes ")")))) (cell_same n.name i) (tag_same x)
simple_same (go_to place n) = refl
simple_same (fall_to_child place) = refl

mutual
  unfolding command_text bare_command

  command_same : (margin : List ℕ) (c : Command) → command_text margin (bare_command c) ≡ command_text margin c
  command_same margin (lone c) = ap (λ t. margin ++ (t ++ codes ";\n")) (simple_same c)
  command_same margin (try c place handler) =
      ap₂ (λ (s t : List ℕ). margin ++ (s ++ (codes " otherwise" ++ (t ++ codes "\n")))) (simple_same c) (block_same margin handler)
  command_same margin (if_else place x one other) =
      ap₂ (λ (s t : List ℕ). margin ++ (codes "if (" ++ (s ++ (codes ")" ++ t)))) (expression_same x)
      (ap₂ (λ (s t : List ℕ). s ++ (t ++ codes "\n")) (block_same margin one) (else_same margin other))
  command_same margin (try_then c place one other) =
      ap₂ (λ (s t : List ℕ). margin ++ (s ++ (codes " then" ++ t))) (simple_same c)
      (ap₂ (λ (s t : List ℕ). s ++ (codes " otherwise" ++ (t ++ codes "\n"))) (block_same margin one) (block_same margin other))
  command_same margin (case_of place x arms) =
      let foot = margin ++ codes "}\n" in
      ap₂ (λ (s t : List ℕ). margin ++ (codes "case (" ++ (s ++ (codes ") {\n" ++ (t ++ foot))))) (expression_same x) (arms_same (margin ++ codes "  ") arms)

  arms_same : (margin : List ℕ) (arms : Arms) → arms_text margin (bare_arms arms) ≡ arms_text margin arms
  arms_same margin (last_arm block) = ap (λ t. margin ++ (codes "else" ++ (t ++ codes "\n"))) (block_same margin block)
  arms_same margin (and_arm constants block arms) =
      ap₂ (λ (s t : List ℕ). margin ++ (s ++ (codes ":" ++ t))) (parts_same constants)
      (ap₂ (λ (s t : List ℕ). s ++ (codes "\n" ++ t)) (block_same margin block) (arms_same margin arms))

  block_same : (margin : List ℕ) (x : CommandBlock) → block_text margin (bare_block x) ≡ block_text margin x
  block_same margin (command_block cs after) = ap (λ t. codes " {\n" ++ (t ++ (margin ++ codes "}"))) (commands_same (margin ++ codes "  ") cs)

  else_same : (margin : List ℕ) (x : ElseBlock) → else_text margin (bare_else x) ≡ else_text margin x
  else_same margin no_else = refl
  else_same margin (with_else x) = ap (λ t. codes " else" ++ t) (block_same margin x)

  commands_same : (margin : List ℕ) (cs : CommandList) → commands_text margin (bare_list cs) ≡ commands_text margin cs
  commands_same margin no_command = refl
  commands_same margin (and_command c cs) = both (command_same margin c) (commands_same margin cs)

authority_same : (x : Option Under) → authority_text (bare_authority x) ≡ authority_text x
authority_same None = refl
authority_same (Some under) = refl

kind_same : (x : KindTree) → kind_text (bare_kind x) ≡ kind_text x
kind_same (how.Dynamic place) = refl
kind_same (how.Enforced n under) = ap (λ t. codes "enforced " ++ (n.name ++ t)) (authority_same under)

start_same : (x : Option Numeral) → start_text (bare_start x) ≡ start_text x
start_same None = refl
start_same (Some n) = refl

declaration_same : (x : Decl) → declaration_text (bare_declaration x) ≡ declaration_text x
unfolding declaration_text
declaration_same (d.Input place n width) = refl
declaration_same (d.Register place n width x initial) =
    ap₂ (λ (s t : List ℕ). codes "reg " ++ (n.name ++ (codes " : " ++ (decimal width.value ++ (codes " " ++ (s ++ (t ++ codes ";\n"))))))) (kind_same x) (start_same initial)
declaration_same (d.Memory place n width depth x) =
    ap (λ t. codes "mem " ++ (n.name ++ (codes " : " ++ (decimal width.value ++ (codes "[" ++ (decimal depth.value ++ (codes "] " ++ (t ++ codes ";\n")))))))) (kind_same x)

declarations_same : (xs : List Decl) → flat_map declaration_text (map bare_declaration xs) ≡ flat_map declaration_text xs
declarations_same [] = refl
declarations_same (x ∷ xs) = both (declaration_same x) (declarations_same xs)

head_same : (n : List ℕ) (x : KindTree) → head_text n (bare_kind x) ≡ head_text n x
unfolding head_text
head_same n x = ap (λ t. codes "state " ++ (n ++ (codes " " ++ (t ++ codes " {\n")))) (kind_same x)

body_same : (margin : List ℕ) (x : CommandBlock) → body_text margin (bare_block x) ≡ body_text margin x
unfolding bare_command
body_same margin (command_block cs after) = commands_same margin cs

mutual
  unfolding state_text bare_state

  state_same : (margin : List ℕ) (x : StateTree) → state_text margin (bare_state x) ≡ state_text margin x
  state_same margin (state_node place n x inside children) =
      let m = margin ++ codes "  " in
      let foot = margin ++ codes "}\n" in
      ap (λ t. margin ++ t) (both (head_same n.name x) (both (body_same m inside) (ap (λ t. t ++ foot) (states_same m children))))

  states_same : (margin : List ℕ) (xs : StateList) → states_text margin (bare_states xs) ≡ states_text margin xs
  states_same margin no_state = refl
  states_same margin (and_state x xs) = both (state_same margin x) (states_same margin xs)

design_same : (x : DesignTree) → canonical_text (bare x) ≡ canonical_text x
unfolding canonical_text bare
design_same x =
    ap (λ t. version_text x.version ++ t) (both (declarations_same x.declarations) (states_same [] x.states))

pub places_aside : (one other : DesignTree) → bare one ≡ bare other → canonical_text one ≡ canonical_text other
places_aside one other e = sym (design_same one) ∙ ap canonical_text e ∙ design_same other
