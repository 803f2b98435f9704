-- How many tokens an expression has, and how many of its brackets are open at once, where an operand stands in
-- parentheses exactly where it binds looser than its place asks for.
use Rattle.std.specs.Prelude.{ℕ, ◌+◌, max, if◌then◌else◌, nat_lt, nat_le, Bool, ◌&&◌}
use Rattle.sap_tree.specs.Limits.{most_tokens, most_brackets}
use Rattle.sap_tree.specs.Precedence.{precedence, unary_precedence, slice_precedence, precedence_of}
use Rattle.sap_tree.specs.Syntax.{Expression, Expressions, literal, sized_literal, variable, cell_at, unary_of, binary_of, choice, slice, concat, zero_extend, no_part, and_part, TagExpression, TagExpressions, level_of, tag_at, level_at, join_of, no_tag, and_tag}

-- The parentheses of an operand where this precedence is asked for.
abbrev pub parentheses : ℕ → Expression → ℕ
parentheses asked x = if nat_lt (precedence_of x) asked then 2 else 0

-- One bracket more is open inside them.
abbrev pub opened : ℕ → Expression → ℕ
opened asked x = if nat_lt (precedence_of x) asked then 1 else 0

-- The number of tokens of an expression, and of the parts of a concatenation.
unfoldable mutual
  pub tokens : Expression → ℕ
  tokens (literal spot n) = 1
  tokens (sized_literal spot w n) = 1
  tokens (variable spot name) = 1
  tokens (cell_at spot name index) = tokens index + 3
  tokens (unary_of spot o x) = 1 + (parentheses unary_precedence x + tokens x)
  tokens (binary_of spot o x y) = parentheses (precedence o) x + tokens x + 1
      + (parentheses (precedence o + 1) y + tokens y)
  tokens (choice spot x y z) = parentheses 1 x + tokens x + 1 + tokens y + 1 + tokens z
  tokens (slice spot x high low) = parentheses slice_precedence x + tokens x + 5
  tokens (concat spot parts) = 1 + part_tokens parts
  tokens (zero_extend spot x w) = tokens x + 5

  -- Each part, and the `,` or `}` after it.
  pub part_tokens : Expressions → ℕ
  part_tokens no_part = 0
  part_tokens (and_part x parts) = tokens x + 1 + part_tokens parts

-- How many of an expression's brackets are open at once at most, and of those of a concatenation's parts.
unfoldable mutual
  pub brackets : Expression → ℕ
  brackets (literal spot n) = 0
  brackets (sized_literal spot w n) = 0
  brackets (variable spot name) = 0
  brackets (cell_at spot name index) = 1 + brackets index
  brackets (unary_of spot o x) = opened unary_precedence x + brackets x
  brackets (binary_of spot o x y) = max (opened (precedence o) x + brackets x)
      (opened (precedence o + 1) y + brackets y)
  brackets (choice spot x y z) = max (opened 1 x + brackets x) (max (brackets y) (brackets z))
  brackets (slice spot x high low) = max (opened slice_precedence x + brackets x) 1
  brackets (concat spot parts) = 1 + part_brackets parts
  brackets (zero_extend spot x w) = 1 + brackets x

  pub part_brackets : Expressions → ℕ
  part_brackets no_part = 0
  part_brackets (and_part x parts) = max (brackets x) (part_brackets parts)

-- The number of tokens of a tag expression, and of the operands of a join.
unfoldable mutual
  pub tag_tokens : TagExpression → ℕ
  tag_tokens (level_of name) = 1
  tag_tokens (tag_at place x) = tokens x + 3
  tag_tokens (level_at place x) = tokens x + 3
  tag_tokens (join_of place parts) = 2 + tag_part_tokens parts

  -- Each part, and the `,` or `)` after it.
  pub tag_part_tokens : TagExpressions → ℕ
  tag_part_tokens no_tag = 0
  tag_part_tokens (and_tag x parts) = tag_tokens x + 1 + tag_part_tokens parts

-- How many of a tag expression's brackets are open at once at most, and of those of a join's operands.
unfoldable mutual
  pub tag_brackets : TagExpression → ℕ
  tag_brackets (level_of name) = 0
  tag_brackets (tag_at place x) = 1 + brackets x
  tag_brackets (level_at place x) = 1 + brackets x
  tag_brackets (join_of place parts) = 1 + tag_part_brackets parts

  pub tag_part_brackets : TagExpressions → ℕ
  tag_part_brackets no_tag = 0
  tag_part_brackets (and_tag x parts) = max (tag_brackets x) (tag_part_brackets parts)

-- Whether an expression that stands in no other is short enough, and a tag expression.
abbrev pub fits : Expression → Bool
fits x = nat_le (tokens x) most_tokens && nat_le (brackets x) most_brackets

-- A tag expression keeps to the limits of one expression: its tokens, and the brackets that are open at once.
abbrev pub tag_fits : TagExpression → Bool
tag_fits x = nat_le (tag_tokens x) most_tokens && nat_le (tag_brackets x) most_brackets
