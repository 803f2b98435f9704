-- The limits on a design's text: what is counted, by the roles of the tokens, and which limit a token breaks.
use Rattle.std.specs.Prelude.{ℕ, ◌+◌, ◌-◌, if◌then◌else◌, nat_lt, length, Option, Some, None}
use Rattle.sap_lex.specs.declared.limit.Limit.TheVariants as l
use Rattle.sap_lex.specs.declared.limit.Limit.{Limit}
use Rattle.sap_parse.specs.declared.role.Role.TheVariants as r
use Rattle.sap_parse.specs.declared.role.Role.{Role}
use Rattle.sap_lex.specs.declared.token.Kind.TheVariants as k
use Rattle.sap_lex.specs.declared.token.Kind.{Kind}
use Rattle.sap_lex.specs.declared.token.Token.{Token}
use Rattle.sap_tree.specs.Limits.{most_name_bytes, most_inputs, most_registers, most_memories, most_states, most_nesting, most_commands, most_blocks, most_brackets, most_tokens}

-- A text has at most this many bytes.
abbrev pub most_bytes : ℕ
most_bytes = 1048576

-- What the tokens so far count: how many inputs, registers, memories, states and commands they begin; and how many
-- tokens and open brackets the outermost expression or tag expression has.
pub record Counts : Type 0 where
  pub inputs : ℕ
  pub registers : ℕ
  pub memories : ℕ
  pub states : ℕ
  pub commands : ℕ
  pub tokens : ℕ
  pub brackets : ℕ

-- Nothing has been counted before the first token.
abbrev pub none_yet : Counts
none_yet = record { inputs = 0; registers = 0; memories = 0; states = 0; commands = 0; tokens = 0; brackets = 0 }

-- The counts after a token outside of expressions: tokens and brackets are counted from 0 again. There is such a token
-- between any two outermost expressions.
abbrev pub outside : Counts → Counts
outside c = record c { tokens = 0; brackets = 0 }

-- The counts after one more token, by its role.
abbrev pub tally : Counts → Role → Token → Counts
tally c r.Plain t = outside c
tally c r.Input t = record (outside c) { inputs = c.inputs + 1 }
tally c r.Register t = record (outside c) { registers = c.registers + 1 }
tally c r.Memory t = record (outside c) { memories = c.memories + 1 }
tally c (r.State depth) t = record (outside c) { states = c.states + 1 }
tally c (r.Command depth) t = record (outside c) { commands = c.commands + 1 }
tally c r.Inner t = record c { tokens = c.tokens + 1 }
tally c r.Opening t = record c { tokens = c.tokens + 1; brackets = c.brackets + 1 }
tally c r.Closing t = record c { tokens = c.tokens + 1; brackets = c.brackets - 1 }

-- `above` is the limit if there are more than it allows.
abbrev pub above : ℕ → ℕ → Limit → Option Limit
above most n limit = if nat_lt most n then Some limit else None

infixr 12 ◌or_else◌
-- The first limit if there is one, else the second.
abbrev pub ◌or_else◌ : Option Limit → Option Limit → Option Limit
(Some limit) or_else other = Some limit
None or_else other = other

-- The limit on names, if the token is a name that is too long.
abbrev pub breach_of_name : Kind → Option Limit
breach_of_name (k.Name name) = above most_name_bytes (length name) l.Name
breach_of_name _ = None

-- The limit on counts and depths that a token in this role breaks, if it breaks one.
abbrev pub breach_of_role : Counts → Role → Option Limit
breach_of_role c r.Plain = None
breach_of_role c r.Input = above most_inputs (c.inputs + 1) l.Inputs
breach_of_role c r.Register = above most_registers (c.registers + 1) l.Registers
breach_of_role c r.Memory = above most_memories (c.memories + 1) l.Memories
breach_of_role c (r.State depth) = above most_states (c.states + 1) l.States or_else above most_nesting depth l.Nesting
breach_of_role c (r.Command depth) = above most_commands (c.commands + 1) l.Commands or_else above
    most_blocks depth l.Blocks
breach_of_role c r.Inner = above most_tokens (c.tokens + 1) l.Expression
breach_of_role c r.Opening = above most_brackets (c.brackets + 1) l.Brackets or_else above most_tokens
    (c.tokens + 1) l.Expression
breach_of_role c r.Closing = above most_tokens (c.tokens + 1) l.Expression

-- `breach` is the limit that this token breaks after tokens of these counts, the first of several in the order of the
-- limits.
abbrev pub breach : Counts → Role → Token → Option Limit
breach c role t = breach_of_name t.kind or_else breach_of_role c role
