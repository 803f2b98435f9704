-- The limits of a design.
use Rattle.std.specs.Prelude.{ℕ}

-- A name has at most this many bytes.
abbrev pub most_name_bytes : ℕ
most_name_bytes = 40

-- A design has at most 64 inputs.
abbrev pub most_inputs : ℕ
most_inputs = 64

-- A design has at most 256 registers.
abbrev pub most_registers : ℕ
most_registers = 256

-- A design has at most 16 memories.
abbrev pub most_memories : ℕ
most_memories = 16

-- A design has at most 256 states.
abbrev pub most_states : ℕ
most_states = 256

-- States are nested in at most this many levels, the top-level states being one.
abbrev pub most_nesting : ℕ
most_nesting = 16

-- All bodies together have at most this many commands, those in blocks counted.
abbrev pub most_commands : ℕ
most_commands = 4096

-- Commands are nested in at most this many levels, those in no block being one.
abbrev pub most_blocks : ℕ
most_blocks = 64

-- At most this many brackets are open at once in an outermost expression or tag expression.
abbrev pub most_brackets : ℕ
most_brackets = 64

-- An outermost expression or tag expression has at most this many tokens.
abbrev pub most_tokens : ℕ
most_tokens = 256

-- Arms of a `case`: a text within the limit on its bytes has fewer.
abbrev pub most_arms : ℕ
most_arms = 1048576
