-- The command line that `clap` reads: a subcommand for each row of the table.
use Rattle.std.specs.Prelude.{ℕ, List, [], map, codes, true, false}
use Rattle.clap.specs.Words.{App, Rule, Shape, new_rule}
use Rattle.clap.specs.Simple.{new_shape}
use Rattle.sap_words.specs.Words.{Row, commands}

-- An operand, by its name.
abbrev pub operand : List ℕ → Rule
operand id = record (new_rule id) { required = true }

-- A command with its operands.
abbrev pub command : (name : List ℕ) → (operands : List (List ℕ)) → Shape
command name operands = record (new_shape name) { rules = map operand operands }

-- It alone.
abbrev pub alone : Shape → App
alone s = record { top = s; subs = [] }

-- No option, no call for help, and no command yet.
abbrev pub bare : App
bare = alone (record (new_shape (codes "sapper")) {
  no_binary_name = true;
  disable_help_flag = true;
  disable_help_subcommand = true;
})

-- With each command of the table.
abbrev pub parser : App
parser = record {
  top = record bare.top { is_leaf = false };
  subs = map (λ (r : Row). command r.name r.operands) commands;
}
