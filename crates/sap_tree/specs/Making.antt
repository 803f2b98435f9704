-- Trees made by hand, for worked examples and generated designs.
use Rattle.std.specs.Prelude.{ℕ, List, [], ◌∷◌, None}
use Rattle.sap_text.specs.declared.place.Place.{Place}
use Rattle.sap_tree.specs.Bare.{nowhere, no_spot}
use Rattle.sap_tree.specs.Syntax.{Expression, literal, variable, Command, CommandBlock, command_block, CommandList, no_command, and_command, StateTree, state_node, StateList, no_state, and_state}
use Rattle.sap_tree.specs.declared.name.Mention.{Mention}
use Rattle.sap_tree.specs.declared.place.Spot.{Spot}
use Rattle.sap_tree.specs.declared.syntax.Kind.{Kind}
use Rattle.sap_tree.specs.declared.syntax.Kind.TheVariants.{Enforced}
use Rattle.sap_tree.specs.declared.syntax.Numeral.{Numeral}

-- In a text: a place, and a place in the first line.
abbrev pub on : (line column : ℕ) → Place
on line column = record { line = line; column = column }

-- A place in the first line.
abbrev pub at : (column : ℕ) → Place
at column = on 1 column

-- The places of an expression that begins at its own token.
abbrev pub spot : Place → Spot
spot place = record { first = place; at = place }

-- A name that is mentioned at a place.
abbrev pub mention : Place → List ℕ → Mention
mention place name = record { place = place; name = name }

-- A number that stands at a place.
abbrev pub numeral_at : Place → ℕ → Numeral
numeral_at place n = record { place = place; value = n }

-- Where places don't matter.
abbrev pub named : List ℕ → Mention
named name = mention nowhere name

-- A number whose place doesn't matter.
abbrev pub numeral : ℕ → Numeral
numeral n = numeral_at nowhere n

-- The expression that is this number, without a width.
abbrev pub number : ℕ → Expression
number n = literal no_spot n

-- The expression that reads the variable of this name.
abbrev pub read : List ℕ → Expression
read name = variable no_spot name

-- The kind of an entity that is enforced at a level and has no authority of its own.
abbrev pub enforced : (level : List ℕ) → Kind
enforced level = Enforced (named level) None

-- The commands of a list, as a tree.
abbrev pub commands : List Command → CommandList
commands [] = no_command
commands (c ∷ cs) = and_command c (commands cs)

-- A block of these commands.
abbrev pub block : List Command → CommandBlock
block cs = command_block (commands cs) nowhere

-- The text `state NAME KIND { .. and its children }`.
abbrev pub state : (name : List ℕ) → Kind → List Command → StateList → StateTree
state name kind body children = state_node nowhere (named name) kind (block body) children

-- The states of a list, as a tree.
abbrev pub states : List StateTree → StateList
states [] = no_state
states (s ∷ ss) = and_state s (states ss)
