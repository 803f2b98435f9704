-- Programs in which each name is that of an entity of the kind that its place asks for. A state is named by a number
-- below the root's, past which every number would pass for one.
use Rattle.std.specs.Prelude.{◌≡◌, ◌<◌, true, ◌||◌}
use Rattle.sap_meaning.specs.Program.{World, root, is_register, is_memory, is_state, Step, assign, write, retag, retag_cell, go_to, fall_to_child, Command, State, Group}
use Rattle.sap_meaning.specs.Walks.{EveryInBlock, Asks, EveryBody, EveryBodyIn}
use Rattle.sap_meaning.specs.Fine.{FineTerm, FineLevel}

-- The targets of a step, and all names in its expressions, are of the kind that their places ask for.
abbrev pub WellNamedStep : World → Step → Type 0
WellNamedStep w (assign site x e) = (is_register w x ≡ true) × FineTerm w e
WellNamedStep w (write site m i e) = (is_memory w m ≡ true) × FineTerm w i × FineTerm w e
WellNamedStep w (retag site x n) = ((is_register w x || is_state w x) ≡ true) × (x < root w) × FineLevel w n
WellNamedStep w (retag_cell site m j n) = (is_memory w m ≡ true) × FineTerm w j × FineLevel w n
WellNamedStep w (go_to site target) = (is_state w target ≡ true) × (target < root w)
WellNamedStep w (fall_to_child site hang) = Unit {0}

-- The names of a command itself, without its blocks, are of the kinds that their places ask for.
abbrev pub WellNamedCommand : World → Command → Type 0
WellNamedCommand w c = Asks (WellNamedStep w) (FineTerm w) c

-- The names in a state's body and in those of its descendants are of the kinds that their places ask for.
abbrev pub WellNamedState : World → State → Type 0
WellNamedState w t = EveryBody (EveryInBlock (WellNamedCommand w)) t

-- The names in the bodies of a group's states and of their descendants are of the kinds that their places ask for.
abbrev pub WellNamedGroup : World → Group → Type 0
WellNamedGroup w g = EveryBodyIn (EveryInBlock (WellNamedCommand w)) g
