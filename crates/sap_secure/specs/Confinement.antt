-- What a command does in a context that is not at or below l, as far as can be seen at l.
use Rattle.std.specs.Prelude.{◌≡◌, ℕ, Bool, true, false, ◌||◌, List, [], ◌∷◌, ◌⊎◌, if◌then◌else◌}
use Rattle.sap_meaning.specs.Program.{World, Program, is_dynamic, is_register, is_memory, root, Step, assign, write, retag, retag_cell, go_to, fall_to_child, Command, lone, try, if_else, try_then, case_of, Arms, last_arm, and_arm, Block, end_block, command_then, State, Group}
use Rattle.sap_meaning.specs.Store.{Store, Slot, own, start, next, next_whole, number, level, child, After}
use Rattle.sap_meaning.specs.Walks.{some, body_of}
use Rattle.sap_meaning.specs.Checks.{Home}
use Rattle.sap_meaning.specs.Touches.{touches}
use Rattle.sap_meaning.specs.Does.{within, does, does_child}
use Rattle.sap_meaning.specs.State.{Holds}
use Rattle.sap_meaning.specs.Agree.{High, StatesAgree, seen}
use Rattle.sap_meaning.specs.Fine.{FineProgram, number_of, kids_of, Nth}
use Rattle.sap_meaning.specs.Once.{reaches}

-- The number of the last state of the way, or p if the way is empty: the parent of the state to which the way leads.
abbrev pub last_parent : ℕ → (way : List State) → ℕ
last_parent p [] = p
last_parent p (t ∷ way) = last_parent (number_of t) way

-- The states of the way, and then t, are each the current child of the one before, the first that of p.
abbrev pub Active : (p : ℕ) → Group → Store → (way : List State) → State → Type 0
Active p g s [] t = Nth g (child p s) t
Active p g s (a ∷ way) t = Nth g (child p s) a × Active (number_of a) (kids_of a) s way t

-- `c` stands in a command, or in a list.
abbrev mutual
  pub StandsIn : Command → Command → Type 0
  StandsIn c (lone k) = c ≡ lone k
  StandsIn c (try k hang h) = (c ≡ try k hang h) ⊎ StandsInBlock c h
  StandsIn c (if_else hang e a b) = (c ≡ if_else hang e a b) ⊎ (StandsInBlock c a ⊎ StandsInBlock c b)
  StandsIn c (try_then k hang a b) = (c ≡ try_then k hang a b) ⊎ (StandsInBlock c a ⊎ StandsInBlock c b)
  StandsIn c (case_of hang e arms) = (c ≡ case_of hang e arms) ⊎ StandsInArms c arms

  pub StandsInArms : Command → Arms → Type 0
  StandsInArms c (last_arm b) = StandsInBlock c b
  StandsInArms c (and_arm constants b arms) = StandsInBlock c b ⊎ StandsInArms c arms

  pub StandsInBlock : Command → Block → Type 0
  StandsInBlock c end_block = ⊥
  StandsInBlock c (command_then d ds) = StandsIn c d ⊎ StandsInBlock c ds

-- The step is a `goto`.
abbrev pub is_goto : Step → Bool
is_goto (assign site x e) = false
is_goto (write site m i e) = false
is_goto (retag site x n) = false
is_goto (retag_cell site m j n) = false
is_goto (go_to site target) = true
is_goto (fall_to_child site hang) = false

-- The step is a `fall`.
abbrev pub is_fall : Step → Bool
is_fall (assign site x e) = false
is_fall (write site m i e) = false
is_fall (retag site x n) = false
is_fall (retag_cell site m j n) = false
is_fall (go_to site target) = false
is_fall (fall_to_child site hang) = true

-- Some step of the command is a `goto`.
abbrev pub has_goto : Command → Bool
has_goto c = some (λ k. is_goto k) c

-- Some step of the command is a `fall`.
abbrev pub has_fall : Command → Bool
has_fall c = some (λ k. is_fall k) c

-- The slot of an entity's level; of a memory its next part counts.
abbrev pub level_slot : World → ℕ → Slot
level_slot w x = if is_memory w x then next_whole x else own x

-- The two parts of a memory are equal.
abbrev pub EqualParts : World → ℕ → Store → Type 0
EqualParts w m s = (i : ℕ) → (number (start m i) s ≡ number (next m i) s)
    × (level w (start m i) s ≡ level w (next m i) s)

-- One of the states has a level that is not at or below l.
abbrev pub SomeHigh : World → ℕ → Store → List State → Type 0
SomeHigh w l s [] = ⊥
SomeHigh w l s (t ∷ ts) = High w.order l (level w (own (number_of t)) s) ⊎ SomeHigh w l s ts

-- If the command has a `goto`, the state is not dynamic. If it has a `fall`, the state's current child is no dynamic
-- state with a level at or below l.
abbrev pub Guarded : World → (l : ℕ) → State → Command → Store → Type 0
Guarded w l t c s = (has_goto c ≡ true → is_dynamic w (number_of t) ≡ false)
    × (has_fall c ≡ true → (a : State) → Nth (kids_of t) (child (number_of t) s) a
    → is_dynamic w (number_of a) ≡ true → High w.order l (level w (own (number_of a)) s))

-- A command in the body of a state, and the context in which it runs. `way` are the states above that state, from the
-- top level down.
pub record Situation : Type 0 where
  pub way : List State
  pub state : State
  pub command : Command
  pub context : ℕ

-- Where the command of a situation is.
abbrev pub home_in : Program → Situation → Home
home_in p at =
    record { state = number_of at.state; parent = last_parent (root p.world) at.way; children = kids_of at.state }

-- What the command of a situation does.
abbrev pub done_in : Program → Situation → Store → After
done_in p at s =
    does (within p.world (home_in p at) (does_child p.world (kids_of at.state) (number_of at.state)))
    at.command at.context s

-- The conditions of confinement. The state is on the active path, below the states of its way, and the command is in
-- its body. Neither the context nor the level of any dynamic register or memory that the command touches is at or below
-- l. The last two fields ask for more of memories and of the states above.
pub record Hidden (p : Program) (l : ℕ) (s : Store) (at : Situation) : Type 0 where
  pub holds : Holds p.world s
  pub active : Active (root p.world) p.states s at.way at.state
  pub command : StandsInBlock at.command (body_of at.state)
  pub context : High p.world.order l at.context
  -- No dynamic register or memory that the command touches has a level at or below l; of a memory its next part counts.
  pub touched : (x : ℕ) → (is_register p.world x || is_memory p.world x) ≡ true
      → touches p.world (home_in p at) at.command x ≡ true → High p.world.order l (s.level (level_slot p.world x))
  -- Each enforced memory of which the command writes or retags a cell, itself or in a body that it may fall into, has
  -- equal parts.
  pub parts : (m : ℕ) → is_memory p.world m ≡ true → is_dynamic p.world m ≡ false
      → reaches (kids_of at.state) at.command m ≡ true → EqualParts p.world m s
  -- The state or one above it is not at or below l, or its `goto` and its `fall` are guarded.
  pub above : SomeHigh p.world l s (at.state ∷ at.way) ⊎ Guarded p.world l at.state at.command s

-- Under the conditions of `Hidden`, what a command does leaves a state that agrees at l with the one before, and no
-- refusal has a level at or below l.
abbrev pub Confines : Program → Type 0
Confines p = (l : ℕ) (s : Store) (at : Situation) → Hidden p l s at
    → StatesAgree p l s (done_in p at s).store × (seen p.world.order l (done_in p at s).refused ≡ [])

-- In each fine program, a command in a context that is not at or below l does nothing that shows at l, under the
-- conditions of `Hidden`.
abbrev pub Confinement : Type 0
Confinement = (p : Program) → FineProgram p → Confines p
