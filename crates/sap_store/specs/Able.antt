-- What running needs of a program: that numbers stand for entities, and widths are those that the operators take.
use Rattle.std.specs.Prelude.{◌≡◌, ℕ, ◌<◌, ◌≤◌, ◌^◌, false}
use Rattle.sap_maps.specs.Term.{Term}
use Rattle.sap_meaning.specs.Program.{World, root, is_dynamic, width, place, last, LevelTerm, Step, assign, write, retag, retag_cell, go_to, fall_to_child, Command, Arms, Block, State, state_node, Group, no_node, and_node}
use Rattle.sap_meaning.specs.Walks.{EveryLevel, Every, EveryInArms, EveryInBlock, Asks}
use Rattle.sap_meaning.specs.Expressions.{width_of}
use Rattle.sap_meaning.specs.Sized.{SizedTerm, Indexes}
use Rattle.sap_resolved.specs.Sized.Ranges.{RangedTerm}

-- The widths fit one another, and are from 1 to 64.
pub record AbleTerm (w : World) (e : Term ℕ) : Type 0 where
  pub sized : SizedTerm w e
  pub ranged : RangedTerm w e

-- A tag expression can be run.
abbrev pub AbleLevel : World → LevelTerm → Type 0
AbleLevel w n = EveryLevel (λ level. Unit {0}) (AbleTerm w) n

-- An index of a memory.
pub record AbleIndex (w : World) (m : ℕ) (i : Term ℕ) : Type 0 where
  pub memory : m < root w
  pub index : AbleTerm w i
  pub within : Indexes w m i

-- The number x of an entity and an expression of its width.
pub record AbleValue (w : World) (x : ℕ) (e : Term ℕ) : Type 0 where
  pub entity : x < root w
  pub value : AbleTerm w e
  pub same : width_of w e ≡ width w x

-- A state, with the last one in it and its place.
pub record AbleTarget (w : World) (x : ℕ) : Type 0 where
  pub itself : x ≤ last w x
  pub within : last w x < root w
  pub few : place w x < 2 ^ 32

-- A step can be run.
abbrev pub AbleStep : World → Step → Type 0
AbleStep w (assign site x e) = AbleValue w x e
AbleStep w (write site m i e) = AbleIndex w m i × AbleValue w m e
AbleStep w (retag site x n) = (x < root w) × AbleLevel w n
AbleStep w (retag_cell site m j n) = AbleIndex w m j × (is_dynamic w m ≡ false) × AbleLevel w n
AbleStep w (go_to site target) = AbleTarget w target
AbleStep w (fall_to_child site hang) = Unit {0}

-- A command can be run, with all commands in it.
unfoldable pub AbleCommand : World → Command → Type 0
AbleCommand w c = Every (Asks (AbleStep w) (AbleTerm w)) c

-- The arms of a `case` can be run.
unfoldable pub AbleArms : World → Arms → Type 0
AbleArms w arms = EveryInArms (Asks (AbleStep w) (AbleTerm w)) arms

-- A block can be run.
unfoldable pub AbleBlock : World → Block → Type 0
AbleBlock w b = EveryInBlock (Asks (AbleStep w) (AbleTerm w)) b

-- A state's body can be run, and those of its descendants.
unfoldable mutual
  pub AbleState : World → State → Type 0
  AbleState w (state_node s b g) = (s < root w) × AbleBlock w b × AbleGroup w g

  pub AbleGroup : World → Group → Type 0
  AbleGroup w no_node = Unit {0}
  AbleGroup w (and_node t g) = AbleState w t × AbleGroup w g
