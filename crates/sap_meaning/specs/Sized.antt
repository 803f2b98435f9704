-- The widths of a program: what has a width fits where it stands.
use Rattle.std.specs.Prelude.{◌≡◌, ℕ, ◌<◌, ◌^◌, List}
use Rattle.std.specs.List.{AllByRecursion}
use Rattle.sap_maps.specs.Term.{Term, EveryRead, TermFits}
use Rattle.sap_meaning.specs.Program.{World, Program, entity, width, depth_of, LevelTerm, Step, assign, write, retag, retag_cell, go_to, fall_to_child, Command, lone, try, if_else, try_then, case_of, State, Group}
use Rattle.sap_meaning.specs.Walks.{EveryLevel, EveryInBlock, arm_constants, EveryBody, EveryBodyIn}
use Rattle.sap_meaning.specs.Expressions.{width_of}

-- The number of cells of a memory.
abbrev pub depth : World → ℕ → ℕ
depth w m = depth_of (entity w m).kind

-- An index has as many bits as its memory's depth asks for.
abbrev pub Indexes : World → ℕ → Term ℕ → Type 0
Indexes w m i = 2 ^ width_of w i ≡ depth w m

-- Each index in a term has as many bits as its memory's depth asks for.
abbrev pub Indexed : World → Term ℕ → Type 0
Indexed w e = EveryRead (λ x. Unit {0}) (Indexes w) e

-- In an expression each operand has the width that its operator takes, each constant is within its width, and each
-- index has as many bits as its memory's depth asks for.
abbrev pub SizedTerm : World → Term ℕ → Type 0
SizedTerm w e = TermFits (width w) e × Indexed w e

-- The widths of each expression in a tag expression fit.
abbrev pub SizedLevel : World → LevelTerm → Type 0
SizedLevel w n = EveryLevel (λ level. Unit {0}) (SizedTerm w) n

-- The widths of each expression in a step fit, and the assigned value has the target's width.
abbrev pub SizedStep : World → Step → Type 0
SizedStep w (assign site x e) = SizedTerm w e × (width_of w e ≡ width w x)
SizedStep w (write site m i e) = SizedTerm w i × Indexes w m i × SizedTerm w e × (width_of w e ≡ width w m)
SizedStep w (retag site x n) = SizedLevel w n
SizedStep w (retag_cell site m j n) = SizedTerm w j × Indexes w m j × SizedLevel w n
SizedStep w (go_to site target) = Unit {0}
SizedStep w (fall_to_child site hang) = Unit {0}

-- Numbers that a width can hold.
abbrev pub AreWithin : (width : ℕ) → List ℕ → Type 0
AreWithin u ns = AllByRecursion (λ n. n < 2 ^ u) ns

-- The widths of a command itself, without its blocks, fit: those of its step or of its expression. A condition has one
-- bit, and the constants of a `case` are within the width of its number.
abbrev pub SizedCommand : World → Command → Type 0
SizedCommand w (lone k) = SizedStep w k
SizedCommand w (try k hang h) = SizedStep w k
SizedCommand w (if_else hang e a b) = SizedTerm w e × (width_of w e ≡ 1)
SizedCommand w (try_then k hang a b) = SizedStep w k
SizedCommand w (case_of hang e arms) = SizedTerm w e × AllByRecursion (AreWithin (width_of w e)) (arm_constants arms)

-- The widths of each command fit, in a state's body and in those of its descendants.
abbrev pub SizedState : World → State → Type 0
SizedState w t = EveryBody (EveryInBlock (SizedCommand w)) t

-- The widths of each command fit, in the bodies of a group's states and of their descendants.
abbrev pub SizedGroup : World → Group → Type 0
SizedGroup w g = EveryBodyIn (EveryInBlock (SizedCommand w)) g

-- All widths of a program fit, start numbers fit their registers, and declared levels are levels.
pub record SizedProgram (p : Program) : Type 0 where
  pub states : SizedGroup p.world p.states
  pub initials : (x : ℕ) → (entity p.world x).initial < 2 ^ width p.world x
  pub declared : (x : ℕ) → (entity p.world x).declared < p.world.order.count
