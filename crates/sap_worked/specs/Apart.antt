-- States that differ in one thing alone, and don't agree at left.
use Rattle.sap_meaning.specs.Store.{Store, start, next, start_whole, next_whole, put_level, put_number}
use Rattle.sap_meaning.specs.Agree.{StatesAgree}
use Rattle.sap_worked.specs.Rows.{low, left, right, high}
use Rattle.sap_worked.specs.Ground.{register_x, register_y, memory_m, memory_k, state_p, state_c, state_f, state_d, state_q, the_root, ground, ground_world, calm, slot_has, register_has, cell_has, level_is, child_is}

-- The two stores don't agree at or below `left`.
abbrev pub Apart : Store → Store → Type 0
Apart s t = StatesAgree ground left s t → ⊥

-- Stores with a different number of a register, at a level at or below left in both, don't agree.
abbrev pub RegisterNumber : Type 0
RegisterNumber = Apart (register_has register_x 5 left calm) (register_has register_x 6 left calm)

-- Stores with a different level of a register, at or below left in both, don't agree.
abbrev pub RegisterLevel : Type 0
RegisterLevel = Apart (register_has register_x 5 low calm) (register_has register_x 5 left calm)

-- Stores with a register whose level is at or below left in one alone don't agree.
abbrev pub RegisterSeenInOne : Type 0
RegisterSeenInOne = Apart (register_has register_x 5 left calm) (register_has register_x 5 right calm)

-- Stores with a different number of a cell of an enforced memory don't agree.
abbrev pub CellNumber : Type 0
CellNumber = Apart calm (slot_has (start memory_k 1) 5 left calm)

-- Stores with a different next number of a cell of an enforced memory, at a level at or below left in both, don't
-- agree.
abbrev pub NextCellNumber : Type 0
NextCellNumber = Apart calm (slot_has (next memory_k 1) 5 left calm)

-- Stores with a different number of one cell of a dynamic memory don't agree.
abbrev pub MemoryNumber : Type 0
MemoryNumber = Apart calm (put_number (start memory_m 1) 5 calm)

-- Stores with a different next number of a dynamic memory's cell don't agree.
abbrev pub NextMemoryNumber : Type 0
NextMemoryNumber = Apart calm (put_number (next memory_m 1) 5 calm)

-- Stores with a different level of a dynamic memory, at or below left in both, don't agree.
abbrev pub MemoryLevel : Type 0
MemoryLevel = Apart calm (put_level ground_world (start_whole memory_m) left calm)

-- Stores with a different next level of a dynamic memory don't agree.
abbrev pub NextMemoryLevel : Type 0
NextMemoryLevel = Apart calm (put_level ground_world (next_whole memory_m) left calm)

-- Stores with a dynamic memory whose level is at or below left in one alone don't agree.
abbrev pub MemorySeenInOne : Type 0
MemorySeenInOne = Apart calm (cell_has memory_m 0 0 right calm)

-- Stores with a different level of an enforced register don't agree, where its authority is at or below left and the
-- level is so in neither.
abbrev pub EnforcedRegisterLevel : Type 0
EnforcedRegisterLevel = Apart (level_is register_y right calm) (level_is register_y high calm)

-- Stores with a different level of an enforced memory's cell don't agree, where the authority is at or below left and
-- the level is so in neither.
abbrev pub EnforcedCellLevel : Type 0
EnforcedCellLevel = Apart (cell_has memory_k 0 0 right calm)
    (slot_has (start memory_k 0) 0 high (cell_has memory_k 0 0 right calm))

-- Stores with a different next level of an enforced memory's cell don't agree.
abbrev pub NextEnforcedCellLevel : Type 0
NextEnforcedCellLevel = Apart (cell_has memory_k 0 0 right calm)
    (slot_has (next memory_k 0) 0 high (cell_has memory_k 0 0 right calm))

-- Stores with a different level of an enforced state don't agree, where its authority is at or below left, though the
-- state isn't active.
abbrev pub InactiveStateLevel : Type 0
InactiveStateLevel = Apart (level_is state_q right calm) (level_is state_q high calm)

-- Stores with a different level of an active, enforced state don't agree, where its authority is at or below left and
-- the level is so in neither.
abbrev pub ActiveStateLevel : Type 0
ActiveStateLevel = Apart (child_is state_p 1 calm) (level_is state_d high (child_is state_p 1 calm))

-- Stores with a different current child of the root don't agree, where both are at or below left.
abbrev pub OtherChild : Type 0
OtherChild = Apart calm (child_is the_root 1 calm)

-- Stores with a different current child of an active state, at or below left in both, don't agree.
abbrev pub OtherChildBelow : Type 0
OtherChildBelow = Apart calm (child_is state_c 1 calm)

-- Stores with a different level of a current child, at or below left in both, don't agree.
abbrev pub ChildLevel : Type 0
ChildLevel = Apart calm (level_is state_c left calm)

-- Stores with a different level of a current child further down the active path, at or below left in both, don't agree.
abbrev pub ChildLevelBelow : Type 0
ChildLevelBelow = Apart calm (level_is state_f left calm)

-- Stores with a current child whose level is at or below left in one alone don't agree.
abbrev pub ChildSeenInOne : Type 0
ChildSeenInOne = Apart calm (level_is state_c right calm)

-- Stores whose current children differ, one at low and the other at right, don't agree.
abbrev pub OtherChildSeenInOne : Type 0
OtherChildSeenInOne = Apart calm (child_is state_p 1 calm)
