-- States that differ, and agree at a level.
use Rattle.sap_meaning.specs.Store.{Store, own}
use Rattle.sap_meaning.specs.State.{Resting}
use Rattle.sap_meaning.specs.Agree.{StatesAgree}
use Rattle.sap_worked.specs.Rows.{low, left, right, high}
use Rattle.sap_worked.specs.Ground.{input_a, register_x, register_y, register_z, memory_m, memory_k, memory_h, state_p, state_c, state_f, state_g, state_i, state_j, state_q, ground, ground_world, calm, slot_has, register_has, cell_has, level_is, child_is}

-- Register x is at right or at high, with another number: neither level is at or below left.
abbrev pub RegistersAbove : Type 0
RegistersAbove = StatesAgree ground left (register_has register_x 5 right calm) (register_has register_x 6 high calm)

-- Register y, under low, has the same level in both, which isn't at or below left. The authority of z, right, isn't at
-- or below left, so its levels may differ.
abbrev pub EnforcedRegistersAbove : Type 0
EnforcedRegistersAbove = StatesAgree ground left
    (register_has register_y 5 right (register_has register_z 5 right calm))
    (register_has register_y 6 right (register_has register_z 6 high calm))

-- A cell of k, under low, has the same level in both, which isn't at or below left. One of h, whose authority right
-- isn't at or below left, may differ in its level too.
abbrev pub CellsAbove : Type 0
CellsAbove = StatesAgree ground left
    (cell_has memory_k 0 5 high (cell_has memory_h 0 5 right calm))
    (cell_has memory_k 0 6 high (cell_has memory_h 0 6 high calm))

-- The one level of m isn't at or below left in either.
abbrev pub MemoriesAbove : Type 0
MemoriesAbove = StatesAgree ground left (cell_has memory_m 0 5 right calm) (cell_has memory_m 1 6 high calm)

-- J's authority, right, isn't at or below left.
abbrev pub StateLevelsAbove : Type 0
StateLevelsAbove = StatesAgree ground left (level_is state_j right calm) (level_is state_j high calm)

-- P's current child is D, at right, or E, at high: of the active path P alone is seen.
abbrev pub ChildrenAbove : Type 0
ChildrenAbove = StatesAgree ground left (child_is state_p 1 calm) (child_is state_p 2 calm)

-- C is at right or at high: it isn't seen, and nothing is asked of what is below it.
abbrev pub BelowTheSeen : Type 0
BelowTheSeen = StatesAgree ground left (level_is state_c right calm)
    (level_is state_c high (level_is state_f left (child_is state_c 1 calm)))

-- Q isn't active, so it may have any current child.
abbrev pub InactiveChildren : Type 0
InactiveChildren = StatesAgree ground left calm (child_is state_q 1 calm)

-- G and I aren't active, and they are dynamic, so they may have any level.
abbrev pub InactiveLevels : Type 0
InactiveLevels = StatesAgree ground left calm (level_is state_g left (level_is state_i high calm))

-- Inputs belong to no state.
abbrev pub InputsAside : Type 0
InputsAside = StatesAgree ground left calm (slot_has (own input_a) 5 left calm)

-- One of two states between cycles that differ nearly everywhere.
abbrev pub one_state : Store
one_state = register_has register_x 5 right
    (register_has register_z 7 right (cell_has memory_m 0 5 high (child_is state_p 1 (child_is state_q 1 calm))))

-- The other of two states between cycles that differ nearly everywhere.
abbrev pub other_state : Store
other_state = register_has register_x 6 high
    (cell_has memory_m 1 6 right (cell_has memory_h 0 6 right
    (child_is state_p 2 (child_is state_c 1 (level_is state_g left calm)))))

-- The two states agree at low and at left. They don't agree at right, where x is seen in one alone, nor at high, where
-- all is seen.
pub record AgreeBelow : Type 0 where
  pub one_rests : Resting ground_world one_state
  pub other_rests : Resting ground_world other_state
  pub at_low : StatesAgree ground low one_state other_state
  pub at_left : StatesAgree ground left one_state other_state
  pub not_at_right : StatesAgree ground right one_state other_state → ⊥
  pub not_at_high : StatesAgree ground high one_state other_state → ⊥
