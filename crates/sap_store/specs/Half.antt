-- One part of a memory, as the code keeps it.
use Rattle.std.specs.Prelude.{ℕ, List, get_or, slice_set}
use Rattle.sap_store.specs.declared.cell.Cell.{Cell}

-- The cells, and the level that they have where the memory is dynamic.
pub record Cells : Type 0 where
  pub cells : List Cell
  pub whole : ℕ

-- A cell that was never written.
abbrev pub no_cell : (level : ℕ) → Cell
no_cell t = record { number = 0; level = t }

-- Past the last cell the level is t.
abbrev pub cell_at : (t : ℕ) → Cells → ℕ → Cell
cell_at t h i = get_or h.cells i (no_cell t)

-- A memory's cells with another number in one.
abbrev pub with_number : (i number : ℕ) → Cells → Cells
with_number i n h = record h {
  cells = slice_set h.cells i
      (record { number = n; level = (get_or h.cells i (no_cell 0)).level });
}

-- A memory's cells with another level of one.
abbrev pub with_level : (i level : ℕ) → Cells → Cells
with_level i t h = record h {
  cells = slice_set h.cells i
      (record { number = (get_or h.cells i (no_cell 0)).number; level = t });
}
