-- What an entity starts with, as the code keeps it.
use Rattle.std.specs.Prelude.{ℕ, replicate, if◌then◌else◌}
use Rattle.sap_meaning.specs.Program.{depth_of}
use Rattle.sap_program.specs.declared.program.Entity.{Entity}
use Rattle.sap_program.specs.Views.{kind_of_sort}
use Rattle.sap_store.specs.declared.entry.Entry as kept
use Rattle.sap_store.specs.Half.{Cells, no_cell}

-- The level that an entity starts with.
abbrev pub start_level : (bottom : ℕ) → Entity → ℕ
start_level b e = if e.dynamic then b else e.declared

-- The cells that a memory starts with: 0, at the memory's level.
abbrev pub start_cells : (bottom : ℕ) → Entity → Cells
start_cells b e = record {
  cells = replicate (depth_of (kind_of_sort e.sort)) (no_cell (start_level b e));
  whole = start_level b e;
}

-- All that is kept of an entity at the start.
abbrev pub started : (bottom : ℕ) → Entity → kept.Entry
started b e = record {
  own = record { number = e.initial; level = start_level b e };
  start = start_cells b e;
  next = start_cells b e;
}
