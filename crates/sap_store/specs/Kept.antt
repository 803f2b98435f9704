-- What the code's store is seen as: numbers and levels by slot, and current children.
use Rattle.std.specs.Prelude.{◌≡◌, ℕ, suc, ◌<◌, ◌^◌, List, [], length, get_or}
use Rattle.sap_meaning.specs.Program.{World, root, width}
use Rattle.sap_meaning.specs.Store.{Slot, own, start, next, start_whole, next_whole, owner, number}
use Rattle.sap_meaning.specs.Store as meaning
use Rattle.sap_meaning.specs.Cycle.{Tagged}
use Rattle.sap_meaning.specs.State.{first_level}
use Rattle.sap_meaning.specs.Sized.{depth}
use Rattle.sap_store.specs.declared.entry.Entry.{Entry}
use Rattle.sap_store.specs.declared.store.Store.{Store}
use Rattle.sap_store.specs.Half.{Cells, no_cell, cell_at}

-- The cells of what is no memory.
abbrev pub no_half : (level : ℕ) → Cells
no_half t = record { cells = []; whole = t }

-- A number that is no entity has the number 0 and the bottom everywhere.
abbrev pub no_entry : (level : ℕ) → Entry
no_entry t = record { own = no_cell t; start = no_half t; next = no_half t }

-- An input to which nothing was given.
abbrev pub no_input : (level : ℕ) → Tagged
no_input t = record { number = 0; level = t }

-- What is kept of the entity of a number.
abbrev pub entry_at : World → List Entry → ℕ → Entry
entry_at w es x = get_or es x (no_entry w.order.bottom)

-- The level of a memory's cells past the last one.
abbrev pub past : World → ℕ → ℕ
past w m = first_level w (own m)

-- The number in a slot, as it is kept.
abbrev pub number_in : World → List Entry → Slot → ℕ
number_in w es (own x) = (entry_at w es x).own.number
number_in w es (start m i) = (cell_at (past w m) (entry_at w es m).start i).number
number_in w es (next m i) = (cell_at (past w m) (entry_at w es m).next i).number
number_in w es (start_whole m) = 0
number_in w es (next_whole m) = 0

-- The level of a slot, as it is kept.
abbrev pub level_in : World → List Entry → Slot → ℕ
level_in w es (own x) = (entry_at w es x).own.level
level_in w es (start m i) = (cell_at (past w m) (entry_at w es m).start i).level
level_in w es (next m i) = (cell_at (past w m) (entry_at w es m).next i).level
level_in w es (start_whole m) = (entry_at w es m).start.whole
level_in w es (next_whole m) = (entry_at w es m).next.whole

-- The store that what is kept stands for.
unfoldable pub store_of : World → Store → meaning.Store
store_of w s = record {
  number = number_in w s.entries.items;
  level = level_in w s.entries.items;
  child = λ p. get_or s.current.items p 0;
}

-- An entry for each entity, as many cells in both parts of a memory as it is deep, and a place for each entity and the
-- root.
pub record Shaped (w : World) (s : Store) : Type 0 where
  pub entries : length s.entries.items ≡ root w
  pub starts : (m : ℕ) → length (entry_at w s.entries.items m).start.cells ≡ depth w m
  pub nexts : (m : ℕ) → length (entry_at w s.entries.items m).next.cells ≡ depth w m
  pub seats : length s.current.items ≡ suc (root w)

-- And each number fits its width.
pub record Ready (w : World) (s : Store) : Type 0 where
  pub shaped : Shaped w s
  pub numbers : (z : Slot) → number z (store_of w s) < 2 ^ width w (owner z)

-- What the k-th input gets.
abbrev pub input_in : World → List Tagged → ℕ → Tagged
input_in w inputs k = get_or inputs k (no_input w.order.bottom)
