-- What changes while a program runs.
use Rattle.std.specs.Prelude.{ℕ, Bool, false, not, ◌&&◌, List, [], ◌++◌, nat_eq, if◌then◌else◌}
use Rattle.sap_lattice.specs.Order.{Order}
use Rattle.sap_meaning.specs.Program.{World, is_dynamic, is_memory, below}

-- Where a number or a level is kept: an entity's own; a memory's cell, as the cycle began and as the next one begins;
-- a dynamic memory as a whole, as the cycle began and as the next one begins.
pub data Slot : Type 0 where
  own : (entity : ℕ) → Slot
  start : (memory index : ℕ) → Slot
  next : (memory index : ℕ) → Slot
  start_whole : (memory : ℕ) → Slot
  next_whole : (memory : ℕ) → Slot

-- What changes while a program runs: the number and the level of each slot, and the place of the current child of each
-- state with children and of the root.
pub record Store : Type 0 where
  pub number : Slot → ℕ
  pub level : Slot → ℕ
  pub child : ℕ → ℕ

-- `owner` is the entity to which a slot belongs.
abbrev pub owner : Slot → ℕ
owner (own x) = x
owner (start m i) = m
owner (next m i) = m
owner (start_whole m) = m
owner (next_whole m) = m

-- Where the level of a slot is kept: the cells of a dynamic memory have one level.
abbrev pub home : World → Slot → Slot
home w (own x) = own x
home w (start m i) = if is_dynamic w m then start_whole m else start m i
home w (next m i) = if is_dynamic w m then next_whole m else next m i
home w (start_whole m) = start_whole m
home w (next_whole m) = next_whole m

-- The slot is the own slot of an entity that is no memory, or a cell of a memory. In an enforced entity each such slot
-- has a level of its own.
abbrev pub held : World → Slot → Bool
held w (own x) = not (is_memory w x)
held w (start m i) = is_memory w m
held w (next m i) = is_memory w m
held w _ = false

-- The number in a slot.
abbrev pub number : Slot → Store → ℕ
number z s = s.number z

-- The level of a slot.
abbrev pub level : World → Slot → Store → ℕ
level w z s = s.level (home w z)

-- The current child of a state or of the root, by its place in the group.
abbrev pub child : ℕ → Store → ℕ
child p s = s.child p

-- Two slots are the same.
abbrev pub same_slot : Slot → Slot → Bool
same_slot (own x) (own y) = nat_eq x y
same_slot (start m i) (start n j) = nat_eq m n && nat_eq i j
same_slot (next m i) (next n j) = nat_eq m n && nat_eq i j
same_slot (start_whole m) (start_whole n) = nat_eq m n
same_slot (next_whole m) (next_whole n) = nat_eq m n
same_slot _ _ = false

-- The store with another number in one slot.
unfoldable pub put_number : Slot → ℕ → Store → Store
put_number z n s = record s { number = λ y. if same_slot y z then n else s.number y }

-- The store with another level at one slot.
unfoldable pub put_level : World → Slot → ℕ → Store → Store
put_level w z t s = record s { level = λ y. if same_slot y (home w z) then t else s.level y }

-- The store with another current child of one state.
unfoldable pub put_child : ℕ → ℕ → Store → Store
put_child p n s = record s { child = λ q. if nat_eq q p then n else s.child q }

-- The slots whose level a raise changes: the own slot of each entity of which `hangs` holds, and the next part of each
-- such memory as a whole. `hangs` holds of dynamic entities alone, so no single cell is raised.
abbrev pub raised : (ℕ → Bool) → Slot → Bool
raised hangs (own x) = hangs x
raised hangs (next_whole m) = hangs m
raised hangs _ = false

-- The level of each entity of which `hangs` holds becomes its join with `t`.
unfoldable pub raise : Order → (ℕ → Bool) → ℕ → Store → Store
raise o hangs t s = record s { level = λ z. if raised hangs z then o.join (s.level z) t else s.level z }

-- `lowered` are the slots of the dynamic states below a state.
abbrev pub lowered : World → ℕ → Slot → Bool
lowered w target (own x) = below w target x && is_dynamic w x
lowered w target _ = false

-- Every group under a state returns to its first child, and the dynamic states below it get the bottom.
unfoldable pub reset : World → ℕ → Store → Store
reset w target s = record s {
  level = λ z. if lowered w target z then w.order.bottom else s.level z;
  child = λ p. if nat_eq p target then 0 else if below w target p then 0 else s.child p;
}

-- The slot from which a slot takes its content when a cycle ends: from the next part for the start part of a memory,
-- else from itself.
abbrev pub source : Slot → Slot
source (own x) = own x
source (start m i) = next m i
source (next m i) = next m i
source (start_whole m) = next_whole m
source (next_whole m) = next_whole m

-- The next parts of memories become the start parts.
unfoldable pub settle : Store → Store
settle s = record s { number = λ z. s.number (source z); level = λ z. s.level (source z) }

-- A refusal is a refused check site, with its level.
pub record Refusal : Type 0 where
  pub site : ℕ
  pub level : ℕ

-- What commands leave: a store, and what they refused, in order.
pub record After : Type 0 where
  pub store : Store
  pub refused : List Refusal

-- Nothing changes, and nothing is refused.
abbrev pub stay : Store → After
stay s = record { store = s; refused = [] }

-- One thing after another, with the refusals of both in order.
abbrev pub and_then : After → (Store → After) → After
and_then a f = let b = f a.store in record { store = b.store; refused = a.refused ++ b.refused }
