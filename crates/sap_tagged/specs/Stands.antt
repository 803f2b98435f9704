-- When the numbers of a plain program, on the way through a cycle, stand for a store, and what is known of them after a
-- command.
use Rattle.std.specs.Prelude.{◌≡◌, ◌<◌, ℕ, Bool, true, false, not, ◌&&◌, ◌||◌, ◌==◌, nat_eq, nat_lt, List, [], ◌∷◌, bytes_eq, bit_or, if◌then◌else◌}
use Rattle.sap_maps.specs.Maps.{Name}
use Rattle.sap_meaning.specs.Program.{World, root, is_dynamic, is_input, is_register, is_memory, width, children}
use Rattle.sap_meaning.specs.Store.{Slot, own, start, next, start_whole, next_whole, Store, number, child, Refusal, After}
use Rattle.sap_ir.specs.Guarded.{Going}
use Rattle.sap_tagged.specs.Keys.{Key, value_key, tag_key, seat_key, refused_key, level_key, wire_key, first_key, same}
use Rattle.sap_tagged.specs.Setting.{Setting}
use Rattle.sap_tagged.specs.States.{saved}

-- The entity is an input or a register.
abbrev pub is_value : World → ℕ → Bool
is_value w x = is_input w x || is_register w x

-- Names are apart, codes are codes, and `widths` has the widths of numbers and of cells.
pub record Lawful (d : Setting) (widths : Name → ℕ) : Type 0 where
  pub apart : (a b : Key) → bytes_eq (d.name a) (d.name b) ≡ same a b
  pub joined : (x y : ℕ) → d.code (d.world.order.join x y) ≡ bit_or (d.code x) (d.code y)
  pub order : (x y : ℕ) → (bit_or (d.code x) (d.code y) == d.code y) ≡ d.world.order.le x y
  pub values : (x : ℕ) → is_value d.world x ≡ true → widths (d.name (value_key x)) ≡ width d.world x
  pub cells : (m : ℕ) → is_memory d.world m ≡ true → widths (d.name (value_key m)) ≡ width d.world m

-- The number of a key in the middle of a cycle.
abbrev pub at : Setting → Going → Key → ℕ
at d g a = g.now.value (d.name a)

-- An entity with one tag: all but an enforced memory.
abbrev pub has_tag : World → ℕ → Bool
has_tag w x = nat_lt x (root w) && (not (is_memory w x) || is_dynamic w x)

-- Where it is kept.
abbrev pub tag_slot : World → ℕ → Slot
tag_slot w x = if is_memory w x then next_whole x else own x

-- Memories are read as the cycle began; what is written is in their next parts. The current children have places.
pub record Stands (d : Setting) (g : Going) (s : Store) : Type 0 where
  pub value : (x : ℕ) → is_value d.world x ≡ true → at d g (value_key x) ≡ number (own x) s
  pub tag : (x : ℕ) → has_tag d.world x ≡ true → at d g (tag_key x) ≡ d.code (s.level (tag_slot d.world x))
  pub seat : (p : ℕ) → 0 < children d.world p → at d g (seat_key p) ≡ child p s
  pub seated : (p : ℕ) → 0 < children d.world p → child p s < children d.world p
  pub starts : (m i : ℕ) → is_memory d.world m ≡ true → g.now.cell (d.name (value_key m)) i ≡ number (start m i) s
  pub start_tags : (m i : ℕ) → is_memory d.world m ≡ true → is_dynamic d.world m ≡ false
      → g.now.cell (d.name (tag_key m)) i ≡ d.code (s.level (start m i))
  pub start_tag : (m : ℕ) → saved d.world m ≡ true → at d g (first_key m) ≡ d.code (s.level (start_whole m))
  pub nexts : (m i : ℕ) → is_memory d.world m ≡ true → g.next (d.name (value_key m)) i ≡ number (next m i) s
  pub next_tags : (m i : ℕ) → is_memory d.world m ≡ true → is_dynamic d.world m ≡ false
      → g.next (d.name (tag_key m)) i ≡ d.code (s.level (next m i))

-- The number of a site's first wire after refusals, and of its second, from what they had before.
abbrev pub refused_after : ℕ → List Refusal → ℕ → ℕ
refused_after k [] v = v
refused_after k (r ∷ rs) v = refused_after k rs (if nat_eq r.site k then 1 else v)

-- The code that a site's level wire shows after some refusals: that of the last one at the site.
abbrev pub level_after : (code : ℕ → ℕ) → ℕ → List Refusal → ℕ → ℕ
level_after code k [] v = v
level_after code k (r ∷ rs) v = level_after code k rs (if nat_eq r.site k then code r.level else v)

-- The numbers after what gave `a`, from numbers g: they stand for its store and its refusals, and wires before k are as
-- before.
pub record Turns (d : Setting) (k : ℕ) (g after : Going) (a : After) : Type 0 where
  pub stands : Stands d after a.store
  pub kept : (j : ℕ) → j < k → at d after (wire_key j) ≡ at d g (wire_key j)
  pub refused : (n : ℕ) → at d after (refused_key n) ≡ refused_after n a.refused (at d g (refused_key n))
  pub levels : (n : ℕ) → at d after (level_key n) ≡ level_after d.code n a.refused (at d g (level_key n))
