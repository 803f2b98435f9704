-- When the numbers of a module's cycle stand for a state of a design and the refusals of a cycle.
use Rattle.std.specs.Prelude.{◌≡◌, ◌<◌, ◌≤◌, ◌⊎◌, ◌↔◌, ℕ, true, false, List, [], ◌∷◌, get_or}
use Rattle.sap_maps.specs.Maps.{Valuation}
use Rattle.sap_meaning.specs.Program.{World, Program, root, children, is_register, is_memory, is_state, is_dynamic}
use Rattle.sap_meaning.specs.Sites.{refused_sites, Sublist, numbers_from}
use Rattle.sap_meaning.specs.Sized as sized
use Rattle.sap_meaning.specs.Store.{Store, own, start, start_whole, number, level, child, Refusal}
use Rattle.sap_net.specs.PortNames.{value_name, tag_name, refused_name, refused_level_name, seat_name, root_seat}

-- A named program has the names of its entities, by number, and the code of each level.
pub record Named : Type 0 where
  pub program : Program
  pub names : List (List ℕ)
  pub code : ℕ → ℕ

-- The name of an entity.
abbrev pub name : Named → ℕ → List ℕ
name d x = get_or d.names x []

-- The entities and the lattice of a design.
abbrev pub world : Named → World
world d = d.program.world

-- The depth of a memory.
abbrev pub depth : Named → ℕ → ℕ
depth d m = sized.depth (world d) m

-- Site `k` is refused, at the level `t`.
abbrev pub IsRefusedAt : List Refusal → (k t : ℕ) → Type 0
IsRefusedAt [] k t = ⊥
IsRefusedAt (r ∷ rs) k t = ((r.site ≡ k) × (r.level ≡ t)) ⊎ IsRefusedAt rs k t

-- There is a refusal at site k.
abbrev pub IsRefused : List Refusal → (k : ℕ) → Type 0
IsRefused rs k = (t : ℕ) × IsRefusedAt rs k t

-- The numbers `v` of a cycle, of registers and memories after its edge and of wires before it, stand for the state `s`
-- and the refusals of the cycle. `sites` is how many check sites the design has.
pub record StandsFor (d : Named) (sites : ℕ) (v : Valuation) (s : Store) (refused : List Refusal) : Type 0 where
  pub register_values : (x : ℕ) → is_register (world d) x ≡ true → v.value (value_name (name d x)) ≡ number (own x) s
  pub register_tags : (x : ℕ) → is_register (world d) x ≡ true
      → v.value (tag_name (name d x)) ≡ d.code (level (world d) (own x) s)
  pub cells : (m i : ℕ) → is_memory (world d) m ≡ true → i < depth d m
      → v.cell (value_name (name d m)) i ≡ number (start m i) s
  pub cell_tags : (m i : ℕ) → is_memory (world d) m ≡ true → is_dynamic (world d) m ≡ false → i < depth d m
      → v.cell (tag_name (name d m)) i ≡ d.code (level (world d) (start m i) s)
  pub memory_tags : (m : ℕ) → is_memory (world d) m ≡ true → is_dynamic (world d) m ≡ true
      → v.value (tag_name (name d m)) ≡ d.code (level (world d) (start_whole m) s)
  pub state_tags : (x : ℕ) → is_state (world d) x ≡ true → x < root (world d)
      → v.value (tag_name (name d x)) ≡ d.code (level (world d) (own x) s)
  pub seats : (p : ℕ) → p < root (world d) → 0 < children (world d) p → v.value (seat_name (name d p)) ≡ child p s
  pub root_seat : v.value root_seat ≡ child (root (world d)) s
  -- Each refusal is at a check site of the design, in the order of the sites, and no site is refused twice.
  pub refused_sites : Sublist (refused_sites refused) (numbers_from 1 sites)
  pub refusals : (k : ℕ) → 1 ≤ k → k ≤ sites → (v.value (refused_name k) ≡ 1) ↔ IsRefused refused k
  pub refusal_levels : (k t : ℕ) → IsRefusedAt refused k t → v.value (refused_level_name k) ≡ d.code t
