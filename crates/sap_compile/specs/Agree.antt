-- When the runs of a design's module agree at a level l, and what the numbers show of it.
use Rattle.std.specs.Prelude.{◌≡◌, ◌<◌, ◌≤◌, ◌↔◌, ℕ, true, false, List, map}
use Rattle.std.specs.List.{AllZip}
use Rattle.sap_lattice.specs.Levels.{Levels, order_of}
use Rattle.sap_maps.specs.Maps.{Valuation}
use Rattle.sap_tree.specs.Syntax.{DesignTree}
use Rattle.sap_meaning.specs.Program.{root, children, is_register, is_memory, is_state, is_dynamic, authority}
use Rattle.sap_meaning.specs.Store.{Store, After}
use Rattle.sap_meaning.specs.Cycle.{Tagged}
use Rattle.sap_meaning.specs.State.{Resting, Fits, StreamFits}
use Rattle.sap_meaning.specs.Agree.{Low, ActiveState, path_from, PathsRelated, StatesAgree, RefusalsAgree, StreamsAgree}
use Rattle.sap_meaning.specs.Codes.{IsLowCode, LookAlike}
use Rattle.sap_net.specs.Net.{Net}
use Rattle.sap_net.specs.Runs.{IsRun, observed}
use Rattle.sap_net.specs.PortNames.{value_name, tag_name, refused_name, refused_level_name, seat_name, root_seat}
use Rattle.sap_interface.specs.StandsFor.{Named, name, world, depth, StandsFor}
use Rattle.sap_interface.specs.Compiled.{coded_stream}
use Rattle.sap_interface.specs.Designs.{named_of, site_count_of}

-- The store is a state of the design between two cycles: it keeps what every such state keeps, its numbers are within
-- their widths, and its levels are the lattice's.
pub record IsState (d : Named) (s : Store) : Type 0 where
  pub rests : Resting (world d) s
  pub fits : Fits (world d) s

-- Two cycles of a module agree at `l`: they stand for states of the design, and for refusals, that agree at `l`.
-- `CyclesLookAlike` gives what the module's numbers themselves show.
pub record CyclesAgree (d : Named) (sites l : ℕ) (v u : Valuation) : Type 0 where
  pub one : After
  pub other : After
  pub one_stands : StandsFor d sites v one.store one.refused
  pub other_stands : StandsFor d sites u other.store other.refused
  pub one_is_state : IsState d one.store
  pub other_is_state : IsState d other.store
  pub states : StatesAgree d.program l one.store other.store
  pub refusals : RefusalsAgree (world d).order l one.refused other.refused

-- The value of a register in a cycle's numbers.
abbrev pub shown_value : Named → Valuation → ℕ → ℕ
shown_value d v x = v.value (value_name (name d x))

-- The tag of a register, a dynamic memory or a state in a cycle's numbers.
abbrev pub shown_tag : Named → Valuation → ℕ → ℕ
shown_tag d v x = v.value (tag_name (name d x))

-- The value of a memory's cell in a cycle's numbers.
abbrev pub shown_cell : Named → Valuation → (m i : ℕ) → ℕ
shown_cell d v m i = v.cell (value_name (name d m)) i

-- The tag of a memory's cell in a cycle's numbers.
abbrev pub shown_cell_tag : Named → Valuation → (m i : ℕ) → ℕ
shown_cell_tag d v m i = v.cell (tag_name (name d m)) i

-- The place of a state's current child in a cycle's numbers.
abbrev pub shown_child : Named → Valuation → ℕ → ℕ
shown_child d v p = v.value (seat_name (name d p))

-- The active path that a cycle's numbers show, from the root on, by the places of current children and the tags of
-- states.
abbrev pub shown_path : Named → Valuation → List ActiveState
shown_path d v = path_from (shown_child d v) (shown_tag d v) d.program.states (v.value root_seat)

-- The place of each current child, of the root and of each state with children, is below the number of children.
pub record AreChildren (d : Named) (v : Valuation) : Type 0 where
  pub of_root : 0 < children (world d) (root (world d)) → v.value root_seat < children (world d) (root (world d))
  pub of_state : (p : ℕ) → p < root (world d) → 0 < children (world d) p → shown_child d v p < children (world d) p

-- Site `k` is refused, and the code of its level, one at or below `l`, is `n`.
abbrev pub IsToldAt : Named → (l : ℕ) → Valuation → (k n : ℕ) → Type 0
IsToldAt d l v k n = (v.value (refused_name k) ≡ 1) × (v.value (refused_level_name k) ≡ n)
    × IsLowCode (world d).order d.code l n

-- What a reader of two cycles' numbers sees at l: registers, cells and active paths look alike, and the refusals at
-- levels at or below l are the same. The tags of enforced entities whose authority is at or below l are equal.
pub record CyclesLookAlike (d : Named) (sites l : ℕ) (v u : Valuation) : Type 0 where
  pub registers : (x : ℕ) → is_register (world d) x ≡ true
      → LookAlike (world d).order d.code l (shown_value d v x ≡ shown_value d u x) (shown_tag d v x) (shown_tag d u x)
  pub cells : (m i : ℕ) → is_memory (world d) m ≡ true → is_dynamic (world d) m ≡ false → i < depth d m
      → LookAlike (world d).order d.code l (shown_cell d v m i ≡ shown_cell d u m i)
      (shown_cell_tag d v m i) (shown_cell_tag d u m i)
  -- all cells of a dynamic memory have one tag
  pub memories : (m : ℕ) → is_memory (world d) m ≡ true → is_dynamic (world d) m ≡ true
      → LookAlike (world d).order d.code l ((i : ℕ) → i < depth d m
      → shown_cell d v m i ≡ shown_cell d u m i) (shown_tag d v m) (shown_tag d u m)
  pub register_tags : (x : ℕ) → is_register (world d) x ≡ true → is_dynamic (world d) x ≡ false
      → Low (world d).order l (authority (world d) x)
      → shown_tag d v x ≡ shown_tag d u x
  pub cell_tags : (m i : ℕ) → is_memory (world d) m ≡ true → is_dynamic (world d) m ≡ false
      → Low (world d).order l (authority (world d) m) → i < depth d m
      → shown_cell_tag d v m i ≡ shown_cell_tag d u m i
  pub state_tags : (x : ℕ) → is_state (world d) x ≡ true → x < root (world d)
      → is_dynamic (world d) x ≡ false → Low (world d).order l (authority (world d) x)
      → shown_tag d v x ≡ shown_tag d u x
  -- so no path ends before a state without children
  pub current : AreChildren d v × AreChildren d u
  pub paths : PathsRelated (LookAlike (world d).order d.code l) (shown_path d v) (shown_path d u)
  pub refusals : (k n : ℕ) → 1 ≤ k → k ≤ sites → (IsToldAt d l v k n) ↔ (IsToldAt d l u k n)

-- Take any level l, and two streams that fit the design and agree at l, their levels given as codes. Then `Pair l`
-- holds of what is seen of the netlist's runs on them, cycle n with cycle n.
abbrev pub OnAgreeingStreams : Levels → DesignTree → Net → (Pair : (l : ℕ) → Valuation → Valuation → Type 0) → Type 0
OnAgreeingStreams ls d n Pair =
    (l : ℕ) (a b : List (List Tagged)) → StreamFits (world (named_of ls d)) a
    → StreamFits (world (named_of ls d)) b → StreamsAgree (order_of ls) l a b
    → (vs us : List Valuation) → IsRun n (coded_stream (named_of ls d).code a) vs
    → IsRun n (coded_stream (named_of ls d).code b) us
    → AllZip (Pair l) (map (observed n) vs) (map (observed n) us)

-- On streams that agree at a level, the runs of a netlist stand for states and refusals that agree there in every
-- cycle.
abbrev pub RunsAgree : Levels → DesignTree → Net → Type 0
RunsAgree ls d n = OnAgreeingStreams ls d n (CyclesAgree (named_of ls d) (site_count_of d))

-- On streams that agree at a level, the numbers of a netlist's runs look alike there in every cycle, to a reader who
-- sees only numbers and tags.
abbrev pub RunsLookAlike : Levels → DesignTree → Net → Type 0
RunsLookAlike ls d n = OnAgreeingStreams ls d n (CyclesLookAlike (named_of ls d) (site_count_of d))
