-- When streams, states and refusals agree at a level l.
use Rattle.std.specs.Prelude.{◌≡◌, ℕ, zero, suc, true, false, List, [], ◌∷◌, ◌⊎◌, filter}
use Rattle.std.specs.List.{AllZip}
use Rattle.sap_lattice.specs.Order.{Order}
use Rattle.sap_meaning.specs.Program.{World, Program, is_dynamic, is_register, is_memory, authority, root, state_node, Group, no_node, and_node}
use Rattle.sap_meaning.specs.Store.{Store, Slot, own, start, next, start_whole, next_whole, owner, held, number, level, child, Refusal, After}
use Rattle.sap_meaning.specs.Cycle.{Tagged}

-- A relation of two contents with tags: it takes the statement that the contents are the same, and the tags t and u.
abbrev pub Relation : Type 1
Relation = (Same : Type 0) → (t u : ℕ) → Type 0

-- Two contents look alike: they are the same and have equal, low tags; or both tags are high. Which tags are low and
-- which are high is given.
abbrev pub AlikeBy : (low high : ℕ → Type 0) → Relation
AlikeBy low high Same t u = (Same × (t ≡ u) × low t) ⊎ (high t × high u)

-- `t` is at or below `l`.
abbrev pub Low : Order → ℕ → ℕ → Type 0
Low o l t = o.le t l ≡ true

-- `t` is not at or below `l`.
abbrev pub High : Order → ℕ → ℕ → Type 0
High o l t = o.le t l ≡ false

-- Contents whose tags are levels look alike at `l`.
abbrev pub Alike : Order → (l : ℕ) → Relation
Alike o l = AlikeBy (Low o l) (High o l)

-- A slot looks alike at `l` in two stores: its content is its number.
abbrev pub SlotsAlike : World → ℕ → Slot → Store → Store → Type 0
SlotsAlike w l z s t = Alike w.order l (number z s ≡ number z t) (level w z s) (level w z t)

-- A part of a dynamic memory: the slots of its cells, and the slot of its one level.
pub record Part : Type 0 where
  pub cell : ℕ → Slot
  pub whole : Slot

-- The part of a memory with which the cycle began.
abbrev pub start_part : (memory : ℕ) → Part
start_part m = record { cell = start m; whole = start_whole m }

-- The part of a memory with which the next cycle begins.
abbrev pub next_part : (memory : ℕ) → Part
next_part m = record { cell = next m; whole = next_whole m }

-- A part of a dynamic memory looks alike at `l` in two stores: its content is all its cells, and its tag is its one
-- level.
abbrev pub PartsAlike : World → (l : ℕ) → Part → Store → Store → Type 0
PartsAlike w l part s t = Alike w.order l ((i : ℕ) → number (part.cell i) s ≡ number (part.cell i) t)
    (level w part.whole s) (level w part.whole t)

-- A state on the active path has a tag.
pub record ActiveState : Type 0 where
  pub state : ℕ
  pub tag : ℕ

-- The active path from the n-th of a group on: that state, and below it likewise from its current child on, down to a
-- state without children. `child` has the place of each state's current child, `tag` each state's tag. At a place
-- that is no child's the path ends too.
abbrev pub path_from : (child tag : ℕ → ℕ) → Group → (n : ℕ) → List ActiveState
path_from child tag no_node n = []
path_from child tag (and_node (state_node c b k) g) zero =
    record { state = c; tag = tag c } ∷ path_from child tag k (child c)
path_from child tag (and_node a g) (suc n) = path_from child tag g n

-- `active_path` is the active path in a store, from the root on, with levels for tags.
abbrev pub active_path : Program → Store → List ActiveState
active_path p s = path_from (λ x. child x s) (λ x. level p.world (own x) s) p.states (child (root p.world) s)

-- Two active paths are related. Both are empty; or `R` relates their first states by their tags, where to be the same
-- means to be one state with related paths below it.
abbrev pub PathsRelated : Relation → List ActiveState → List ActiveState → Type 0
PathsRelated R [] [] = Unit {0}
PathsRelated R [] (y ∷ ys) = ⊥
PathsRelated R (x ∷ xs) [] = ⊥
PathsRelated R (x ∷ xs) (y ∷ ys) = R ((x.state ≡ y.state) × PathsRelated R xs ys) x.tag y.tag

-- Two states look alike at or below l. Nothing is asked of inputs, nor of current children and dynamic states that
-- are off the active path or below a state on it that is not at or below l. All cells are compared, also those past a
-- memory's depth: no index of a design comes to these, so they keep what the first state has there.
pub record StatesAgree (p : Program) (l : ℕ) (s t : Store) : Type 0 where
  pub registers : (x : ℕ) → is_register p.world x ≡ true → SlotsAlike p.world l (own x) s t
  pub enforced_memories : (m i : ℕ) → is_memory p.world m ≡ true → is_dynamic p.world m ≡ false
      → SlotsAlike p.world l (start m i) s t × SlotsAlike p.world l (next m i) s t
  pub dynamic_memories : (m : ℕ) → is_memory p.world m ≡ true → is_dynamic p.world m ≡ true
      → PartsAlike p.world l (start_part m) s t × PartsAlike p.world l (next_part m) s t
  -- Registers, cells and states whose authority is at or below l have equal levels, whether active or not.
  pub enforced_levels : (z : Slot) → held p.world z ≡ true → is_dynamic p.world (owner z) ≡ false
      → Low p.world.order l (authority p.world (owner z))
      → level p.world z s ≡ level p.world z t
  pub paths : PathsRelated (Alike p.world.order l) (active_path p s) (active_path p t)

-- `seen` has the refusals whose level is at or below `l`.
abbrev pub seen : Order → ℕ → List Refusal → List Refusal
seen o l rs = filter (λ r. o.le r.level l) rs

-- The refusals of two cycles agree at `l`: those whose level is at or below `l` are the same, in the same order.
abbrev pub RefusalsAgree : Order → ℕ → List Refusal → List Refusal → Type 0
RefusalsAgree o l rs qs = seen o l rs ≡ seen o l qs

-- The inputs of two cycles agree at `l`: they are equally many, and each looks alike.
abbrev pub InputsAgree : Order → ℕ → List Tagged → List Tagged → Type 0
InputsAgree o l inputs others = AllZip (λ a b. Alike o l (a.number ≡ b.number) a.level b.level) inputs others

-- Two streams agree at `l`: they have equally many cycles, and in each the inputs agree.
abbrev pub StreamsAgree : Order → ℕ → List (List Tagged) → List (List Tagged) → Type 0
StreamsAgree o l stream other = AllZip (InputsAgree o l) stream other

-- Two runs agree at `l`: they have equally many cycles, and in each the states and the refusals agree.
abbrev pub RunsAgree : Program → ℕ → List After → List After → Type 0
RunsAgree p l run other = AllZip (λ a b. StatesAgree p l a.store b.store
    × RefusalsAgree p.world.order l a.refused b.refused) run other
