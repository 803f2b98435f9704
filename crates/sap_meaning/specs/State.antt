-- The states of a program: the first one, and what every one keeps.
use Rattle.std.specs.Prelude.{◌≡◌, ℕ, true, false, ◌<◌, ◌^◌, List, [], ◌∷◌, if◌then◌else◌}
use Rattle.std.specs.List.{AllByRecursion}
use Rattle.sap_meaning.specs.Program.{World, Program, Entity, entity, is_dynamic, authority, width, children, kind_is_input}
use Rattle.sap_meaning.specs.Store.{Store, Slot, own, start, next, owner, held, number, level}
use Rattle.sap_meaning.specs.Cycle.{Tagged, run_from}
use Rattle.sap_meaning.specs.Store.{After}

-- Registers start with their number, cells with 0.
abbrev pub first_number : World → Slot → ℕ
first_number w (own x) = (entity w x).initial
first_number w _ = 0

-- Dynamic entities start at the bottom, enforced ones with their declared level.
abbrev pub first_level : World → Slot → ℕ
first_level w z = if is_dynamic w (owner z) then w.order.bottom else (entity w (owner z)).declared

-- The first state of a program: start numbers, start levels, and in each group the first child is current.
unfoldable pub first : World → Store
first w = record { number = first_number w; level = first_level w; child = λ p. 0 }

-- What every state keeps: each enforced level is at or above its authority, and the current child of whatever has
-- children is one of them.
pub record Holds (w : World) (s : Store) : Type 0 where
  pub above : (z : Slot) → held w z ≡ true → is_dynamic w (owner z) ≡ false
      → w.order.le (authority w (owner z)) (level w z s) ≡ true
  pub seated : (p : ℕ) → 0 < children w p → s.child p < children w p

-- Between cycles the two parts of each memory are equal.
pub record Rests (w : World) (s : Store) : Type 0 where
  pub numbers : (m i : ℕ) → number (start m i) s ≡ number (next m i) s
  pub levels : (m i : ℕ) → level w (start m i) s ≡ level w (next m i) s

-- A state between cycles: it keeps what every state keeps, and the two parts of each memory are equal.
pub record Resting (w : World) (s : Store) : Type 0 where
  pub holds : Holds w s
  pub rests : Rests w s

-- `labelled_run` is the run from the first state.
abbrev pub labelled_run : Program → List (List Tagged) → List After
labelled_run p stream = run_from p (first p.world) stream

-- Each number is below 2 to its width, and each level is one of the lattice.
pub record Fits (w : World) (s : Store) : Type 0 where
  pub numbers : (z : Slot) → number z s < 2 ^ width w (owner z)
  pub levels : (z : Slot) → s.level z < w.order.count

-- `input_widths` are the widths of the inputs, in order.
abbrev pub input_widths : List Entity → List ℕ
input_widths [] = []
input_widths (e ∷ es) = if kind_is_input e.kind then e.width ∷ input_widths es else input_widths es

-- There is one item for each width: its number is below 2 to the width, and its level is below `levels`. There are no
-- others.
abbrev pub AllFit : (levels : ℕ) → (widths : List ℕ) → List Tagged → Type 0
AllFit levels [] [] = Unit {0}
AllFit levels [] (t ∷ ts) = ⊥
AllFit levels (u ∷ us) [] = ⊥
AllFit levels (u ∷ us) (t ∷ ts) = (t.number < 2 ^ u) × (t.level < levels) × AllFit levels us ts

-- The inputs of a cycle fit: there is one for each input of the design, with a number below 2 to its width and a level
-- of the lattice.
abbrev pub InputsFit : World → List Tagged → Type 0
InputsFit w inputs = AllFit w.order.count (input_widths w.entities) inputs

-- A stream fits if the inputs of each of its cycles fit.
abbrev pub StreamFits : World → List (List Tagged) → Type 0
StreamFits w stream = AllByRecursion (InputsFit w) stream
