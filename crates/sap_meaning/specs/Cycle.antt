-- One cycle, and a run over a stream.
use Rattle.std.specs.Prelude.{ℕ, zero, suc, Bool, List, [], ◌∷◌, get_or, if◌then◌else◌}
use Rattle.sap_meaning.specs.Program.{World, Entity, kind_is_input, is_input, root, listed, State, state_node, Group, no_node, and_node, Program}
use Rattle.sap_meaning.specs.Store.{Store, Slot, own, level, child, raise, settle, After, stay}
use Rattle.sap_meaning.specs.Touches.{root_touches}
use Rattle.sap_meaning.specs.Does.{does_state}
use Rattle.sap_meaning.specs.Runs.{run_state}

-- A number with its level, as an input gets one in a cycle.
pub record Tagged : Type 0 where
  pub number : ℕ
  pub level : ℕ

-- `inputs_before` says how many inputs stand before an entity.
abbrev pub inputs_before : List Entity → ℕ → ℕ
inputs_before [] x = 0
inputs_before (e ∷ es) zero = 0
inputs_before (e ∷ es) (suc x) = if kind_is_input e.kind then suc (inputs_before es x) else inputs_before es x

-- `given` is what the input `x` gets, the inputs being in the order of their declaration; it is 0 at the bottom if the
-- list ends before it.
abbrev pub given : World → List Tagged → ℕ → Tagged
given w inputs x = get_or inputs (inputs_before w.entities x) (record { number = 0; level = w.order.bottom })

-- The content of a slot: the new one for an input's own slot, and the old one for every other.
abbrev pub at_inputs : World → (ℕ → ℕ) → (Slot → ℕ) → Slot → ℕ
at_inputs w new old (own x) = if is_input w x then new x else old (own x)
at_inputs w new old z = old z

-- A cycle begins by giving each input its number and its level.
unfoldable pub set_inputs : World → List Tagged → Store → Store
set_inputs w inputs s = record s {
  number = at_inputs w (λ x. (given w inputs x).number) s.number;
  level = at_inputs w (λ x. (given w inputs x).level) s.level;
}

-- The root's fall into the n-th top-level state: all that it touches is raised by that state's level, and its body,
-- `body t`, runs in that level.
unfoldable pub root_fall : World → (ℕ → Bool) → (State → ℕ → Store → After) → Group → (n : ℕ) → Store → After
root_fall w hangs body no_node n s = stay s
root_fall w hangs body (and_node (state_node c b k) g) zero s =
    let t = level w (own c) s in
    body (state_node c b k) t (raise w.order hangs t s)
root_fall w hangs body (and_node t g) (suc n) s = root_fall w hangs body g n s

-- The inputs are set, the root falls, and the next parts become the start parts.
unfoldable pub cycle : Program → List Tagged → Store → After
cycle p inputs s =
    let w = p.world in
    let begun = set_inputs w inputs s in
    let a = root_fall w (root_touches w p.states) (λ t. does_state w t (root w)) p.states
    (child (root w) begun) begun in
    record { store = settle a.store; refused = a.refused }

-- A cycle in which what is raised is taken from the lists that the program stores.
unfoldable pub cycle_listed : Program → List Tagged → Store → After
cycle_listed p inputs s =
    let w = p.world in
    let begun = set_inputs w inputs s in
    let a = root_fall w (listed p.hang) (λ t. run_state w t (root w)) p.states (child (root w) begun) begun in
    record { store = settle a.store; refused = a.refused }

-- The run on a stream from a store on: the store after each cycle, with the cycle's refusals.
abbrev pub run_from : Program → Store → List (List Tagged) → List After
run_from p s [] = []
run_from p s (inputs ∷ rest) = let a = cycle p inputs s in a ∷ run_from p a.store rest
