-- Four levels, entities over them, and what is looked at after each cycle of a run.
use Rattle.std.specs.Prelude.{ℕ, false, List, map}
use Rattle.sap_maps.specs.Term.{constant}
use Rattle.sap_meaning.specs.Program.{World, Program, Entity, register, memory, state, assign, go_to, Command, lone, Block, end_block, command_then}
use Rattle.sap_meaning.specs.Store.{Slot, own, Store, Refusal, After, number, level, child}
use Rattle.sap_meaning.specs.Cycle.{Tagged}
use Rattle.sap_meaning.specs.State.{labelled_run}

-- The lowest of the levels of `four_levels`: it is below all others.
abbrev pub low : ℕ
low = 0

-- A level between low and high that is neither above nor below `right`; the join of the two is high.
abbrev pub left : ℕ
left = 1

-- A level between low and high that is neither above nor below `left`; the join of the two is high.
abbrev pub right : ℕ
right = 2

-- The top of the four levels.
abbrev pub high : ℕ
high = 3

-- An enforced register with a level, the authority under which that may be changed, and a start number.
abbrev pub register_under : (width level authority initial : ℕ) → Entity
register_under u t a n = record {
  kind = register;
  width = u;
  dynamic = false;
  declared = t;
  authority = a;
  initial = n;
}

-- An enforced memory under an authority.
abbrev pub memory_under : (width depth level authority : ℕ) → Entity
memory_under u d t a = record { kind = memory d; width = u; dynamic = false; declared = t; authority = a; initial = 0 }

-- An enforced state under an authority.
abbrev pub state_under : (place last level authority : ℕ) → Entity
state_under n m t a = record { kind = state n m; width = 0; dynamic = false; declared = t; authority = a; initial = 0 }

-- The text `x := n`, where x has 8 bits.
abbrev pub put : (site x n : ℕ) → Command
put site x n = lone (assign site x (constant 8 n))

-- The list that is a goto alone.
abbrev pub goes : (site target : ℕ) → Block
goes site target = command_then (lone (go_to site target)) end_block

-- What is looked at: the numbers of registers and cells with their levels, the levels of states, and the places of the
-- current children of states and of the root.
pub record Look : Type 0 where
  pub values : List Slot
  pub states : List ℕ
  pub parents : List ℕ

-- What is seen after a cycle: numbers with levels, levels of states, current children and refusals.
pub record Row : Type 0 where
  pub values : List Tagged
  pub levels : List ℕ
  pub places : List ℕ
  pub refused : List Refusal

-- A row of these four lists.
abbrev pub row : List Tagged → (levels places : List ℕ) → List Refusal → Row
row v t n r = record { values = v; levels = t; places = n; refused = r }

-- The number and level of a slot.
abbrev pub tagged : World → Store → Slot → Tagged
tagged w s z = record { number = number z s; level = level w z s }

-- What is looked at after a cycle.
abbrev pub seen_after : World → Look → After → Row
seen_after w look a = record {
  values = map (tagged w a.store) look.values;
  levels = map (λ x. level w (own x) a.store) look.states;
  places = map (λ p. child p a.store) look.parents;
  refused = a.refused;
}

-- The rows of the labelled run of a program on a stream, one for each cycle.
abbrev pub rows : Program → Look → List (List Tagged) → List Row
rows p look stream = map (seen_after p.world look) (labelled_run p stream)
