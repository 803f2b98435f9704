-- The assignments that nested states become. Each state has a wire, its gate, that is set to 1 where its body is done
-- in the cycle, and its body stands once, under this wire and behind all that may fall into it. So has each branch of a
-- choice, since what a test reads may change before the branch ends.
use Rattle.std.specs.Prelude.{ℕ, ◌+◌, List, [], ◌∷◌, ◌++◌}
use Rattle.sap_bits.specs.declared.Op2.TheVariants.{Eq}
use Rattle.sap_maps.specs.Maps.{Name}
use Rattle.sap_maps.specs.Term.{Term, constant, read, two}
use Rattle.sap_ir.specs.Source.{Action, set, Command, Source}
use Rattle.sap_ir.specs.Plain.Nested.{Body, stop, act, cases, goto, fall, Forest, none, state, Nested, size, place, children_of, seat_width}
use Rattle.sap_net.specs.PortNames.{seat_name, root_seat}
use Rattle.sap_flat.specs.Gates.{gate_name, gate_wires}

-- Commands, and the number of the next free gate.
pub record Flat : Type 0 where
  pub commands : List Command
  pub next : ℕ

-- Where the gate j is 1.
abbrev pub under : (j : ℕ) → Action → Command
under j a = record { when = read (gate_name j); act = a }

-- Whether a number of a width is n.
abbrev pub is_number : Term Name → (width n : ℕ) → Term Name
is_number t u n = two Eq t (constant u n)

-- The register of a group's current state becomes n.
abbrev pub seated : (seat : Name) → (group : Forest) → (n : ℕ) → Action
seated seat group n = set seat (constant (seat_width (size group)) n)

-- A state returns to its first child, where it has children.
abbrev pub flat_first : (j : ℕ) → Name → (children : Forest) → List Command
flat_first j x none = []
flat_first j x (state y b kids rest) = under j (seated (seat_name x) (state y b kids rest) 0) ∷ []

-- Each group below the states of a group returns to its first state.
abbrev pub flat_restart : (j : ℕ) → Forest → List Command
flat_restart j none = []
flat_restart j (state x b kids rest) = flat_first j x kids ++ (flat_restart j kids ++ flat_restart j rest)

-- The commands of a `goto`: the group's register takes the target's number, and the groups below the target start anew.
abbrev pub flat_goto : (seat : Name) → (group : Forest) → (j : ℕ) → (target : Name) → List Command
flat_goto seat group j x =
    let kids = children_of group x in under j (seated seat group (place group x))
    ∷ (flat_first j x kids ++ flat_restart j kids)

-- The commands of a body under the gate j, in the group of the register `seat`. A fall sets the gate `fell`, and those
-- from k on are free.
abbrev pub flat_body : (seat : Name) → (group : Forest) → (fell : ℕ) → Body → (j k : ℕ) → Flat
flat_body seat group fell stop j k = record { commands = []; next = k }
flat_body seat group fell (act a rest) j k =
    let r = flat_body seat group fell rest j k in record { commands = under j a ∷ r.commands; next = r.next }
flat_body seat group fell (cases t then_part else_part rest) j k =
    let y = flat_body seat group fell then_part k (k + 2) in
    let n = flat_body seat group fell else_part (k + 1) y.next in
    let r = flat_body seat group fell rest j n.next in
    record {
      commands =
          under j (set (gate_name k) t) ∷ under j (set (gate_name (k + 1)) (is_number (read (gate_name k)) 1 0))
          ∷ ((y.commands ++ n.commands) ++ r.commands);
      next = r.next;
    }
flat_body seat group fell (goto x rest) j k =
    let r = flat_body seat group fell rest j k in
    record { commands = flat_goto seat group j x ++ r.commands; next = r.next }
flat_body seat group fell (fall rest) j k =
    let r = flat_body seat group fell rest j k in
    record { commands = under j (set (gate_name fell) (constant 1 1)) ∷ r.commands; next = r.next }

-- The gates from j on of the states of a group from the i-th one on: that of the current one becomes 1.
abbrev pub flat_gates : (when : Term Name) → (seat : Name) → (width : ℕ) → Forest → (i j : ℕ) → List Command
flat_gates c seat u none i j = []
flat_gates c seat u (state x b kids rest) i j =
    record { when = c; act = set (gate_name j) (is_number (read seat) u i) } ∷ flat_gates c seat u rest (i + 1) (j + 1)

-- The states `from` of a group, whose gates are those from j on, and all below them. Those from k on are free.
abbrev pub flat_group : (seat : Name) → (group from : Forest) → (j k : ℕ) → Flat
flat_group seat group none j k = record { commands = []; next = k }
flat_group seat group (state x b kids rest) j k =
    let d = flat_body seat group k b j (k + 1 + size kids) in
    let c = flat_group (seat_name x) kids kids (k + 1) d.next in
    let r = flat_group seat group rest (j + 1) c.next in
    record {
      commands =
          (d.commands ++ (flat_gates (read (gate_name k)) (seat_name x) (seat_width (size kids)) kids 0
          (k + 1) ++ c.commands))
          ++ r.commands;
      next = r.next;
    }

-- The commands of all states: the gates of the root's children, then their bodies.
abbrev pub flat_states : Forest → Flat
flat_states f =
    let r = flat_group root_seat f f 0 (size f) in
    record { commands = flat_gates (constant 1 1) root_seat (seat_width (size f)) f 0 0 ++ r.commands; next = r.next }

-- The list of guarded commands for nested states, with a wire for each gate.
abbrev pub flattened : Nested → Source
flattened p =
    let r = flat_states p.states in
    record {
      inputs = p.inputs;
      wires = p.wires ++ gate_wires 0 r.next;
      registers = p.registers;
      memories = p.memories;
      ports = p.ports;
      commands = r.commands;
    }
