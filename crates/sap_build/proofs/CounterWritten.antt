-- The counter keeps the rules of netlists, since each step of writing does.
use Rattle.std.proofs.Common.{[], ◌∷◌, codes, refl, lit<, lit≤}
use Rattle.sap_net.specs.Prelude.{is_name, Net, IsNetlist, IsWidth}
use Rattle.sap_net.specs.declared.parts.Operand.TheVariants.{Constant}
use Rattle.sap_net.specs.declared.parts.Register.{Register}
use Rattle.sap_net.specs.declared.parts.PortKind.TheVariants as kind
use Rattle.sap_build.specs.Writing.{blank, declared, shown, with_input, assigned, registered}
use Rattle.sap_build.specs.Waiting.{waiting}
use Rattle.sap_build.specs.Counting.{CounterIsNetlist, count, counts, next, output, place, step}
use Rattle.sap_build.proofs.Edges.{edges_are_given}
use Rattle.sap_build.proofs.Waiting.{shown_wire_waits, wait_ends, wire_waits}
use Rattle.sap_build.proofs.Written.{blank_is_netlist, input_is_added, memory_is_added, shown_register_is_added}

byte_wide : IsWidth 8
byte_wide = (lit≤ tt, lit≤ tt)

-- the register before it is known what it takes
abbrev idle : Register
idle = record { name = codes "count"; width = 8; start = 0; next = Constant 8 0 }

abbrev with_step : Net
with_step = with_input step (blank (codes "top"))

abbrev with_output : Net
with_output = shown (record { name = codes "out"; kind = kind.Wire }) with_step

abbrev with_count : Net
with_count = registered idle (shown (record { name = codes "count"; kind = kind.Register }) with_output)

abbrev with_names : Net
with_names = declared (codes "n2") (declared (codes "n1") with_count)

abbrev with_next : Net
with_next = assigned next with_names

abbrev with_place : Net
with_place = assigned place with_next

abbrev with_all : Net
with_all = assigned output with_place

step_stands : IsNetlist (waiting [] with_step)
unfolding is_name
step_stands =
    input_is_added (blank (codes "top")) (blank_is_netlist (codes "top") refl) refl step (record { named = refl; undeclared = refl }) byte_wide

output_waits : IsNetlist (waiting ((codes "out", 8) ∷ []) with_output)
unfolding is_name
output_waits = shown_wire_waits with_step [] step_stands refl (codes "out") 8 (record { named = refl; undeclared = refl }) byte_wide

count_stands : IsNetlist (waiting ((codes "out", 8) ∷ []) with_count)
unfolding is_name
count_stands =
    shown_register_is_added (waiting ((codes "out", 8) ∷ []) with_output) output_waits refl idle (record { named = refl; undeclared = refl }) byte_wide
    (lit< tt, (refl, lit< tt))

next_waits : IsNetlist (waiting ((codes "out", 8) ∷ (codes "n1", 8) ∷ []) (declared (codes "n1") with_count))
unfolding is_name
next_waits = wire_waits with_count ((codes "out", 8) ∷ []) count_stands (codes "n1") 8 (record { named = refl; undeclared = refl }) byte_wide

place_waits : IsNetlist (waiting ((codes "out", 8) ∷ (codes "n1", 8) ∷ (codes "n2", 2) ∷ []) with_names)
unfolding is_name
place_waits =
    wire_waits (declared (codes "n1") with_count) ((codes "out", 8) ∷ (codes "n1", 8) ∷ []) next_waits (codes "n2") 2
    (record { named = refl; undeclared = refl }) (lit≤ tt, lit≤ tt)

next_is_assigned : IsNetlist (waiting ((codes "out", 8) ∷ (codes "n2", 2) ∷ []) with_next)
next_is_assigned =
    wait_ends with_names ((codes "out", 8) ∷ []) ((codes "n2", 2) ∷ []) next place_waits (8, 8, byte_wide, byte_wide, refl, refl, refl, refl)

place_is_assigned : IsNetlist (waiting ((codes "out", 8) ∷ []) with_place)
place_is_assigned = wait_ends with_next ((codes "out", 8) ∷ []) [] place next_is_assigned (8, byte_wide, refl, lit≤ tt, lit< tt, refl)

output_is_assigned : IsNetlist (waiting [] with_all)
output_is_assigned = wait_ends with_place [] [] output place_is_assigned refl

next_is_taken : IsNetlist (registered count
    (assigned output (assigned place (assigned next (declared (codes "n2") (declared (codes "n1") (shown (record { name = codes "count"; kind = kind.Register }) with_output)))))))
next_is_taken = edges_are_given with_all output_is_assigned (count ∷ []) [] refl refl ((lit< tt, refl), tt) tt

pub counter_is_netlist : CounterIsNetlist
unfolding is_name
counter_is_netlist =
    memory_is_added _ next_is_taken counts (record { named = refl; undeclared = refl }) byte_wide
    (record {
      bits = 2;
      depth = (lit≤ tt, lit≤ tt, refl);
      start = lit< tt;
      enable = (refl, lit< tt);
      index = refl;
      value = refl;
    })
