-- An example: a counter, written in the order in which a module declares it. Its register takes a wire that is declared
-- behind it, and so does its output. A memory has the last count of each remainder by four.
use Rattle.std.specs.Prelude.{codes}
use Rattle.sap_bits.specs.declared.Op2.TheVariants.{Add}
use Rattle.sap_net.specs.declared.parts.Operand.TheVariants.{Named, Constant}
use Rattle.sap_net.specs.declared.parts.Right.TheVariants.{Copy, Two, Slice}
use Rattle.sap_net.specs.declared.parts.PortKind.TheVariants as kind
use Rattle.sap_net.specs.declared.parts.Input.{Input}
use Rattle.sap_net.specs.declared.parts.Wire.{Wire}
use Rattle.sap_net.specs.declared.parts.Register.{Register}
use Rattle.sap_net.specs.declared.parts.Memory.{Memory}
use Rattle.sap_net.specs.Net.{Net}
use Rattle.sap_net.specs.IsNetlist.{IsNetlist}
use Rattle.sap_build.specs.Writing.{blank, declared, shown, with_input, assigned, registered, with_memory}

-- The counter's input.
abbrev pub step : Input
step = record { name = codes "step"; width = 8 }

-- The wire with the next count.
abbrev pub next : Wire
next = record { name = codes "n1"; width = 8; right = Two Add (Named (codes "count")) (Named (codes "step")) }

-- The wire with the cell that is written: the two low bits of the count.
abbrev pub place : Wire
place = record { name = codes "n2"; width = 2; right = Slice (codes "n1") 1 0 }

-- The wire that shows the next count.
abbrev pub output : Wire
output = record { name = codes "out"; width = 8; right = Copy (Named (codes "n1")) }

-- The register that counts.
abbrev pub count : Register
count = record { name = codes "count"; width = 8; start = 0; next = Named (codes "n1") }

-- The memory that keeps each count.
abbrev pub counts : Memory
counts =
    record {
      name = codes "counts";
      width = 8;
      depth = 4;
      start = 0;
      enable = Constant 1 1;
      index = Named (codes "n2");
      value = Named (codes "n1");
    }

-- The names of the counter, with its ports.
abbrev pub counter_names : Net
counter_names =
    declared (codes "n2")
    (declared (codes "n1")
    (shown (record { name = codes "count"; kind = kind.Register })
    (shown (record { name = codes "out"; kind = kind.Wire }) (with_input step (blank (codes "top"))))))

-- The counter.
abbrev pub counter : Net
counter = with_memory counts (registered count (assigned output (assigned place (assigned next counter_names))))

-- The counter is a netlist.
abbrev pub CounterIsNetlist : Type 0
CounterIsNetlist = IsNetlist counter
