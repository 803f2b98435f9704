-- A tainted netlist in the making.
use Rattle.std.specs.Prelude.{◌≡◌, ℕ, ◌+◌, List, ◌++◌, map}
use Rattle.sap_maps.specs.Maps.{Name}
use Rattle.sap_net.specs.declared.parts.Wire.{Wire}
use Rattle.sap_net.specs.declared.parts.Register.{Register}
use Rattle.sap_net.specs.Net.{Net}
use Rattle.sap_build.specs.Writing.{grown}
use Rattle.sap_taint.specs.TagNames.{with_tags}
use Rattle.sap_taint.specs.TaggedForm.{tagged_ports, tagged_inputs}
use Rattle.sap_taint_pass.specs.Tainted.{tagged_registers, tag_wires, help_for_wires, write_wires, memory_tags, help_count, numbers_from}
use Rattle.sap_taint_pass.specs.Helping.{helping_name}

-- Some names for helping wires, from the k-th on.
abbrev pub help_from : Net → (k count : ℕ) → List Name
help_from n k count = map (helping_name n) (numbers_from k count)

-- `m` declares the names of n and their tags, and k helping wires.
pub record Helped (n : Net) (k : ℕ) (m : Net) : Type 0 where
  pub module_named : m.module_name ≡ n.module_name
  pub names : m.names ≡ with_tags n.names ++ help_from n 0 k

-- So many helping wires more, from the k-th on, and wires and registers.
abbrev pub Adds : (n : Net) (k count : ℕ) → List Wire → List Register → (old new : Net) → Type 0
Adds n k count ws rs old new = new ≡ grown (help_from n k count) ws rs old

-- The four names from the k-th on.
pub record AreWriteNames (helping : ℕ → Name) (k : ℕ) (kept new chosen all : Name) : Type 0 where
  pub first : kept ≡ helping k
  pub second : new ≡ helping (k + 1)
  pub third : chosen ≡ helping (k + 2)
  pub fourth : all ≡ helping (k + 3)

-- What the tainted netlist has before any wire of a tag and any tag of a memory, its registers in another order.
abbrev pub begun : (w : ℕ) → Net → Net
begun w n =
    record {
      module_name = n.module_name;
      names = with_tags n.names;
      ports = tagged_ports n.ports;
      inputs = tagged_inputs w n.inputs;
      wires = n.wires;
      registers = tagged_registers w n.registers;
      memories = n.memories;
    }

-- And with them.
abbrev pub driven : (w : ℕ) → Net → Net
driven w n =
    let helping = helping_name n in
    let k = help_for_wires n.wires in
    grown (help_from n 0 (help_count n)) (tag_wires helping w 0 n.wires
    ++ write_wires helping w k n.memories) (memory_tags helping w k n.memories) (begun w n)
