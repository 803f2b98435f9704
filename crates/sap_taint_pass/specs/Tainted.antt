-- A netlist with a tag for each name, as a function of the netlist, of the width of tags, and of names for helping
-- wires.
use Rattle.std.specs.Prelude.{ℕ, ◌+◌, suc, zero, List, [], ◌∷◌, ◌++◌, length, map, Option, Some, None}
use Rattle.sap_bits.specs.declared.Op2.TheVariants.{Or}
use Rattle.sap_maps.specs.Maps.{Name}
use Rattle.sap_maps.specs.Scope.{find}
use Rattle.sap_net.specs.declared.parts.Operand.{Operand}
use Rattle.sap_net.specs.declared.parts.Operand.TheVariants.{Named, Constant}
use Rattle.sap_net.specs.declared.parts.Right.{Right}
use Rattle.sap_net.specs.declared.parts.Right.TheVariants.{Copy, One, Two, Choose, Concat, Slice, Cell}
use Rattle.sap_net.specs.declared.parts.Wire.{Wire}
use Rattle.sap_net.specs.declared.parts.Register.{Register}
use Rattle.sap_net.specs.declared.parts.Memory.{Memory}
use Rattle.sap_net.specs.Net.{Net}
use Rattle.sap_taint.specs.TagNames.{name_of_tag, with_tags}
use Rattle.sap_taint.specs.TaggedForm.{tagged_ports, tagged_inputs}

-- What a right side reads; a memory counts as one operand.
abbrev pub operands_of : Right → List Operand
operands_of (Copy a) = a ∷ []
operands_of (One op a) = a ∷ []
operands_of (Two op a b) = a ∷ b ∷ []
operands_of (Choose c a b) = c ∷ a ∷ b ∷ []
operands_of (Concat os) = os
operands_of (Slice x hi lo) = Named x ∷ []
operands_of (Cell m i) = Named m ∷ i ∷ []

-- The names of the tags of operands; a constant has none.
abbrev pub tags_of : List Operand → List Name
tags_of [] = []
tags_of (Named x ∷ os) = name_of_tag x ∷ tags_of os
tags_of (Constant u n ∷ os) = tags_of os

-- The tags that a wire's tag is the union of.
abbrev pub tags_read : Wire → List Name
tags_read x = tags_of (operands_of x.right)

-- The tag of one operand, and the join of those of two.
abbrev pub tag_operand : (w : ℕ) → Operand → Operand
tag_operand w (Named x) = Named (name_of_tag x)
tag_operand w (Constant u n) = Constant w 0

-- The union of two operands' tags.
abbrev pub joint : (w : ℕ) → Operand → Operand → Right
joint w (Named x) (Named y) = Two Or (Named (name_of_tag x)) (Named (name_of_tag y))
joint w (Named x) (Constant u n) = Copy (Named (name_of_tag x))
joint w (Constant u n) b = Copy (tag_operand w b)

-- The wire of a tag.
abbrev pub tag_wire : (w : ℕ) → Name → Right → Wire
tag_wire w x right = record { name = x; width = w; right = right }

-- A wire that is the union of two tags.
abbrev pub union : (w : ℕ) → (x a b : Name) → Wire
union w x a b = tag_wire w x (Two Or (Named a) (Named b))

-- The wires by which x becomes the join of a tag with others, one more in each wire. All but the last have helping
-- names, from the k-th on.
abbrev pub joins : (helping : ℕ → Name) (w k : ℕ) (x so_far : Name) → List Name → List Wire
joins helping w k x t [] = tag_wire w x (Copy (Named t)) ∷ []
joins helping w k x t (a ∷ []) = union w x t a ∷ []
joins helping w k x t (a ∷ (b ∷ ts)) =
    union w (helping k) t a ∷ joins helping w (k + 1) x (helping k) (b ∷ ts)

-- The wires that make the union of some tags.
abbrev pub joined : (helping : ℕ → Name) (w k : ℕ) (x : Name) → List Name → List Wire
joined helping w k x [] = tag_wire w x (Copy (Constant w 0)) ∷ []
joined helping w k x (t ∷ ts) = joins helping w k x t ts

-- How many helping names that takes.
abbrev pub help_for : List Name → ℕ
help_for [] = 0
help_for (a ∷ []) = 0
help_for (a ∷ (b ∷ ts)) = length ts

-- The tags of wires, and how many helping names they take.
abbrev pub tag_wires : (helping : ℕ → Name) (w k : ℕ) → List Wire → List Wire
tag_wires helping w k [] = []
tag_wires helping w k (x ∷ xs) =
    joined helping w k (name_of_tag x.name) (tags_read x) ++ tag_wires helping w (k + help_for (tags_read x)) xs

-- How many helping wires the tags of wires take.
abbrev pub help_for_wires : List Wire → ℕ
help_for_wires [] = 0
help_for_wires (x ∷ xs) = help_for (tags_read x) + help_for_wires xs

-- What the tag of a memory takes at the edge, in four helping wires: its own with that of the condition, those of the
-- index and the value, these where the condition is 1, and all.
abbrev pub write_by : (w : ℕ) → Memory → (kept new chosen all : Name) → List Wire
write_by w m kept new chosen all =
    tag_wire w kept (joint w (Named m.name) m.enable)
    ∷ tag_wire w new (joint w m.index m.value)
    ∷ tag_wire w chosen (Choose m.enable (Named new) (Constant w 0))
    ∷ union w all kept chosen
    ∷ []

-- The wires of a memory's tag, with helping wires from a number on.
abbrev pub write_at : (helping : ℕ → Name) (w k : ℕ) → Memory → List Wire
write_at helping w k m = write_by w m (helping k) (helping (k + 1)) (helping (k + 2)) (helping (k + 3))

-- The wires of memories' tags.
abbrev pub write_wires : (helping : ℕ → Name) (w k : ℕ) → List Memory → List Wire
write_wires helping w k [] = []
write_wires helping w k (m ∷ ms) = write_at helping w k m ++ write_wires helping w (k + 4) ms

-- How many helping wires the tags of memories take.
abbrev pub help_for_writes : List Memory → ℕ
help_for_writes [] = 0
help_for_writes (m ∷ ms) = 4 + help_for_writes ms

-- The tags of memories, by the last of those wires.
abbrev pub memory_tag : (w : ℕ) → Memory → (next : Name) → Register
memory_tag w m next = record { name = name_of_tag m.name; width = w; start = 0; next = Named next }

-- The registers of memories' tags.
abbrev pub memory_tags : (helping : ℕ → Name) (w k : ℕ) → List Memory → List Register
memory_tags helping w k [] = []
memory_tags helping w k (m ∷ ms) = memory_tag w m (helping (k + 3)) ∷ memory_tags helping w (k + 4) ms

-- Each register with its tag, which is another.
abbrev pub register_tag : (w : ℕ) → Register → Register
register_tag w r = record { name = name_of_tag r.name; width = w; start = 0; next = tag_operand w r.next }

-- The registers, each with that of its tag.
abbrev pub tagged_registers : (w : ℕ) → List Register → List Register
tagged_registers w [] = []
tagged_registers w (r ∷ rs) = r ∷ register_tag w r ∷ tagged_registers w rs

-- The registers of these names, in the order of the names.
abbrev pub found_first : Option Register → List Register → List Register
found_first None rs = rs
found_first (Some r) rs = r ∷ rs

-- The registers in the order of some names.
abbrev pub in_order : List Name → List Register → List Register
in_order [] rs = []
in_order (x ∷ xs) rs = found_first (find (map (λ r. (r.name, r)) rs) x) (in_order xs rs)

-- Some numbers from k on.
abbrev pub numbers_from : (k count : ℕ) → List ℕ
numbers_from k zero = []
numbers_from k (suc count) = k ∷ numbers_from (k + 1) count

-- The registers of the tainted netlist, in any order.
abbrev pub all_registers : (helping : ℕ → Name) (w : ℕ) → Net → List Register
all_registers helping w n = tagged_registers w n.registers ++ memory_tags helping w (help_for_wires n.wires) n.memories

-- The wires of a netlist with tags: its own, the tags of wires and those of memories.
abbrev pub all_wires : (helping : ℕ → Name) (w : ℕ) → Net → List Wire
all_wires helping w n = n.wires ++ (tag_wires helping w 0 n.wires
    ++ write_wires helping w (help_for_wires n.wires) n.memories)

-- How many helping wires there are.
abbrev pub help_count : Net → ℕ
help_count n = help_for_wires n.wires + help_for_writes n.memories

-- The names of all further helping wires.
abbrev pub helping_names : (helping : ℕ → Name) → Net → List Name
helping_names helping n = map helping (numbers_from 0 (help_count n))

-- The netlist as it is, with a wire for the tag of each wire, a register for that of each register and memory, and an
-- input for that of each input.
abbrev pub tainted_by : (helping : ℕ → Name) (w : ℕ) → Net → Net
tainted_by helping w n =
    record {
      module_name = n.module_name;
      names = with_tags n.names ++ helping_names helping n;
      ports = tagged_ports n.ports;
      inputs = tagged_inputs w n.inputs;
      wires = all_wires helping w n;
      registers = in_order (with_tags n.names) (all_registers helping w n);
      memories = n.memories;
    }
