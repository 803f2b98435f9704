-- How many items the tainted netlist has.
use Rattle.std.specs.Prelude.{ℕ, ◌+◌, ◌*◌, ◌≤◌, List, [], ◌∷◌, length}
use Rattle.sap_net.specs.declared.parts.Right.{Right}
use Rattle.sap_net.specs.declared.parts.Right.TheVariants.{Copy, One, Two, Choose, Concat, Slice, Cell}
use Rattle.sap_net.specs.declared.parts.Wire.{Wire}
use Rattle.sap_net.specs.Net.{Net}
use Rattle.sap_size.specs.Items.{items}
use Rattle.sap_taint.specs.TagNames.{HasRoomForTags}
use Rattle.sap_taint_pass.specs.Helping.{tainted}

-- How many operands are concatenated.
abbrev pub concatenated : Right → ℕ
concatenated (Copy a) = 0
concatenated (One op a) = 0
concatenated (Two op a b) = 0
concatenated (Choose c a b) = 0
concatenated (Concat os) = length os
concatenated (Slice x hi lo) = 0
concatenated (Cell m i) = 0

-- The parts of all concatenations.
abbrev pub all_concatenated : List Wire → ℕ
all_concatenated [] = 0
all_concatenated (x ∷ xs) = concatenated x.right + all_concatenated xs

-- At most three items for each wire, two for each register and six for each memory, and one more for each operand of a
-- `{}`.
abbrev pub HasFewItems : (n m : Net) → Type 0
HasFewItems n m = items m ≤ 3 * length n.wires + 2 * length n.registers + 6 * length n.memories
    + all_concatenated n.wires

-- For each netlist with room for tags, the netlist with tags has few more items.
abbrev pub TaintedIsSmall : Type 0
TaintedIsSmall = (w : ℕ) (n : Net) → HasRoomForTags n → HasFewItems n (tainted w n)
