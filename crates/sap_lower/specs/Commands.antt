-- The wires that assignments become, and what each name stands for after them.
use Rattle.std.specs.Prelude.{ℕ, Bool, true, false, List, [], ◌∷◌, unwrap_or}
use Rattle.sap_maps.specs.Maps.{Name}
use Rattle.sap_maps.specs.Scope.{find}
use Rattle.sap_maps.specs.Term.{Term}
use Rattle.sap_net.specs.Rules.{Shapes}
use Rattle.sap_net.specs.declared.parts.Operand.{Operand}
use Rattle.sap_net.specs.declared.parts.Operand.TheVariants.{Constant}
use Rattle.sap_net.specs.declared.parts.Right.TheVariants.{Choose}
use Rattle.sap_net.specs.declared.parts.Wire.{Wire}
use Rattle.sap_ir.specs.Source.{Action, set, put, Command}
use Rattle.sap_fold.specs.Folding.{same_operand}
use Rattle.sap_share.specs.Tables.{replaced}
use Rattle.sap_lower.specs.declared.lowering.Lowering.{Lowering}
use Rattle.sap_lower.specs.declared.parts.Part.{Part}
use Rattle.sap_lower.specs.declared.parts.WritePort.{WritePort}
use Rattle.sap_lower.specs.Facts.{facts_of, is_zero}
use Rattle.sap_lower.specs.Lowering.{present, Low, plus, low}
use Rattle.sap_lower.specs.Reads.{entries_seen}
use Rattle.sap_lower.specs.Writes.{low_write}

-- The write port of a memory that isn't there.
abbrev pub no_port : WritePort
no_port = record { width = 0; bits = 0; enable = Constant 0 0; index = Constant 0 0; value = Constant 0 0 }

-- The write port of a memory so far.
abbrev pub port_of : List (Name × WritePort) → Name → WritePort
port_of ps m = unwrap_or (find ps m) no_port

-- What is assigned where the condition is 1, and else what was there; or what was there in any case.
abbrev pub chosen_unless : (kept : Bool) → List (Name × Part) → Name → (when value : Operand) → List Wire → Low
chosen_unless true es x c a ws = record { wires = ws; part = present es x }
chosen_unless false es x c a ws = let old = present es x in plus ws old.width (Choose c a old.operand)

-- What a name stands for after an assignment: what was there, where what is assigned is that as it is seen there.
abbrev pub chosen : (seen es : List (Name × Part)) → Name → (when value : Operand) → List Wire → Low
chosen seen es x c a ws = chosen_unless (same_operand a (present seen x).operand) es x c a ws

-- What each name stands for where a gate that has these wires and this operand is 1.
abbrev pub entries_under : (gate : Low) → List (Name × Part) → List (Name × Part)
entries_under z es = entries_seen z.wires (facts_of z.wires z.part.operand) es

-- What each name stands for where nothing is known.
abbrev pub entries_plain : List (Name × Part) → List (Name × Part)
entries_plain es = entries_seen [] [] es

-- The wires of an assignment under a condition: the new number where the condition is 1, else what stands.
abbrev pub low_chosen : Shapes → List (Name × Part) → List Wire → Term Name → Name → Term Name → Low
low_chosen ms es ws c x a =
    let z = low ms (entries_plain es) c ws in
    let seen = entries_under z es in
    let y = low ms seen a z.wires in
    chosen seen es x z.part.operand y.part.operand y.wires

-- The wires of an assignment in the list.
abbrev pub low_set : Shapes → Lowering → Term Name → Name → Term Name → Low
low_set ms l c x a = low_chosen ms l.entries l.wires c x a

-- Wires and a write port.
pub record Ported : Type 0 where
  pub wires : List Wire
  pub port : WritePort

-- What a port takes over from a write: of the first write all, since it counts only where that write is done; else a
-- choice.
abbrev pub taken_over : (first : Bool) → List Wire → (width : ℕ) → (when new old : Operand) → Low
taken_over true ws w c n o = record { wires = ws; part = record { operand = n; width = w } }
taken_over false ws w c n o = plus ws w (Choose c n o)

-- The port after one more write; before the first its condition is the constant 0.
abbrev pub merged_port : WritePort → (when index value : Operand) → List Wire → Ported
merged_port p c i a ws =
    let first = is_zero p.enable in
    let e = plus ws 1 (Choose c (Constant 1 1) p.enable) in
    let j = taken_over first e.wires p.bits c i p.index in
    let k = taken_over first j.wires p.width c a p.value in
    record {
      wires = k.wires;
      port = record {
        width = p.width;
        bits = p.bits;
        enable = e.part.operand;
        index = j.part.operand;
        value = k.part.operand;
      };
    }

-- The wires of a memory's write under a condition.
abbrev pub low_put : Shapes → List (Name × Part) → Name → WritePort → (c i a : Term Name) → List Wire → Ported
low_put ms es m p c i a ws =
    let z = low ms (entries_plain es) c ws in
    let seen = entries_under z es in
    let y = low ms seen i z.wires in
    let x = low_write ms seen m z.part.operand y.part.operand a y.wires in
    merged_port p x.write.when y.part.operand x.write.value x.wires

-- A name stands for another part.
abbrev pub assigned : Lowering → Name → Low → Lowering
assigned l x m = record { wires = m.wires; entries = replaced l.entries x m.part; ports = l.ports }

-- A memory has another write port, after these wires.
abbrev pub written : Lowering → Name → Ported → Lowering
written l m p = record { wires = p.wires; entries = l.entries; ports = replaced l.ports m p.port }

-- What stands after an action under a condition.
abbrev pub low_action : Shapes → Lowering → (when : Term Name) → Action → Lowering
low_action ms l c (set x a) = assigned l x (low_set ms l c x a)
low_action ms l c (put m i a) = written l m (low_put ms l.entries m (port_of l.ports m) c i a l.wires)

-- What stands after a guarded command.
abbrev pub low_command : Shapes → Lowering → Command → Lowering
low_command ms l c = low_action ms l c.when c.act

-- What stands after a list of guarded commands.
abbrev pub low_commands : Shapes → Lowering → List Command → Lowering
low_commands ms l [] = l
low_commands ms l (c ∷ cs) = low_commands ms (low_command ms l c) cs
