-- The tainted netlist carries the taint.
use Rattle.std.proofs.Common.{ℕ}
use Rattle.sap_net.specs.Prelude.{Net, IsWidth, IsNetlist}
use Rattle.sap_taint.specs.TagNames.{HasRoomForTags}
use Rattle.sap_taint.proofs.CarriesCycle.{CarriesCycle, carries_taint}
use Rattle.sap_taint_pass.specs.Helping.{IsSmall, helping_name, tainted}
use Rattle.sap_taint_pass.specs.Laws.{TaintedIsNetlist, TaintedCarries}
use Rattle.sap_taint_pass.proofs.Setting.{Setting}
use Rattle.sap_taint_pass.proofs.FreeNames.{are_helping}
use Rattle.sap_taint_pass.proofs.TaintedRules.{tainted_is_netlist}
use Rattle.sap_taint_pass.proofs.Form.{has_form}
use Rattle.sap_taint_pass.proofs.Cycle.{first_begins, later_begins, wires_hold}

setting : (w : ℕ) (n : Net) → IsWidth w → IsNetlist n → HasRoomForTags n → IsSmall n → Setting (helping_name n) w n
setting w n wide rules room few = record { wide = wide; rules = rules; room = room; names = are_helping n rules few }

pub is_netlist : TaintedIsNetlist
is_netlist w n wide rules room few = tainted_is_netlist (helping_name n) w n (setting w n wide rules room few)

carries_cycle : (w : ℕ) (n : Net) → IsWidth w → IsNetlist n → HasRoomForTags n → IsSmall n → CarriesCycle w n (tainted w n)
carries_cycle w n wide rules room few =
    let helping = helping_name n in
    let s = setting w n wide rules room few in
    record { form = has_form helping w n s; first = first_begins helping w n s; later = later_begins helping w n s; wires = wires_hold helping w n s }

pub carries : TaintedCarries
carries w n wide rules room few = carries_taint w n (tainted w n) rules room (is_netlist w n wide rules room few) (carries_cycle w n wide rules room few)
