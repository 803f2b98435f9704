-- What the netlist that is made keeps.
use Rattle.std.proofs.Common.{◌≡◌, ◌<◌, ◌^◌, List, length, sym, ap, subst, ◌∙◌, arith}
use Rattle.sap_lattice.specs.Prelude.{width_of, Levels, order_of, IsNarrow, KeepsNames}
use Rattle.sap_lattice.proofs.KeptLemmas.{order_of-count}
use Rattle.sap_maps.specs.Maps.{Name}
use Rattle.sap_net.specs.Prelude.{Net, IsWidth, IsNetlist}
use Rattle.sap_taint.specs.TagNames.{HasRoomForTags}
use Rattle.sap_taint.specs.Carries.{CarriesTaint}
use Rattle.sap_taint_pass.specs.Helping.{tainted}
use Rattle.sap_taint_pass.proofs.Carries.{is_netlist, carries}
use Rattle.sap_taint_pass.proofs.Made.{is_small}

-- Codes are as wide as tags may be.
code_width : (l : Levels) → KeepsNames l.names → IsNarrow (order_of l) → IsWidth (width_of (order_of l))
code_width l names narrow =
    let count : (order_of l).count ≡ length l.names = order_of-count l in
    (omega (arith, narrow.some), omega (arith, narrow.few, names.before.not_too_many, count))

pub kept : (l : Levels) (n m : Net) (names : List Name) → KeepsNames l.names → IsNarrow (order_of l) → IsNetlist n → HasRoomForTags n → length names < 2 ^ 63 → names ≡ m.names
    → m ≡ tainted (width_of (order_of l)) n → IsNetlist m × CarriesTaint (width_of (order_of l)) n m
kept l n m names named narrow rules room few held same =
    let w = width_of (order_of l) in
    let wide = code_width l named narrow in
    let small = is_small w n names few (held ∙ ap (λ (x : Net). x.names) same) in
    (subst IsNetlist (sym same) (is_netlist w n wide rules room small), subst (CarriesTaint w n) (sym same) (carries w n wide rules room small))
