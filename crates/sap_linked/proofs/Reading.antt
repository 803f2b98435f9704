-- What holds under a name of a netlist, and which names can be read.
use Rattle.sap_lemmas.proofs.Common.{◌≡◌, ℕ, List, [], ◌∷◌, map, Some, AllByRecursion, all_follow, all_second, map_of_all}
use Rattle.sap_maps.specs.Prelude.{Name, Scope, find}
use Rattle.sap_maps.proofs.Scopes.{found_here}
use Rattle.sap_net.specs.Prelude.{Net, Shapes, AreWires, readable_after, IsNetlist, first_readable, readable, shapes}
use Rattle.sap_net.specs.declared.parts.Input.{Input}
use Rattle.sap_net.specs.declared.parts.Wire.{Wire}
use Rattle.sap_net.specs.declared.parts.Register.{Register}
use Rattle.sap_net.proofs.RulesLemmas.{readable_kept, values_found}
use Rattle.sap_build.proofs.Inside.{of_entries}

-- what holds of the names of all holds of a name that is found
pub at_name : {X Y : Type 0} (name : Y → Name) (of : Y → X) (P : Name → Type 0) (ys : List Y) → AllByRecursion (λ y. P (name y)) ys
    → (x : Name) (u : X) → find (map (λ y. (name y, of y)) ys) x ≡ Some u → P x
at_name {X} {Y} name of P ys a =
    of_entries {X = X} (λ x u. P x) (map (λ y. (name y, of y)) ys) (map_of_all {X = Y} {Y = Name × X} (λ e. P e.0) (λ y. (name y, of y)) ys a)

pub register_read : (n : Net) → IsNetlist n → (x : Name) (u : ℕ) → find (map (λ (r : Register). (r.name, r.width)) n.registers) x ≡ Some u → find (readable n) x ≡ Some u
register_read n rules =
    of_entries (λ x u. find (readable n) x ≡ Some u) (map (λ (r : Register). (r.name, r.width)) n.registers)
    (all_follow (λ (e : Name × ℕ). find (first_readable n) e.0 ≡ Some e.1) (λ e. find (readable n) e.0 ≡ Some e.1) (map (λ (r : Register). (r.name, r.width)) n.registers)
    (λ e h. readable_kept (shapes n) n.wires (first_readable n) rules.assigns e.0 e.1 h)
    (all_second {X = Name × ℕ} (λ (e : Name × ℕ). find (first_readable n) e.0 ≡ Some e.1)
    (map {B = Name × ℕ} (λ (i : Input). (i.name, i.width)) n.inputs)
    (map {B = Name × ℕ} (λ (r : Register). (r.name, r.width)) n.registers) (values_found (shapes n) (first_readable n) rules.values)))

wires_read : (ms : Shapes) (ws : List Wire) (sc : Scope) → AreWires ms sc ws
    → AllByRecursion (λ e. find (readable_after sc ws) e.0 ≡ Some e.1) (map {B = Name × ℕ} (λ (w : Wire). (w.name, w.width)) ws)
wires_read ms [] sc a = tt
wires_read ms (w ∷ ws) sc a = (
  readable_kept ms ws ((w.name, w.width) ∷ sc) a.4 w.name w.width (found_here w.name w.width sc),
  wires_read ms ws ((w.name, w.width) ∷ sc) a.4,
)

pub wire_read : (n : Net) → IsNetlist n → (x : Name) (u : ℕ) → find (map (λ (w : Wire). (w.name, w.width)) n.wires) x ≡ Some u → find (readable n) x ≡ Some u
wire_read n rules = of_entries (λ x u. find (readable n) x ≡ Some u) (map (λ (w : Wire). (w.name, w.width)) n.wires)
    (wires_read (shapes n) n.wires (first_readable n) rules.assigns)
