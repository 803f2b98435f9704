-- Each wire that is a port is a copy.
use Rattle.sap_lemmas.proofs.Common.{◌≡◌, ℕ, ◌^◌, ◌<◌, List, [], ◌∷◌, ◌++◌, map, length, true, false, sym, ◌∙◌, subst, refl, inl, inr, append_assoc, AllByRecursion, cases_Bool}
use Rattle.sap_net.proofs.NamesLemmas.{among_append, among_each}
use Rattle.sap_lower.proofs.LoweredLemmas.{ports_named}
use Rattle.sap_maps.specs.Maps.{Name}
use Rattle.sap_net.specs.Names.{is_among}
use Rattle.sap_net.specs.declared.parts.Operand.{Operand}
use Rattle.sap_net.specs.declared.parts.Right.TheVariants.{Copy}
use Rattle.sap_net.specs.declared.parts.Wire.{Wire}
use Rattle.sap_ir.specs.Prelude.{Source, variable_names, memory_names, IsGuarded}
use Rattle.sap_ir.specs.declared.guarded.Var.{Var}
use Rattle.sap_ir.proofs.Declared.{not_front, not_behind_list}
use Rattle.sap_lower.specs.declared.parts.Part.{Part}
use Rattle.sap_share.specs.Names.{helper}
use Rattle.sap_lower.specs.Lowered.{listed, out_wire, all_wires, last_lowering, lowered}
use Rattle.sap_share.specs.Copying.{CopiesPorts}
use Rattle.sap_lower.proofs.Fits.{IsHelper}
use Rattle.sap_lower.proofs.Netlist.{helpers_apart, last_fits}
use Rattle.sap_lower.proofs.Whole.{last_short}

no_port : (s : Source) → IsGuarded s → (k : ℕ) → k < 2 ^ 64 → is_among (helper k) (variable_names s.inputs ++ s.ports) ≡ false
no_port s g k l =
    let I = variable_names s.inputs in
    let R = variable_names s.registers in
    let W = variable_names s.wires in
    let M = memory_names s.memories in
    let h = helpers_apart s g k l in
    let i = not_front (helper k) I (R ++ (W ++ M)) h in
    let b = not_behind_list (helper k) I (R ++ (W ++ M)) h in
    let c : is_among (helper k) ((R ++ W) ++ M) ≡ false = subst (λ (ns : List Name). is_among (helper k) ns ≡ false) (sym (append_assoc R W M)) b in
    let d = not_front (helper k) (R ++ W) M c in
    elim (cases_Bool (is_among (helper k) s.ports)) [
      | inl t ↦ absurd (let q = among_each (λ x. is_among x (R ++ W) ≡ true) s.ports g.ports_declared (helper k) t in cc)
      | inr f ↦ among_append (helper k) I s.ports ∙ rw (i, f) refl
    ]

no_ports : (s : Source) → IsGuarded s → (ws : List Wire) → AllByRecursion IsHelper ws → AllByRecursion (λ w. is_among w.name (variable_names s.inputs ++ s.ports) ≡ false) ws
no_ports s g [] a = tt
no_ports s g (w ∷ ws) a =
    (subst (λ (n : Name). is_among n (variable_names s.inputs ++ s.ports) ≡ false) (sym a.0.2) (no_port s g a.0.0 a.0.1), no_ports s g ws a.1)

each_copied : (ps : List Name) (es : List (Name × Part)) (ws : List Wire) (xs : List Var)
    → AllByRecursion (λ w. is_among w.name ps ≡ false) ws → AllByRecursion (λ w. is_among w.name ps ≡ true → (a : Operand) × (w.right ≡ Copy a)) (ws ++ map (out_wire es) xs)
each_copied ps es [] [] d = tt
each_copied ps es [] (x ∷ xs) d = (λ h. (_, refl), each_copied ps es [] xs tt)
each_copied ps es (w ∷ ws) xs d = (λ h. absurd (let f = d.0 in cc), each_copied ps es ws xs d.1)

pub copies_ports : (s : Source) → IsGuarded s → length (all_wires s) < 2 ^ 64 → CopiesPorts (lowered s)
copies_ports s g l =
    let t = last_lowering s in
    let fits = last_fits s g (last_short s l) in
    subst (λ (ns : List Name). AllByRecursion (λ w. is_among w.name ns ≡ true → (a : Operand) × (w.right ≡ Copy a)) (all_wires s)) (sym (ports_named s.registers s.inputs s.ports))
    (each_copied (variable_names s.inputs ++ s.ports) t.entries t.wires (listed s.ports s.wires) (no_ports s g t.wires fits.fits.helping))
