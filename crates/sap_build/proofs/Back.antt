-- Every run of a netlist is one of a run of its copy.
use Rattle.sap_lemmas.proofs.Common.{◌≡◌, ℕ, List, [], ◌∷◌, map, Option, Some, None, subst, ◌^◌, ◌<◌, true, AllByRecursion, all_of_map, all_parts, all_follow}
use Rattle.sap_maps.specs.Prelude.{Name, Valuation, find}
use Rattle.sap_net.specs.Prelude.{Net, is_name, IsNetlist, first_readable, readable, shapes, InputsFit, InputsAre, AllFit, IsRun, IsRunAfter, IsWithin, AreSameRuns}
use Rattle.sap_net.specs.declared.parts.Input.{Input}
use Rattle.sap_net.proofs.Exists.{run_exists}
use Rattle.sap_net.proofs.Same.{run_same}
use Rattle.sap_net.proofs.RulesLemmas.{values_found, readable_kept}
use Rattle.sap_build.specs.Copies.{copy_input, copy_net, KeepsApart, through}
use Rattle.sap_build.proofs.Copied.{copy_is_netlist}
use Rattle.sap_build.proofs.Through.{run_through}

pub inputs_found : (n : Net) → IsNetlist n → AllByRecursion (λ i. find (readable n) i.name ≡ Some i.width) n.inputs
inputs_found n rules =
    all_follow (λ (i : Input). find (first_readable n) i.name ≡ Some i.width) (λ i. find (readable n) i.name ≡ Some i.width) n.inputs
    (λ i h. readable_kept (shapes n) n.wires (first_readable n) rules.assigns i.name i.width h)
    (all_of_map (λ (e : Name × ℕ). find (first_readable n) e.0 ≡ Some e.1) (λ (i : Input). (i.name, i.width)) n.inputs
    (all_parts {X = Name × ℕ} (λ (e : Name × ℕ). find (first_readable n) e.0 ≡ Some e.1)
    (map {B = Name × ℕ} (λ i. (i.name, i.width)) n.inputs) (map {B = Name × ℕ} (λ r. (r.name, r.width)) n.registers)
    (values_found (shapes n) (first_readable n) rules.values)).0)

inputs_fit : (f : Name → Name) (n : Net) (v : Valuation) → IsWithin n v → (is : List Input)
    → AllByRecursion (λ i. find (readable n) i.name ≡ Some i.width) is → (xs : List ℕ) → InputsAre v is xs → InputsFit (map (copy_input f) is) xs
inputs_fit f n v w [] a [] h = tt
inputs_fit f n v w [] a (x ∷ xs) h = h
inputs_fit f n v w (i ∷ is) a [] h = h
inputs_fit f n v w (i ∷ is) a (x ∷ xs) h = (
  subst (λ (k : ℕ). k < 2 ^ i.width) h.0 (w.value i.name i.width a.0),
  inputs_fit f n v w is a.1 xs h.1,
)

all_fit : (f : Name → Name) (n : Net) → IsNetlist n → (xss : List (List ℕ)) (p : Option Valuation) (vs : List Valuation)
    → IsRunAfter n p xss vs → AllFit (map (copy_input f) n.inputs) xss
all_fit f n rules [] p vs r = tt
all_fit f n rules (xs ∷ xss) p [] r = absurd r
all_fit f n rules (xs ∷ xss) p (v ∷ vs) r = (
  inputs_fit f n v r.0.valuation.within n.inputs (inputs_found n rules) xs r.0.given,
  all_fit f n rules xss (Some v) vs r.1,
)

pub run_back : (module_name : Name) (f : Name → Name) (n : Net) → is_name module_name ≡ true → IsNetlist n → KeepsApart f n
    → (xss : List (List ℕ)) (vs : List Valuation) → IsRun n xss vs → (us : List Valuation) × IsRun (copy_net module_name f n) xss us × AreSameRuns n vs (map (through f) us)
run_back module_name f n named rules k xss vs r =
    let some = run_exists (copy_net module_name f n) (copy_is_netlist module_name f n named rules k) xss None tt (all_fit f n rules xss None vs r) in (
      some.0,
      some.1,
      run_same n rules xss None None vs (map (through f) some.0) tt r (run_through module_name f n rules k xss None some.0 some.1),
    )
