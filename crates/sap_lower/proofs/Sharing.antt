-- No two helping wires have the same width and the same right side.
use Rattle.sap_lemmas.proofs.Common.{◌≡◌, ℕ, ◌^◌, ◌<◌, List, [], ◌∷◌, ◌++◌, map, filter, not, length, Option, Some, None, true, false, sym, ap, subst, refl, AllByRecursion}
use Rattle.sap_maps.specs.Prelude.{Name, find}
use Rattle.sap_net.specs.Prelude.{is_among}
use Rattle.sap_net.specs.declared.parts.Right.{Right}
use Rattle.sap_net.specs.declared.parts.Wire.{Wire}
use Rattle.sap_ir.specs.Prelude.{Source, shapes, variable_names, memory_names, IsGuarded}
use Rattle.sap_ir.specs.declared.guarded.Var.{Var}
use Rattle.sap_ir.proofs.Declared.{not_front, not_behind_list}
use Rattle.sap_lower.specs.declared.parts.Part.{Part}
use Rattle.sap_share.specs.Differing.{AllDiffer}
use Rattle.sap_share.specs.Keys.{key}
use Rattle.sap_share.specs.Names.{helper}
use Rattle.sap_share.specs.Rights.{rights}
use Rattle.sap_share.proofs.Differing.{all_more}
use Rattle.sap_lower.specs.Lowering.{shared, plus}
use Rattle.sap_lower.specs.Lowered.{listed, out_wire, all_wires, first_lowering, last_lowering, lowered}
use Rattle.sap_lower.specs.Same.{SharesWires}
use Rattle.sap_lower.proofs.Adding.{OfEach, commands_added}
use Rattle.sap_lower.proofs.Fits.{IsHelper}
use Rattle.sap_lower.proofs.Listed.{listed_holds}
use Rattle.sap_lower.proofs.Netlist.{helpers_apart, last_fits}
use Rattle.sap_lower.proofs.Rules.{each_variable}
use Rattle.sap_lower.proofs.Whole.{last_short}

-- one more wire, or the one that is there

shared_differ : (ws : List Wire) (u : ℕ) (r : Right) (o : Option Name) → find (rights ws) (key u r) ≡ o → AllDiffer ws → AllDiffer (shared o ws u r).wires
shared_differ ws u r (Some n) e a = a
shared_differ ws u r None e a = all_more ws (record { name = helper (length ws); width = u; right = r }) e a

plus_differ : (ws : List Wire) (u : ℕ) (r : Right) → AllDiffer ws → AllDiffer (plus ws u r).wires
plus_differ ws u r a = shared_differ ws u r (find (rights ws) (key u r)) refl a

abbrev StaysDiffering : List Wire → List Wire → Type 0
StaysDiffering ws xs = AllDiffer ws → AllDiffer xs

differing : OfEach StaysDiffering
differing = record { none = λ ws a. a; both = λ ws xs ys f g a. g (f a); wire = plus_differ }

-- the helping wires are those of the commands

helping_is : (names : List Name) (es : List (Name × Part)) (ws : List Wire) (xs : List Var)
    → AllByRecursion (λ w. is_among w.name names ≡ false) ws → AllByRecursion (λ x. is_among x.name names ≡ true) xs
    → filter (λ w. not (is_among w.name names)) (ws ++ map (out_wire es) xs) ≡ ws
helping_is names es (w ∷ ws) xs d a = let f = d.0 in rw f (ap (λ (r : List Wire). w ∷ r) (helping_is names es ws xs d.1 a))
helping_is names es [] [] d a = refl
helping_is names es [] (x ∷ xs) d a = let t = a.0 in rw t (helping_is names es [] xs d a.1)

no_wire : (s : Source) → IsGuarded s → (k : ℕ) → k < 2 ^ 64 → is_among (helper k) (variable_names s.wires) ≡ false
no_wire s g k l =
    let ws = variable_names s.wires in
    let ms = memory_names s.memories in
    let a = not_behind_list (helper k) (variable_names s.inputs) (variable_names s.registers ++ (ws ++ ms)) (helpers_apart s g k l) in
    not_front (helper k) ws ms (not_behind_list (helper k) (variable_names s.registers) (ws ++ ms) a)

no_wires : (s : Source) → IsGuarded s → (ws : List Wire) → AllByRecursion IsHelper ws → AllByRecursion (λ w. is_among w.name (variable_names s.wires) ≡ false) ws
no_wires s g [] a = tt
no_wires s g (w ∷ ws) a =
    (subst (λ (n : Name). is_among n (variable_names s.wires) ≡ false) (sym a.0.2) (no_wire s g a.0.0 a.0.1), no_wires s g ws a.1)

pub shares_wires : (s : Source) → IsGuarded s → length (all_wires s) < 2 ^ 64 → SharesWires s (lowered s)
shares_wires s g l =
    let t = last_lowering s in
    let names = variable_names s.wires in
    let fits = last_fits s g (last_short s l) in
    let there = each_variable (λ x. is_among x.name names ≡ true) s.wires (λ x a. a) in
    let e = helping_is names t.entries t.wires (listed s.ports s.wires) (no_wires s g t.wires fits.fits.helping)
    (listed_holds (λ x. is_among x.name names ≡ true) s.ports s.wires there) in
    subst AllDiffer (sym e) (commands_added StaysDiffering differing (shapes s) s.commands (first_lowering s) tt)
