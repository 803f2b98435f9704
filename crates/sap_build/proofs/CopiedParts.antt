-- A copy is a whole of one part.
use Rattle.sap_lemmas.proofs.Common.{◌≡◌, List, [], ◌∷◌, ◌++◌, map, Some, true, false, ap, ◌∙◌, subst, refl, inl, inr, AllByRecursion, bytes_eq, cases_Bool, or_right, all_follow, bytes_eq_same}
use Rattle.sap_maps.specs.Prelude.{Name, find}
use Rattle.sap_maps.proofs.Scopes.{found_behind, found_here}
use Rattle.sap_net.specs.Prelude.{AreDistinct, is_among, Net, Shapes, AreValues, IsNetlist, first_readable, memory_names, readable, register_names, shapes}
use Rattle.sap_net.specs.declared.parts.Input.{Input}
use Rattle.sap_net.specs.declared.parts.Wire.{Wire}
use Rattle.sap_net.specs.declared.parts.Register.{Register}
use Rattle.sap_net.specs.declared.parts.Memory.{Memory}
use Rattle.sap_net.proofs.InputLemmas.{past_inputs}
use Rattle.sap_net.proofs.NamesLemmas.{filter_distinct, found_of, not_found}
use Rattle.sap_net.proofs.RulesLemmas.{wires_distinct}
use Rattle.sap_build.specs.Copies.{copy_wire, copy_register, copy_memory, copy_net, KeepsApart, IsOneToOne}
use Rattle.sap_build.specs.Parts.{IsPart, Feeds}
use Rattle.sap_build.proofs.Back.{inputs_found}
use Rattle.sap_build.proofs.Copied.{among_apart, names_copied}
use Rattle.sap_build.proofs.Found.{AllAmong, entries_copied, entries_declared, found_copied, inputs_among, memories_among, registers_among, wires_among}
use Rattle.sap_build.proofs.Through.{readable_found}

-- where names are distinct each finds its own
each_named : {Y : Type 0} (name : Y → Name) (ys : List Y) → AreDistinct (map name ys) → AllByRecursion (λ y. find (map (λ y. (name y, y)) ys) (name y) ≡ Some y) ys
each_named name [] d = tt
each_named {Y} name (y ∷ ys) d = (
  found_here (name y) y (map (λ y. (name y, y)) ys),
  all_follow (λ (z : Y). find (map (λ y. (name y, y)) ys) (name z) ≡ Some z) (λ z. find ((name y, y) ∷ map (λ y. (name y, y)) ys) (name z) ≡ Some z) ys
      (λ z h. found_behind (map (λ y. (name y, y)) ys) (name y) y (not_found name (λ y. y) ys (name y) d.0) (name z) z h) (each_named name ys d.1),
)

-- and so does its copy among the copies
each_copied : {Y : Type 0} (f : Name → Name) (copy : Y → Y) (name : Y → Name) → ((y : Y) → name (copy y) ≡ f (name y)) → (ns : List Name)
    → IsOneToOne f ns → (ys : List Y) → AllAmong (map name ys) ns → AreDistinct (map name ys)
    → AllByRecursion (λ y. find (map (λ y. (name y, y)) (map copy ys)) (f (name y)) ≡ Some (copy y)) ys
each_copied {Y} f copy name h ns one ys among d =
    all_follow (λ (y : Y). find (map (λ y. (name y, y)) ys) (name y) ≡ Some y) (λ y. find (map (λ y. (name y, y)) (map copy ys)) (f (name y)) ≡ Some (copy y)) ys
    (λ y g.
    ap (λ (es : List (Name × Y)). find es (f (name y))) (entries_copied f copy name (λ y. y) (λ y. y) copy ys h (λ y. refl))
    ∙ found_copied f copy ns one (map (λ y. (name y, y)) ys) (entries_declared name (λ y. y) ns ys among) (name y) y g)
    (each_named name ys d)

-- an input has no register's name
inputs_apart : (ms : Shapes) (is : List Input) (rs : List Register)
    → AreValues ms (map (λ i. (i.name, i.width)) is ++ map (λ r. (r.name, r.width)) rs) → AllByRecursion (λ i. is_among i.name (map (λ r. r.name) rs) ≡ false) is
inputs_apart ms [] rs rules = tt
inputs_apart ms (i ∷ is) rs rules = (
  elim (cases_Bool (is_among i.name (map (λ r. r.name) rs))) [
    | inl t ↦ absurd (let some = found_of (λ (r : Register). r.name) (λ r. r.width) rs i.name t in
        let none = past_inputs is (map (λ r. (r.name, r.width)) rs) i.name rules.1 in let e = some.1 in cc)
    | inr q ↦ q
  ],
  inputs_apart ms is rs rules.3,
)

module _ (module_name : Name) (f : Name → Name) (n : Net) (rules : IsNetlist n) (k : KeepsApart f n) where
  clocked_apart : (x : Name) → is_among x n.names ≡ true → is_among x (register_names n) ≡ false → is_among (f x) (register_names (copy_net module_name f n)) ≡ false
  clocked_apart x d h =
      ap (λ (ns : List Name). is_among (f x) ns) (names_copied f (copy_register f) (λ r. r.name) (λ r. refl) n.registers)
      ∙ among_apart f n.names k.apart x d (register_names n) (registers_among n rules) ∙ h

  fed : (is : List Input) → AllAmong (map (λ i. i.name) is) n.names → AllByRecursion (λ i. find (readable n) i.name ≡ Some i.width) is
      → AllByRecursion (λ i. is_among i.name (register_names n) ≡ false) is
      → AllByRecursion (λ i. Feeds (copy_net module_name f n) (f i.name) i.width) is
  fed [] among a b = tt
  fed (i ∷ is) among a b = (
    record {
      width = readable_found module_name f n rules k i.name i.width a.0;
      unclocked = clocked_apart i.name (among i.name (rw (bytes_eq_same i.name) refl)) b.0;
    },
    fed is (λ x h. among x (or_right (bytes_eq x i.name) (is_among x (map (λ i. i.name) is)) h)) a.1 b.1,
  )

  pub copy_is_whole : IsPart f n (copy_net module_name f n)
  copy_is_whole =
      record {
        fed = fed n.inputs (inputs_among n rules) (inputs_found n rules) (inputs_apart (shapes n) n.inputs n.registers rules.values);
        wires = each_copied f (copy_wire f) (λ (w : Wire). w.name) (λ w. refl) n.names k.apart n.wires (wires_among n rules)
            (wires_distinct (shapes n) n.wires (first_readable n) rules.assigns);
        registers = each_copied f (copy_register f) (λ (r : Register). r.name) (λ r. refl) n.names k.apart n.registers (registers_among n rules)
            (subst (λ (ns : List Name). AreDistinct ns) rules.registers_in_order (filter_distinct (λ x. is_among x (register_names n)) n.names rules.declared_once));
        memories = each_copied f (copy_memory f) (λ (m : Memory). m.name) (λ m. refl) n.names k.apart n.memories (memories_among n rules)
            (subst (λ (ns : List Name). AreDistinct ns) rules.memories_in_order (filter_distinct (λ x. is_among x (memory_names n)) n.names rules.declared_once));
      }
