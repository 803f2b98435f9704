-- What each input, wire, register and memory of a netlist has under its name.
use Rattle.sap_lemmas.proofs.Common.{◌≡◌, ℕ, List, [], ◌∷◌, ◌++◌, map, Some, None, false, subst, refl, inl, inr, AllByRecursion, bytes_eq, cases_Bool, all_follow, all_of_map, all_parts}
use Rattle.sap_maps.specs.Prelude.{Name, Scope, find}
use Rattle.sap_maps.proofs.Scopes.{found_behind, found_here, not_behind}
use Rattle.sap_net.specs.Prelude.{AreDistinct, is_among, Net, Shapes, AreValues, AreWires, readable_after, IsNetlist, first_readable, memory_names, readable, register_names, shapes}
use Rattle.sap_net.specs.declared.parts.Input.{Input}
use Rattle.sap_net.specs.declared.parts.Wire.{Wire}
use Rattle.sap_net.specs.declared.parts.Register.{Register}
use Rattle.sap_net.specs.declared.parts.Memory.{Memory}
use Rattle.sap_net.proofs.InputLemmas.{past_inputs}
use Rattle.sap_net.proofs.NamesLemmas.{filter_distinct, found_of, not_found}
use Rattle.sap_net.proofs.RulesLemmas.{readable_kept, values_found, wires_distinct}
use Rattle.sap_build.specs.Parts.{Feeds}

-- where names are distinct each finds its own
each_named : {Y : Type 0} (name : Y → Name) (ys : List Y) → AreDistinct (map name ys) → AllByRecursion (λ y. find (map (λ y. (name y, y)) ys) (name y) ≡ Some y) ys
each_named name [] d = tt
each_named {Y} name (y ∷ ys) d = (
  found_here (name y) y (map (λ y. (name y, y)) ys),
  all_follow (λ (z : Y). find (map (λ y. (name y, y)) ys) (name z) ≡ Some z) (λ z. find ((name y, y) ∷ map (λ y. (name y, y)) ys) (name z) ≡ Some z) ys
      (λ z h. found_behind (map (λ y. (name y, y)) ys) (name y) y (not_found name (λ y. y) ys (name y) d.0) (name z) z h) (each_named name ys d.1),
)

no_register : (rs : List Register) (x : Name) → find (map (λ (r : Register). (r.name, r.width)) rs) x ≡ None → is_among x (map (λ (r : Register). r.name) rs) ≡ false
no_register rs x none =
    elim (cases_Bool (is_among x (map (λ (r : Register). r.name) rs))) [
      | inl t ↦ absurd (let some = found_of (λ (r : Register). r.name) (λ r. r.width) rs x t in let e = some.1 in cc)
      | inr q ↦ q
    ]

pub inputs_apart : (ms : Shapes) (is : List Input) (rs : List Register)
    → AreValues ms (map (λ i. (i.name, i.width)) is ++ map (λ r. (r.name, r.width)) rs) → AllByRecursion (λ i. is_among i.name (map (λ (r : Register). r.name) rs) ≡ false) is
inputs_apart ms [] rs rules = tt
inputs_apart ms (i ∷ is) rs rules = (no_register rs i.name (past_inputs is (map (λ r. (r.name, r.width)) rs) i.name rules.1), inputs_apart ms is rs rules.3)

pub both : {X : Type 0} (P Q R : X → Type 0) (xs : List X) → ((x : X) → P x → Q x → R x) → AllByRecursion P xs → AllByRecursion Q xs → AllByRecursion R xs
both P Q R [] h a b = tt
both P Q R (x ∷ xs) h a b = (h x a.0 b.0, both P Q R xs h a.1 b.1)

unclocked_wires : (n : Net) (ws : List Wire) (sc : Scope) → AreWires (shapes n) sc ws
    → ((x : Name) → find sc x ≡ None → is_among x (register_names n) ≡ false) → AllByRecursion (λ w. is_among w.name (register_names n) ≡ false) ws
unclocked_wires n [] sc a h = tt
unclocked_wires n (w ∷ ws) sc a h = (h w.name a.1, unclocked_wires n ws ((w.name, w.width) ∷ sc) a.4 (λ x none. h x (not_behind (w.name, w.width) sc x none)))

pub wires_read : (ms : Shapes) (ws : List Wire) (sc : Scope) → AreWires ms sc ws → AllByRecursion (λ w. find (readable_after sc ws) w.name ≡ Some w.width) ws
wires_read ms [] sc a = tt
wires_read ms (w ∷ ws) sc a = (
  readable_kept ms ws ((w.name, w.width) ∷ sc) a.4 w.name w.width (found_here w.name w.width sc),
  wires_read ms ws ((w.name, w.width) ∷ sc) a.4,
)

some_is_none : {X : Type 0} (x : X) → Some x ≡ None → ⊥
some_is_none x e = cc

not_in_front : {X : Type 0} (es fs : List (Name × X)) (x : Name) → find (es ++ fs) x ≡ None → find es x ≡ None
not_in_front [] fs x h = refl
not_in_front {X} (e ∷ es) fs x h =
    elim (cases_Bool (bytes_eq e.0 x)) [
      | inl t ↦ absurd (some_is_none e.1 (rw t at h))
      | inr q ↦ rw q (not_in_front es fs x (rw q at h))
    ]

pub values_front : (ms : Shapes) (es fs : Scope) → AreValues ms (es ++ fs) → AreValues ms es
values_front ms [] fs a = tt
values_front ms (e ∷ es) fs a = (a.0, not_in_front es fs e.0 a.1, a.2, values_front ms es fs a.3)

module _ (n : Net) (rules : IsNetlist n) where
  pub inputs_found : AllByRecursion (λ i. find (map (λ (i : Input). (i.name, i.width)) n.inputs) i.name ≡ Some i.width) n.inputs
  inputs_found =
      all_of_map (λ (e : Name × ℕ). find (map (λ (i : Input). (i.name, i.width)) n.inputs) e.0 ≡ Some e.1) (λ (i : Input). (i.name, i.width)) n.inputs
      (values_found (shapes n) (map (λ (i : Input). (i.name, i.width)) n.inputs)
      (values_front (shapes n) (map (λ (i : Input). (i.name, i.width)) n.inputs) (map (λ (r : Register). (r.name, r.width)) n.registers) rules.values))

  pub inputs_feed : AllByRecursion (λ i. Feeds n i.name i.width) n.inputs
  inputs_feed =
      both (λ (i : Input). find (first_readable n) i.name ≡ Some i.width) (λ i. is_among i.name (register_names n) ≡ false) (λ i. Feeds n i.name i.width) n.inputs
      (λ i h u. record { width = readable_kept (shapes n) n.wires (first_readable n) rules.assigns i.name i.width h; unclocked = u })
      (all_of_map (λ (e : Name × ℕ). find (first_readable n) e.0 ≡ Some e.1) (λ (i : Input). (i.name, i.width)) n.inputs
      (all_parts {X = Name × ℕ} (λ (e : Name × ℕ). find (first_readable n) e.0 ≡ Some e.1)
      (map {B = Name × ℕ} (λ (i : Input). (i.name, i.width)) n.inputs)
      (map {B = Name × ℕ} (λ (r : Register). (r.name, r.width)) n.registers) (values_found (shapes n) (first_readable n) rules.values)).0)
      (inputs_apart (shapes n) n.inputs n.registers rules.values)

  pub wires_feed : AllByRecursion (λ w. Feeds n w.name w.width) n.wires
  wires_feed =
      both (λ (w : Wire). find (readable n) w.name ≡ Some w.width) (λ w. is_among w.name (register_names n) ≡ false) (λ w. Feeds n w.name w.width) n.wires
      (λ w h u. record { width = h; unclocked = u })
      (wires_read (shapes n) n.wires (first_readable n) rules.assigns)
      (unclocked_wires n n.wires (first_readable n) rules.assigns (λ x none. no_register n.registers x (past_inputs n.inputs (map (λ r. (r.name, r.width)) n.registers) x none)))

  pub wires_own : AllByRecursion (λ w. find (map (λ (w : Wire). (w.name, w)) n.wires) w.name ≡ Some w) n.wires
  wires_own = each_named (λ (w : Wire). w.name) n.wires (wires_distinct (shapes n) n.wires (first_readable n) rules.assigns)

  pub registers_own : AllByRecursion (λ r. find (map (λ (r : Register). (r.name, r)) n.registers) r.name ≡ Some r) n.registers
  registers_own =
      each_named (λ (r : Register). r.name) n.registers
      (subst (λ (ns : List Name). AreDistinct ns) rules.registers_in_order (filter_distinct (λ x. is_among x (register_names n)) n.names rules.declared_once))

  pub memories_own : AllByRecursion (λ m. find (map (λ (m : Memory). (m.name, m)) n.memories) m.name ≡ Some m) n.memories
  memories_own =
      each_named (λ (m : Memory). m.name) n.memories
      (subst (λ (ns : List Name). AreDistinct ns) rules.memories_in_order (filter_distinct (λ x. is_among x (memory_names n)) n.names rules.declared_once))
