-- The names of a part's netlist, by what they name.
use Rattle.sap_lemmas.proofs.Common.{◌≡◌, ◌⊎◌, ℕ, ◌≤◌, true, false, [], ◌∷◌, map, length, Some, None, sym, ◌∙◌, inl, inr, arith, AllByRecursion, byte, all_of_map, all_parts, map_of_all}
use Rattle.sap_maps.specs.Prelude.{Name, Scope, find}
use Rattle.sap_maps.proofs.ScopeLemmas.{found_first}
use Rattle.sap_net.specs.Prelude.{helper, is_among, IsHelpingName, Net, Shapes, AreValues, IsNetlist, first_readable, input_names, memory_names, register_names, shapes, wire_names}
use Rattle.sap_net.specs.declared.parts.Input.{Input}
use Rattle.sap_net.specs.declared.parts.Register.{Register}
use Rattle.sap_net.specs.declared.parts.Memory.{Memory}
use Rattle.sap_net.proofs.InputLemmas.{past_inputs}
use Rattle.sap_net.proofs.NamesLemmas.{among_each, found_of}
use Rattle.sap_net.proofs.RulesLemmas.{wires_new}
use Rattle.sap_interface.specs.Prelude.{Named, HasInterface, IsInterfaceName, value_of, tag_of, state_tag_of, child_of, child_of_root, refusal_of, level_of}
use Rattle.sap_linked.proofs.Keeping.{either_long}
use Rattle.sap_linked.proofs.Own.{inputs_apart}

-- ---- what stands under no name of the netlist

abbrev Starts : ℕ → Name → Type 0
Starts c x = (rest : Name) × (x ≡ c ∷ rest)

heads : {a b : ℕ} {xs ys : Name} → a ∷ xs ≡ b ∷ ys → a ≡ b
heads e = cc

-- the letters of the wires that feed through a level
abbrev pub IsFeedLetter : ℕ → Type 0
IsFeedLetter c = (c ≡ byte "j") ⊎ (c ≡ byte "b")

no_interface : (d : Named) (sites c : ℕ) (x : Name) → IsInterfaceName d sites x → IsFeedLetter c → Starts c x → ⊥
no_interface d sites c _ (value_of x h) (inl e) s = let f = heads s.1 in omega (arith, e, f)
no_interface d sites c _ (value_of x h) (inr e) s = let f = heads s.1 in omega (arith, e, f)
no_interface d sites c _ (tag_of x h) (inl e) s = let f = heads s.1 in omega (arith, e, f)
no_interface d sites c _ (tag_of x h) (inr e) s = let f = heads s.1 in omega (arith, e, f)
no_interface d sites c _ (state_tag_of x h l) (inl e) s = let f = heads s.1 in omega (arith, e, f)
no_interface d sites c _ (state_tag_of x h l) (inr e) s = let f = heads s.1 in omega (arith, e, f)
no_interface d sites c _ (child_of p l k) (inl e) s = let f = heads s.1 in omega (arith, e, f)
no_interface d sites c _ (child_of p l k) (inr e) s = let f = heads s.1 in omega (arith, e, f)
no_interface d sites c _ child_of_root (inl e) s = let f = heads s.1 in omega (arith, e, f)
no_interface d sites c _ child_of_root (inr e) s = let f = heads s.1 in omega (arith, e, f)
no_interface d sites c _ (refusal_of j i l) (inl e) s = let f = heads s.1 in omega (arith, e, f)
no_interface d sites c _ (refusal_of j i l) (inr e) s = let f = heads s.1 in omega (arith, e, f)
no_interface d sites c _ (level_of j i l) (inl e) s = let f = heads s.1 in omega (arith, e, f)
no_interface d sites c _ (level_of j i l) (inr e) s = let f = heads s.1 in omega (arith, e, f)

no_helper : (c : ℕ) (x : Name) → IsHelpingName x → IsFeedLetter c → Starts c x → ⊥
unfolding helper
no_helper c x h (inl e) s = let f : byte "n" ≡ c = heads (sym h.1 ∙ s.1) in omega (arith, e, f)
no_helper c x h (inr e) s = let f : byte "n" ≡ c = heads (sym h.1 ∙ s.1) in omega (arith, e, f)

no_either : (d : Named) (sites c : ℕ) (x : Name) → IsInterfaceName d sites x ⊎ IsHelpingName x → IsFeedLetter c → Starts c x → ⊥
no_either d sites c x (inl is) f s = no_interface d sites c x is f s
no_either d sites c x (inr is) f s = no_helper c x is f s

module _ (d : Named) (tag sites : ℕ) (n : Net) (interface : HasInterface d tag sites n) where
  pub name_long : (x : Name) → is_among x n.names ≡ true → 2 ≤ length x
  name_long x h = either_long d sites x (among_each (λ x. IsInterfaceName d sites x ⊎ IsHelpingName x) n.names interface.names x h)

  pub no_feed : (c : ℕ) (x : Name) → is_among x n.names ≡ true → IsFeedLetter c → Starts c x → ⊥
  no_feed c x h = no_either d sites c x (among_each (λ x. IsInterfaceName d sites x ⊎ IsHelpingName x) n.names interface.names x h)

-- ---- inputs, wires, registers and memories differ

not_both : {X : Type 0} (o : X) → Some o ≡ None → ⊥
not_both o e = cc

values_new : (ms : Shapes) (es : Scope) → AreValues ms es → AllByRecursion (λ e. find ms e.0 ≡ None) es
values_new ms [] a = tt
values_new ms (e ∷ es) a = (a.2, values_new ms es a.3)

module _ (n : Net) (rules : IsNetlist n) where
  no_memory : (x : Name) → find (shapes n) x ≡ None → is_among x (memory_names n) ≡ true → ⊥
  no_memory x none h = let some = found_of (λ (m : Memory). m.name) (λ m. (m.width, m.depth)) n.memories x h in not_both some.0 (sym some.1 ∙ none)

  pub wire_no_input : (x : Name) → is_among x (wire_names n) ≡ true → is_among x (input_names n) ≡ true → ⊥
  wire_no_input x w i =
      let some = found_of (λ (i : Input). i.name) (λ i. i.width) n.inputs x i in
      let first = found_first (map (λ (i : Input). (i.name, i.width)) n.inputs) (map (λ (r : Register). (r.name, r.width)) n.registers) x some.0 some.1 in
      not_both some.0 (sym first ∙ (wires_new (shapes n) n.wires (first_readable n) rules.assigns x w).0)

  pub wire_no_register : (x : Name) → is_among x (wire_names n) ≡ true → is_among x (register_names n) ≡ true → ⊥
  wire_no_register x w r =
      let some = found_of (λ (r : Register). r.name) (λ r. r.width) n.registers x r in
      let none = past_inputs n.inputs (map (λ r. (r.name, r.width)) n.registers) x (wires_new (shapes n) n.wires (first_readable n) rules.assigns x w).0 in
      not_both some.0 (sym some.1 ∙ none)

  pub wire_no_memory : (x : Name) → is_among x (wire_names n) ≡ true → is_among x (memory_names n) ≡ true → ⊥
  wire_no_memory x w = no_memory x (wires_new (shapes n) n.wires (first_readable n) rules.assigns x w).1

  new_values : AllByRecursion (λ e. find (shapes n) e.0 ≡ None) (map {B = Name × ℕ} (λ (i : Input). (i.name, i.width)) n.inputs)
      × AllByRecursion (λ e. find (shapes n) e.0 ≡ None) (map {B = Name × ℕ} (λ (r : Register). (r.name, r.width)) n.registers)
  new_values =
      all_parts {X = Name × ℕ} (λ e. find (shapes n) e.0 ≡ None) (map {B = Name × ℕ} (λ (i : Input). (i.name, i.width)) n.inputs)
      (map {B = Name × ℕ} (λ (r : Register). (r.name, r.width)) n.registers)
      (values_new (shapes n) (first_readable n) rules.values)

  pub input_no_memory : (x : Name) → is_among x (input_names n) ≡ true → is_among x (memory_names n) ≡ true → ⊥
  input_no_memory x i = no_memory x (among_each (λ x. find (shapes n) x ≡ None) (input_names n)
      (map_of_all (λ x. find (shapes n) x ≡ None) (λ (i : Input). i.name) n.inputs
      (all_of_map (λ (e : Name × ℕ). find (shapes n) e.0 ≡ None) (λ (i : Input). (i.name, i.width)) n.inputs new_values.0)) x i)

  pub register_no_memory : (x : Name) → is_among x (register_names n) ≡ true → is_among x (memory_names n) ≡ true → ⊥
  register_no_memory x r = no_memory x (among_each (λ x. find (shapes n) x ≡ None) (register_names n)
      (map_of_all (λ x. find (shapes n) x ≡ None) (λ (r : Register). r.name) n.registers
      (all_of_map (λ (e : Name × ℕ). find (shapes n) e.0 ≡ None) (λ (r : Register). (r.name, r.width)) n.registers new_values.1)) x r)

  pub input_no_register : (x : Name) → is_among x (input_names n) ≡ true → is_among x (register_names n) ≡ true → ⊥
  input_no_register x i r =
      let none = among_each (λ x. is_among x (register_names n) ≡ false) (input_names n)
      (map_of_all (λ x. is_among x (register_names n) ≡ false) (λ (i : Input). i.name) n.inputs (inputs_apart (shapes n) n.inputs n.registers rules.values)) x i in
      absurd (cc)
