-- Each name of the netlist of a system is one that a module can have.
use Rattle.sap_lemmas.proofs.Common.{◌≡◌, ℕ, ◌<◌, true, not, List, ◌∷◌, ◌++◌, length, sym, ◌∙◌, ap, refl, subst, inl, inr, ◌&&◌, list_all, byte, and_from, and_parts}
use Rattle.sap_maps.specs.Maps.{Name}
use Rattle.sap_lattice.specs.Codes.{width_of}
use Rattle.sap_net.specs.Prelude.{is_among, is_initial, is_inner, is_keyword, is_name, is_word, Net, value_name}
use Rattle.sap_net.specs.declared.parts.Input.{Input}
use Rattle.sap_net.proofs.NamesLemmas.{among_each, found_among}
use Rattle.sap_interface.specs.StandsFor.{name}
use Rattle.sap_build.specs.Copies.{KeepsApart}
use Rattle.sap_build.proofs.Found.{inputs_among}
use Rattle.sap_link.specs.Systems.{Endpoint, WiresFit}
use Rattle.sap_linked.specs.Prelude.{NamedSystem, part_at, system_of, in_part, NamesFit, IsNetOf}
use Rattle.sap_linked.proofs.Differing.{all_inputs as all_lead_to_inputs, all_to, free_end, inputs_there, memories_declared, memories_in, registers_declared, registers_in, wires_declared, wires_in, IsUnfed}
use Rattle.sap_linked.proofs.Ends.{interface_at, of_feeds, IsEnd, IsLetter}
use Rattle.sap_linked.proofs.Families.{of_among, whole_list, Behind}
use Rattle.sap_linked.proofs.Keeping.{in_part_named, parts_keep_apart}
use Rattle.sap_linked.proofs.Order.{inputs_in_order}
use Rattle.sap_linked.proofs.Parted.{either}
use Rattle.sap_linked.proofs.Showing.{all_inner, all_inputs, all_memories, all_registers, all_wires, fed_wires, memories_copied, part_wires, registers_copied, wires_are}

with_letter : (n : Name) → list_all is_inner n ≡ true → (c : ℕ) → IsLetter c → is_word (c ∷ (byte "_" ∷ n)) ≡ true
with_letter n h c (inl (inl e)) = subst (λ (b : ℕ). is_word (b ∷ (byte "_" ∷ n)) ≡ true) (sym e) (and_from (is_inner (byte "_")) (list_all is_inner n) refl h)
with_letter n h c (inl (inr e)) = subst (λ (b : ℕ). is_word (b ∷ (byte "_" ∷ n)) ≡ true) (sym e) (and_from (is_inner (byte "_")) (list_all is_inner n) refl h)
with_letter n h c (inr (inl e)) = subst (λ (b : ℕ). is_word (b ∷ (byte "_" ∷ n)) ≡ true) (sym e) (and_from (is_inner (byte "_")) (list_all is_inner n) refl h)
with_letter n h c (inr (inr e)) = subst (λ (b : ℕ). is_word (b ∷ (byte "_" ∷ n)) ≡ true) (sym e) (and_from (is_inner (byte "_")) (list_all is_inner n) refl h)

behind_letter : (n : Name) → is_name (value_name n) ≡ true → list_all is_inner n ≡ true
unfolding is_name
behind_letter n h =
    let word = (and_parts (is_word (value_name n)) (not (is_keyword (value_name n))) h).0 in
    let first = and_parts (is_initial (byte "v")) (is_inner (byte "_") && list_all is_inner n) word in
    (and_parts (is_inner (byte "_")) (list_all is_inner n) first.1).1

module _ (s : NamedSystem) (nets : ℕ → Net) (fit : NamesFit s) (good : WiresFit (system_of s)) (each : (i : ℕ) → i < length s.parts → IsNetOf s.order (part_at s i) (nets i)) where
  pub keeps : (i : ℕ) → i < length s.parts → KeepsApart (in_part (part_at s i).name) (nets i)
  keeps i low =
      parts_keep_apart (part_at s i).name (part_at s i).design (width_of s.order) (part_at s i).sites (nets i) (fit.whole i low)
      (fit.inner i low) (each i low).netlist (each i low).stands.interface

  end_named : (Q : Endpoint → Type 0) (z : Name) → IsEnd s nets fit each Q z → is_name z ≡ true
  end_named Q z e =
      let i = e.end.part in
      let low = e.is.low in
      let n = name (part_at s i).design e.end.entity in
      let there =
      found_among (λ (input : Input). input.name) (λ input. input.width) (nets i).inputs (value_name n) _
      ((interface_at s nets fit each i low).declares.inputs e.end.entity e.is.input).0
      in
      let named = among_each (λ x. is_name x ≡ true) (nets i).names (each i low).netlist.named (value_name n) (inputs_among (nets i) (each i low).netlist (value_name n) there) in
      subst (λ (x : Name). is_name x ≡ true) (sym e.named)
      (in_part_named (part_at s i).name e.letter (byte "_") n (fit.inner i low) (with_letter n (behind_letter n named) e.letter e.known))

  behind_named : (ns : ℕ → List Name) → ((i : ℕ) → i < length s.parts → (x : Name) → is_among x (ns i) ≡ true → is_among x (nets i).names ≡ true)
      → (z : Name) → Behind s ns 0 z → is_name z ≡ true
  behind_named ns declared z b =
      subst (λ (x : Name). is_name x ≡ true) (sym b.behind)
      (among_each (λ x. is_name (in_part (part_at s b.part).name x) ≡ true) (nets b.part).names (keeps b.part b.low).named b.name (declared b.part b.low b.name b.is))

  input_named : (z : Name) → is_among z (all_inputs s nets fit good each) ≡ true → is_name z ≡ true
  input_named z h = end_named (IsUnfed s nets fit good each) z (free_end s nets fit good each z (sym (ap (is_among z) (inputs_there s nets fit good each inputs_in_order)) ∙ h))

  wire_named : (z : Name) → is_among z (all_wires s nets fit good each) ≡ true → is_name z ≡ true
  wire_named z h = elim (either (fed_wires s nets fit good each) (part_wires s nets fit good each) z (sym (ap (is_among z) (wires_are s nets fit good each)) ∙ h)) [
    | inl f ↦ end_named (λ e. Unit {0}) z (of_feeds s nets fit each (λ e. Unit {0}) s.wires
        (all_to s nets fit good each s.wires (all_lead_to_inputs s nets fit good each s.wires good.each)) z f)
    | inr w ↦ behind_named (wires_in s nets fit good each) (wires_declared s nets fit good each) z (of_among s (wires_in s nets fit good each) 0 s.parts (whole_list s) z w)
  ]

  pub all_named : (z : Name) → is_among z (all_inputs s nets fit good each ++ all_inner s nets fit good each) ≡ true → is_name z ≡ true
  all_named z h = elim (either (all_inputs s nets fit good each) (all_inner s nets fit good each) z h) [
    | inl i ↦ input_named z i
    | inr k ↦ elim (either (all_wires s nets fit good each ++ all_registers s nets fit good each) (all_memories s nets fit good each) z k) [
      | inl a ↦ elim (either (all_wires s nets fit good each) (all_registers s nets fit good each) z a) [
        | inl w ↦ wire_named z w
        | inr r ↦ behind_named (registers_in s nets fit good each) (registers_declared s nets fit good each) z
            (of_among s (registers_in s nets fit good each) 0 s.parts (whole_list s) z (sym (ap (is_among z) (registers_copied s nets fit good each)) ∙ r))
      ]
      | inr m ↦ behind_named (memories_in s nets fit good each) (memories_declared s nets fit good each) z
          (of_among s (memories_in s nets fit good each) 0 s.parts (whole_list s) z (sym (ap (is_among z) (memories_copied s nets fit good each)) ∙ m))
    ]
  ]
