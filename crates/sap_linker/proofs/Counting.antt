-- How many ports the netlist of a system has, and how many of them show what feeds inputs.
use Rattle.sap_lemmas.proofs.Common.{◌≡◌, ℕ, suc, ◌+◌, ◌≤◌, List, [], ◌∷◌, ◌++◌, map, length, refl, sym, ap, ◌∙◌, subst, inl, inr, arith, cases_Bool, length_map}
use Rattle.sap_lattice.specs.Prelude.{Levels, order_of, width_of}
use Rattle.sap_meaning.specs.Program.{Entity, is_input}
use Rattle.sap_net.specs.declared.parts.PortKind.TheVariants as kind
use Rattle.sap_net.specs.Net.{Net}
use Rattle.sap_net.specs.declared.parts.Input.{Input}
use Rattle.sap_interface.specs.Prelude.{world, Shown, pairs_of}
use Rattle.sap_link.specs.Systems.{Wire, endpoint, is_fed, free_inputs}
use Rattle.sap_linked.specs.Prelude.{Part, NamedSystem, system_of, in_part, inputs_for, ports_in, is_free, is_fed_input, input_ports, register_ports, refusal_ports, fed_inputs, linked_ports, held_ports, linked_net, part_of, named_system, InputsInOrder}
use Rattle.sap_joined.proofs.FreeInputs.{inputs_by, inputs_are}
use Rattle.sap_linker.specs.declared.parts.LinkedPart.{LinkedPart}
use Rattle.sap_linker.specs.Given.{named_design, designs_of, net_at, AreOver}
use Rattle.sap_linker.specs.Linking.{inputs_within}

pub both_lengths : {A : Type 0} (xs ys : List A) → length (xs ++ ys) ≡ length xs + length ys
both_lengths [] ys = omega arith
both_lengths (x ∷ xs) ys = let rest = both_lengths xs ys in omega (arith, rest)

-- of each input either the wires that feed it are shown, or it is one of the whole
module _ (wires : List Wire) (p : Part) (i tag : ℕ) where
  split_pairs : (x : ℕ) (es : List Entity)
      → length (pairs_of (is_fed_input wires p i) kind.Wire p.design x es) + length (pairs_of (is_free wires p i) kind.Input p.design x es) ≡ length (inputs_by p.design tag x es)
  split_pairs x [] = refl
  split_pairs x (e ∷ es) =
      let rest = split_pairs (x + 1) es in
      elim (cases_Bool (is_input (world p.design) x)) [
        | inl t ↦
            elim (cases_Bool (is_fed wires (endpoint i x))) [
              | inl u ↦ rw (t, u) (omega (arith, rest))
              | inr u ↦ rw (t, u) (omega (arith, rest))
            ]
        | inr q ↦ rw q rest
      ]

pub counted : (ls : Levels) (wires : List Wire) (parts : List LinkedPart) → AreOver ls parts → (k : ℕ)
    → length (fed_inputs wires k (map (part_of ls) (designs_of parts))) + length (input_ports wires k (map (part_of ls) (designs_of parts))) ≡ inputs_within parts
counted ls wires [] a k = refl
counted ls wires (p ∷ parts) a k =
    let q : Part = part_of ls (named_design p) in
    let tag = width_of (order_of ls) in
    let rest = map (part_of ls) (designs_of parts) in
    let fed = pairs_of (is_fed_input wires q k) kind.Wire q.design 0 (world q.design).entities in
    let free = pairs_of (is_free wires q k) kind.Input q.design 0 (world q.design).entities in
    let own : length fed + length free ≡ length p.netlist.now.inputs =
    split_pairs wires q k tag 0 (world q.design).entities
    ∙ ap (λ (is : List Input). length is) (sym (inputs_are q.design tag q.sites p.netlist.now a.0.net.netlist a.0.net.stands.interface)) in
    let one : length (ports_in q fed ++ fed_inputs wires (suc k) rest) ≡ length fed + length (fed_inputs wires (suc k) rest) =
    both_lengths (ports_in q fed) (fed_inputs wires (suc k) rest)
    ∙ ap (λ n. n + length (fed_inputs wires (suc k) rest)) (length_map (λ (port : Shown). (in_part q.name port.0, port.1)) fed) in
    let other : length (ports_in q free ++ input_ports wires (suc k) rest) ≡ length free + length (input_ports wires (suc k) rest) =
    both_lengths (ports_in q free) (input_ports wires (suc k) rest)
    ∙ ap (λ n. n + length (input_ports wires (suc k) rest)) (length_map (λ (port : Shown). (in_part q.name port.0, port.1)) free) in
    let later = counted ls wires parts a.1 (suc k) in
    omega (arith, own, one, other, later)

module _ (ls : Levels) (wires : List Wire) (parts : List LinkedPart) (over : AreOver ls parts) (in_order : InputsInOrder) where
  abbrev s : NamedSystem
  s = named_system ls (designs_of parts) wires

  abbrev all : Net
  all = linked_net s (net_at parts)

  ports_are : length all.ports ≡ length (linked_ports s) + length (fed_inputs wires 0 s.parts)
  ports_are = length_map (λ (port : Shown). record { name = port.0; kind = port.1 }) (held_ports s) ∙ both_lengths (linked_ports s) (fed_inputs wires 0 s.parts)

  inputs_are_ports : length all.inputs ≡ length (input_ports wires 0 s.parts)
  inputs_are_ports =
      let is = inputs_for s (free_inputs (system_of s)) in
      sym (length_map (λ (i : Input). i.name) is) ∙ ap length (in_order s) ∙ length_map (λ (port : Shown). port.0) (input_ports wires 0 s.parts)

  in_front : length (input_ports wires 0 s.parts) ≤ length (linked_ports s)
  in_front =
      let a = input_ports wires 0 s.parts in
      let b = register_ports s.parts in
      let c = refusal_ports s.parts in
      let front = both_lengths a b in
      let whole = both_lengths (a ++ b) c in
      omega (arith, front, whole)

  pub inputs_few : (whole : Net) → whole ≡ all → inputs_within parts ≤ length whole.ports
  inputs_few whole is = subst (λ (n : Net). inputs_within parts ≤ length n.ports) (sym is)
      (let a = counted ls wires parts over 0 in let b = ports_are in let c = in_front in omega (arith, a, b, c))

  pub shown_count : (count : ℕ) (whole : Net) → whole ≡ all → count + inputs_within parts ≡ length whole.ports + length whole.inputs → count ≡ length (linked_ports s)
  shown_count count whole is sum =
      let here : count + inputs_within parts ≡ length all.ports + length all.inputs = subst (λ (n : Net). count + inputs_within parts ≡ length n.ports + length n.inputs) is sum in
      let a = counted ls wires parts over 0 in
      let b = ports_are in
      let c = inputs_are_ports in
      omega (arith, here, a, b, c)
