-- A netlist without the ports of what feeds inputs: its rules and its runs.
use Rattle.sap_lemmas.proofs.Common.{◌≡◌, ℕ, zero, suc, false, List, [], ◌∷◌, ◌++◌, map, filter, length, take, Option, Some, None, refl, sym, ◌∙◌, ap, ap₂, subst, inl, inr, AllByRecursion, cases_Bool}
use Rattle.sap_maps.specs.Maps.{Name, Valuation}
use Rattle.sap_net.specs.declared.parts.PortKind.TheVariants as kind
use Rattle.sap_net.specs.Prelude.{Net, is_input, IsNetlist, PortShows, IsCycle, IsRunAfter}
use Rattle.sap_net.specs.declared.parts.Port.{Port}
use Rattle.sap_interface.specs.Prelude.{world, Shown}
use Rattle.sap_linked.specs.Prelude.{NamedSystem, part_at, fed_inputs, is_fed_input, linked_ports, held_ports, without_fed}
use Rattle.sap_linked.proofs.Families.{whole_list}
use Rattle.sap_linked.proofs.Ports.{block_each, fed_are, fed_of, pairs_each}

abbrev pub port_of : Shown → Port
port_of p = record { name = p.0; kind = p.1 }

head_same : {x y : Name} {xs ys : List Name} → x ∷ xs ≡ y ∷ ys → x ≡ y
head_same e = cc

rest_same : {x y : Name} {xs ys : List Name} → x ∷ xs ≡ y ∷ ys → xs ≡ ys
rest_same e = cc

none_left : {x : Name} {xs : List Name} → x ∷ xs ≡ [] → ⊥
none_left e = cc

first_ports : (k : ℕ) (ps : List Port) (names : List Name) → map (λ (p : Port). p.name) ps ≡ take (length ps) names
    → map (λ (p : Port). p.name) (take k ps) ≡ take (length (take k ps)) names
first_ports zero [] names h = refl
first_ports zero (p ∷ ps) names h = refl
first_ports (suc k) [] names h = refl
first_ports (suc k) (p ∷ ps) [] h = absurd (none_left h)
first_ports (suc k) (p ∷ ps) (x ∷ names) h = ap₂ (λ (n : Name) (ns : List Name). n ∷ ns) (head_same h) (first_ports k ps names (rest_same h))

all_taken : (P : Port → Type 0) (k : ℕ) (ps : List Port) → AllByRecursion P ps → AllByRecursion P (take k ps)
all_taken P zero [] a = tt
all_taken P zero (p ∷ ps) a = tt
all_taken P (suc k) [] a = tt
all_taken P (suc k) (p ∷ ps) a = (a.0, all_taken P k ps a.1)

front : (shown more : List Shown) → take (length shown) (map port_of (shown ++ more)) ≡ map port_of shown
front [] more = refl
front (p ∷ ps) more = ap (λ (rest : List Port). port_of p ∷ rest) (front ps more)

no_inputs : (shown : List Shown) → AllByRecursion (λ (p : Shown). is_input p.1 ≡ false) shown → filter (λ (p : Port). is_input p.kind) (map port_of shown) ≡ []
no_inputs [] a = refl
no_inputs (p ∷ ps) a = rw a.0 (no_inputs ps a.1)

same_inputs : (shown more : List Shown) → AllByRecursion (λ (p : Shown). is_input p.1 ≡ false) more
    → filter (λ (p : Port). is_input p.kind) (map port_of (shown ++ more)) ≡ filter (λ (p : Port). is_input p.kind) (map port_of shown)
same_inputs [] more a = no_inputs more a
same_inputs (p ∷ ps) more a = elim (cases_Bool (is_input p.1)) [
  | inl t ↦ rw t (ap (λ (rest : List Port). port_of p ∷ rest) (same_inputs ps more a))
  | inr q ↦ rw q (same_inputs ps more a)
]

module _ (s : NamedSystem) where
  fed_no_inputs : AllByRecursion (λ (p : Shown). is_input p.1 ≡ false) (fed_inputs s.wires 0 s.parts)
  fed_no_inputs =
      subst (λ (xs : List Shown). AllByRecursion (λ (p : Shown). is_input p.1 ≡ false) xs) (sym (fed_are s.wires 0 s.parts))
      (block_each s (fed_of s.wires) (λ (p : Shown). is_input p.1 ≡ false) (λ i low.
      pairs_each (λ (p : Shown). is_input p.1 ≡ false) (is_fed_input s.wires (part_at s i) i) kind.Wire (part_at s i).design
      (λ x is. (refl, refl)) 0 (world (part_at s i).design).entities) 0 s.parts (whole_list s))

  module _ (n : Net) (held : n.ports ≡ map port_of (held_ports s)) where
    inputs_are : map (λ (p : Port). p.name) (filter (λ (p : Port). is_input p.kind) (without_fed s n).ports)
        ≡ map (λ (p : Port). p.name) (filter (λ (p : Port). is_input p.kind) n.ports)
    inputs_are =
        ap (λ (ps : List Port). map (λ (p : Port). p.name) (filter (λ (p : Port). is_input p.kind) (take (length (linked_ports s)) ps))) held
        ∙ ap (λ (ps : List Port). map (λ (p : Port). p.name) (filter (λ (p : Port). is_input p.kind) ps)) (front (linked_ports s) (fed_inputs s.wires 0 s.parts))
        ∙ sym (ap (λ (ps : List Port). map (λ (p : Port). p.name) ps) (same_inputs (linked_ports s) (fed_inputs s.wires 0 s.parts) fed_no_inputs))
        ∙ sym (ap (λ (ps : List Port). map (λ (p : Port). p.name) (filter (λ (p : Port). is_input p.kind) ps)) held)

    pub fewer_rules : IsNetlist n → IsNetlist (without_fed s n)
    fewer_rules rules =
        record {
          module_named = rules.module_named;
          named = rules.named;
          declared_once = rules.declared_once;
          declared = rules.declared;
          registers_in_order = rules.registers_in_order;
          memories_in_order = rules.memories_in_order;
          ports_first = first_ports (length (linked_ports s)) n.ports n.names rules.ports_first;
          ports_show = shows (all_taken (λ (p : Port). PortShows n p.kind p.name) (length (linked_ports s)) n.ports rules.ports_show);
          inputs_are_ports = inputs_are ∙ rules.inputs_are_ports;
          values = rules.values;
          memory_shapes = rules.memory_shapes;
          assigns = rules.assigns;
          nexts = rules.nexts;
          writes = rules.writes;
        }
      where
        shows : AllByRecursion (λ (p : Port). PortShows n p.kind p.name) (without_fed s n).ports
            → AllByRecursion (λ (p : Port). PortShows (without_fed s n) p.kind p.name) (without_fed s n).ports
        shows a = a

  -- ---- its runs are those of the netlist with them

  cycle_back : (n : Net) (before : Option Valuation) (xs : List ℕ) (v : Valuation) → IsCycle (without_fed s n) before xs v → IsCycle n before xs v
  cycle_back n None xs v c =
      record {
        begins = c.begins;
        given = c.given;
        valuation =
            record { within = record { value = c.valuation.within.value; cell = c.valuation.within.cell }; equations = c.valuation.equations };
      }
  cycle_back n (Some p) xs v c =
      record {
        begins = c.begins;
        given = c.given;
        valuation =
            record { within = record { value = c.valuation.within.value; cell = c.valuation.within.cell }; equations = c.valuation.equations };
      }

  pub run_back : (n : Net) (before : Option Valuation) (xss : List (List ℕ)) (vs : List Valuation) → IsRunAfter (without_fed s n) before xss vs → IsRunAfter n before xss vs
  run_back n before [] [] r = tt
  run_back n before [] (v ∷ vs) r = absurd r
  run_back n before (xs ∷ xss) [] r = absurd r
  run_back n before (xs ∷ xss) (v ∷ vs) r = (cycle_back n before xs v r.0, run_back n (Some v) xss vs r.1)
