-- The ports of a system, part by part, each behind its part's name.
use Rattle.sap_lemmas.proofs.Common.{◌≡◌, ℕ, zero, suc, Bool, true, ◌+◌, ◌<◌, ◌≤◌, List, [], ◌∷◌, ◌++◌, map, length, refl, sym, ◌∙◌, ap, ap₂, subst, inl, inr, arith, AllByRecursion, cases_Bool, all_append, map_of_all}
use Rattle.sap_maps.specs.Maps.{Name}
use Rattle.sap_meaning.specs.Program.{Entity, is_register}
use Rattle.sap_net.specs.PortNames.{value_name, tag_name, refused_name, refused_level_name}
use Rattle.sap_net.specs.declared.parts.PortKind.{PortKind}
use Rattle.sap_net.specs.declared.parts.PortKind.TheVariants as kind
use Rattle.sap_interface.specs.Prelude.{Named, name, world, Shown, pairs_of, site_ports}
use Rattle.sap_link.specs.Systems.{Wire}
use Rattle.sap_linked.specs.Prelude.{Part, NamedSystem, part_at, in_part, ports_in, is_free, input_ports, register_ports, refusal_ports, is_fed_input, fed_inputs}
use Rattle.sap_linked.proofs.Families.{named_copies, map_both, later, this, Suffix}

abbrev pub names_in : List Shown → List Name
names_in shown = map (λ (port : Shown). port.0) shown

-- ports of each part; k is the number of the first
abbrev pub blocks : (shown : Part → ℕ → List Shown) → ℕ → List Part → List Shown
blocks shown k [] = []
blocks shown k (p ∷ ps) = ports_in p (shown p k) ++ blocks shown (suc k) ps

-- ---- the four kinds of ports

abbrev pub free_of : List Wire → Part → ℕ → List Shown
free_of wires p i = pairs_of (is_free wires p i) kind.Input p.design 0 (world p.design).entities

abbrev pub registers_of : Part → ℕ → List Shown
registers_of p i = pairs_of (is_register (world p.design)) kind.Register p.design 0 (world p.design).entities

abbrev pub sites_of : Part → ℕ → List Shown
sites_of p i = site_ports 1 p.sites

abbrev pub fed_of : List Wire → Part → ℕ → List Shown
fed_of wires p i = pairs_of (is_fed_input wires p i) kind.Wire p.design 0 (world p.design).entities

pub inputs_are : (wires : List Wire) (k : ℕ) (ps : List Part) → input_ports wires k ps ≡ blocks (free_of wires) k ps
inputs_are wires k [] = refl
inputs_are wires k (p ∷ ps) = ap (λ (xs : List Shown). ports_in p (free_of wires p k) ++ xs) (inputs_are wires (suc k) ps)

pub registers_are : (k : ℕ) (ps : List Part) → register_ports ps ≡ blocks registers_of k ps
registers_are k [] = refl
registers_are k (p ∷ ps) = ap (λ (xs : List Shown). ports_in p (registers_of p k) ++ xs) (registers_are (suc k) ps)

pub refusals_are : (k : ℕ) (ps : List Part) → refusal_ports ps ≡ blocks sites_of k ps
refusals_are k [] = refl
refusals_are k (p ∷ ps) = ap (λ (xs : List Shown). ports_in p (sites_of p k) ++ xs) (refusals_are (suc k) ps)

pub fed_are : (wires : List Wire) (k : ℕ) (ps : List Part) → fed_inputs wires k ps ≡ blocks (fed_of wires) k ps
fed_are wires k [] = refl
fed_are wires k (p ∷ ps) = ap (λ (xs : List Shown). ports_in p (fed_of wires p k) ++ xs) (fed_are wires (suc k) ps)

-- ---- what holds of each

pub pairs_each : (P : Shown → Type 0) (picks : ℕ → Bool) (k : PortKind) (d : Named)
    → ((x : ℕ) → picks x ≡ true → P (value_name (name d x), k) × P (tag_name (name d x), k)) → (n : ℕ) (es : List Entity)
    → AllByRecursion P (pairs_of picks k d n es)
pairs_each P picks k d h n [] = tt
pairs_each P picks k d h n (e ∷ es) =
    elim (cases_Bool (picks n)) [
      | inl t ↦ rw t ((h n t).0, ((h n t).1, pairs_each P picks k d h (n + 1) es))
      | inr q ↦ rw q (pairs_each P picks k d h (n + 1) es)
    ]

pub sites_each : (P : Shown → Type 0) (sites : ℕ)
    → ((j : ℕ) → 1 ≤ j → j ≤ sites → P (refused_name j, kind.Wire) × P (refused_level_name j, kind.Wire)) → (k n : ℕ) → 1 ≤ k → k + n ≤ sites + 1
    → AllByRecursion P (site_ports k n)
sites_each P sites h k zero from to = tt
sites_each P sites h k (suc n) from to =
    let here = h k from (omega (arith, to)) in
    (here.0, (here.1, sites_each P sites h (k + 1) n (omega arith) (omega (arith, to))))

names_behind : (p : Part) (shown : List Shown) → names_in (ports_in p shown) ≡ map (in_part p.name) (names_in shown)
names_behind p [] = refl
names_behind p (x ∷ xs) = ap (λ (ns : List Name). in_part p.name x.0 ∷ ns) (names_behind p xs)

module _ (s : NamedSystem) (shown : Part → ℕ → List Shown) where
  abbrev pub block_in : ℕ → List Name
  block_in i = names_in (shown (part_at s i) i)

  pub block_names : (k : ℕ) (ps : List Part) → Suffix s k ps → names_in (blocks shown k ps) ≡ named_copies block_in k ps
  block_names k [] at = refl
  block_names k (p ∷ ps) at =
      map_both (λ (port : Shown). port.0) (ports_in p (shown p k)) (blocks shown (suc k) ps)
      ∙ ap₂ (λ (xs ys : List Name). xs ++ ys)
      (names_behind p (shown p k) ∙ ap (λ (q : Part). map (in_part p.name) (names_in (shown q k))) (sym (this s k p ps at)))
      (block_names (suc k) ps (later s k p ps at))

  pub block_each : (P : Shown → Type 0) → ((i : ℕ) → i < length s.parts → AllByRecursion (λ (port : Shown). P (in_part (part_at s i).name port.0, port.1)) (shown (part_at s i) i))
      → (k : ℕ) (ps : List Part) → Suffix s k ps → AllByRecursion P (blocks shown k ps)
  block_each P h k [] at = tt
  block_each P h k (p ∷ ps) at =
      let low : k < length s.parts = (let e = at.1 in omega (arith, e)) in
      all_append P (ports_in p (shown p k)) (blocks shown (suc k) ps)
      (map_of_all P (λ (port : Shown). (in_part p.name port.0, port.1)) (shown p k)
      (subst (λ (q : Part). AllByRecursion (λ (port : Shown). P (in_part q.name port.0, port.1)) (shown q k)) (this s k p ps at) (h k low)))
      (block_each P h (suc k) ps (later s k p ps at))
