-- The inputs of a netlist that has a design's interface, in order.
use Rattle.sap_lemmas.proofs.Common.{◌≡◌, ℕ, zero, suc, ◌+◌, List, [], ◌∷◌, ◌++◌, Bool, true, false, map, get_or, filter, sym, ap, ap₂, ◌∙◌, refl, if◌then◌else◌, inl, inr, arith, cases_Bool, append-nil, one_more}
use Rattle.sap_maps.specs.Maps.{Name, Valuation}
use Rattle.sap_meaning.specs.Prelude.{Entity, nothing, kind_is_input, is_input, is_register, Tagged}
use Rattle.sap_net.specs.declared.parts.PortKind.TheVariants as kind
use Rattle.sap_net.specs.Prelude.{Net, IsNetlist, input_names, is_input as is_input_port, value_name, tag_name}
use Rattle.sap_net.specs.declared.parts.Port.{Port}
use Rattle.sap_net.specs.declared.parts.Input.{Input}
use Rattle.sap_interface.specs.Prelude.{Named, name, world, Shown, pairs_of, site_ports, ports_of, coded}
use Rattle.sap_build.specs.Parts.{fed_numbers}
use Rattle.sap_link.specs.Systems.{inputs_from, inputs_in}
use Rattle.sap_linked.specs.Standing.{names_of_inputs}

-- the names of ports that are inputs
abbrev pub inputs_among : List Shown → List Name
inputs_among [] = []
inputs_among (p ∷ ps) = if is_input_port p.1 then p.0 ∷ inputs_among ps else inputs_among ps

pub of_ports : (ps : List Port) → map (λ (p : Port). p.name) (filter (λ p. is_input_port p.kind) ps) ≡ inputs_among (map (λ p. (p.name, p.kind)) ps)
of_ports [] = refl
of_ports (p ∷ ps) =
    elim (cases_Bool (is_input_port p.kind)) [ inl t ↦ rw t (ap (λ (xs : List Name). p.name ∷ xs) (of_ports ps)) | inr q ↦ rw q (of_ports ps) ]

pub of_both : (xs ys : List Shown) → inputs_among (xs ++ ys) ≡ inputs_among xs ++ inputs_among ys
of_both [] ys = refl
of_both (x ∷ xs) ys =
    elim (cases_Bool (is_input_port x.1)) [ inl t ↦ rw t (ap (λ (zs : List Name). x.0 ∷ zs) (of_both xs ys)) | inr q ↦ rw q (of_both xs ys) ]

of_inputs : (picks : ℕ → Bool) (d : Named) (x : ℕ) (es : List Entity)
    → inputs_among (pairs_of picks kind.Input d x es) ≡ map (λ (p : Shown). p.0) (pairs_of picks kind.Input d x es)
of_inputs picks d x [] = refl
of_inputs picks d x (e ∷ es) =
    elim (cases_Bool (picks x)) [
      | inl t ↦ rw t (ap (λ (zs : List Name). value_name (name d x) ∷ (tag_name (name d x) ∷ zs)) (of_inputs picks d (x + 1) es))
      | inr q ↦ rw q (of_inputs picks d (x + 1) es)
    ]

of_registers : (picks : ℕ → Bool) (d : Named) (x : ℕ) (es : List Entity) → inputs_among (pairs_of picks kind.Register d x es) ≡ []
of_registers picks d x [] = refl
of_registers picks d x (e ∷ es) = elim (cases_Bool (picks x)) [ inl t ↦ rw t (of_registers picks d (x + 1) es) | inr q ↦ rw q (of_registers picks d (x + 1) es) ]

of_sites : (k sites : ℕ) → inputs_among (site_ports k sites) ≡ []
of_sites k zero = refl
of_sites k (suc n) = of_sites (k + 1) n

module _ (d : Named) (sites : ℕ) where
  abbrev inputs : List Shown
  inputs = pairs_of (is_input (world d)) kind.Input d 0 (world d).entities

  abbrev registers : List Shown
  registers = pairs_of (is_register (world d)) kind.Register d 0 (world d).entities

  of_all : inputs_among (ports_of d sites) ≡ names_of_inputs d
  of_all =
      of_both (inputs ++ registers) (site_ports 1 sites)
      ∙ ap (λ (xs : List Name). xs ++ inputs_among (site_ports 1 sites)) (of_both inputs registers)
      ∙ rw (of_inputs (is_input (world d)) d 0 (world d).entities, of_registers (is_register (world d)) d 0 (world d).entities, of_sites 1 sites) (append-nil _ ∙ append-nil _)

  pub input_names_are : (n : Net) → IsNetlist n → map (λ p. (p.name, p.kind)) n.ports ≡ ports_of d sites → input_names n ≡ names_of_inputs d
  input_names_are n rules e = sym rules.inputs_are_ports ∙ of_ports n.ports ∙ ap inputs_among e ∙ of_all

map_map : (g : Name → ℕ) (is : List Input) → map (λ (i : Input). g i.name) is ≡ map g (map (λ (i : Input). i.name) is)
map_map g [] = refl
map_map g (i ∷ is) = ap (λ (ns : List ℕ). g i.name ∷ ns) (map_map g is)

pub fed_by_names : (f : Name → Name) (n : Net) (v : Valuation) → fed_numbers f n v ≡ map (λ x. v.value (f x)) (input_names n)
fed_by_names f n v = map_map (λ x. v.value (f x)) n.inputs

-- the two names of an input have a number and the code of a level
abbrev pub IsGiven : Named → (g : Name → ℕ) → ℕ → Tagged → Type 0
IsGiven d g x t = (g (value_name (name d x)) ≡ t.number) × (g (tag_name (name d x)) ≡ d.code t.level)

module _ (d : Named) (g : Name → ℕ) (r : ℕ → Tagged) (given : (x : ℕ) → is_input (world d) x ≡ true → IsGiven d g x (r x)) where
  abbrev names_from : (k : ℕ) → List Entity → List Name
  names_from k es = map (λ (p : Shown). p.0) (pairs_of (is_input (world d)) kind.Input d k es)

  this_entity : (k : ℕ) (e : Entity) (es : List Entity) → ((j : ℕ) → get_or (world d).entities (k + j) nothing ≡ get_or (e ∷ es) j nothing)
      → is_input (world d) k ≡ kind_is_input e.kind
  this_entity k e es at =
      let same : k ≡ k + 0 = omega arith in
      ap (λ (n : ℕ). kind_is_input (get_or (world d).entities n nothing).kind) same ∙ ap (λ (x : Entity). kind_is_input x.kind) (at 0)

  later_entities : (k : ℕ) (e : Entity) (es : List Entity)
      → ((j : ℕ) → get_or (world d).entities (k + j) nothing ≡ get_or (e ∷ es) j nothing) → (j : ℕ) → get_or (world d).entities (suc k + j) nothing ≡ get_or es j nothing
  later_entities k e es at j = let same : suc k + j ≡ k + suc j = omega arith in ap (λ (n : ℕ). get_or (world d).entities n nothing) same ∙ at (suc j)

  names_coded : (k : ℕ) (es : List Entity) → ((j : ℕ) → get_or (world d).entities (k + j) nothing ≡ get_or es j nothing)
      → map g (names_from k es) ≡ coded d.code (map r (inputs_from k es))
  names_coded k [] at = refl
  names_coded k (e ∷ es) at =
      let later = ap (λ (n : ℕ). map g (names_from n es)) (sym (one_more k)) ∙ names_coded (suc k) es (later_entities k e es at) in
      elim (cases_Bool (kind_is_input e.kind)) [
        | inl t ↦
            let is : is_input (world d) k ≡ true = this_entity k e es at ∙ t in
            rw (is, t) (ap₂ (λ (a : ℕ) (ns : List ℕ). a ∷ ns) (given k is).0 (ap₂ (λ (a : ℕ) (ns : List ℕ). a ∷ ns) (given k is).1 later))
        | inr q ↦ let is : is_input (world d) k ≡ false = this_entity k e es at ∙ q in rw (is, q) later
      ]

  pub inputs_coded : map g (names_of_inputs d) ≡ coded d.code (map r (inputs_in (world d)))
  inputs_coded = names_coded 0 (world d).entities (λ j. let same : 0 + j ≡ j = omega arith in ap (λ (n : ℕ). get_or (world d).entities n nothing) same)
