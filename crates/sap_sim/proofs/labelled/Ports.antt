-- The ports of a compiled module, by kind.
use Rattle.sap_lemmas.proofs.Common.{◌≡◌, ℕ, zero, suc, ◌+◌, List, [], ◌∷◌, ◌++◌, Bool, true, false, map, sym, ap, ◌∙◌, refl, if◌then◌else◌, inl, inr, filter, cases_Bool, append-nil}
use Rattle.sap_maps.specs.Maps.{Name}
use Rattle.sap_meaning.specs.Program.{Entity, is_input, is_register}
use Rattle.sap_net.specs.Prelude.{Net, IsNetlist, input_names, value_name, tag_name}
use Rattle.sap_net.specs.declared.parts.PortKind.{PortKind}
use Rattle.sap_net.specs.declared.parts.Port.{Port}
use Rattle.sap_net.specs.declared.parts.PortKind.TheVariants as kind
use Rattle.sap_net.specs.IsNetlist as netlist
use Rattle.sap_interface.specs.Prelude.{Named, name, world, Shown, pairs_of, site_ports, ports_of}
use Rattle.sap_net.specs.Shown as rows

-- the names of ports that pass
abbrev pub passing : (PortKind → Bool) → List Shown → List Name
passing test [] = []
passing test (p ∷ ps) = if test p.1 then p.0 ∷ passing test ps else passing test ps

passing_ports : (test : PortKind → Bool) (ps : List Port) → map (λ p. p.name) (filter (λ p. test p.kind) ps) ≡ passing test (map (λ p. (p.name, p.kind)) ps)
passing_ports test [] = refl
passing_ports test (p ∷ ps) =
    elim (cases_Bool (test p.kind)) [ inl t ↦ rw t (ap (λ (xs : List Name). p.name ∷ xs) (passing_ports test ps)) | inr f ↦ rw f (passing_ports test ps) ]

passing_join : (test : PortKind → Bool) (xs ys : List Shown) → passing test (xs ++ ys) ≡ passing test xs ++ passing test ys
passing_join test [] ys = refl
passing_join test (x ∷ xs) ys =
    elim (cases_Bool (test x.1)) [ inl t ↦ rw t (ap (λ (zs : List Name). x.0 ∷ zs) (passing_join test xs ys)) | inr f ↦ rw f (passing_join test xs ys) ]

-- the names of the pairs of what a test picks
abbrev pub pair_names : (ℕ → Bool) → Named → (x : ℕ) → List Entity → List Name
pair_names picks d x [] = []
pair_names picks d x (e ∷ es) =
    (if picks x then value_name (name d x) ∷ tag_name (name d x) ∷ [] else []) ++ pair_names picks d (x + 1) es

kept : (test : PortKind → Bool) (k : PortKind) → test k ≡ true → (picks : ℕ → Bool) (d : Named) (x : ℕ) (es : List Entity)
    → passing test (pairs_of picks k d x es) ≡ pair_names picks d x es
kept test k h picks d x [] = refl
kept test k h picks d x (e ∷ es) =
    elim (cases_Bool (picks x)) [
      | inl t ↦ rw (t, h) (ap (λ (zs : List Name). value_name (name d x) ∷ (tag_name (name d x) ∷ zs)) (kept test k h picks d (x + 1) es))
      | inr f ↦ rw f (kept test k h picks d (x + 1) es)
    ]

gone : (test : PortKind → Bool) (k : PortKind) → test k ≡ false → (picks : ℕ → Bool) (d : Named) (x : ℕ) (es : List Entity) → passing test (pairs_of picks k d x es) ≡ []
gone test k h picks d x [] = refl
gone test k h picks d x (e ∷ es) =
    elim (cases_Bool (picks x)) [ inl t ↦ rw (t, h) (gone test k h picks d (x + 1) es) | inr f ↦ rw f (gone test k h picks d (x + 1) es) ]

sites_gone : (test : PortKind → Bool) → test kind.Wire ≡ false → (k sites : ℕ) → passing test (site_ports k sites) ≡ []
sites_gone test h k zero = refl
sites_gone test h k (suc n) = rw h (sites_gone test h (k + 1) n)

module _ (d : Named) (sites : ℕ) where
  abbrev inputs : List Shown
  inputs = pairs_of (is_input (world d)) kind.Input d 0 (world d).entities

  abbrev registers : List Shown
  registers = pairs_of (is_register (world d)) kind.Register d 0 (world d).entities

  parts : (test : PortKind → Bool) → passing test (ports_of d sites) ≡ (passing test inputs ++ passing test registers) ++ passing test (site_ports 1 sites)
  parts test =
      passing_join test (inputs ++ registers) (site_ports 1 sites)
      ∙ ap (λ (xs : List Name). xs ++ passing test (site_ports 1 sites)) (passing_join test inputs registers)

  passing_inputs : passing netlist.is_input (ports_of d sites) ≡ pair_names (is_input (world d)) d 0 (world d).entities
  passing_inputs =
      parts netlist.is_input
      ∙ rw (
        kept netlist.is_input kind.Input refl (is_input (world d)) d 0 (world d).entities,
        gone netlist.is_input kind.Register refl (is_register (world d)) d 0 (world d).entities,
        sites_gone netlist.is_input refl 1 sites,
      ) (append-nil _ ∙ append-nil _)

  passing_registers : passing rows.is_register (ports_of d sites) ≡ pair_names (is_register (world d)) d 0 (world d).entities
  passing_registers =
      parts rows.is_register
      ∙ rw (
        kept rows.is_register kind.Register refl (is_register (world d)) d 0 (world d).entities,
        gone rows.is_register kind.Input refl (is_input (world d)) d 0 (world d).entities,
        sites_gone rows.is_register refl 1 sites,
      ) (append-nil _)

  pub input_names_are : (n : Net) → IsNetlist n → map (λ p. (p.name, p.kind)) n.ports ≡ ports_of d sites → input_names n ≡ pair_names (is_input (world d)) d 0 (world d).entities
  input_names_are n net e =
      sym net.inputs_are_ports ∙ passing_ports netlist.is_input n.ports ∙ ap (passing netlist.is_input) e ∙ passing_inputs

  pub register_ports_are : (n : Net) → map (λ p. (p.name, p.kind)) n.ports ≡ ports_of d sites
      → rows.register_ports n.ports ≡ pair_names (is_register (world d)) d 0 (world d).entities
  register_ports_are n e = passing_ports rows.is_register n.ports ∙ ap (passing rows.is_register) e ∙ passing_registers
