-- Which ports of a part the module of a system has as what.
use Rattle.sap_lemmas.proofs.Common.{◌≡◌, ℕ, zero, suc, ◌+◌, Bool, true, false, List, [], ◌∷◌, ◌++◌, map, filter, refl, sym, ◌∙◌, ap, ap₂, inl, inr, cases_Bool, filter-append}
use Rattle.sap_maps.specs.Maps.{Name}
use Rattle.sap_meaning.specs.Program.{Entity, is_input, is_register}
use Rattle.sap_net.specs.PortNames.{value_name, tag_name, refused_name, refused_level_name}
use Rattle.sap_net.specs.declared.parts.PortKind.{PortKind}
use Rattle.sap_net.specs.declared.parts.Port.{Port}
use Rattle.sap_net.specs.declared.parts.PortKind.TheVariants as kind
use Rattle.sap_interface.specs.Prelude.{Named, name, world, Shown, pairs_of, site_ports, ports_of}
use Rattle.sap_build.specs.Copies.{copy_port}
use Rattle.sap_joined.specs.Joined.{as_wire}

abbrev pub port : Shown → Port
port x = record { name = x.0; kind = x.1 }

-- ports under other names
abbrev pub behind : (Name → Name) → List Shown → List Shown
behind f xs = map {B = Shown} (λ (x : Shown). (f x.0, x.1)) xs

abbrev pub ports : (Name → Name) → List Shown → List Port
ports f xs = map port (behind f xs)

pub same_ports : (ps : List Port) → map port (map {B = Shown} (λ p. (p.name, p.kind)) ps) ≡ ps
same_ports [] = refl
same_ports (p ∷ ps) = ap (λ (qs : List Port). p ∷ qs) (same_ports ps)

pub copied : (f : Name → Name) (xs : List Shown) → map (copy_port f) (map port xs) ≡ ports f xs
copied f [] = refl
copied f (x ∷ xs) = ap (λ (qs : List Port). port (f x.0, x.1) ∷ qs) (copied f xs)

pub map_both : {X Y : Type 0} (g : X → Y) (xs ys : List X) → map g (xs ++ ys) ≡ map g xs ++ map g ys
map_both g [] ys = refl
map_both {X} {Y} g (x ∷ xs) ys = ap (λ (zs : List Y). g x ∷ zs) (map_both g xs ys)

pub ports_both : (f : Name → Name) (xs ys : List Shown) → ports f (xs ++ ys) ≡ ports f xs ++ ports f ys
ports_both f xs ys = ap (map port) (map_both {Y = Shown} (λ (x : Shown). (f x.0, x.1)) xs ys) ∙ map_both port (behind f xs) (behind f ys)

module _ (test : Port → Bool) (f : Name → Name) where
  module _ (k : PortKind) (d : Named) (picks fewer : ℕ → Bool)
      (passes : (x : ℕ) → picks x ≡ true → (test (port (f (value_name (name d x)), k)) ≡ fewer x) × (test (port (f (tag_name (name d x)), k)) ≡ fewer x))
      (others : (x : ℕ) → picks x ≡ false → fewer x ≡ false) where
    pub pairs_kept : (x : ℕ) (es : List Entity) → filter test (ports f (pairs_of picks k d x es)) ≡ ports f (pairs_of fewer k d x es)
    pairs_kept x [] = refl
    pairs_kept x (e ∷ es) =
        elim (cases_Bool (picks x)) [
          | inl t ↦
              let two = passes x t in
              elim (cases_Bool (fewer x)) [
                | inl u ↦
                    let v : test (port (f (value_name (name d x)), k)) ≡ true = two.0 ∙ u in
                    let w : test (port (f (tag_name (name d x)), k)) ≡ true = two.1 ∙ u in
                    rw (t, u, v, w) (ap (λ (qs : List Port). port (f (value_name (name d x)), k) ∷ (port (f (tag_name (name d x)), k) ∷ qs)) (pairs_kept (x + 1) es))
                | inr u ↦
                    let v : test (port (f (value_name (name d x)), k)) ≡ false = two.0 ∙ u in
                    let w : test (port (f (tag_name (name d x)), k)) ≡ false = two.1 ∙ u in
                    rw (t, u, v, w) (pairs_kept (x + 1) es)
              ]
          | inr q ↦ let u = others x q in rw (q, u) (pairs_kept (x + 1) es)
        ]

  no_pairs : (k : PortKind) (d : Named) (x : ℕ) (es : List Entity) → pairs_of (λ x. false) k d x es ≡ []
  no_pairs k d x [] = refl
  no_pairs k d x (e ∷ es) = no_pairs k d (x + 1) es

  pub pairs_all : (k : PortKind) (d : Named) (picks : ℕ → Bool) → ((z : Name) → test (port (z, k)) ≡ true) → (es : List Entity)
      → filter test (ports f (pairs_of picks k d 0 es)) ≡ ports f (pairs_of picks k d 0 es)
  pairs_all k d picks h es = pairs_kept k d picks picks (λ x t. (h (f (value_name (name d x))) ∙ sym t, h (f (tag_name (name d x))) ∙ sym t)) (λ x q. q) 0 es

  pub pairs_none : (k : PortKind) (d : Named) (picks : ℕ → Bool) → ((z : Name) → test (port (z, k)) ≡ false) → (es : List Entity)
      → filter test (ports f (pairs_of picks k d 0 es)) ≡ []
  pairs_none k d picks h es =
      pairs_kept k d picks (λ x. false) (λ x t. (h (f (value_name (name d x))), h (f (tag_name (name d x))))) (λ x q. refl) 0 es ∙ ap (ports f) (no_pairs k d 0 es)

  pub sites_all : ((z : Name) → test (port (z, kind.Wire)) ≡ true) → (k sites : ℕ) → filter test (ports f (site_ports k sites)) ≡ ports f (site_ports k sites)
  sites_all h k zero = refl
  sites_all h k (suc n) =
      let v = h (f (refused_name k)) in
      let w = h (f (refused_level_name k)) in
      rw (v, w) (ap (λ (qs : List Port). port (f (refused_name k), kind.Wire) ∷ (port (f (refused_level_name k), kind.Wire) ∷ qs)) (sites_all h (k + 1) n))

  pub sites_none : ((z : Name) → test (port (z, kind.Wire)) ≡ false) → (k sites : ℕ) → filter test (ports f (site_ports k sites)) ≡ []
  sites_none h k zero = refl
  sites_none h k (suc n) =
      let v = h (f (refused_name k)) in
      let w = h (f (refused_level_name k)) in
      rw (v, w) (sites_none h (k + 1) n)

-- the same pairs as ports for wires
pub as_wires : (f : Name → Name) (d : Named) (picks : ℕ → Bool) (k : PortKind) (x : ℕ) (es : List Entity)
    → map as_wire (ports f (pairs_of picks k d x es)) ≡ ports f (pairs_of picks kind.Wire d x es)
as_wires f d picks k x [] = refl
as_wires f d picks k x (e ∷ es) =
    elim (cases_Bool (picks x)) [
      | inl t ↦ rw t (ap (λ (qs : List Port). port (f (value_name (name d x)), kind.Wire) ∷ (port (f (tag_name (name d x)), kind.Wire) ∷ qs)) (as_wires f d picks k (x + 1) es))
      | inr q ↦ rw q (as_wires f d picks k (x + 1) es)
    ]

-- all ports of a design, by the test of each kind
pub tested : (test : Port → Bool) (f : Name → Name) (d : Named) (sites : ℕ) (inputs registers wires : List Port)
    → filter test (ports f (pairs_of (is_input (world d)) kind.Input d 0 (world d).entities)) ≡ inputs
    → filter test (ports f (pairs_of (is_register (world d)) kind.Register d 0 (world d).entities)) ≡ registers
    → filter test (ports f (site_ports 1 sites)) ≡ wires
    → filter test (ports f (ports_of d sites)) ≡ (inputs ++ registers) ++ wires
tested test f d sites inputs registers wires a b c =
    let is = pairs_of (is_input (world d)) kind.Input d 0 (world d).entities in
    let rs = pairs_of (is_register (world d)) kind.Register d 0 (world d).entities in
    ap (filter test) (ports_both f (is ++ rs) (site_ports 1 sites) ∙ ap (λ (ps : List Port). ps ++ ports f (site_ports 1 sites)) (ports_both f is rs))
    ∙ filter-append test (ports f is ++ ports f rs) (ports f (site_ports 1 sites))
    ∙ ap₂ (λ (ps qs : List Port). ps ++ qs) (filter-append test (ports f is) (ports f rs) ∙ ap₂ (λ (ps qs : List Port). ps ++ qs) a b) c

-- a netlist that declares the ports of a design has them
pub declared_ports : (d : Named) (sites : ℕ) (ps : List Port) → map {B = Shown} (λ p. (p.name, p.kind)) ps ≡ ports_of d sites → ps ≡ map port (ports_of d sites)
declared_ports d sites ps e = sym (same_ports ps) ∙ ap (map port) e
