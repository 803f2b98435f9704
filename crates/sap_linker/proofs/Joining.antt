-- The netlists of parts as the code has them, joined, are the netlist of the system.
use Rattle.sap_lemmas.proofs.Common.{◌≡◌, ℕ, zero, suc, ◌+◌, List, [], ◌∷◌, map, Some, slice_get, refl, sym, ap, ap₂, ◌∙◌, subst, arith, same_Some, none-some}
use Rattle.sap_lattice.specs.Prelude.{Levels, order_of, Codes, width_of}
use Rattle.sap_net.specs.Prelude.{Net, IsNetlist}
use Rattle.sap_link.specs.Systems.{System, Wire, WiresFit}
use Rattle.sap_link.specs.Designs.{WellLinked}
use Rattle.sap_linked.specs.Prelude.{NamedSystem, NamesFit, linked_net, NamedDesign, part_of, trees, named_system, IsNetOfDesign, LinkedDesignsAreNetlists}
use Rattle.sap_linked.proofs.Designs.{each_net, same_system}
use Rattle.sap_joined.specs.Joined.{NamedNet, Feed, joined}
use Rattle.sap_joined.specs.Systems.{feed_of, nets_from, JoinedIsLinked}
use Rattle.sap_linker.specs.declared.parts.LinkedPart.{LinkedPart}
use Rattle.sap_linker.specs.Given.{named_net, designs_of, net_at, AreOver}

pub each_stands : (ls : Levels) (parts : List LinkedPart) → AreOver ls parts → (i : ℕ) (d : NamedDesign)
    → slice_get (designs_of parts) i ≡ Some d → IsNetOfDesign ls d.design (net_at parts i)
each_stands ls [] a i d h = absurd (none-some d h)
each_stands ls (p ∷ parts) a zero d h = subst (λ (e : NamedDesign). IsNetOfDesign ls e.design p.netlist.now) (same_Some _ d h) a.0.net
each_stands ls (p ∷ parts) a (suc i) d h = each_stands ls parts a.1 i d h

same_nets : (ls : Levels) (nets : ℕ → Net) (k : ℕ) (parts : List LinkedPart) → ((j : ℕ) → nets (k + j) ≡ net_at parts j)
    → map named_net parts ≡ nets_from nets k (map (part_of ls) (designs_of parts))
same_nets ls nets k [] at = refl
same_nets ls nets k (p ∷ parts) at =
    let here : p.netlist.now ≡ nets k = sym (at 0) ∙ ap nets (omega arith) in
    ap₂ (λ (n : Net) (ps : List NamedNet). record { name = p.name.now; net = n } ∷ ps) here
    (same_nets ls nets (suc k) parts (λ j. let next : suc k + j ≡ k + suc j = omega arith in ap nets next ∙ at (suc j)))

module _ (ls : Levels) (parts : List LinkedPart) (wires : List Wire) (over : AreOver ls parts) (well : WellLinked ls (trees (designs_of parts)) wires) where
  abbrev s : NamedSystem
  s = named_system ls (designs_of parts) wires

  pub joined_nets : NamesFit s → JoinedIsLinked
      → joined (width_of (order_of ls)) (map named_net parts) (map (feed_of (named_system ls (designs_of parts) [])) wires) ≡ linked_net s (net_at parts)
  joined_nets fit tie =
      ap (λ (ps : List NamedNet). joined (width_of (order_of ls)) ps (map (feed_of s) wires))
      (same_nets ls (net_at parts) 0 parts (λ j. let same : 0 + j ≡ j = omega arith in ap (net_at parts) same))
      ∙ sym (tie s (net_at parts) fit (subst (λ (y : System). WiresFit y) (same_system ls (designs_of parts) wires) well.wires_fit)
      (λ i low. each_net ls (designs_of parts) i (net_at parts i) low (λ d h. each_stands ls parts over i d h)))

  pub joined_as_given : NamesFit s → JoinedIsLinked → (tag : ℕ) (ns : List NamedNet) (fs : List Feed) (made : Net) → made ≡ joined tag ns fs → tag ≡ width_of (order_of ls)
      → ns ≡ map named_net parts → fs ≡ map (feed_of (named_system ls (designs_of parts) [])) wires → made ≡ linked_net s (net_at parts)
  joined_as_given fit tie tag ns fs made is wide nets feeds =
      is
      ∙ ap (λ (u : ℕ). joined u ns fs) wide
      ∙ ap₂ (λ (ps : List NamedNet) (gs : List Feed). joined (width_of (order_of ls)) ps gs) nets feeds
      ∙ joined_nets fit tie

  pub is_netlist : Codes (order_of ls) → NamesFit s → LinkedDesignsAreNetlists → IsNetlist (linked_net s (net_at parts))
  is_netlist codes fit are = are ls (designs_of parts) wires codes well fit (net_at parts) (each_stands ls parts over)
