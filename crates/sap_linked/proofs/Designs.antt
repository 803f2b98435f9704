-- The netlists of well-formed designs are what the law of linked netlists asks for.
use Rattle.sap_lemmas.proofs.Common.{◌≡◌, ℕ, zero, suc, ◌<◌, List, [], ◌∷◌, map, get_or, length, Some, refl, ap, subst, arith, slice_get}
use Rattle.sap_lattice.specs.Levels.{Levels, order_of}
use Rattle.sap_meaning.specs.Program.{Program}
use Rattle.sap_net.specs.Net.{Net}
use Rattle.sap_resolved.specs.Fill.{program_of}
use Rattle.sap_link.specs.Systems.{Wire, System, WiresFit}
use Rattle.sap_link.specs.Laws.{FineSystem, SizedSystem}
use Rattle.sap_link.specs.Designs.{linked, LinkedDesignsServe}
use Rattle.sap_linked.specs.Prelude.{Part, no_part, system_of, IsNetOf, LinkedNetIsNetlist, LinkedNetsStand, NamedDesign, part_of, trees, named_system, IsNetOfDesign, LinkedDesignsAreNetlists, LinkedDesignsStand}

same_programs : (ls : Levels) (ds : List NamedDesign) → map (program_of ls) (trees ds) ≡ map (λ (p : Part). p.design.program) (map (part_of ls) ds)
same_programs ls [] = refl
same_programs ls (d ∷ ds) = ap (λ (ps : List Program). program_of ls d.design ∷ ps) (same_programs ls ds)

pub same_system : (ls : Levels) (ds : List NamedDesign) (wires : List Wire) → linked ls (trees ds) wires ≡ system_of (named_system ls ds wires)
same_system ls ds wires = ap (λ (ps : List Program). record { order = order_of ls; parts = ps; wires = wires }) (same_programs ls ds)

pub each_net : (ls : Levels) (ds : List NamedDesign) (i : ℕ) (n : Net) → i < length (map (part_of ls) ds)
    → ((d : NamedDesign) → slice_get ds i ≡ Some d → IsNetOfDesign ls d.design n)
    → IsNetOf (order_of ls) (get_or (map (part_of ls) ds) i (no_part (order_of ls))) n
each_net ls [] i n low is = absurd (omega arith)
each_net ls (d ∷ ds) zero n low is = let net = is d refl in record { codes = refl; netlist = net.netlist; stands = net.stands; starts = net.starts }
each_net ls (d ∷ ds) (suc i) n low is = each_net ls ds i n (omega arith) is

pub linked_designs_stand : LinkedDesignsServe → LinkedNetsStand → LinkedDesignsStand
linked_designs_stand serve stand ls ds wires laws codes well nets named whole each links =
    let served = serve ls (trees ds) wires laws well in
    let same = same_system ls ds wires in
    stand (named_system ls ds wires) nets named whole codes (subst (λ (y : System). FineSystem y) same served.0) (subst (λ (y : System). SizedSystem y) same served.1)
    (λ i low. each_net ls ds i (nets i) low (λ d is. each i d is)) links

pub linked_designs_are_netlists : LinkedNetIsNetlist → LinkedDesignsAreNetlists
linked_designs_are_netlists is ls ds wires codes well fit nets each =
    is (named_system ls ds wires) nets codes fit (subst (λ (y : System). WiresFit y) (same_system ls ds wires) well.wires_fit)
    (λ i low. each_net ls ds i (nets i) low (λ d is. each i d is))
