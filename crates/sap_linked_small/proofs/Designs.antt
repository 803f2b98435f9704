-- So it is for systems of designs.
use Rattle.std.proofs.Common.{subst}
use Rattle.sap_link.specs.Systems.{System}
use Rattle.sap_link.specs.Laws.{FineSystem, SizedSystem}
use Rattle.sap_link.specs.Designs.{LinkedDesignsServe}
use Rattle.sap_linked.specs.Designs.{named_system, trees}
use Rattle.sap_linked.proofs.Designs.{each_net, same_system}
use Rattle.sap_linked_small.specs.Laws.{SmallDesignsStand, SmallNetsStand}

pub small_designs_stand : LinkedDesignsServe → SmallNetsStand → SmallDesignsStand
small_designs_stand serve stand ls ds wires laws codes well fit nets small each is =
    let served = serve ls (trees ds) wires laws well in
    let same = same_system ls ds wires in
    stand (named_system ls ds wires) nets small codes (subst (λ (y : System). FineSystem y) same served.0) (subst (λ (y : System). SizedSystem y) same served.1) fit
    (λ i low. each_net ls ds i (nets i) low (λ d is. each i d is)) is
