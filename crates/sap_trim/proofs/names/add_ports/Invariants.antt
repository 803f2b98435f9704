use Rattle.std.proofs.Common.{◌≡◌, ◌||◌, drop, map}
use Rattle.sap_maps.specs.Maps.{Name}
use Rattle.sap_net.specs.Names.{is_among}
use Rattle.sap_share.specs.Sets.{holds}
use Rattle.sap_trim.proofs.names.add_ports.Given as goal

abbrev pub invariant-loop-port : goal.invariant-loop-port
invariant-loop-port l =
    (n : Name) → (is_among n (map (λ x. x.name) (drop l.port-index l.ports)) || holds l.names n) ≡ (is_among n (map (λ x. x.name) l.ports) || holds l.fn.names n)
