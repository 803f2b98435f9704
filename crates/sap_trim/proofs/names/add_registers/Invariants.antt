use Rattle.std.proofs.Common.{◌≡◌, ◌||◌, drop, map}
use Rattle.sap_maps.specs.Maps.{Name}
use Rattle.sap_net.specs.Names.{is_among}
use Rattle.sap_share.specs.Sets.{holds}
use Rattle.sap_trim.proofs.names.add_registers.Given as goal

abbrev pub invariant-loop-register : goal.invariant-loop-register
invariant-loop-register l =
    (n : Name) → (is_among n (map (λ x. x.name) (drop l.register-index l.registers)) || holds l.names n) ≡ (is_among n (map (λ x. x.name) l.registers) || holds l.fn.names n)
