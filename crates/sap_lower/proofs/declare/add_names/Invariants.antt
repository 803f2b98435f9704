use Rattle.std.proofs.Common.{◌≡◌, ◌||◌, drop}
use Rattle.sap_maps.specs.Maps.{Name}
use Rattle.sap_net.specs.Names.{is_among}
use Rattle.sap_share.specs.Sets.{holds}
use Rattle.sap_lower.proofs.declare.add_names.Given as goal

abbrev pub invariant-loop-name : goal.invariant-loop-name
invariant-loop-name l = (n : Name) → (is_among n (drop l.name-index l.names) || holds l.set n) ≡ (is_among n l.names || holds l.fn.set n)
