use Rattle.std.proofs.Common.{◌≡◌, take}
use Rattle.sap_sim.proofs.labelled.DesignFields.{fields_among}
use Rattle.sap_sim.proofs.labelled.stimulus.design_fields.Given as goal

-- the fields so far
abbrev pub invariant-loop-entity : goal.invariant-loop-entity
invariant-loop-entity l = l.fields.items ≡ fields_among (take l.entity l.names)
