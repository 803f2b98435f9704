-- No fault stands in the sample.
use Rattle.std.proofs.Common.{refl}
use Rattle.sap_lattice.specs.Levels.{order_of, order_by}
use Rattle.sap_shape.proofs.Again.{no_faults}
use Rattle.sap_secure.specs.Designs.Examples.{Formed, sample}

pub formed : Formed
unfolding order_of order_by
formed = record { names = refl; shape = no_faults sample refl }
