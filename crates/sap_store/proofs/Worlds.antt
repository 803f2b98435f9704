-- How many entities a program has.
use Rattle.sap_lemmas.proofs.Common.{◌≡◌, length_map}
use Rattle.sap_lattice.specs.Order.{Order}
use Rattle.sap_meaning.specs.Program.{root}
use Rattle.sap_program.specs.Views.{entity_of, program_in, count}
use Rattle.sap_program.specs.declared.program.Program.{Program}

module _ (o : Order) (p : Program) where
  pub root_is : root (program_in o p).world ≡ count p
  root_is = length_map entity_of p.entities.items
