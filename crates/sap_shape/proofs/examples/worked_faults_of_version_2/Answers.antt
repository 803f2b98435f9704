use Rattle.std.proofs.Common.{refl}
use Rattle.sap_shape.specs.Examples.{decided}
use Rattle.sap_shape.proofs.Again.{exactly, no_faults}
use Rattle.sap_shape.proofs.examples.worked_faults_of_version_2.Goals as goal

pub returns : goal.returns
returns c = record {
  never_refused = exactly _ _ refl;
  written_in_either_block = exactly _ _ refl;
  written_behind_a_block = exactly _ _ refl;
  goto_with_then = exactly _ _ refl;
  to_no_sibling = exactly _ _ refl;
  falls_in_leaf = exactly _ _ refl;
  one_arm_not_closed = exactly _ _ refl;
  well_formed = record { names = refl; shape = no_faults decided refl };
}
