use Rattle.std.proofs.Common.{refl}
use Rattle.sap_shape.specs.Paths.{without_fall, with_handler}
use Rattle.sap_shape.proofs.Again.{exactly, none_again, one_again}
use Rattle.sap_shape.proofs.examples.worked_faults.Goals as goal

pub returns : goal.returns
returns c = record {
  twice_written = exactly _ _ refl;
  in_two_branches = exactly _ _ refl;
  not_closed = exactly _ _ refl;
  not_last = exactly _ _ refl;
  without_else = exactly _ _ refl;
  falls_in_leaf = exactly _ _ refl;
  to_no_sibling = exactly _ _ refl;
  never_refused = exactly _ _ refl;
  dynamic_retagged = exactly _ _ refl;
  itself_retagged = exactly _ _ refl;
  none_without_fall = none_again without_fall refl;
  one_in_handler = one_again with_handler _ refl;
}
