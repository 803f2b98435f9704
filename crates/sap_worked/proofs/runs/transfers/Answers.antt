use Rattle.std.proofs.Common.{refl}
use Rattle.sap_meaning.specs.Prelude.{cycle, set_inputs, root_fall, first, put_number, put_level, put_child, raise, reset, settle, effect, attempt, select, does, does_block, does_state, does_child}
use Rattle.sap_worked.proofs.runs.transfers.Goals as goal

-- by computation
pub returns : goal.returns
unfolding cycle set_inputs root_fall first put_number put_level put_child raise reset settle effect attempt select does does_block does_state does_child
returns c = record {
  lowers_below = refl;
  raised_by_target = refl;
  raised_where_refused = refl;
  fall_raises = refl;
  refused_fall_raises = refl;
  without_fall = refl;
}
