use Rattle.std.proofs.Common.{refl}
use Rattle.sap_meaning.specs.Prelude.{cycle, set_inputs, root_fall, first, put_number, put_level, put_child, raise, reset, settle, effect, attempt, select, does, does_block, does_state, does_child}
use Rattle.sap_worked.proofs.runs.retagging.Goals as goal

-- by computation
pub returns : goal.returns
unfolding cycle set_inputs root_fall first put_number put_level put_child raise reset settle effect attempt select does does_block does_state does_child
returns c = record {
  cell_raised = refl;
  cell_lowered = refl;
  cell_moved_aside = refl;
  cell_refused_by_authority = refl;
  cell_refused_by_level = refl;
  state_raised = refl;
  state_lowered = refl;
  state_moved_aside = refl;
  state_refused = refl;
  retagged_child = refl;
}
