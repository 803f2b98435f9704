use Rattle.std.proofs.Common.{refl}
use Rattle.sap_meaning.specs.Prelude.{cycle, set_inputs, root_fall, first, put_number, put_level, put_child, raise, reset, settle, effect, attempt, select, does, does_block, does_state, does_child}
use Rattle.sap_worked.proofs.runs.handlers.Goals as goal

-- by computation
pub returns : goal.returns
unfolding cycle set_inputs root_fall first put_number put_level put_child raise reset settle effect attempt select does does_block does_state does_child
returns c = record {
  fall_handler = refl;
  handler_raises = refl;
  goto_handler = refl;
  goto_handler_raises = refl;
  goto_handler_of_enforced = refl;
  rising_refusals = refl;
  no_handler_runs = refl;
}
