use Rattle.std.proofs.Common.{refl}
use Rattle.sap_meaning.specs.Prelude.{cycle, set_inputs, root_fall, first, put_number, put_level, put_child, raise, reset, settle, effect, attempt, attempt_then, select, does, does_arms, does_block, does_state, does_child}
use Rattle.sap_worked.proofs.Behind.{nothing_behind}
use Rattle.sap_worked.proofs.runs.decisions.Goals as goal

-- by computation
pub returns : goal.returns
unfolding cycle set_inputs root_fall first put_number put_level put_child raise reset settle effect attempt attempt_then select does does_arms does_block does_state does_child
returns c = record {
  accepted_or_not = refl;
  accepted_in_guard = refl;
  refused_in_guard = refl;
  refused_before_block = refl;
  decoded = refl;
  first_arm = refl;
  nothing_behind = nothing_behind;
}
