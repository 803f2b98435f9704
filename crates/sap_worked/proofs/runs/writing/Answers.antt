use Rattle.std.proofs.Common.{refl}
use Rattle.sap_meaning.specs.Prelude.{cycle, set_inputs, root_fall, first, put_number, put_level, put_child, raise, reset, settle, effect, attempt, select, does, does_block, does_state, does_child}
use Rattle.sap_worked.proofs.runs.writing.Goals as goal

-- by computation
pub returns : goal.returns
unfolding cycle set_inputs root_fall first put_number put_level put_child raise reset settle effect attempt select does does_block does_state does_child
returns c = record {
  enforced_write = refl;
  refused_by_index = refl;
  refused_by_value = refl;
  dynamic_write = refl;
}
