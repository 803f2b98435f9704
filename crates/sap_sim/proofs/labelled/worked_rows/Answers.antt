use Rattle.sap_lemmas.proofs.Common.{refl}
use Rattle.std.specs.Fmt.{digits}
use Rattle.sap_lattice.specs.Prelude.{order_of, order_by, code_of, meet_irreducibles}
use Rattle.sap_meaning.specs.Prelude.{put_number, put_level, put_child, raise, reset, settle, effect, attempt, select, does, does_block, does_state, does_child, cycle, set_inputs, root_fall, first}
use Rattle.sap_sim.proofs.labelled.worked_rows.Goals as goal

pub returns : goal.returns
unfolding digits order_of order_by code_of meet_irreducibles cycle set_inputs root_fall first put_number put_level put_child raise reset
    settle effect attempt select does does_block does_state does_child
returns c = record { adds_one = refl }
