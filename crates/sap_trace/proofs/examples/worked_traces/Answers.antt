use Rattle.sap_lemmas.proofs.Common.{refl}
use Rattle.std.specs.Fmt.{digits}
use Rattle.sap_lattice.specs.Levels.{order_of, order_by}
use Rattle.sap_meaning.specs.Prelude.{put_number, put_level, put_child, raise, reset, settle, effect, attempt, select, does, does_block, does_state, does_child, cycle, set_inputs, root_fall, first}
use Rattle.sap_check.specs.SiteTexts.{site_target}
use Rattle.sap_trace.specs.Lines.{line_head}
use Rattle.sap_trace.proofs.examples.worked_traces.Goals as goal

pub returns-clause-in_handler : goal.returns-clause-in_handler
unfolding digits order_of order_by cycle set_inputs root_fall first put_number put_level put_child raise reset settle effect attempt select
    does does_block does_state does_child site_target line_head
returns-clause-in_handler c = refl

pub returns-clause-by_target : goal.returns-clause-by_target
unfolding digits order_of order_by cycle set_inputs root_fall first put_number put_level put_child raise reset settle effect attempt select
    does does_block does_state does_child site_target line_head
returns-clause-by_target c = refl

pub returns-clause-by_own_state : goal.returns-clause-by_own_state
unfolding digits order_of order_by cycle set_inputs root_fall first put_number put_level put_child raise reset settle effect attempt select
    does does_block does_state does_child site_target line_head
returns-clause-by_own_state c = refl
