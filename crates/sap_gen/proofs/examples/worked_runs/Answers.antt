use Rattle.sap_lemmas.proofs.Common.{refl}
use Rattle.std.specs.Fmt.{digits}
use Rattle.sap_lattice.specs.Prelude.{order_of, order_by, code_of, meet_irreducibles, diamond}
use Rattle.sap_meaning.specs.Prelude.{put_number, put_level, put_child, raise, reset, settle, effect, attempt, select, does, does_block, does_state, does_child, cycle, set_inputs, root_fall, first}
use Rattle.sap_gen.specs.Design.{generated_design}
use Rattle.sap_gen.specs.Text.{generated_text}
use Rattle.sap_gen.proofs.examples.worked_runs.Goals as goal

pub returns-clause-of_one : goal.returns-clause-of_one
unfolding generated_text generated_design diamond digits order_of order_by code_of meet_irreducibles cycle set_inputs root_fall first
    put_number put_level put_child raise reset settle effect attempt select does does_block does_state does_child
returns-clause-of_one c = refl

pub returns-clause-of_two : goal.returns-clause-of_two
unfolding generated_text generated_design diamond digits order_of order_by code_of meet_irreducibles cycle set_inputs root_fall first
    put_number put_level put_child raise reset settle effect attempt select does does_block does_state does_child
returns-clause-of_two c = refl

pub returns-clause-largest_size : goal.returns-clause-largest_size
returns-clause-largest_size c = (refl, refl, refl)
