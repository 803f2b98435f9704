-- The steps of the small programs, by computation.
use Rattle.std.proofs.Common.{refl}
use Rattle.sap_meaning.specs.Prelude.{put_number, put_level, put_child, raise, reset, effect, attempt, select, does, does_block, does_state, does_child, set_inputs, first}
use Rattle.sap_secure.specs.Once.Steps.{tried, chosen, steps, block_steps, state_steps, child_steps, root_steps, cycle_steps}
use Rattle.sap_secure.specs.Once.Examples.{OneBranch, WrittenTwice, AfterRefusal, AfterFall}

pub one_branch : OneBranch
unfolding cycle_steps root_steps state_steps child_steps steps block_steps tried chosen set_inputs first put_number put_level put_child
    raise reset effect attempt select does does_block does_state does_child
one_branch = (refl, refl)

pub written_twice : WrittenTwice
unfolding cycle_steps root_steps state_steps child_steps steps block_steps tried chosen set_inputs first put_number put_level put_child
    raise reset effect attempt select does does_block does_state does_child
written_twice = refl

pub after_refusal : AfterRefusal
unfolding cycle_steps root_steps state_steps child_steps steps block_steps tried chosen set_inputs first put_number put_level put_child
    raise reset effect attempt select does does_block does_state does_child
after_refusal = (refl, refl)

pub after_fall : AfterFall
unfolding cycle_steps root_steps state_steps child_steps steps block_steps tried chosen set_inputs first put_number put_level put_child
    raise reset effect attempt select does does_block does_state does_child
after_fall = (refl, refl)
