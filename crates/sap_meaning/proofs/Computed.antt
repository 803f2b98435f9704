-- The runs of the small programs, by computation.
use Rattle.std.proofs.Common.{refl}
use Rattle.sap_meaning.specs.Store.{put_number, put_level, put_child, raise, reset, settle}
use Rattle.sap_meaning.specs.Does.{effect, attempt, select, does, does_block, does_state, does_child}
use Rattle.sap_meaning.specs.Cycle.{cycle, set_inputs, root_fall}
use Rattle.sap_meaning.specs.State.{first}
use Rattle.sap_meaning.specs.Examples.{Sum, GuardedWrite, Handler, BranchNotTaken, LoweredTag, PlacedTag, UnderAuthority, EnforcedStates, DynamicStates, FallsTwice, FallsInto, Resets, MemoryRead, MemoryHandler}

pub sum : Sum
unfolding cycle set_inputs root_fall first put_number put_level put_child raise reset settle effect attempt select does does_block does_state does_child
sum = refl

pub guarded_write : GuardedWrite
unfolding cycle set_inputs root_fall first put_number put_level put_child raise reset settle effect attempt select does does_block does_state does_child
guarded_write = refl

pub handler : Handler
unfolding cycle set_inputs root_fall first put_number put_level put_child raise reset settle effect attempt select does does_block does_state does_child
handler = refl

pub branch_not_taken : BranchNotTaken
unfolding cycle set_inputs root_fall first put_number put_level put_child raise reset settle effect attempt select does does_block does_state does_child
branch_not_taken = refl

pub lowered_tag : LoweredTag
unfolding cycle set_inputs root_fall first put_number put_level put_child raise reset settle effect attempt select does does_block does_state does_child
lowered_tag = refl

pub placed_tag : PlacedTag
unfolding cycle set_inputs root_fall first put_number put_level put_child raise reset settle effect attempt select does does_block does_state does_child
placed_tag = refl

pub under_authority : UnderAuthority
unfolding cycle set_inputs root_fall first put_number put_level put_child raise reset settle effect attempt select does does_block does_state does_child
under_authority = refl

pub enforced_states : EnforcedStates
unfolding cycle set_inputs root_fall first put_number put_level put_child raise reset settle effect attempt select does does_block does_state does_child
enforced_states = refl

pub dynamic_states : DynamicStates
unfolding cycle set_inputs root_fall first put_number put_level put_child raise reset settle effect attempt select does does_block does_state does_child
dynamic_states = (refl, refl)

pub falls_twice : FallsTwice
unfolding cycle set_inputs root_fall first put_number put_level put_child raise reset settle effect attempt select does does_block does_state does_child
falls_twice = refl

pub resets : Resets
unfolding cycle set_inputs root_fall first put_number put_level put_child raise reset settle effect attempt select does does_block does_state does_child
resets = refl

pub memory_read : MemoryRead
unfolding cycle set_inputs root_fall first put_number put_level put_child raise reset settle effect attempt select does does_block does_state does_child
memory_read = refl

pub memory_handler : MemoryHandler
unfolding cycle set_inputs root_fall first put_number put_level put_child raise reset settle effect attempt select does does_block does_state does_child
memory_handler = refl

pub falls_into : FallsInto
unfolding cycle set_inputs root_fall first put_number put_level put_child raise reset settle effect attempt select does does_block does_state does_child
falls_into = refl
