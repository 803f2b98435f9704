-- The worked runs, by computation.
use Rattle.std.proofs.Common.{◌≡◌, ℕ, ◌<◌, Some, refl, arith}
use Rattle.sap_lattice.specs.Levels.{order_of, order_by}
use Rattle.sap_shape.proofs.Again.{no_faults}
use Rattle.sap_meaning.specs.Prelude.{put_number, put_level, put_child, raise, reset, settle, effect, attempt, select, does, does_block, does_state, does_child, cycle, set_inputs, root_fall, first}
use Rattle.sap_link.specs.Examples.{FreeInput, Fed, FedThroughLow, FedThroughHigh, NothingThrough, ToItself, Exchanged, FreeInOrder, Formed}

pub free_input : FreeInput
free_input = refl

pub fed : Fed
unfolding order_of order_by cycle set_inputs root_fall first put_number put_level put_child raise reset settle effect attempt select does does_block does_state does_child
fed = refl

pub through_low : FedThroughLow
unfolding order_of order_by cycle set_inputs root_fall first put_number put_level put_child raise reset settle effect attempt select does does_block does_state does_child
through_low = refl

pub through_high : FedThroughHigh
unfolding order_of order_by cycle set_inputs root_fall first put_number put_level put_child raise reset settle effect attempt select does does_block does_state does_child
through_high = refl

pub nothing_through : NothingThrough
unfolding order_of order_by cycle set_inputs root_fall first put_number put_level put_child raise reset settle effect attempt select does does_block does_state does_child
nothing_through = refl

pub to_itself : ToItself
unfolding order_of order_by cycle set_inputs root_fall first put_number put_level put_child raise reset settle effect attempt select does does_block does_state does_child
to_itself = refl

pub exchanged : Exchanged
unfolding order_of order_by cycle set_inputs root_fall first put_number put_level put_child raise reset settle effect attempt select does does_block does_state does_child
exchanged = refl

pub free_in_order : FreeInOrder
unfolding order_of order_by cycle set_inputs root_fall first put_number put_level put_child raise reset settle effect attempt select does does_block does_state does_child
free_in_order = refl

pub formed : Formed
unfolding order_of order_by
formed = record {
  designs_formed = (record { names = refl; shape = no_faults _ refl }, (record { names = refl; shape = no_faults _ refl }, tt));
  wires_fit = record {
    each = (record { from_part = omega arith; register = refl; to_part = omega arith; input = refl; widths = refl; level = level }, tt);
    once = (refl, tt);
  };
}
  where
    level : (t : ℕ) → Some 0 ≡ Some t → t < 2
    level t is = let zero_is : 0 ≡ t = cc in omega (arith, zero_is)
