use Rattle.sap_meaning.proofs.Computed.{sum, guarded_write, handler, branch_not_taken, lowered_tag, placed_tag, under_authority, enforced_states, dynamic_states, falls_twice, falls_into, resets, memory_read, memory_handler}
use Rattle.sap_meaning.proofs.examples.worked_runs.Goals as goal

pub returns : goal.returns
returns c = record {
  sum = sum;
  guarded_write = guarded_write;
  handler = handler;
  branch_not_taken = branch_not_taken;
  lowered_tag = lowered_tag;
  placed_tag = placed_tag;
  under_authority = under_authority;
  enforced_states = enforced_states;
  dynamic_states = dynamic_states;
  falls_twice = falls_twice;
  falls_into = falls_into;
  resets = resets;
  memory_read = memory_read;
  memory_handler = memory_handler;
}
