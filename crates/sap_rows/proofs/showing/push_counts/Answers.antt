use Rattle.std.proofs.Common.{arith, append_assoc}
use Rattle.std.proofs.lemmas.Grind.{common_steps}
use Rattle.sap_rows.proofs.showing.push_counts.Goals as goal

pub returns : goal.returns
returns c = grind (arith, common_steps, append_assoc, c.push_str.ensures.bytes, c.deref.ensures, c.in_ok-line.ensures.ok)
