use Rattle.std.proofs.Common.{◌≤◌, string_len}
use Rattle.sap_rows.proofs.showing.push_parts.Given as goal

abbrev pub invariant-loop-part : goal.invariant-loop-part
invariant-loop-part l = string_len l.fn.out ≤ string_len l.out
