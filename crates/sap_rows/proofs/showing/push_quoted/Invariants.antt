use Rattle.std.proofs.Common.{◌≤◌, string_len}
use Rattle.sap_rows.proofs.showing.push_quoted.Given as goal

abbrev pub invariant-loop-byte : goal.invariant-loop-byte
invariant-loop-byte l = string_len l.fn.out ≤ string_len l.out
