use Rattle.sap_lemmas.proofs.Common.{◌≡◌, ◌+◌, ◌-◌, ◌≤◌, length, drop, prefix_len}
use Rattle.sap_text.specs.Runs.{is_in}
use Rattle.sap_text.proofs.scan.run_len.Given as goal

abbrev pub invariant-run : goal.invariant-run
invariant-run l = record { within : l.n ≤ length l.bytes; so_far : prefix_len (is_in l.class) l.bytes ≡ l.n + prefix_len (is_in l.class) (drop l.n l.bytes) }

abbrev pub decreases-run : goal.decreases-run
decreases-run l = length l.bytes - l.n
