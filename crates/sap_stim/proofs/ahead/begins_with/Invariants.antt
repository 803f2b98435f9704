use Rattle.std.proofs.Common.{◌≡◌, ◌≤◌, ◌-◌, length, take}
use Rattle.sap_stim.proofs.ahead.begins_with.Given as goal

-- with the bytes so far
abbrev pub invariant-loop-k : goal.invariant-loop-k
invariant-loop-k l = record {
  within : l.k ≤ length l.word;
  same : take l.k l.text ≡ take l.k l.word;
}

abbrev pub decreases-loop-k : goal.decreases-loop-k
decreases-loop-k l = length l.word - l.k
