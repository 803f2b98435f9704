use Rattle.std.proofs.Common.{◌≡◌, ◌^◌, ◌<◌, ℕ}
use Rattle.sap_share.specs.Names.{helper}
use Rattle.sap_fold.proofs.Numerals.{Makes}
use Rattle.sap_fold.proofs.wires.number_in.Given as goal

-- the bytes so far
abbrev pub invariant-loop-byte : goal.invariant-loop-byte
invariant-loop-byte l = (k : ℕ) → k < 2 ^ 64 → l.name ≡ helper k → Makes k l.byte-index l.number
