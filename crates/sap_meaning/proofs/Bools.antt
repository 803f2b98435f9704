-- Tests.
use Rattle.std.proofs.Common.{◌≡◌, Bool, true, false, ◌&&◌, refl}

-- both are true, and not both
pub and_false : (a b : Bool) → (a && b) ≡ false → b ≡ true → a ≡ false
and_false true true h k = h
and_false true false h k = cc
and_false false b h k = refl
