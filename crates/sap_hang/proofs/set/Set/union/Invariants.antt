use Rattle.std.proofs.Common.{◌≡◌, ℕ, ◌<◌, ◌≤◌, length, get_or, bit_or}
use Rattle.sap_hang.proofs.set.Set.union.Given as goal

-- the words before the place have the bits of both
abbrev pub invariant-loop-i : goal.invariant-loop-i
invariant-loop-i l =
    ((k : ℕ) → k < l.i → get_or l.self.words.items k 0 ≡ bit_or (get_or l.initial.self.words.items k 0) (get_or l.other.words.items k 0))
    × ((k : ℕ) → l.i ≤ k → get_or l.self.words.items k 0 ≡ get_or l.initial.self.words.items k 0)
    × (length l.other.words.items ≤ length l.self.words.items)
