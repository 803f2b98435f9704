-- The widths of values, and the depths of memories.
use Rattle.std.specs.Prelude.{◌≡◌, ℕ, ◌^◌, ◌≤◌}

-- A width from 1 to 64.
abbrev pub IsWidth : ℕ → Type 0
IsWidth w = (1 ≤ w) × (w ≤ 64)

-- A depth is a power of two from 2 to 4096, and its index has `b` bits.
abbrev pub IsDepth : (depth b : ℕ) → Type 0
IsDepth depth b = (1 ≤ b) × (b ≤ 12) × (depth ≡ 2 ^ b)
