-- On what stands in Levels: what several crates cite.
use Rattle.std.proofs.Common.{arith, ℕ, ◌<◌, ◌≡◌}
use Rattle.std.proofs.lemmas.Grind.{common_steps}
use Rattle.sap_lattice.specs.Levels.{level_in}

pub level_in_same : (n x : ℕ) → x < n → level_in n x ≡ x
level_in_same n x h = grind (arith, common_steps)
