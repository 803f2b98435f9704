use Rattle.sap_lemmas.proofs.Common.{◌≡◌, ◌≤◌, ◌<◌, ◌^◌, ℕ, false, arith, pow_mono, common_steps, leb}
use Rattle.sap_names.proofs.expression.holds_no.Goals as goal

beyond : (v p : ℕ) → v < 18446744073709551616 → 18446744073709551616 ≤ p → false ≡ leb p v
beyond v p h k = grind (arith, common_steps)

pub returns-else-width-lt64 : goal.returns-else-width-lt64
returns-else-width-lt64 c = beyond c.args.value (2 ^ c.args.width) (omega arith) (pow_mono {i = 64} {j = c.args.width} (omega arith))
