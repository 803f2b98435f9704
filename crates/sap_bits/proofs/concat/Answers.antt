use Rattle.std.proofs.Common.{ℕ, ◌-◌, ◌∙◌, ap, arith}
use Rattle.std.specs.Prelude.{bit_or}
use Rattle.std.proofs.lemmas.Nat.{or_shifted, shl_whole}
use Rattle.sap_bits.proofs.concat.Goals as goal

pub returns-else-wb-eq64 : goal.returns-else-wb-eq64
returns-else-wb-eq64 c =
    ap (λ (n : ℕ). bit_or n c.args.b) (shl_whole c.args.a (64 - c.args.wb) c.args.wb 64 c.requires.front (omega arith))
    ∙ or_shifted c.args.a c.args.wb c.args.b c.requires.back
