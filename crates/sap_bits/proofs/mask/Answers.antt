use Rattle.std.proofs.Common.{◌≡◌, ℕ, ◌-◌, ◌^◌, ◌∙◌, ap, arith}
use Rattle.std.proofs.lemmas.Nat.Bits.{ones_shr}
use Rattle.sap_bits.proofs.mask.Goals as goal

pub returns : goal.returns
returns c =
    let s : 64 - (64 - c.args.w) ≡ c.args.w = omega arith in
    ones_shr 64 (64 - c.args.w) (omega arith) ∙ ap (λ (k : ℕ). 2 ^ k - 1) s
