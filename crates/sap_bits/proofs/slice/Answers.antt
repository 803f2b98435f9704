use Rattle.std.proofs.Common.{◌≡◌, ℕ, ◌+◌, ◌-◌, ◌/◌, ◌%◌, ◌^◌, ◌∙◌, ap, arith}
use Rattle.std.specs.Prelude.{bit_and}
use Rattle.std.proofs.lemmas.Nat.{and_mask}
use Rattle.sap_bits.proofs.slice.Goals as goal

pub returns : goal.returns
returns c =
    let n = c.args.a / 2 ^ c.args.lo in
    let s : c.args.hi - c.args.lo + 1 ≡ c.args.hi + 1 - c.args.lo = omega arith in
    ap (λ (m : ℕ). bit_and n m) c.mask.ensures ∙ and_mask n _ ∙ ap (λ (k : ℕ). n % 2 ^ k) s
