-- An operator's result is within its width.
use Rattle.std.specs.Prelude.{ℕ, ◌-◌, ◌^◌, ◌<◌, Bool, true, false, if◌then◌else◌, count_ones}
use Rattle.std.proofs.Common.{arith}
use Rattle.std.proofs.Math.Pow.{pow_pos}
use Rattle.std.proofs.Math.Nat.{mod-lt}
use Rattle.std.proofs.lemmas.Nat.{or_lt, xor_lt, and_le_l, shr_le}
use Rattle.sap_bits.specs.Arithmetic.{value1, value2, width1, width2, RightFits}
use Rattle.sap_bits.specs.declared.Op1.{Op1}
use Rattle.sap_bits.specs.declared.Op1.TheVariants.{Not, Neg, AllOnes, AnyOne, Odd}
use Rattle.sap_bits.specs.declared.Op2.{Op2}
use Rattle.sap_bits.specs.declared.Op2.TheVariants.{Add, Sub, Mul, And, Or, Xor, Eq, Ne, Lt, Le, Shl, Shr}

bit_below : (b : Bool) → (if b then 1 else 0) < 2 ^ 1
bit_below true = omega arith
bit_below false = omega arith

bit_below' : (b : Bool) → (if b then 0 else 1) < 2 ^ 1
bit_below' true = omega arith
bit_below' false = omega arith

pub value1_below : (op : Op1) (w a : ℕ) → a < 2 ^ w → value1 op w a < 2 ^ width1 op w
value1_below Not w a h = omega arith
value1_below Neg w a h = mod-lt (2 ^ w - a) (pow_pos w)
value1_below AllOnes w a h = bit_below _
value1_below AnyOne w a h = bit_below' _
value1_below Odd w a h = mod-lt (count_ones a) {m = 2} (omega arith)

pub value2_below : (op : Op2) (w a b : ℕ) → a < 2 ^ w → RightFits op w b → value2 op w a b < 2 ^ width2 op w
value2_below Add w a b h r = mod-lt _ (pow_pos w)
value2_below Sub w a b h r = mod-lt _ (pow_pos w)
value2_below Mul w a b h r = mod-lt _ (pow_pos w)
value2_below And w a b h r = omega (arith, and_le_l a b)
value2_below Or w a b h r = or_lt w a b h r
value2_below Xor w a b h r = xor_lt w a b h r
value2_below Eq w a b h r = bit_below _
value2_below Ne w a b h r = bit_below' _
value2_below Lt w a b h r = bit_below _
value2_below Le w a b h r = bit_below _
value2_below Shl w a b h r = mod-lt _ (pow_pos w)
value2_below Shr w a b h r = omega (arith, shr_le a b)
