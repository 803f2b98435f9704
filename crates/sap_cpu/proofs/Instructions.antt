-- The instruction of a word, by the number of its operation.
use Rattle.std.proofs.Common.{◌≡◌, ◌≢◌, ℕ, zero, suc, ◌+◌, ◌-◌, ◌/◌, ◌%◌, ◌<◌, false, refl, ap, sym, ◌∙◌, get_or, if◌then◌else◌, eqb, arith}
use Rattle.std.proofs.lemmas.Grind.{common_steps}
use Rattle.sap_machine.specs.Table.{UserState, operations, nop, does_row, jump, goes_on, step}
use Rattle.sap_machine.specs.Table as table

pub stepped : (s : UserState) (word o : ℕ) → word ≡ s.word s.pc → word / 256 ≡ o → step s ≡ does_row (get_or operations o nop) (word % 256) (word % 256 % 16) s
unfolding step
stepped s word o is op =
    ap (λ w. does_row (get_or operations (w / 256) nop) (w % 256) (w % 256 % 16) s) (sym is)
    ∙ ap (λ o. does_row (get_or operations o nop) (word % 256) (word % 256 % 16) s) op

-- an operation without a row of its own does what nop does
pub no_row : (o : ℕ) → o ≢ 1 → o ≢ 2 → o ≢ 3 → o ≢ 4 → o ≢ 5 → o ≢ 6 → o ≢ 7 → o ≢ 8 → get_or operations o nop ≡ nop
no_row zero n1 n2 n3 n4 n5 n6 n7 n8 = refl
no_row (suc zero) n1 n2 n3 n4 n5 n6 n7 n8 = absurd (n1 refl)
no_row (suc (suc zero)) n1 n2 n3 n4 n5 n6 n7 n8 = absurd (n2 refl)
no_row (suc (suc (suc zero))) n1 n2 n3 n4 n5 n6 n7 n8 = absurd (n3 refl)
no_row (suc (suc (suc (suc zero)))) n1 n2 n3 n4 n5 n6 n7 n8 = absurd (n4 refl)
no_row (suc (suc (suc (suc (suc zero))))) n1 n2 n3 n4 n5 n6 n7 n8 = absurd (n5 refl)
no_row (suc (suc (suc (suc (suc (suc zero)))))) n1 n2 n3 n4 n5 n6 n7 n8 = absurd (n6 refl)
no_row (suc (suc (suc (suc (suc (suc (suc zero))))))) n1 n2 n3 n4 n5 n6 n7 n8 = absurd (n7 refl)
no_row (suc (suc (suc (suc (suc (suc (suc (suc zero)))))))) n1 n2 n3 n4 n5 n6 n7 n8 = absurd (n8 refl)
no_row (suc (suc (suc (suc (suc (suc (suc (suc (suc x))))))))) n1 n2 n3 n4 n5 n6 n7 n8 = refl

-- jz, by the accumulator
pub jumps : (s : UserState) (n k : ℕ) → s.acc ≡ 0 → does_row table.jz n k s ≡ jump k s
jumps s n k is = rw is refl

pub falls_through : (s : UserState) (n k : ℕ) → s.acc ≢ 0 → does_row table.jz n k s ≡ goes_on s
falls_through s n k other = by s.acc other
  where
    by : (a : ℕ) → a ≢ 0 → (let b = eqb a 0 in if b then jump k s else goes_on s) ≡ goes_on s
    by zero other = absurd (other refl)
    by (suc a) other = let e : eqb (suc a) 0 ≡ false = grind (arith, common_steps) in rw e refl

-- the difference of two bytes
pub subtracted : (x y : ℕ) → y < 256 → (x + (256 - y)) % 256 ≡ (256 + x - y) % 256
subtracted x y small = omega arith
