-- Arms with nothing behind them; `m` is how many entities there are.
use Rattle.std.proofs.Common.{◌≡◌, ℕ, zero, suc, ◌+◌, ◌<◌, ◌≤◌, List, [], ◌∷◌, length, get_or, drop, refl, sym, ap, arith, add-one}
use Rattle.sap_meaning.specs.Program.{Arms, last_arm, Block, end_block}
use Rattle.sap_meaning.specs.Program as program
use Rattle.sap_program.specs.Views.{constants_of, arm_block, arms_before}
use Rattle.sap_program.specs.declared.program.Arm.{Arm}
use Rattle.sap_tagged.specs.Commands.{arm_count}

abbrev pub alone : (m : ℕ) → List Arm → Arms
alone m arms = arms_before m arms (last_arm end_block)

pub alone_next : (m : ℕ) (arms : List Arm) (i : ℕ) (a : Arm) → i < length arms → a ≡ get_or arms i a
    → alone m (drop i arms) ≡ program.and_arm (constants_of a) (arm_block m a) (alone m (drop (i + 1) arms))
unfolding arms_before
alone_next m [] i a l e = absurd (omega arith)
alone_next m (x ∷ arms) zero a l e = ap (λ (y : Arm). program.and_arm (constants_of y) (arm_block m y) (alone m arms)) (sym e)
alone_next m (x ∷ arms) (suc i) a l e = let r = alone_next m arms i a (omega arith) e in simp (add-one) (simp (add-one) at r)

pub alone_past : (m : ℕ) (arms : List Arm) (i : ℕ) → length arms ≤ i → alone m (drop i arms) ≡ last_arm end_block
unfolding arms_before
alone_past m [] zero l = refl
alone_past m [] (suc i) l = refl
alone_past m (a ∷ arms) zero l = absurd (omega arith)
alone_past m (a ∷ arms) (suc i) l = alone_past m arms i (omega arith)

pub counted : (m : ℕ) (arms : List Arm) (b : Block) → arm_count (arms_before m arms (last_arm b)) ≡ length arms
unfolding arms_before
counted m [] b = refl
counted m (a ∷ arms) b = let r = counted m arms b in omega (arith, r)
