-- One instruction of a user: what the machine does to its numbers is what the table says.
use Rattle.std.proofs.Common.{◌≡◌, ℕ, zero, suc, Bool, true, false, ◌+◌, ◌-◌, ◌/◌, ◌%◌, ◌<◌, refl, sym, ap, subst, ◌∙◌, arith, eqb, nat_eq, get_or, if◌then◌else◌}
use Rattle.std.proofs.lemmas.Grind.{common_steps}
use Rattle.sap_meaning.specs.Prelude.{own, start, next, Tagged}
use Rattle.sap_machine.specs.declared.user.User.{User}
use Rattle.sap_machine.specs.Table.{UserState, Operation, operations, nop, operation, operand, does_row, following, step}
use Rattle.sap_machine.specs.Table as T
use Rattle.sap_machine.proofs.Users.{of_user, words_of, cells_of}
use Rattle.sap_machine.proofs.View.{Numbers}
use Rattle.sap_machine.proofs.Cycles.{fed, settled}
use Rattle.sap_machine.proofs.Steps.{byte, place, st, jmp, rows, picked_rows, rows_picked, fetch, advance, counted, one_less, whole_byte, whole_place, whole_op}
use Rattle.sap_machine.proofs.Instruction.{instruction}

pub record Fits (s : UserState) : Type 0 where
  pub pc : s.pc < 16
  pub word : (k : ℕ) → k < 16 → s.word k < 4096

-- the word at the user's program counter is fetched
pub record Fetched (u : User) (s : UserState) (v : Numbers) : Type 0 where
  pub pc : v (own 2) ≡ following s.pc
  pub ir : v (own 4) ≡ s.word s.pc
  pub acc : v (own 3) ≡ s.acc
  pub cell : (k : ℕ) → k < 16 → v (start (cells_of u) k) ≡ s.cell k
  pub next_cell : (k : ℕ) → k < 16 → v (next (cells_of u) k) ≡ s.cell k
  pub word : (k : ℕ) → k < 16 → v (start (words_of u) k) ≡ s.word k
  pub next_word : (k : ℕ) → k < 16 → v (next (words_of u) k) ≡ s.word k

-- its rows have been done, and the next word is still to be fetched
pub record Done (u : User) (s : UserState) (v : Numbers) : Type 0 where
  pub pc : v (own 2) ≡ s.pc
  pub acc : v (own 3) ≡ s.acc
  pub next_cell : (k : ℕ) → k < 16 → v (next (cells_of u) k) ≡ s.cell k
  pub word : (k : ℕ) → k < 16 → v (start (words_of u) k) ≡ s.word k
  pub next_word : (k : ℕ) → k < 16 → v (next (words_of u) k) ≡ s.word k

pub fetched : (u : User) (s : UserState) (v : Numbers) → s.pc < 16 → Done u s v → Fetched u s (settled (advance (fetch (words_of u) v)))
fetched u s v below d = record {
  pc = ap following d.pc;
  ir = ap (λ k. v (start (words_of u) k)) d.pc ∙ d.word s.pc below;
  acc = d.acc;
  cell = d.next_cell;
  next_cell = d.next_cell;
  word = d.next_word;
  next_word = d.next_word;
}

-- the same memory of words after any instruction
words_stay : (o : Operation) (n k : ℕ) (s : UserState) → (does_row o n k s).word ≡ s.word
words_stay T.nop n k s = refl
words_stay T.jz n k s = by (eqb s.acc 0)
  where
    by : (b : Bool) → (let w : UserState = if b then T.jump k s else T.goes_on s in w.word) ≡ s.word
    by true = refl
    by false = refl
words_stay _ n k s = refl

-- past the last row
past : (x k : ℕ) → k < 9 → eqb (suc (suc (suc (suc (suc (suc (suc (suc (suc x))))))))) k ≡ false
past x k below = grind (arith, common_steps)

-- what a store writes, and what it leaves
stored_cell : (u : User) (w : Numbers) (j : ℕ) → st (cells_of u) w (next (cells_of u) j) ≡ (if nat_eq j (place w) then w (own 3) else w (next (cells_of u) j))
stored_cell u w j = of_user (λ u. st (cells_of u) w (next (cells_of u) j) ≡ (if nat_eq j (place w) then w (own 3) else w (next (cells_of u) j))) refl refl u

stored_word : (u : User) (w : Numbers) (j : ℕ) → st (cells_of u) w (next (words_of u) j) ≡ w (next (words_of u) j)
stored_word u w j = of_user (λ u. st (cells_of u) w (next (words_of u) j) ≡ w (next (words_of u) j)) refl refl u

-- what has been done by each operation o, with the number n and the place k
abbrev Does : User → (o : ℕ) → (n k : ℕ) → UserState → Numbers → Type 0
Does u o n k s w = byte w ≡ n → place w ≡ k → k < 16 → s.pc < 16 → Fetched u s w → Done u (does_row (get_or operations o nop) n k s) (picked_rows (cells_of u) o w)

with_jz : (u : User) (b : Bool) (k : ℕ) (s : UserState) (w : Numbers) → place w ≡ k → Fetched u s w → Done u (if b then T.jump k s else T.goes_on s) (if b then jmp w else w)
with_jz u true k s w at f = record { pc = at; acc = f.acc; next_cell = f.next_cell; word = f.word; next_word = f.next_word }
with_jz u false k s w at f = record { pc = f.pc; acc = f.acc; next_cell = f.next_cell; word = f.word; next_word = f.next_word }

past_rows : (m x : ℕ) (w : Numbers) → picked_rows m (suc (suc (suc (suc (suc (suc (suc (suc (suc x))))))))) w ≡ w
past_rows m x w = rw (
  past x 1 (omega arith),
  past x 2 (omega arith),
  past x 3 (omega arith),
  past x 4 (omega arith),
  past x 5 (omega arith),
  past x 6 (omega arith),
  past x 7 (omega arith),
  past x 8 (omega arith),
) refl

does : (u : User) (o n k : ℕ) (s : UserState) (w : Numbers) → Does u o n k s w
does u zero n k s w number at below pc f = record { pc = f.pc; acc = f.acc; next_cell = f.next_cell; word = f.word; next_word = f.next_word }
does u (suc zero) n k s w number at below pc f = record { pc = f.pc; acc = number; next_cell = f.next_cell; word = f.word; next_word = f.next_word }
does u (suc (suc zero)) n k s w number at below pc f =
    record { pc = f.pc; acc = ap (λ j. w (start (cells_of u) j)) at ∙ f.cell k below; next_cell = f.next_cell; word = f.word; next_word = f.next_word }
does u (suc (suc (suc zero))) n k s w number at below pc f = record {
  pc = f.pc;
  acc = f.acc;
  next_cell = λ j inside. stored_cell u w j ∙ rw (at, f.acc, f.next_cell j inside) refl;
  word = f.word;
  next_word = λ j inside. stored_word u w j ∙ f.next_word j inside;
}
does u (suc (suc (suc (suc zero)))) n k s w number at below pc f = record {
  pc = f.pc;
  acc = let c : w (start (cells_of u) (place w)) ≡ s.cell k =
      ap (λ j. w (start (cells_of u) j)) at ∙ f.cell k below in rw (f.acc, c) refl;
  next_cell = f.next_cell;
  word = f.word;
  next_word = f.next_word;
}
does u (suc (suc (suc (suc (suc zero))))) n k s w number at below pc f = record {
  pc = f.pc;
  acc = let c : w (start (cells_of u) (place w)) ≡ s.cell k =
      ap (λ j. w (start (cells_of u) j)) at ∙ f.cell k below in rw (f.acc, c) refl;
  next_cell = f.next_cell;
  word = f.word;
  next_word = f.next_word;
}
does u (suc (suc (suc (suc (suc (suc zero)))))) n k s w number at below pc f = record { pc = at; acc = f.acc; next_cell = f.next_cell; word = f.word; next_word = f.next_word }
does u (suc (suc (suc (suc (suc (suc (suc zero))))))) n k s w number at below pc f =
    subst (λ b. Done u (if eqb s.acc 0 then T.jump k s else T.goes_on s) (if b then jmp w else w)) (sym (ap (λ a. eqb a 0) f.acc)) (with_jz u (eqb s.acc 0) k s w at f)
does u (suc (suc (suc (suc (suc (suc (suc (suc zero)))))))) n k s w number at below pc f =
    record { pc = ap (λ p. (16 + p - 1) % 16) f.pc ∙ one_less s.pc pc; acc = f.acc; next_cell = f.next_cell; word = f.word; next_word = f.next_word }
does u (suc (suc (suc (suc (suc (suc (suc (suc (suc x))))))))) n k s w number at below pc f =
    subst (λ z. Done u (does_row T.nop n k s) z) (sym (past_rows (cells_of u) x w))
    (record { pc = f.pc; acc = f.acc; next_cell = f.next_cell; word = f.word; next_word = f.next_word })

-- an instruction keeps the program counter below 16, and the words
row_below : (o : Operation) (n k : ℕ) (s : UserState) → k < 16 → s.pc < 16 → (does_row o n k s).pc < 16
row_below T.nop n k s below pc = omega arith
row_below T.jmp n k s below pc = below
row_below T.jz n k s below pc = by (eqb s.acc 0)
  where
    by : (b : Bool) → (let w : UserState = if b then T.jump k s else T.goes_on s in w.pc) < 16
    by true = below
    by false = omega arith
row_below T.halt n k s below pc = pc
row_below _ n k s below pc = omega arith

pub step_below : (s : UserState) → Fits s → (step s).pc < 16
unfolding step
step_below s fits = row_below (operation (s.word s.pc)) (operand (s.word s.pc)) (T.place (s.word s.pc)) s (omega arith) fits.pc

pub step_fits : (s : UserState) → Fits s → Fits (step s)
unfolding step
step_fits s fits = record {
  pc = row_below (operation (s.word s.pc)) (operand (s.word s.pc)) (T.place (s.word s.pc)) s (omega arith) fits.pc;
  word = λ k below. subst (λ (words : ℕ → ℕ). words k < 4096) (sym (words_stay (operation (s.word s.pc)) (operand (s.word s.pc)) (T.place (s.word s.pc)) s)) (fits.word k below);
}

-- one instruction
pub instructed : (u : User) (t t' : Tagged) (s : UserState) (v : Numbers) → Fits s → Fetched u s v → Fetched u (step s) (instruction u t t' v)
unfolding step
instructed u t t' s v fits f =
    let w = counted (fed t t' v) in
    let before : Fetched u s w = record { pc = f.pc; ir = f.ir; acc = f.acc; cell = f.cell; next_cell = f.next_cell; word = f.word; next_word = f.next_word } in
    let word = s.word s.pc in
    let small = fits.word s.pc fits.pc in
    let picks : rows (cells_of u) w ≡ picked_rows (cells_of u) (word / 256) w = rows_picked (cells_of u) (word / 256) w (ap (λ i. i / 256 % 16) f.ir ∙ whole_op word small) in
    let done : Done u (step s) (rows (cells_of u) w) = subst (λ z. Done u (step s) z) (sym picks) (does u (word / 256) (operand word) (T.place word) s w
    (ap (λ i. i / 1 % 256) f.ir ∙ whole_byte word) (ap (λ i. i / 1 % 16) f.ir ∙ whole_place word) (omega arith) fits.pc before) in
    fetched u (step s) (rows (cells_of u) w) (step_below s fits) done
