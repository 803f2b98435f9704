-- What the kernel keeps of a user, and what the other's instructions leave of it.
use Rattle.std.proofs.Common.{◌≡◌, ℕ, Bool, true, false, ◌<◌, ◌∙◌, refl, eqb, if◌then◌else◌}
use Rattle.sap_meaning.specs.Prelude.{Slot, own, start, next, Tagged}
use Rattle.sap_machine.specs.declared.user.User.{User}
use Rattle.sap_machine.specs.declared.user.User.TheVariants.{A, B}
use Rattle.sap_machine.specs.Table.{UserState}
use Rattle.sap_machine.specs.Slices.{other}
use Rattle.sap_machine.proofs.Users.{words_of, cells_of, pc_of, acc_of}
use Rattle.sap_machine.proofs.View.{Numbers}
use Rattle.sap_machine.proofs.Cycles.{fed, settled}
use Rattle.sap_machine.proofs.Steps.{ldi, ld, st, add, sub, jmp, jz, halt, row, rows, row_keeps, counted}
use Rattle.sap_machine.proofs.Instruction.{instruction}

pub record Memories (u : User) (s : UserState) (v : Numbers) : Type 0 where
  pub cell : (k : ℕ) → k < 16 → v (start (cells_of u) k) ≡ s.cell k
  pub next_cell : (k : ℕ) → k < 16 → v (next (cells_of u) k) ≡ s.cell k
  pub word : (k : ℕ) → k < 16 → v (start (words_of u) k) ≡ s.word k
  pub next_word : (k : ℕ) → k < 16 → v (next (words_of u) k) ≡ s.word k

pub record Kept (u : User) (s : UserState) (v : Numbers) : Type 0 where
  pub pc : v (own (pc_of u)) ≡ s.pc
  pub acc : v (own (acc_of u)) ≡ s.acc
  pub memories : Memories u s v

jz_keep : (v : Numbers) (z : Slot) → jmp v z ≡ v z → jz v z ≡ v z
jz_keep v z kept = by (eqb (v (own 3)) 0)
  where
    by : (b : Bool) → (let w : Numbers = if b then jmp v else v in w z) ≡ v z
    by true = kept
    by false = refl

-- what no row writes
pub rows_keep : (m : ℕ) (z : Slot) → ((v : Numbers) → ldi v z ≡ v z) → ((v : Numbers) → ld m v z ≡ v z) → ((v : Numbers) → st m v z ≡ v z) → ((v : Numbers) → add m v z ≡ v z)
    → ((v : Numbers) → sub m v z ≡ v z) → ((v : Numbers) → jmp v z ≡ v z) → ((v : Numbers) → halt v z ≡ v z) → (v : Numbers) → rows m v z ≡ v z
rows_keep m z k1 k2 k3 k4 k5 k6 k8 v =
    let v1 = row 1 ldi v in let v2 = row 2 (ld m) v1 in let v3 = row 3 (st m) v2 in let v4 = row 4 (add m) v3 in
    let v5 = row 5 (sub m) v4 in let v6 = row 6 jmp v5 in let v7 = row 7 jz v6 in
    row_keeps 8 halt v7 z (k8 v7) ∙ row_keeps 7 jz v6 z (jz_keep v6 z (k6 v6)) ∙ row_keeps 6 jmp v5 z (k6 v5) ∙ row_keeps 5 (sub m) v4 z (k5 v4)
    ∙ row_keeps 4 (add m) v3 z (k4 v3) ∙ row_keeps 3 (st m) v2 z (k3 v2) ∙ row_keeps 2 (ld m) v1 z (k2 v1) ∙ row_keeps 1 ldi v z (k1 v)

-- an instruction of a user leaves what is the other's
record Leaves (u : User) : Type 0 where
  pc : (t t' : Tagged) (v : Numbers) → instruction u t t' v (own (pc_of (other u))) ≡ v (own (pc_of (other u)))
  acc : (t t' : Tagged) (v : Numbers) → instruction u t t' v (own (acc_of (other u))) ≡ v (own (acc_of (other u)))
  cell : (i : ℕ) (t t' : Tagged) (v : Numbers) → instruction u t t' v (next (cells_of (other u)) i) ≡ v (next (cells_of (other u)) i)
  word : (i : ℕ) (t t' : Tagged) (v : Numbers) → instruction u t t' v (next (words_of (other u)) i) ≡ v (next (words_of (other u)) i)

leaves_other : (u : User) → Leaves u
leaves_other A = record {
  pc = λ t t' v. rows_keep 14 (own 10) (λ v. refl) (λ v. refl) (λ v. refl) (λ v. refl) (λ v. refl) (λ v. refl) (λ v. refl) (counted (fed t t' v));
  acc = λ t t' v. rows_keep 14 (own 11) (λ v. refl) (λ v. refl) (λ v. refl) (λ v. refl) (λ v. refl) (λ v. refl) (λ v. refl) (counted (fed t t' v));
  cell = λ i t t' v. rows_keep 14 (next 15 i) (λ v. refl) (λ v. refl) (λ v. refl) (λ v. refl) (λ v. refl) (λ v. refl) (λ v. refl) (counted (fed t t' v));
  word = λ i t t' v. rows_keep 14 (next 13 i) (λ v. refl) (λ v. refl) (λ v. refl) (λ v. refl) (λ v. refl) (λ v. refl) (λ v. refl) (counted (fed t t' v));
}
leaves_other B = record {
  pc = λ t t' v. rows_keep 15 (own 8) (λ v. refl) (λ v. refl) (λ v. refl) (λ v. refl) (λ v. refl) (λ v. refl) (λ v. refl) (counted (fed t t' v));
  acc = λ t t' v. rows_keep 15 (own 9) (λ v. refl) (λ v. refl) (λ v. refl) (λ v. refl) (λ v. refl) (λ v. refl) (λ v. refl) (counted (fed t t' v));
  cell = λ i t t' v. rows_keep 15 (next 14 i) (λ v. refl) (λ v. refl) (λ v. refl) (λ v. refl) (λ v. refl) (λ v. refl) (λ v. refl) (counted (fed t t' v));
  word = λ i t t' v. rows_keep 15 (next 12 i) (λ v. refl) (λ v. refl) (λ v. refl) (λ v. refl) (λ v. refl) (λ v. refl) (λ v. refl) (counted (fed t t' v));
}

pub kept_other : (u : User) (t t' : Tagged) (s : UserState) (v : Numbers) → Kept (other u) s v → Kept (other u) s (instruction u t t' v)
kept_other u t t' s v k =
    let l : Leaves u = leaves_other u in
    record {
      pc = l.pc t t' v ∙ k.pc;
      acc = l.acc t t' v ∙ k.acc;
      memories = record {
        cell = λ i below. l.cell i t t' v ∙ k.memories.next_cell i below;
        next_cell = λ i below. l.cell i t t' v ∙ k.memories.next_cell i below;
        word = λ i below. l.word i t t' v ∙ k.memories.next_word i below;
        next_word = λ i below. l.word i t t' v ∙ k.memories.next_word i below;
      };
    }

-- the memories behind a cycle that writes to neither
pub memories_settled : (u : User) (s : UserState) (v w : Numbers) → ((i : ℕ) → w (next (cells_of u) i) ≡ v (next (cells_of u) i))
    → ((i : ℕ) → w (next (words_of u) i) ≡ v (next (words_of u) i))
    → Memories u s v → Memories u s (settled w)
memories_settled u s v w cells words k = record {
  cell = λ i below. cells i ∙ k.next_cell i below;
  next_cell = λ i below. cells i ∙ k.next_cell i below;
  word = λ i below. words i ∙ k.next_word i below;
  next_word = λ i below. words i ∙ k.next_word i below;
}

-- so a cycle that does nothing but take inputs leaves what is kept
pub kept_fed : (u : User) (t t' : Tagged) (s : UserState) (v : Numbers) → Kept u s v → Kept u s (settled (fed t t' v))
kept_fed A t t' s v k = record { pc = k.pc; acc = k.acc; memories = memories_settled A s v (fed t t' v) (λ i. refl) (λ i. refl) k.memories }
kept_fed B t t' s v k = record { pc = k.pc; acc = k.acc; memories = memories_settled B s v (fed t t' v) (λ i. refl) (λ i. refl) k.memories }
