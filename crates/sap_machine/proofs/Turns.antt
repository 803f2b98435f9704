-- A user's turn: its start, its instructions, and what the kernel makes of its end.
use Rattle.std.proofs.Common.{◌≡◌, ℕ, suc, ◌+◌, ◌-◌, ◌/◌, ◌%◌, ◌<◌, refl, sym, ap, subst, ◌∙◌, arith}
use Rattle.sap_meaning.specs.Prelude.{own, Tagged}
use Rattle.sap_machine.specs.declared.user.User.{User}
use Rattle.sap_machine.specs.declared.user.User.TheVariants.{A, B}
use Rattle.sap_machine.specs.Table.{UserState, step}
use Rattle.sap_machine.specs.Slices.{other}
use Rattle.sap_machine.proofs.Users.{level_of, turn_of, cells_of}
use Rattle.sap_machine.proofs.View.{Numbers}
use Rattle.sap_machine.proofs.Cycles.{fed, settled}
use Rattle.sap_machine.proofs.Steps.{op, rows, rows_picked, counted, one_less}
use Rattle.sap_machine.proofs.Instruction.{instruction}
use Rattle.sap_machine.proofs.Kernel.{switched}
use Rattle.sap_machine.proofs.Table.{Fits, Fetched, Done, fetched, instructed}
use Rattle.sap_machine.proofs.Kept.{Memories, Kept, rows_keep, kept_other, kept_fed, memories_settled}

-- at the start of a turn of u, with the states of this user and of the other
pub record Started (u : User) (s o : UserState) (v : Numbers) : Type 0 where
  pub who : v (own 6) ≡ turn_of u
  pub cnt : v (own 5) ≡ 4
  pub pc : v (own 2) ≡ s.pc
  pub acc : v (own 3) ≡ s.acc
  pub ir : v (own 4) ≡ 0
  pub mine : Kept u s v
  pub others : Kept (other u) o v

-- while it runs, with c cycles to come
pub record Running (u : User) (c : ℕ) (s o : UserState) (v : Numbers) : Type 0 where
  pub who : v (own 6) ≡ turn_of u
  pub cnt : v (own 5) ≡ c
  pub mine : Fetched u s v
  pub others : Kept (other u) o v

who_stays : (u : User) (t t' : Tagged) (v : Numbers) → instruction u t t' v (own 6) ≡ v (own 6)
who_stays u t t' v = rows_keep (cells_of u) (own 6) (λ v. refl) (λ v. refl) (λ v. refl) (λ v. refl) (λ v. refl) (λ v. refl) (λ v. refl) (counted (fed t t' v))

counts : (u : User) (t t' : Tagged) (v : Numbers) → instruction u t t' v (own 5) ≡ (8 + v (own 5) - 1) % 8
counts u t t' v = rows_keep (cells_of u) (own 5) (λ v. refl) (λ v. refl) (λ v. refl) (λ v. refl) (λ v. refl) (λ v. refl) (λ v. refl) (counted (fed t t' v))

-- where ir is 0, no row does anything
no_row : (m : ℕ) (w : Numbers) → op w ≡ 0 → rows m w ≡ w
no_row m w is = rows_picked m 0 w is

-- the first cycle does nothing but fetch
pub starts : (u : User) (t t' : Tagged) (s o : UserState) (v : Numbers) → s.pc < 16 → Started u s o v → Running u 3 s o (instruction u t t' v)
starts u t t' s o v below now =
    let w = counted (fed t t' v) in
    let is : op w ≡ 0 = ap (λ i. i / 256 % 16) now.ir in
    let before : Done u s w = record {
      pc = now.pc;
      acc = now.acc;
      next_cell = now.mine.memories.next_cell;
      word =
          now.mine.memories.word;
      next_word = now.mine.memories.next_word;
    } in
    record {
      who = who_stays u t t' v ∙ now.who;
      cnt = counts u t t' v ∙ ap (λ c. (8 + c - 1) % 8) now.cnt;
      mine = fetched u s (rows (cells_of u) w) below (subst (λ z. Done u s z) (sym (no_row (cells_of u) w is)) before);
      others = kept_other u t t' o v now.others;
    }

pub goes_on : (u : User) (t t' : Tagged) (c : ℕ) (s o : UserState) (v : Numbers) → c < 7 → Fits s → Running u (suc c) s o v → Running u c (step s) o (instruction u t t' v)
goes_on u t t' c s o v small fits now = record {
  who = who_stays u t t' v ∙ now.who;
  cnt = counts u t t' v ∙ ap (λ c. (8 + c - 1) % 8) now.cnt ∙ (let e : (8 + suc c - 1) % 8 ≡ c = omega arith in e);
  mine = instructed u t t' s v fits now.mine;
  others = kept_other u t t' o v now.others;
}

-- the cycle before the kernel changes nothing
pub waits : (u : User) (t t' : Tagged) (s o : UserState) (v : Numbers) → Running u 0 s o v → Running u 0 s o (settled (fed t t' v))
waits u t t' s o v now = record {
  who = now.who;
  cnt = now.cnt;
  mine = record {
    pc = now.mine.pc;
    ir = now.mine.ir;
    acc = now.mine.acc;
    cell = now.mine.next_cell;
    next_cell = now.mine.next_cell;
    word =
        now.mine.next_word;
    next_word = now.mine.next_word;
  };
  others = kept_fed (other u) t t' o v now.others;
}

memories_of : (u : User) (s : UserState) (v : Numbers) → Fetched u s v → Memories u s v
memories_of u s v f = record { cell = f.cell; next_cell = f.next_cell; word = f.word; next_word = f.next_word }

-- the kernel keeps what the one has, and begins the turn of the other
pub leaves : (u : User) (t t' : Tagged) (s o : UserState) (v : Numbers) → s.pc < 16 → Running u 0 s o v → Started (other u) o s (settled (switched u (level_of u) (fed t t' v)))
leaves A t t' s o v below now = record {
  who = ap (λ w. 1 - w) now.who;
  cnt = refl;
  pc = now.others.pc;
  acc = now.others.acc;
  ir = refl;
  mine = record { pc = now.others.pc; acc = now.others.acc; memories = memories_settled B o v (switched A 1 (fed t t' v)) (λ i. refl) (λ i. refl) now.others.memories };
  others = record {
    pc = ap (λ p. (16 + p - 1) % 16) now.mine.pc ∙ one_less s.pc below;
    acc = now.mine.acc;
    memories = memories_settled A s v (switched A 1 (fed t t' v)) (λ i. refl) (λ i. refl) (memories_of A s v now.mine);
  };
}
leaves B t t' s o v below now = record {
  who = ap (λ w. 1 - w) now.who;
  cnt = refl;
  pc = now.others.pc;
  acc = now.others.acc;
  ir = refl;
  mine = record { pc = now.others.pc; acc = now.others.acc; memories = memories_settled A o v (switched B 2 (fed t t' v)) (λ i. refl) (λ i. refl) now.others.memories };
  others = record {
    pc = ap (λ p. (16 + p - 1) % 16) now.mine.pc ∙ one_less s.pc below;
    acc = now.mine.acc;
    memories = memories_settled B s v (switched B 2 (fed t t' v)) (λ i. refl) (λ i. refl) (memories_of B s v now.mine);
  };
}
