-- What the boot leaves: the words that count, and 0 elsewhere.
use Rattle.std.proofs.Common.{◌≡◌, ℕ, suc, Bool, true, false, ◌+◌, ◌-◌, ◌%◌, ◌<◌, refl, sym, ap, ◌∙◌, arith, nat_eq, if◌then◌else◌}
use Rattle.std.specs.Prelude.{nat_lt}
use Rattle.std.proofs.lemmas.Grind.{common_steps}
use Rattle.sap_meaning.specs.Prelude.{Slot, own, next, Tagged, first_number}
use Rattle.sap_machine.specs.declared.user.User.{User}
use Rattle.sap_machine.specs.declared.user.User.TheVariants.{A, B}
use Rattle.sap_machine.proofs.Literal.{machine_world}
use Rattle.sap_machine.specs.Table.{begun}
use Rattle.sap_machine.proofs.Users.{of_user, input_of, words_of, cells_of}
use Rattle.sap_machine.proofs.View.{Numbers, put}
use Rattle.sap_machine.proofs.Cycles.{fed, settled}
use Rattle.sap_machine.proofs.Boot.{takes, word_put, both_put, booted}
use Rattle.sap_machine.proofs.Kernel.{switched}
use Rattle.sap_machine.proofs.Turns.{Started}

abbrev pub so_far : (word : ℕ → ℕ) → (i k : ℕ) → ℕ
so_far word i k = if nat_lt k i then word k else 0

-- behind i cycles of the boot, for each user's words
pub record Booting (words : User → ℕ → ℕ) (i : ℕ) (v : Numbers) : Type 0 where
  pub n : v (own 7) ≡ i % 16
  pub who : v (own 6) ≡ 1
  pub pc : v (own 2) ≡ 1
  pub acc : v (own 3) ≡ 0
  pub ir : v (own 4) ≡ 0
  pub apc : v (own 8) ≡ 0
  pub aacc : v (own 9) ≡ 0
  pub cell : (u : User) (k : ℕ) → v (next (cells_of u) k) ≡ 0
  pub word : (u : User) (k : ℕ) → v (next (words_of u) k) ≡ so_far (words u) i k

none_yet : (word : ℕ → ℕ) (k : ℕ) → 0 ≡ so_far word 0 k
none_yet word k = let e : nat_lt k 0 ≡ false = grind (arith, common_steps) in rw e refl

pub begins : (words : User → ℕ → ℕ) → Booting words 0 (first_number machine_world)
begins words = record { n = refl; who = refl; pc = refl; acc = refl; ir = refl; apc = refl; aacc = refl; cell = λ u k. refl; word = λ u k. none_yet (words u) k }

put_keeps : (b : Bool) (u : User) (v : Numbers) (z : Slot) → put (next (words_of u) (v (own 7))) (v (own (input_of u))) v z ≡ v z → word_put b u v z ≡ v z
put_keeps true u v z kept = kept
put_keeps false u v z kept = refl

more : (word : ℕ → ℕ) (k i n : ℕ) → word i ≡ n → (if nat_eq k i then n else so_far word i k) ≡ so_far word (suc i) k
more word k i n is = by (nat_eq k i) refl
  where
    by : (same : Bool) → nat_eq k i ≡ same → (if same then n else so_far word i k) ≡ so_far word (suc i) k
    by true e =
        let here : k ≡ i = grind (arith, common_steps) in
        let inside : nat_lt k (suc i) ≡ true = grind (arith, common_steps) in
        rw inside (sym is ∙ ap word (sym here))
    by false e = let same : nat_lt k (suc i) ≡ nat_lt k i = grind (arith, common_steps) in rw same refl

same : (word : ℕ → ℕ) (k i : ℕ) → word i ≡ 0 → so_far word i k ≡ so_far word (suc i) k
same word k i is = by (nat_eq k i) refl
  where
    by : (same : Bool) → nat_eq k i ≡ same → so_far word i k ≡ so_far word (suc i) k
    by true e =
        let here : k ≡ i = grind (arith, common_steps) in
        let inside : nat_lt k (suc i) ≡ true = grind (arith, common_steps) in
        let outside : nat_lt k i ≡ false = grind (arith, common_steps) in
        rw (inside, outside) (sym is ∙ ap word (sym here))
    by false e = let same : nat_lt k (suc i) ≡ nat_lt k i = grind (arith, common_steps) in rw same refl

put_at : (u : User) (v : Numbers) (i n k : ℕ) → put (next (words_of u) i) n v (next (words_of u) k) ≡ (if nat_eq k i then n else v (next (words_of u) k))
put_at u v i n k = of_user (λ u. put (next (words_of u) i) n v (next (words_of u) k) ≡ (if nat_eq k i then n else v (next (words_of u) k))) refl refl u

-- one more word, taken or not
one_more : (holds : Bool) (u : User) (word : ℕ → ℕ) (v : Numbers) (i n k : ℕ) → v (own 7) ≡ i → v (own (input_of u)) ≡ n
    → v (next (words_of u) k) ≡ so_far word i k → word i ≡ (if holds then n else 0)
    → word_put holds u v (next (words_of u) k) ≡ so_far word (suc i) k
one_more true u word v i n k at is before new = put_at u v (v (own 7)) (v (own (input_of u))) k ∙ rw (at, is, before) (more word k i n new)
one_more false u word v i n k at is before new = before ∙ same word k i new

both_keep : (t t' : Tagged) (v : Numbers) (z : Slot) → ((w : Numbers) → put (next 12 (w (own 7))) (w (own 0)) w z ≡ w z)
    → ((w : Numbers) → put (next 13 (w (own 7))) (w (own 1)) w z ≡ w z)
    → both_put t.level t'.level (fed t t' v) z ≡ fed t t' v z
both_keep t t' v z ka kb =
    let w = fed t t' v in let w1 = word_put (takes A t.level) A w in
    put_keeps (takes B t'.level) B w1 z (kb w1) ∙ put_keeps (takes A t.level) A w z (ka w)

pub booted_n : (words : User → ℕ → ℕ) (t t' : Tagged) (i : ℕ) (v : Numbers) → Booting words i v → booted t.level t'.level (fed t t' v) (own 7) ≡ (i % 16 + 1) % 16
booted_n words t t' i v now = ap (λ n. (n + 1) % 16) (both_keep t t' v (own 7) (λ w. refl) (λ w. refl) ∙ now.n)

-- the word i of the user is the one that comes now, where it is taken
abbrev pub Comes : (words : User → ℕ → ℕ) → User → (i : ℕ) → Tagged → Type 0
Comes words u i t = words u i ≡ (if takes u t.level then t.number else 0)

pub boots_more : (words : User → ℕ → ℕ) (t t' : Tagged) (i : ℕ) (v : Numbers) → i < 16 → Comes words A i t → Comes words B i t'
    → Booting words i v → Booting words (suc i) (settled (booted t.level t'.level (fed t t' v)))
boots_more words t t' i v below new_a new_b now =
    let w = fed t t' v in let w1 = word_put (takes A t.level) A w in
    let here : i % 16 ≡ i = omega arith in
    record {
      n = booted_n words t t' i v now ∙ (let e : (i % 16 + 1) % 16 ≡ suc i % 16 = omega arith in e);
      who = both_keep t t' v (own 6) (λ w. refl) (λ w. refl) ∙ now.who;
      pc = both_keep t t' v (own 2) (λ w. refl) (λ w. refl) ∙ now.pc;
      acc = both_keep t t' v (own 3) (λ w. refl) (λ w. refl) ∙ now.acc;
      ir = both_keep t t' v (own 4) (λ w. refl) (λ w. refl) ∙ now.ir;
      apc = both_keep t t' v (own 8) (λ w. refl) (λ w. refl) ∙ now.apc;
      aacc = both_keep t t' v (own 9) (λ w. refl) (λ w. refl) ∙ now.aacc;
      cell = of_user (λ u. (k : ℕ) → both_put t.level t'.level w (next (cells_of u) k) ≡ 0)
          (λ k. both_keep t t' v (next 14 k) (λ w. refl) (λ w. refl) ∙ now.cell A k) (λ k. both_keep t t' v (next 15 k) (λ w. refl) (λ w. refl) ∙ now.cell B k);
      word = of_user (λ u. (k : ℕ) → both_put t.level t'.level w (next (words_of u) k) ≡ so_far (words u) (suc i) k)
          (λ k. put_keeps (takes B t'.level) B w1 (next 12 k) refl ∙ one_more (takes A t.level) A (words A) w i t.number k (now.n ∙ here) refl (now.word A k) new_a)
          (λ k. one_more (takes B t'.level) B (words B) w1 i t'.number k (put_keeps (takes A t.level) A w (own 7) refl ∙ now.n ∙ here)
          (put_keeps (takes A t.level) A w (own 1) refl) (put_keeps (takes A t.level) A w (next 13 k) refl ∙ now.word B k) new_b);
    }

all_words : (word : ℕ → ℕ) (k : ℕ) → k < 16 → so_far word 16 k ≡ word k
all_words word k below = let e : nat_lt k 16 ≡ true = grind (arith, common_steps) in rw e refl

-- the first cycle of the kernel begins the first turn
pub first_turn : (words : User → ℕ → ℕ) (t t' : Tagged) (v : Numbers) → Booting words 16 v → Started A (begun (words A)) (begun (words B)) (settled (switched B 0 (fed t t' v)))
first_turn words t t' v now =
    let word_of = λ (u : User) (k : ℕ) (below : k < 16). now.word u k ∙ all_words (words u) k below in
    record {
      who = ap (λ w. 1 - w) now.who;
      cnt = refl;
      pc = now.apc;
      acc = now.aacc;
      ir = now.ir;
      mine = record {
        pc = now.apc;
        acc = now.aacc;
        memories =
            record { cell = λ k below. now.cell A k; next_cell = λ k below. now.cell A k; word = word_of A; next_word = word_of A };
      };
      others = record {
        pc = ap (λ p. (16 + p - 1) % 16) now.pc;
        acc = now.acc;
        memories =
            record { cell = λ k below. now.cell B k; next_cell = λ k below. now.cell B k; word = word_of B; next_word = word_of B };
      };
    }
