-- The states of the ground design agree where finitely many facts hold.
use Rattle.sap_lemmas.proofs.Common.{◌≡◌, ℕ, zero, suc, true, false, ◌⊎◌, sym, ◌∙◌, arith, nat_eq, common_steps}
use Rattle.sap_meaning.specs.Prelude.{start_part, next_part, is_dynamic, is_register, is_memory, authority, Store, Slot, own, start, next, start_whole, next_whole, owner, held, level, Low, High, SlotsAlike, PartsAlike, active_path, StatesAgree, four_levels}
use Rattle.sap_worked.specs.Rows.{right}
use Rattle.sap_worked.specs.Ground.{register_x, register_y, register_z, memory_m, memory_k, memory_h, state_p, state_d, state_e, state_q, ground, ground_world}
use Rattle.sap_worked.proofs.Tested.{look_alike, paths_alike}

-- what holds of the first numbers, one by one, and past them
abbrev pub First : (f : ℕ → Type 0) → (count : ℕ) → Type 0
First f zero = (x : ℕ) → f x
First f (suc n) = f 0 × First (λ x. f (suc x)) n

pub each_of : (f : ℕ → Type 0) (count : ℕ) → First f count → (x : ℕ) → f x
each_of f zero h x = h x
each_of f (suc n) h zero = h.0
each_of f (suc n) h (suc x) = each_of (λ x. f (suc x)) n h.1 x

-- what holds of each entity of the ground design, and past the last
pub entities : (f : ℕ → Type 0) → First f 16 → (x : ℕ) → f x
entities f h x = each_of f 16 h x

-- anything follows where a test that fails is said to pass, or one that passes to fail
alike : {A B : Type 0} → false ≡ true → A ⊎ B
alike e = cc

both : {A B : Type 0} → false ≡ true → A × B
both e = cc

same : (m n : ℕ) → false ≡ true → m ≡ n
same m n e = cc

same_too : (m n : ℕ) → true ≡ false → m ≡ n
same_too m n e = cc

never : (f : ℕ → Type 0) (x : ℕ) → false ≡ true → f x
never f x e = cc

-- what holds of both enforced memories holds of each memory that is not dynamic
enforced : (f : ℕ → Type 0) → f memory_k → f memory_h → (m : ℕ) → is_memory ground_world m ≡ true → is_dynamic ground_world m ≡ false → f m
enforced f k h = entities (λ m. is_memory ground_world m ≡ true → is_dynamic ground_world m ≡ false → f m) (search (k, h, never f, dynamic)) where
  dynamic : true ≡ false → f memory_m
  dynamic e = cc

pub cells : (f : ℕ → Type 0) → f 0 → ((i : ℕ) → f (suc i)) → (i : ℕ) → f i
cells f first others zero = first
cells f first others (suc i) = others i

pub later : (i : ℕ) → nat_eq (suc i) 0 ≡ false
later i = grind (arith, common_steps)

-- the cells of the enforced memories
pub record CellsAlike (l : ℕ) (s t : Store) : Type 0 where
  pub k : (i : ℕ) → SlotsAlike ground_world l (start memory_k i) s t × SlotsAlike ground_world l (next memory_k i) s t
  pub h : (i : ℕ) → SlotsAlike ground_world l (start memory_h i) s t × SlotsAlike ground_world l (next memory_h i) s t

-- Of the enforced entities z, h and J have the authority right, the others low.
pub record Facts (l : ℕ) (s t : Store) : Type 0 where
  pub right_above : High four_levels l right
  pub x : SlotsAlike ground_world l (own register_x) s t
  pub y : SlotsAlike ground_world l (own register_y) s t
  pub z : SlotsAlike ground_world l (own register_z) s t
  pub m : PartsAlike ground_world l (start_part memory_m) s t × PartsAlike ground_world l (next_part memory_m) s t
  pub level_y : level ground_world (own register_y) s ≡ level ground_world (own register_y) t
  pub level_k : (i : ℕ) → level ground_world (start memory_k i) s ≡ level ground_world (start memory_k i) t
  pub next_level_k : (i : ℕ) → level ground_world (next memory_k i) s ≡ level ground_world (next memory_k i) t
  pub level_p : level ground_world (own state_p) s ≡ level ground_world (own state_p) t
  pub level_d : level ground_world (own state_d) s ≡ level ground_world (own state_d) t
  pub level_e : level ground_world (own state_e) s ≡ level ground_world (own state_e) t
  pub level_q : level ground_world (own state_q) s ≡ level ground_world (own state_q) t
  pub paths : look_alike ground_world l (active_path ground s) (active_path ground t) ≡ true

abbrev LevelKept : (l : ℕ) (s t : Store) → Slot → Type 0
LevelKept l s t a = held ground_world a ≡ true → is_dynamic ground_world (owner a) ≡ false → Low four_levels l (authority ground_world (owner a))
    → level ground_world a s ≡ level ground_world a t

levels : (l : ℕ) (s t : Store) → Facts l s t → (a : Slot) → LevelKept l s t a
levels l s t facts (own x) = entities (λ x. LevelKept l s t (own x)) (search (facts, same, same_too, above)) x where
  above : (m n : ℕ) → Low four_levels l right → m ≡ n
  above m n low = same m n (sym facts.right_above ∙ low)
levels l s t facts (start m i) = enforced (λ m. Low four_levels l (authority ground_world m) → level ground_world (start m i) s ≡ level ground_world (start m i) t)
    (λ u. facts.level_k i) (λ u. let above = facts.right_above in cc) m
levels l s t facts (next m i) = enforced (λ m. Low four_levels l (authority ground_world m) → level ground_world (next m i) s ≡ level ground_world (next m i) t)
    (λ u. facts.next_level_k i) (λ u. let above = facts.right_above in cc) m
levels l s t facts (start_whole m) = λ e d u. cc
levels l s t facts (next_whole m) = λ e d u. cc

pub agreed : (l : ℕ) (s t : Store) → CellsAlike l s t → Facts l s t → StatesAgree ground l s t
agreed l s t cells facts = record {
  registers = entities (λ x. is_register ground_world x ≡ true → SlotsAlike ground_world l (own x) s t) (search (facts, alike));
  enforced_memories = λ m i. enforced (λ m. SlotsAlike ground_world l (start m i) s t × SlotsAlike ground_world l (next m i) s t) (cells.k i) (cells.h i) m;
  dynamic_memories = entities (λ m. is_memory ground_world m ≡ true → is_dynamic ground_world m ≡ true
      → PartsAlike ground_world l (start_part m) s t × PartsAlike ground_world l (next_part m) s t) (search (facts, both));
  enforced_levels = levels l s t facts;
  paths = paths_alike ground_world l _ _ facts.paths;
}
