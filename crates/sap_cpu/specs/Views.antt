-- What the state of a user and both users are seen as.
use Rattle.std.specs.Prelude.{◌≡◌, ℕ, List, get_or}
use Rattle.sap_machine.specs.declared.user.User.{User}
use Rattle.sap_machine.specs.declared.user.User.TheVariants.{A, B}
use Rattle.sap_machine.specs.Table.{UserState}
use Rattle.sap_machine.specs.Slices.{after_slices, holder}

-- The word at a place; 0 beyond the last.
abbrev pub word_at : (words : List ℕ) → (i : ℕ) → ℕ
word_at words i = get_or words i 0

-- A user's state with lists for its memories.
pub record Seen : Type 0 where
  pub pc : ℕ
  pub acc : ℕ
  pub cells : List ℕ
  pub words : List ℕ

-- Past the last cell and the last word is 0.
abbrev pub user_state : Seen → UserState
user_state s = record { pc = s.pc; acc = s.acc; cell = λ k. get_or s.cells k 0; word = word_at s.words }

-- Both users, and whose the next slice is.
pub record CpuSeen : Type 0 where
  pub a : Seen
  pub b : Seen
  pub holder : User

-- The state of a user.
abbrev pub state_of : CpuSeen → User → UserState
state_of cpu A = user_state cpu.a
state_of cpu B = user_state cpu.b

-- This is the state after n slices of these words.
pub record IsAfter (a b : ℕ → ℕ) (n : ℕ) (cpu : CpuSeen) : Type 0 where
  pub first : state_of cpu A ≡ after_slices A a n
  pub second : state_of cpu B ≡ after_slices B b n
  pub next : cpu.holder ≡ holder n
