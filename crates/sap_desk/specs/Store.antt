-- What the files and channels of a store tell.
use Rattle.std.specs.Prelude.{◌≡◌, ℕ, List}
use Rattle.sap_desk.specs.Desk.{Told}
use Rattle.sap_desk.specs.declared.store.Store.{Store}
use Rattle.sap_desk.specs.Memory.{told_of, given_of}

-- What a desk with this store tells.
abbrev pub told_in : Store → List ℕ → Told
told_in s blame = told_of s.files.items s.channels.items s.room blame

-- How many bytes each channel's reads gave.
abbrev pub given_in : Store → ℕ → ℕ
given_in s = given_of s.channels.items

-- A store tells what it told.
pub record Unchanged (old new : Store) : Type 0 where
  pub told : (blame : List ℕ) → told_in new blame ≡ told_in old blame
  pub given : given_in new ≡ given_in old
