-- Slices of time: they belong to a, to b, to a, and so on, and each is three instructions.
use Rattle.std.specs.Prelude.{ℕ, zero, suc, ◌+◌, ◌*◌, ◌/◌}
use Rattle.sap_machine.specs.declared.user.User.{User}
use Rattle.sap_machine.specs.declared.user.User.TheVariants.{A, B}
use Rattle.sap_machine.specs.Table.{UserState, begun, steps}

-- The instructions that a user has done after n slices.
abbrev pub instructions : User → (n : ℕ) → ℕ
instructions A n = 3 * ((n + 1) / 2)
instructions B n = 3 * (n / 2)

-- A user with these words after n slices.
unfoldable pub after_slices : User → (word : ℕ → ℕ) → (n : ℕ) → UserState
after_slices u word n = steps (instructions u n) (begun word)

-- The other user.
abbrev pub other : User → User
other A = B
other B = A

-- The user of the slice behind n others.
abbrev pub holder : (n : ℕ) → User
holder zero = A
holder (suc n) = other (holder n)

-- What a slice of the holder does to a user.
abbrev pub sliced : (holder u : User) → UserState → UserState
sliced A A s = steps 3 s
sliced A B s = s
sliced B A s = s
sliced B B s = steps 3 s
