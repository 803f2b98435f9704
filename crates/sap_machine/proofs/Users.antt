-- What belongs to each user, by the numbers of the entities.
use Rattle.std.proofs.Common.{◌≡◌, ℕ, refl}
use Rattle.sap_machine.specs.declared.user.User.{User}
use Rattle.sap_machine.specs.declared.user.User.TheVariants.{A, B}
use Rattle.sap_machine.specs.Slices.{other}

-- what holds of either user holds of both
pub of_user : (P : User → Type 0) → P A → P B → (u : User) → P u
of_user P a b A = a
of_user P a b B = b

-- and so does what holds of one and of the other
pub of_both : (P : User → Type 0) (h : User) → P h → P (other h) → (u : User) → P u
of_both P A one two = of_user P one two
of_both P B one two = of_user P two one

pub other_other : (u : User) → other (other u) ≡ u
other_other = of_user (λ u. other (other u) ≡ u) refl refl

abbrev pub level_of : User → ℕ
level_of A = 1
level_of B = 2

-- the number in `who` in the user's turn
abbrev pub turn_of : User → ℕ
turn_of A = 0
turn_of B = 1

abbrev pub input_of : User → ℕ
input_of A = 0
input_of B = 1

abbrev pub words_of : User → ℕ
words_of A = 12
words_of B = 13

abbrev pub cells_of : User → ℕ
cells_of A = 14
cells_of B = 15

abbrev pub pc_of : User → ℕ
pc_of A = 8
pc_of B = 10

abbrev pub acc_of : User → ℕ
acc_of A = 9
acc_of B = 11

-- the site that writes the user's words
abbrev pub site_of : User → ℕ
site_of A = 1
site_of B = 2
