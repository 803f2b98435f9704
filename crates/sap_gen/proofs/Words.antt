-- The names of the generated design are names of the language, and differ.
use Rattle.sap_lemmas.proofs.Common.{◌≡◌, ◌≢◌, ℕ, ◌<◌, ◌^◌, true, false, refl, arith, inl, inr, decimal, bytes_eq, cases_Bool, decimal_injective, equal_of_bytes_eq}
use Rattle.std.specs.Fmt.{digits}
use Rattle.sap_lattice.specs.Levels.{every}
use Rattle.sap_lattice.proofs.Numbers.{every_at}
use Rattle.sap_tree.specs.Words.{is_name}
use Rattle.sap_tree.specs.declared.version.Version.TheVariants.{One}
use Rattle.sap_gen.specs.Design.{register_name, state_name}

-- the numbers in names are below 64
large : (i : ℕ) → i < 64 → i < 2 ^ 64
large i h = omega arith

pub registers_differ : (i j : ℕ) → i < 64 → j < 64 → i ≢ j → bytes_eq (register_name i) (register_name j) ≡ false
registers_differ i j a b ne =
    elim (cases_Bool (bytes_eq (register_name i) (register_name j))) [
      | inl t ↦ absurd (let e : register_name i ≡ register_name j = equal_of_bytes_eq (register_name i) (register_name j) t in
          let d : decimal i ≡ decimal j = cc in ne (decimal_injective i j (large i a) (large j b) d))
      | inr f ↦ f
    ]

pub states_differ : (i j : ℕ) → i < 64 → j < 64 → i ≢ j → bytes_eq (state_name i) (state_name j) ≡ false
states_differ i j a b ne =
    elim (cases_Bool (bytes_eq (state_name i) (state_name j))) [
      | inl t ↦ absurd (let e : state_name i ≡ state_name j = equal_of_bytes_eq (state_name i) (state_name j) t in
          let d : decimal i ≡ decimal j = cc in ne (decimal_injective i j (large i a) (large j b) d))
      | inr f ↦ f
    ]

all_registers : every 64 (λ i. is_name One (register_name i)) ≡ true
unfolding is_name digits
all_registers = refl

all_states : every 64 (λ j. is_name One (state_name j)) ≡ true
unfolding is_name digits
all_states = refl

pub register_is_name : (i : ℕ) → i < 64 → is_name One (register_name i) ≡ true
register_is_name i h = every_at (λ i. is_name One (register_name i)) 64 all_registers i h

pub state_is_name : (j : ℕ) → j < 64 → is_name One (state_name j) ≡ true
state_is_name j h = every_at (λ j. is_name One (state_name j)) 64 all_states j h
