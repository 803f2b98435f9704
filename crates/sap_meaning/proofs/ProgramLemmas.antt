-- On what stands in Program: what several crates cite.
use Rattle.sap_lemmas.proofs.Common.{Bool, false, if◌then◌else◌, not, refl, sym, true, ◌||◌, ◌≡◌, true_is_not_false}
use Rattle.sap_meaning.specs.Program.{Kind, input, kind_is_input, kind_is_memory, kind_is_register, kind_is_state, memory, register, state}
use Rattle.sap_meaning.specs.Program as program

pub own_kind : (k : Kind) (b : Bool) → (not (kind_is_memory k) || b) ≡ true → kind_is_input k ≡ false → kind_is_register k ≡ false
    → (if kind_is_memory k then b else kind_is_state k) ≡ true
own_kind program.input b h i r = absurd (true_is_not_false i)
own_kind program.register b h i r = absurd (true_is_not_false r)
own_kind (program.memory depth) b h i r = h
own_kind (program.state place last) b h i r = refl

pub state_no_value : (k : Kind) → kind_is_state k ≡ true → (kind_is_input k || kind_is_register k) ≡ false
state_no_value (state p n) h = refl
state_no_value _ h = cc

pub memory_no_input : (k : Kind) → kind_is_memory k ≡ true → kind_is_input k ≡ false
memory_no_input input h = cc
memory_no_input _ h = refl

pub register_no_input : (k : Kind) → kind_is_register k ≡ true → kind_is_input k ≡ false
register_no_input program.input h = absurd (true_is_not_false (sym h))
register_no_input _ h = refl

pub state_no_input : (k : Kind) → kind_is_state k ≡ true → kind_is_input k ≡ false
state_no_input input h = cc
state_no_input _ h = refl

pub register_no_memory : (k : Kind) → kind_is_register k ≡ true → kind_is_memory k ≡ false
register_no_memory register h = refl
register_no_memory _ h = cc

pub state_no_memory : (k : Kind) → kind_is_state k ≡ true → kind_is_memory k ≡ false
state_no_memory (program.state place last) h = refl
state_no_memory _ h = absurd (true_is_not_false (sym h))

pub memory_no_state : (k : Kind) → kind_is_memory k ≡ true → kind_is_state k ≡ false
memory_no_state (memory d) h = refl
memory_no_state _ h = cc

pub register_no_state : (k : Kind) → kind_is_register k ≡ true → kind_is_state k ≡ false
register_no_state register h = refl
register_no_state _ h = cc

pub register_no_memory_test : (k : Kind) → kind_is_register k ≡ true → not (kind_is_memory k) ≡ true
register_no_memory_test (memory d) h = cc
register_no_memory_test _ h = refl

pub state_no_memory_test : (k : Kind) → kind_is_state k ≡ true → not (kind_is_memory k) ≡ true
state_no_memory_test (memory d) h = cc
state_no_memory_test _ h = refl
