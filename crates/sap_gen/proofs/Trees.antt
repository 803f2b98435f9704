-- The generated design is a tree of the grammar within the limits.
use Rattle.sap_lemmas.proofs.Common.{◌≡◌, ℕ, zero, suc, ◌+◌, ◌*◌, ◌%◌, ◌<◌, ◌≤◌, max, [], ◌∷◌, ◌++◌, Bool, true, false, ◌&&◌, map, refl, ap, ◌∙◌, arith, if◌then◌else◌, ◌==◌, codes, nat_le, count_by, list_all, range_with_len, and_from, le-leb, sum_by-cons}
use Rattle.sap_tree.specs.Prelude.{nowhere, brackets, fits, tokens, most_blocks, precedence_of, CommandList, are_commands, are_states, has_state, is_command, is_declaration, is_expression, is_input, is_kind, is_memory, is_register, is_simple, is_state, is_whole, list_count, list_depth, states_commands, states_count, states_depth, command_count, command_depth, block_count, block_depth, is_block, state_count, state_depth, state_commands, is_name, commands, enforced, states}
use Rattle.sap_tree.specs.declared.syntax.Decl.{Decl}
use Rattle.sap_tree.specs.declared.syntax.Kind.TheVariants.{Dynamic}
use Rattle.sap_tree.specs.declared.version.Version.TheVariants.{One}
use Rattle.sap_gen.specs.Design.{assignment, declared_input, declared_register, design_of_counts, input_name, register_name, state, sum, transfer}
use Rattle.sap_gen.proofs.Words.{register_is_name, state_is_name}

-- declarations

kind_is : (b : Bool) → is_kind One (if b then Dynamic nowhere else enforced (codes "a")) ≡ true
unfolding is_name
kind_is true = refl
kind_is false = refl

register_is : (i : ℕ) → i < 64 → is_declaration One (declared_register i) ≡ true
register_is i h = rw (register_is_name i h, kind_is (i % 2 == 0)) refl

input_is : is_declaration One declared_input ≡ true
unfolding is_name
input_is = refl

registers_are : (a k : ℕ) → a + k ≤ 64 → list_all (is_declaration One) (map declared_register (range_with_len a k)) ≡ true
registers_are a zero b = refl
registers_are a (suc k) b = and_from (is_declaration One (declared_register a))
    (list_all (is_declaration One) (map declared_register (range_with_len (a + 1) k))) (register_is a (omega arith)) (registers_are (a + 1) k (omega arith))

no_inputs : (a k : ℕ) → count_by is_input (map declared_register (range_with_len a k)) ≡ 0
no_inputs a zero = refl
no_inputs a (suc k) = sum_by-cons (λ (d : Decl). if is_input d then 1 else 0) (declared_register a)
    (map declared_register (range_with_len (a + 1) k)) ∙ ap (λ (n : ℕ). 0 + n) (no_inputs (a + 1) k)

no_memories : (a k : ℕ) → count_by is_memory (map declared_register (range_with_len a k)) ≡ 0
no_memories a zero = refl
no_memories a (suc k) = sum_by-cons (λ (d : Decl). if is_memory d then 1 else 0) (declared_register a)
    (map declared_register (range_with_len (a + 1) k)) ∙ ap (λ (n : ℕ). 0 + n) (no_memories (a + 1) k)

so_many_registers : (a k : ℕ) → count_by is_register (map declared_register (range_with_len a k)) ≡ k
so_many_registers a zero = refl
so_many_registers a (suc k) = sum_by-cons (λ (d : Decl). if is_register d then 1 else 0) (declared_register a)
    (map declared_register (range_with_len (a + 1) k)) ∙ ap (λ (n : ℕ). 1 + n) (so_many_registers (a + 1) k) ∙ (let e : 1 + k ≡ suc k = omega arith in e)

-- commands

input_is_name : is_name One input_name ≡ true
unfolding is_name
input_is_name = refl

sum_is : (k : ℕ) → k < 64 → is_expression One (sum k) ≡ true
unfolding is_expression
sum_is k h = rw (register_is_name k h, input_is_name) refl

sum_fits : (k : ℕ) → fits (sum k) ≡ true
unfolding tokens brackets precedence_of
sum_fits k = refl

assignment_is : (r j i : ℕ) → i < 64 → 0 < r → r ≤ 64 → is_command One (assignment r j i) ≡ true
unfolding is_command is_simple
assignment_is r j i h some few =
    and_from (is_name One (register_name i)) (is_expression One (sum ((i + j) % r)) && fits (sum ((i + j) % r))) (register_is_name i h)
    (and_from (is_expression One (sum ((i + j) % r))) (fits (sum ((i + j) % r))) (sum_is ((i + j) % r) (omega arith)) (sum_fits ((i + j) % r)))

transfer_is : (t j : ℕ) → 0 < t → t ≤ 64 → is_command One (transfer t j) ≡ true
unfolding is_command is_simple
transfer_is t j more short = state_is_name ((j + 1) % t) (omega arith)

abbrev rest_of_body : (r t j a k : ℕ) → CommandList
rest_of_body r t j a k = commands (map (assignment r j) (range_with_len a k) ++ transfer t j ∷ [])

commands_are : (r t j a k : ℕ) → a + k ≤ 64 → 0 < r → r ≤ 64 → 0 < t → t ≤ 64 → are_commands One (rest_of_body r t j a k) ≡ true
unfolding are_commands
commands_are r t j a zero b some few more short = and_from (is_command One (transfer t j)) true (transfer_is t j more short) refl
commands_are r t j a (suc k) b some few more short =
    and_from (is_command One (assignment r j a)) (are_commands One (rest_of_body r t j (a + 1) k)) (assignment_is r j a (omega arith) some few)
    (commands_are r t j (a + 1) k (omega arith) some few more short)

so_many_commands : (r t j a k : ℕ) → list_count (rest_of_body r t j a k) ≡ k + 1
unfolding command_count list_count
so_many_commands r t j a zero = refl
so_many_commands r t j a (suc k) = ap (λ (n : ℕ). 1 + n) (so_many_commands r t j (a + 1) k) ∙ (let e : 1 + (k + 1) ≡ suc k + 1 = omega arith in e)

no_blocks : (r t j a k : ℕ) → list_depth (rest_of_body r t j a k) ≡ 1
unfolding command_depth list_depth
no_blocks r t j a zero = refl
no_blocks r t j a (suc k) = ap (λ (n : ℕ). max 1 n) (no_blocks r t j (a + 1) k)

-- states

low_is : is_kind One (enforced (codes "low")) ≡ true
unfolding is_name
low_is = refl

flat : (depth : ℕ) → depth ≡ 1 → nat_le depth most_blocks ≡ true
flat depth e = rw e refl

state_is : (r t j : ℕ) → j < 64 → 0 < r → r ≤ 64 → 0 < t → t ≤ 64 → is_state One (state r t j) ≡ true
unfolding is_state is_block block_depth list_depth are_states
state_is r t j h some few more short =
    and_from _ true
    (and_from _ _ (and_from _ _ (and_from _ _ (state_is_name j h) low_is) (commands_are r t j 0 r (omega arith) some few more short))
    (flat (list_depth (rest_of_body r t j 0 r)) (no_blocks r t j 0 r)))
    refl

states_are : (r t a k : ℕ) → a + k ≤ 64 → 0 < r → r ≤ 64 → 0 < t → t ≤ 64 → are_states One (states (map (state r t) (range_with_len a k))) ≡ true
unfolding are_states
states_are r t a zero b some few more short = refl
states_are r t a (suc k) b some few more short =
    and_from (is_state One (state r t a)) (are_states One (states (map (state r t) (range_with_len (a + 1) k)))) (state_is r t a (omega arith) some few more short)
    (states_are r t (a + 1) k (omega arith) some few more short)

so_many_states : (r t a k : ℕ) → states_count (states (map (state r t) (range_with_len a k))) ≡ k
unfolding states_count state_count
so_many_states r t a zero = refl
so_many_states r t a (suc k) = ap (λ (n : ℕ). 1 + n) (so_many_states r t (a + 1) k) ∙ (let e : 1 + k ≡ suc k = omega arith in e)

one_level : (r t a k : ℕ) → states_depth (states (map (state r t) (range_with_len a k))) ≤ 1
unfolding states_depth state_depth
one_level r t a zero = omega arith
one_level r t a (suc k) = let h = one_level r t (a + 1) k in omega arith

few_commands : (r t a k : ℕ) → r ≤ 61 → states_commands (states (map (state r t) (range_with_len a k))) ≤ 62 * k
unfolding states_commands state_commands block_count list_count
few_commands r t a zero few = omega arith
few_commands r t a (suc k) few = let h = few_commands r t (a + 1) k few in let e = so_many_commands r t a 0 r in omega arith

some_state : (r t k : ℕ) → 0 < k → has_state (states (map (state r t) (range_with_len 0 k))) ≡ true
some_state r t zero h = absurd (omega arith)
some_state r t (suc k) h = refl

one_input : (r : ℕ) → count_by is_input (declared_input ∷ map declared_register (range_with_len 0 r)) ≡ 1
one_input r = sum_by-cons (λ (d : Decl). if is_input d then 1 else 0) declared_input (map declared_register (range_with_len 0 r)) ∙ ap (λ (n : ℕ). 1 + n) (no_inputs 0 r)

all_registers : (r : ℕ) → count_by is_register (declared_input ∷ map declared_register (range_with_len 0 r)) ≡ r
all_registers r = sum_by-cons (λ (d : Decl). if is_register d then 1 else 0) declared_input (map declared_register (range_with_len 0 r))
    ∙ ap (λ (n : ℕ). 0 + n) (so_many_registers 0 r) ∙ (let e : 0 + r ≡ r = omega arith in e)

not_one_memory : (r : ℕ) → count_by is_memory (declared_input ∷ map declared_register (range_with_len 0 r)) ≡ 0
not_one_memory r = sum_by-cons (λ (d : Decl). if is_memory d then 1 else 0) declared_input (map declared_register (range_with_len 0 r)) ∙ ap (λ (n : ℕ). 0 + n) (no_memories 0 r)

pub tree_is_whole : (r t : ℕ) → 0 < r → r ≤ 61 → 0 < t → t ≤ 31 → is_whole (design_of_counts r t) ≡ true
unfolding is_whole
tree_is_whole r t some few more short =
    let ss = states (map (state r t) (range_with_len 0 t)) in
    let ds = declared_input ∷ map declared_register (range_with_len 0 r) in
    let tree : (list_all (is_declaration One) ds && has_state ss && are_states One ss) ≡ true =
    and_from (list_all (is_declaration One) ds && has_state ss) (are_states One ss)
    (and_from (list_all (is_declaration One) ds) (has_state ss) (and_from (is_declaration One declared_input) _ input_is (registers_are 0 r (omega arith))) (some_state r t t more))
    (states_are r t 0 t (omega arith) some (omega arith) more (omega arith)) in
    let a : nat_le (count_by is_input ds) 64 ≡ true = rw (one_input r) refl in
    let b : nat_le (count_by is_register ds) 256 ≡ true = rw (all_registers r) (le-leb r 256 (omega arith)) in
    let c : nat_le (count_by is_memory ds) 16 ≡ true = rw (not_one_memory r) refl in
    let d : nat_le (states_count ss) 256 ≡ true = rw (so_many_states r t 0 t) (le-leb t 256 (omega arith)) in
    let e : nat_le (states_depth ss) 16 ≡ true = le-leb (states_depth ss) 16 (let h = one_level r t 0 t in omega arith) in
    let f : nat_le (states_commands ss) 4096 ≡ true = le-leb (states_commands ss) 4096 (let h = few_commands r t 0 t few in omega arith) in
    and_from _ _ tree (and_from _ _ (and_from _ _ (and_from _ _ (and_from _ _ (and_from _ _ a b) c) d) e) f)
