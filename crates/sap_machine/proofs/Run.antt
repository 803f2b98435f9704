-- The laws of the machine, from one cycle to the whole run.
use Rattle.std.proofs.Common.{◌≡◌, ℕ, zero, suc, Bool, true, false, ◌+◌, ◌*◌, ◌<◌, refl, sym, ap, subst, ◌∙◌, arith, List, [], ◌∷◌, length, get_or, if◌then◌else◌}
use Rattle.std.specs.Prelude.{nat_lt, ◌&&◌}
use Rattle.std.proofs.lemmas.Grind.{common_steps}
use Rattle.sap_meaning.specs.Prelude.{Store, Slot, After, stay, own, start, Tagged, given, cycle, run_from, first, StreamFits, InputsFit}
use Rattle.sap_machine.specs.declared.user.User.{User}
use Rattle.sap_machine.specs.declared.user.User.TheVariants.{A, B}
use Rattle.sap_machine.proofs.Literal.{machine, machine_world}
use Rattle.sap_machine.specs.Table.{UserState}
use Rattle.sap_machine.specs.Slices.{other, holder, after_slices}
use Rattle.sap_machine.specs.Laws.{given_behind, word, after_cycles, Keeps, refused_words, RunsTheTable, RefusesTheWords}
use Rattle.sap_machine.proofs.Users.{of_user, of_both, input_of}
use Rattle.sap_machine.proofs.Boot.{takes}
use Rattle.sap_machine.proofs.Booting.{Comes, begins}
use Rattle.sap_machine.proofs.View.{Numbers}
use Rattle.sap_machine.proofs.Kept.{Kept}
use Rattle.sap_machine.proofs.Whole.{At, boots, first_kernel, starts, runs, leaves, first_store, Small, Next, refused_of, one_cycle, after}

-- the inputs of a cycle that fits
pub record Pair (inputs : List Tagged) : Type 0 where
  pub a : Tagged
  pub b : Tagged
  pub are : inputs ≡ a ∷ b ∷ []
  pub small_a : a.number < 4096
  pub small_b : b.number < 4096

pub pair_of : (inputs : List Tagged) → InputsFit machine_world inputs → Pair inputs
pair_of [] fit = elim fit [ ]
pair_of (t ∷ []) fit = elim fit.2 [ ]
pair_of (t ∷ (u ∷ [])) fit = record { a = t; b = u; are = refl; small_a = fit.0; small_b = fit.2.0 }
pair_of (t ∷ (u ∷ (x ∷ xs))) fit = elim fit.2.2 [ ]

given_small : (u : User) (stream : List (List Tagged)) → StreamFits machine_world stream → (i : ℕ) → (given_behind machine_world stream (input_of u) i).number < 4096
given_small u [] fit i = omega arith
given_small u (inputs ∷ rest) fit zero =
    let p = pair_of inputs fit.0 in
    of_user (λ u. (given machine_world inputs (input_of u)).number < 4096)
    (subst (λ (xs : List Tagged). (given machine_world xs 0).number < 4096) (sym p.are) p.small_a)
    (subst (λ (xs : List Tagged). (given machine_world xs 1).number < 4096) (sym p.are) p.small_b) u
given_small u (inputs ∷ rest) fit (suc i) = given_small u rest fit.1 i

chosen_small : (b : Bool) (n : ℕ) → n < 4096 → (if b then n else 0) < 4096
chosen_small true n small = small
chosen_small false n small = omega arith

-- the words of each user in a stream
abbrev pub words_in : List (List Tagged) → User → ℕ → ℕ
words_in stream u = word machine_world u stream

-- the same by the numbers of users
word_is : (u : User) (stream : List (List Tagged)) (i : ℕ)
    → words_in stream u i ≡ (let t = given_behind machine_world stream (input_of u) i in if nat_lt i 16 && takes u t.level then t.number else 0)
unfolding word
word_is A stream i = refl
word_is B stream i = refl

small_words : (stream : List (List Tagged)) → StreamFits machine_world stream → Small (words_in stream)
small_words stream fit u k below =
    subst (λ n. n < 4096) (sym (word_is u stream k))
    (let t = given_behind machine_world stream (input_of u) k in chosen_small (nat_lt k 16 && takes u t.level) t.number (given_small u stream fit k))

-- a word of the first sixteen cycles
early_word : (u : User) (stream : List (List Tagged)) (c : ℕ) (t : Tagged) → given_behind machine_world stream (input_of u) c ≡ t → c < 16 → Comes (words_in stream) u c t
early_word u stream c t is early = let e : nat_lt c 16 ≡ true = grind (arith, common_steps) in word_is u stream c ∙ rw (e, is) refl

one : (stream : List (List Tagged)) (inputs : List Tagged) (c : ℕ) (s : Store) → Small (words_in stream) → InputsFit machine_world inputs
    → get_or stream c [] ≡ inputs → At (words_in stream) c s → Next (words_in stream) c (refused_words machine_world stream c) (cycle machine inputs s)
one stream inputs c s small fit here at =
    let p = pair_of inputs fit in
    let a_is : given_behind machine_world stream 0 c ≡ p.a = ap (λ (xs : List Tagged). given machine_world xs 0) (here ∙ p.are) in
    let b_is : given_behind machine_world stream 1 c ≡ p.b = ap (λ (xs : List Tagged). given machine_world xs 1) (here ∙ p.are) in
    let told : refused_of c p.a p.b ≡ refused_words machine_world stream c =
    ap (λ t. refused_of c t p.b) (sym a_is) ∙ ap (λ u. refused_of c (given_behind machine_world stream 0 c) u) (sym b_is) in
    let now = one_cycle (words_in stream) c p.a p.b s small (early_word A stream c p.a a_is) (early_word B stream c p.b b_is) at in
    subst (λ (xs : List Tagged). Next (words_in stream) c (refused_words machine_world stream c) (cycle machine xs s)) (sym p.are) (now.0 ∙ told, now.1)

-- the d-th cycle from a store on
abbrev nth_from : Store → (rest : List (List Tagged)) → (d : ℕ) → After
nth_from s rest d = get_or (run_from machine s rest) d (stay (first machine_world))

-- from behind c cycles on
abbrev Walked : (stream rest : List (List Tagged)) (c : ℕ) (s : Store) → Type 0
Walked stream rest c s = (d : ℕ) → d < length rest
    → ((nth_from s rest d).refused ≡ refused_words machine_world stream (c + d)) × At (words_in stream) (c + suc d) (nth_from s rest d).store

walk : (stream rest : List (List Tagged)) (c : ℕ) (s : Store) → Small (words_in stream) → StreamFits machine_world rest
    → ((i : ℕ) → get_or rest i [] ≡ get_or stream (c + i) []) → At (words_in stream) c s → Walked stream rest c s
walk stream [] c s small fit link at d below = let no : ⊥ = omega arith in elim no [ ]
walk stream (inputs ∷ rest) c s small fit link at zero below =
    let now = one stream inputs c s small fit.0 (ap (λ i. get_or stream i []) (let e : c ≡ c + 0 = omega arith in e) ∙ sym (link 0)) at in
    let plus : c + 0 ≡ c = omega arith in
    let after_one : c + 1 ≡ suc c = omega arith in
    (now.0 ∙ ap (λ c. refused_words machine_world stream c) (sym plus), subst (λ n. At (words_in stream) n (cycle machine inputs s).store) (sym after_one) now.1)
walk stream (inputs ∷ rest) c s small fit link at (suc d) below =
    let now = one stream inputs c s small fit.0 (ap (λ i. get_or stream i []) (let e : c ≡ c + 0 = omega arith in e) ∙ sym (link 0)) at in
    let s' : Store = (cycle machine inputs s).store in
    let later = walk stream rest (suc c) s' small fit.1 (λ i. link (suc i)
    ∙ ap (λ i. get_or stream i []) (let e : c + suc i ≡ suc c + i = omega arith in e)) now.1 d (omega arith) in
    let e : suc c + d ≡ c + suc d = omega arith in
    let e' : suc c + suc d ≡ c + suc (suc d) = omega arith in
    (later.0 ∙ ap (λ c. refused_words machine_world stream c) e, subst (λ n. At (words_in stream) n (nth_from s' rest d).store) e' later.1)

begins_at : (stream : List (List Tagged)) → At (words_in stream) 0 (first machine_world)
begins_at stream = boots 0 0 _ (omega arith) first_store (begins (words_in stream))

-- where the run is behind each cycle, and what is refused in the next one
pub reached : (stream : List (List Tagged)) → StreamFits machine_world stream → (c : ℕ) → c < length stream
    → ((after_cycles machine (suc c) stream).refused ≡ refused_words machine_world stream c) × At (words_in stream) (suc c) (after_cycles machine (suc c) stream).store
reached stream fit c below =
    let r = walk stream stream 0 (first machine_world) (small_words stream fit) fit (λ i. ap (λ i. get_or stream i []) (let e : i ≡ 0 + i =
    omega arith in e)) (begins_at stream) c below in
    let e : 0 + c ≡ c = omega arith in
    let e' : 0 + suc c ≡ suc c = omega arith in
    (r.0 ∙ ap (λ c. refused_words machine_world stream c) e, subst (λ n. At (words_in stream) n (after_cycles machine (suc c) stream).store) e' r.1)

pub refuses_the_words : RefusesTheWords machine
refuses_the_words stream fit c below = ap (λ n. (after_cycles machine n stream).refused) (let e : c + 1 ≡ suc c = omega arith in e) ∙ (reached stream fit c below).0

-- what the kernel keeps
keeps_of : (u : User) (state : UserState) (v : Numbers) (s : Store) → ((z : Slot) → s.number z ≡ v z) → Kept u state v → Keeps u state s
keeps_of A state v s same k = record { pc = same (own 8) ∙ k.pc; acc = same (own 9) ∙ k.acc; cell = λ i below. same (start 14 i) ∙ k.memories.cell i below }
keeps_of B state v s same k = record { pc = same (own 10) ∙ k.pc; acc = same (own 11) ∙ k.acc; cell = λ i below. same (start 15 i) ∙ k.memories.cell i below }

at_slice : (words : User → ℕ → ℕ) (n c : ℕ) (s : Store) → c ≡ 17 + 6 * n → At words c s → (u : User) → Keeps u (after words u n) s
at_slice words n c s e (boots x y v early is now) u = let no : ⊥ = omega arith in elim no [ ]
at_slice words n c s e (first_kernel x y v is_c is now) u = let no : ⊥ = omega arith in elim no [ ]
at_slice words n c s e (starts m x y v ec is now) u =
    let here : m ≡ n = omega arith in
    let numbers = λ (z : Slot). ap (λ s. s.number z) is in
    subst (λ n. Keeps u (after words u n) s) here
    (of_both (λ u. Keeps u (after words u m) s) (holder m) (keeps_of (holder m) (after words (holder m) m) v s numbers now.mine)
    (keeps_of (other (holder m)) (after words (other (holder m)) m) v s numbers now.others) u)
at_slice words n c s e (runs m r d x y v full ec is now) u = let no : ⊥ = omega arith in elim no [ ]
at_slice words n c s e (leaves m x y v ec is now) u = let no : ⊥ = omega arith in elim no [ ]

pub runs_the_table : RunsTheTable machine
runs_the_table stream fit n long u =
    let r = reached stream fit (16 + 6 * n) (omega arith) in
    let e : suc (16 + 6 * n) ≡ 17 + 6 * n = omega arith in
    subst (λ (c : ℕ). Keeps u (after_slices u (word machine_world u stream) n) (after_cycles machine c stream).store) e
    (at_slice (words_in stream) n (suc (16 + 6 * n)) _ e r.1 u)
