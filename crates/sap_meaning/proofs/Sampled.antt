-- The sample program meets the premises.
use Rattle.sap_lemmas.proofs.Common.{◌≡◌, ℕ, zero, suc, ◌<◌, ◌^◌, Bool, true, false, ◌&&◌, ◌||◌, [], refl, arith, nat_eq, nat_lt, nat_le, inl, inr, if◌then◌else◌, cases_Bool, eqb-true, or_cases, common_steps, and_false}
use Rattle.sap_lattice.specs.Order.{Laws}
use Rattle.sap_maps.specs.Term.{constant, read, cell, two}
use Rattle.sap_bits.specs.declared.Op2.TheVariants.{Eq}
use Rattle.sap_meaning.specs.Program.{entity, is_dynamic, is_input, authority, width, is_state, below, listed, assign, write, go_to, fall_to_child, Command, lone, try, if_else, end_block, command_then, state_node, no_node, and_node}
use Rattle.sap_meaning.specs.Checks.{Home}
use Rattle.sap_meaning.specs.Touches.{touches, root_touches}
use Rattle.sap_meaning.specs.Fine.{FineNode, FineProgram, ExactProgram, ExactList, inside}
use Rattle.sap_meaning.specs.Once.{reaches, block_reaches, OnceState}
use Rattle.sap_meaning.specs.Sized.{SizedProgram}
use Rattle.sap_meaning.specs.Examples.{two_levels}
use Rattle.sap_meaning.specs.Sample.{sample_world, on_fall, on_root, body_c, body_d, body_q, body_p, sample_kids, sample_states, sample, SampleIsFine}

level_of : (b : Bool) → (if b then 1 else 0) < 2
level_of true = omega arith
level_of false = omega arith

one_of : (b : Bool) → nat_eq (if b then 1 else 0) 1 ≡ b
one_of true = refl
one_of false = refl

itself : (a : Bool) → (if a then a else true) ≡ true
itself true = refl
itself false = refl

onward : (a b c : Bool) → (if a then b else true) ≡ true → (if b then c else true) ≡ true → (if a then c else true) ≡ true
onward true true c h k = k
onward true false c h k = cc
onward false b c h k = refl

first_in : (a b : Bool) → (if a then (a || b) else true) ≡ true
first_in true b = refl
first_in false b = refl

second_in : (a b : Bool) → (if b then (a || b) else true) ≡ true
second_in true true = refl
second_in true false = refl
second_in false true = refl
second_in false false = refl

joined : (a b c : Bool) → (if a then c else true) ≡ true → (if b then c else true) ≡ true → (if a || b then c else true) ≡ true
joined true b c h k = h
joined false b c h k = k

always : (a : Bool) → (if a then true else true) ≡ true
always true = refl
always false = refl

pub lawful : Laws two_levels
lawful = record {
  least_of_all = λ x. refl;
  self = λ x. itself (nat_eq x 1);
  trans = λ x y z h k. onward (nat_eq x 1) (nat_eq y 1) (nat_eq z 1) h k;
  left = λ x y. rw (one_of (nat_eq x 1 || nat_eq y 1)) (first_in (nat_eq x 1) (nat_eq y 1));
  right = λ x y. rw (one_of (nat_eq x 1 || nat_eq y 1)) (second_in (nat_eq x 1) (nat_eq y 1));
  least = λ x y z h k. rw (one_of (nat_eq x 1 || nat_eq y 1)) (joined (nat_eq x 1) (nat_eq y 1) (nat_eq z 1) h k);
  greatest_of_all = λ x. always (nat_eq x 1);
  bottom_is_level = omega arith;
  top_is_level = omega arith;
  join_is_level = λ x y. level_of (nat_eq x 1 || nat_eq y 1);
}

-- past the last entity
far : (x k : ℕ) → k < 9 → nat_eq (suc (suc (suc (suc (suc (suc (suc (suc (suc x))))))))) k ≡ false
far x k h = grind (arith, common_steps)

-- what holds at each entity, and past the last
each : (P : ℕ → Type 0) → P 0 → P 1 → P 2 → P 3 → P 4 → P 5 → P 6 → P 7 → P 8 → ((x : ℕ) → P (suc (suc (suc (suc (suc (suc (suc (suc (suc x)))))))))) → (x : ℕ) → P x
each P h0 h1 h2 h3 h4 h5 h6 h7 h8 h9 zero = h0
each P h0 h1 h2 h3 h4 h5 h6 h7 h8 h9 (suc zero) = h1
each P h0 h1 h2 h3 h4 h5 h6 h7 h8 h9 (suc (suc zero)) = h2
each P h0 h1 h2 h3 h4 h5 h6 h7 h8 h9 (suc (suc (suc zero))) = h3
each P h0 h1 h2 h3 h4 h5 h6 h7 h8 h9 (suc (suc (suc (suc zero)))) = h4
each P h0 h1 h2 h3 h4 h5 h6 h7 h8 h9 (suc (suc (suc (suc (suc zero))))) = h5
each P h0 h1 h2 h3 h4 h5 h6 h7 h8 h9 (suc (suc (suc (suc (suc (suc zero)))))) = h6
each P h0 h1 h2 h3 h4 h5 h6 h7 h8 h9 (suc (suc (suc (suc (suc (suc (suc zero))))))) = h7
each P h0 h1 h2 h3 h4 h5 h6 h7 h8 h9 (suc (suc (suc (suc (suc (suc (suc (suc zero)))))))) = h8
each P h0 h1 h2 h3 h4 h5 h6 h7 h8 h9 (suc (suc (suc (suc (suc (suc (suc (suc (suc x))))))))) = h9 x

abbrev spot_p : Home
spot_p = record { state = 5; parent = 9; children = sample_kids }

abbrev handled : Command
handled = try (assign 1 2 (cell 3 (read 0))) [] (command_then (lone (assign 2 2 (constant 8 9))) end_block)

abbrev falling : Command
falling = try (fall_to_child 5 on_fall) on_fall (command_then (lone (go_to 6 5)) end_block)

abbrev choosing : Command
choosing = if_else on_fall (two Eq (read 0) (constant 2 1)) (command_then (lone (go_to 4 8)) end_block) (command_then falling end_block)

handled_exact : ExactList sample_world spot_p [] handled
handled_exact = each (λ x. listed [] x ≡ touches sample_world spot_p handled x) refl refl refl refl refl refl refl refl refl (λ x. rw (far x 2 (omega arith)) refl)

falling_exact : ExactList sample_world spot_p on_fall falling
falling_exact = each (λ x. listed on_fall x ≡ touches sample_world spot_p falling x) refl refl refl refl refl refl refl refl refl
    (λ x. rw (far x 6 (omega arith), far x 7 (omega arith), far x 3 (omega arith), far x 1 (omega arith), far x 5 (omega arith)) refl)

choosing_exact : ExactList sample_world spot_p on_fall choosing
choosing_exact = each (λ x. listed on_fall x ≡ touches sample_world spot_p choosing x) refl refl refl refl refl refl refl refl refl
    (λ x. rw (far x 5 (omega arith), far x 6 (omega arith), far x 7 (omega arith), far x 3 (omega arith), far x 1 (omega arith)) refl)

root_exact : (x : ℕ) → listed on_root x ≡ root_touches sample_world sample_states x
root_exact = each (λ x. listed on_root x ≡ root_touches sample_world sample_states x) refl refl refl refl refl refl refl refl refl
    (λ x. rw (far x 5 (omega arith), far x 8 (omega arith), far x 2 (omega arith), far x 4 (omega arith), far x 3 (omega arith), far x 1 (omega arith)) refl)

exact : ExactProgram sample
exact = record {
  lists = (
    (
      ((handled_exact, (tt, tt)), (tt, ((choosing_exact, (tt, tt), ((falling_exact, (tt, tt)), tt)), tt))),
      (((tt, (tt, (tt, tt))), tt), (((tt, (tt, tt)), tt), tt)),
    ),
    (((tt, (tt, (tt, tt))), tt), tt),
  );
  hang = root_exact;
}

inputs : (x : ℕ) → is_input sample_world x ≡ true → is_dynamic sample_world x ≡ true
inputs = each (λ x. is_input sample_world x ≡ true → is_dynamic sample_world x ≡ true) (λ h. refl) (λ h. refl) (λ h. cc) (λ h. refl) (λ h. cc) (λ h. cc) (λ h. refl)
    (λ h. cc) (λ h. cc) (λ x h. refl)

above : (x : ℕ) → two_levels.le (authority sample_world x) (entity sample_world x).declared ≡ true
above = each (λ x. two_levels.le (authority sample_world x) (entity sample_world x).declared ≡ true) refl refl refl refl refl refl refl refl refl (λ x. refl)

in_kids : (x : ℕ) → inside sample_kids x ≡ below sample_world 5 x
in_kids = each (λ x. inside sample_kids x ≡ below sample_world 5 x) refl refl refl refl refl refl refl refl refl
    (λ x. rw (far x 6 (omega arith), far x 7 (omega arith)) (past 5 x 7 (omega arith)))
  where
    past : (s x l : ℕ) → l < 9 → false ≡ (nat_lt s (suc (suc (suc (suc (suc (suc (suc (suc (suc x))))))))) && nat_le (suc (suc (suc (suc (suc (suc (suc (suc (suc x))))))))) l)
    past s x l h = grind (arith, common_steps)

-- no number is after s and up to s
childless : (s x : ℕ) (b : Bool) → false ≡ (b && (nat_lt s x && nat_le x s))
childless s x b = grind (arith, common_steps)

differ : (m j k : ℕ) → nat_eq j k ≡ false → nat_eq m j ≡ true → nat_eq m k ≡ false
differ m j k e h = rw (eqb-true m j h) e

apart : (m : ℕ) → (reaches sample_kids (lone (write 3 4 (read 0) (read 1))) m && block_reaches sample_kids (command_then choosing end_block) m) ≡ false
apart m = elim (cases_Bool (nat_eq m 4)) [
  | inl e ↦ rw (e, differ m 4 3 refl e) refl
  | inr e ↦ rw e refl
]

after_seven : (x : ℕ) → inside (and_node (state_node 8 body_q no_node) no_node) x ≡ true → 7 < x
after_seven x h = elim (or_cases (nat_eq x 8) false h) [ inl e ↦ (let f = eqb-true x 8 e in omega arith) | inr e ↦ cc ]

after_six : (x : ℕ) → inside (and_node (state_node 7 body_d no_node) no_node) x ≡ true → 6 < x
after_six x h = elim (or_cases (nat_eq x 7) false h) [ inl e ↦ (let f = eqb-true x 7 e in omega arith) | inr e ↦ cc ]

node_p : FineNode sample_world sample_states 0 5 body_p sample_kids
node_p = record {
  kind = refl;
  placed = refl;
  count = refl;
  numbers = in_kids;
  itself = omega arith;
  declared = omega arith;
  steps = ((((refl, (refl, refl)), ((refl, tt), tt)), ((refl, refl, refl), (((refl, tt), (refl, tt), ((omega arith, (refl, tt)), tt)), tt))));
  closes = ((refl, (refl, tt)), (refl, (refl, (refl, refl))));
  retags_itself = refl;
  retags_below = λ x h. refl;
}

node_c : FineNode sample_world sample_kids 0 6 body_c no_node
node_c = record {
  kind = refl;
  placed = refl;
  count = refl;
  numbers = λ x. childless 6 x (is_state sample_world x);
  itself = omega arith;
  declared = omega arith;
  steps = ((refl, refl, tt), ((refl, (refl, refl)), (refl, tt)));
  closes = (refl, (refl, refl));
  retags_itself = refl;
  retags_below = λ x h. cc;
}

node_d : FineNode sample_world sample_kids 1 7 body_d no_node
node_d = record {
  kind = refl;
  placed = refl;
  count = refl;
  numbers = λ x. childless 7 x (is_state sample_world x);
  itself = omega arith;
  declared = omega arith;
  steps = ((refl, refl, omega arith), (refl, tt));
  closes = (refl, refl);
  retags_itself = refl;
  retags_below = λ x h. cc;
}

node_q : FineNode sample_world sample_states 1 8 body_q no_node
node_q = record {
  kind = refl;
  placed = refl;
  count = refl;
  numbers = λ x. childless 8 x (is_state sample_world x);
  itself = omega arith;
  declared = omega arith;
  steps = ((refl, refl, refl, refl), ((refl, refl, refl), (refl, tt)));
  closes = (refl, (refl, refl));
  retags_itself = refl;
  retags_below = λ x h. cc;
}

once_c : OnceState (state_node 6 body_c no_node)
once_c = (tt, (tt, (tt, tt, λ m. refl), λ m. refl), λ m. and_false (nat_eq m 3))

once_d : OnceState (state_node 7 body_d no_node)
once_d = (tt, (tt, tt, λ m. refl), λ m. refl)

once_q : OnceState (state_node 8 body_q no_node)
once_q = (tt, (tt, (tt, tt, λ m. refl), λ m. refl), λ m. and_false (nat_eq m 4))

once_p : OnceState (state_node 5 body_p sample_kids)
once_p = (
  (tt, (tt, tt, λ m. refl), λ m. refl),
  (tt, (((tt, tt, λ m. refl), (((once_c, (once_d, tt)), (tt, tt, λ m. refl), λ m. refl), tt, λ m. and_false _)), tt, λ m. and_false _), apart),
  λ m. refl,
)

fine : FineProgram sample
fine = record {
  order = lawful;
  states = ((node_p, ((node_c, tt), ((node_d, tt), tt, λ x h. cc), after_six)), ((node_q, tt), tt, λ x h. cc), after_seven);
  count = refl;
  once = (once_p, (once_q, tt));
  inputs = inputs;
  above = λ x d. above x;
}

initials : (x : ℕ) → (entity sample_world x).initial < 2 ^ width sample_world x
initials = each (λ x. (entity sample_world x).initial < 2 ^ width sample_world x) (omega arith) (omega arith) (omega arith) (omega arith) (omega arith) (omega arith)
    (omega arith) (omega arith) (omega arith) (λ x. omega arith)

declared : (x : ℕ) → (entity sample_world x).declared < 2
declared = each (λ x. (entity sample_world x).declared < 2) (omega arith) (omega arith) (omega arith) (omega arith) (omega arith) (omega arith) (omega arith) (omega arith)
    (omega arith) (λ x. omega arith)

sized : SizedProgram sample
sized = record {
  states = (
    (
      (
        (((tt, (refl, tt)), refl), (((omega arith, tt), refl), tt)),
        (
          ((tt, tt), refl, (tt, tt), refl),
          (((((tt, omega arith, refl), (tt, tt)), refl), (tt, tt), ((tt, (tt, tt)), tt)), tt),
        ),
      ),
      (((((tt, tt), refl, (omega arith, tt), refl), (((tt, (refl, tt)), refl), (tt, tt))), tt), (((tt, (tt, tt)), tt), tt)),
    ),
    (((((tt, tt), refl, (tt, tt)), ((tt, tt), (tt, tt))), tt), tt),
  );
  initials = initials;
  declared = declared;
}

pub meets : SampleIsFine
meets = record {
  fine = fine;
  exact = exact;
  sized = sized;
  sites = (
    omega arith,
    (
      omega arith,
      (
        omega arith,
        (omega arith, (omega arith, (omega arith, (omega arith, (omega arith, (omega arith, (omega arith, (omega arith, (omega arith, tt))))))))),
      ),
    ),
  );
}
