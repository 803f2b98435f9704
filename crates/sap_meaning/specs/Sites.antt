-- The check sites of a program, in the order of the text. One walk finds them; their numbers, and what else is told of
-- them, are maps of its list.
use Rattle.std.specs.Prelude.{◌≡◌, ℕ, ◌≤◌, zero, suc, Bool, true, false, not, ◌||◌, List, [], ◌∷◌, ◌++◌, ◌⊎◌, map, if◌then◌else◌}
use Rattle.sap_meaning.specs.Program.{World, Program, is_dynamic, Step, assign, write, retag, retag_cell, go_to, fall_to_child, Command, Arms, Block, State, state_node, Group, no_node, and_node}
use Rattle.sap_meaning.specs.Walks.{gathered, gathered_in_arms, gathered_in_block, gathered_from, gathered_from_group}
use Rattle.sap_meaning.specs.Store.{Refusal}
use Rattle.sap_meaning.specs.Checks.{site_of}

-- One of the states of a group is enforced.
abbrev pub some_enforced : World → Group → Bool
some_enforced w no_node = false
some_enforced w (and_node (state_node c b k) g) = not (is_dynamic w c) || some_enforced w g

-- A step in the body of the state s with children g may be refused: an assignment or a write to what is enforced, every
-- setTag, a goto from or to an enforced state, a fall where a child is enforced.
abbrev pub is_site : World → ℕ → Group → Step → Bool
is_site w s g (assign site x e) = not (is_dynamic w x)
is_site w s g (write site m i e) = not (is_dynamic w m)
is_site w s g (retag site x n) = true
is_site w s g (retag_cell site m j n) = true
is_site w s g (go_to site target) = not (is_dynamic w s) || not (is_dynamic w target)
is_site w s g (fall_to_child site hang) = some_enforced w g

-- A step, and the state in whose body it stands.
pub record PlacedStep : Type 0 where
  pub state : ℕ
  pub step : Step

-- The check site that a step by itself is, if it is one.
abbrev pub step_sites : World → (s : ℕ) → (g : Group) → Step → List PlacedStep
step_sites w s g k = if is_site w s g k then record { state = s; step = k } ∷ [] else []

-- The check sites of a command and of all commands in it, in the order of the text.
abbrev pub command_sites : World → (s : ℕ) → (g : Group) → Command → List PlacedStep
command_sites w s g c = gathered [] ◌++◌ (step_sites w s g) c

-- The check sites of the arms of a `case`, in the order of the text.
abbrev pub arms_sites : World → (s : ℕ) → (g : Group) → Arms → List PlacedStep
arms_sites w s g arms = gathered_in_arms [] ◌++◌ (step_sites w s g) arms

-- The check sites of a block, in the order of the text.
abbrev pub block_sites : World → (s : ℕ) → (g : Group) → Block → List PlacedStep
block_sites w s g b = gathered_in_block [] ◌++◌ (step_sites w s g) b

-- The check sites in a state's body, in the order of the text.
abbrev pub body_sites : World → State → List PlacedStep
body_sites w (state_node s b g) = block_sites w s g b

-- The check sites in the bodies of a state and of its descendants, in the order of the text.
abbrev pub state_sites : World → State → List PlacedStep
state_sites w t = gathered_from [] ◌++◌ (body_sites w) t

-- The check sites in the bodies of a group of states and of their descendants, in the order of the text.
abbrev pub group_sites : World → Group → List PlacedStep
group_sites w g = gathered_from_group [] ◌++◌ (body_sites w) g

-- The check sites of a program, each with the state in whose body it appears.
abbrev pub placed_sites : Program → List PlacedStep
placed_sites p = group_sites p.world p.states

-- The numbers of check sites.
abbrev pub site_numbers : List PlacedStep → List ℕ
site_numbers ks = map (λ (k : PlacedStep). site_of k.step) ks

-- The numbers of a program's check sites, in the order of the text.
abbrev pub program_sites : Program → List ℕ
program_sites p = site_numbers (placed_sites p)

-- The sites of these refusals, in order.
abbrev pub refused_sites : List Refusal → List ℕ
refused_sites rs = map (λ r. r.site) rs

-- The first list is the second with some items left out.
abbrev pub Sublist : List ℕ → List ℕ → Type 0
Sublist [] ys = Unit {0}
Sublist (x ∷ xs) [] = ⊥
Sublist (x ∷ xs) (y ∷ ys) = ((x ≡ y) × Sublist xs ys) ⊎ Sublist (x ∷ xs) ys

-- Numbers from n on, each above the one before.
abbrev pub RisesFrom : ℕ → List ℕ → Type 0
RisesFrom n [] = Unit {0}
RisesFrom n (x ∷ xs) = (n ≤ x) × RisesFrom (suc x) xs

-- The numbers from `k` on, as many as `count`.
abbrev pub numbers_from : (k count : ℕ) → List ℕ
numbers_from k zero = []
numbers_from k (suc n) = k ∷ numbers_from (suc k) n
