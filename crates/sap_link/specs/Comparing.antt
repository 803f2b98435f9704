-- Composites that agree at low and composites that don't: of two parts, the second differs in one thing. Level 0 is
-- low, level 1 is high.
use Rattle.std.specs.Prelude.{ℕ, zero, suc, List, [], ◌∷◌}
use Rattle.sap_meaning.specs.Program.{World}
use Rattle.sap_meaning.specs.Store.{own, put_number, put_level, put_child, Refusal, After, stay}
use Rattle.sap_meaning.specs.State.{first}
use Rattle.sap_meaning.specs.Examples.{two_levels, enforced_states, refused_at}
use Rattle.sap_link.specs.Systems.{System}
use Rattle.sap_link.specs.Composites.{CompositeAfter}
use Rattle.sap_link.specs.Agree.{CompositesAgree}

-- Two parts with the entities 0 to 3: input a : 8; reg x : 8 dynamic; state S enforced low; state T enforced high; the
-- root is 4.
abbrev pub two_parts : System
two_parts = record { order = two_levels; parts = enforced_states ∷ enforced_states ∷ []; wires = [] }

-- The entities of the part that is compared.
abbrev pub part_world : World
part_world = enforced_states.world

-- The first part is in its first state and refuses nothing, and the second comes to this.
abbrev pub with_second : After → CompositeAfter
with_second a zero = stay (first part_world)
with_second a (suc i) = a

-- `x` has this number and this level in the part's first state, and this is refused.
abbrev pub x_is : (number level : ℕ) → List Refusal → After
x_is n t refused = record {
  store = put_level part_world (own 1) t (put_number (own 1) n (first part_world));
  refused = refused;
}

-- T has this level in the part's first state.
abbrev pub level_of_t : ℕ → After
level_of_t t = stay (put_level part_world (own 3) t (first part_world))

-- The current child of the root is the one at this place in the part's first state, S or T.
abbrev pub child_is : ℕ → After
child_is n = stay (put_child 4 n (first part_world))

-- Two cycles of a system whose second parts are these agree at the lowest level.
abbrev pub AgreeAtLow : (one other : After) → Type 0
AgreeAtLow one other = CompositesAgree two_parts 0 (with_second one) (with_second other)

-- Cycles that differ in high things alone agree; such as differ in a low register, tag, refusal or current child don't.
pub record ComparedComposites : Type 0 where
  -- They differ in x's number, at high in both, and in what is refused at high.
  pub high_things : AgreeAtLow (x_is 5 1 (refused_at 1 1 ∷ [])) (x_is 6 1 [])
  -- Each of these pairs differs in one thing: in x's number, at low in both; ..
  pub register : AgreeAtLow (x_is 5 0 []) (x_is 6 0 []) → ⊥
  -- .. in x's level, low in one alone; ..
  pub tag : AgreeAtLow (x_is 5 0 []) (x_is 5 1 []) → ⊥
  -- .. in T's level, which only low data may change; ..
  pub enforced_tag : AgreeAtLow (level_of_t 1) (level_of_t 0) → ⊥
  -- .. in what is refused at low; ..
  pub refusal : AgreeAtLow (x_is 5 0 (refused_at 1 0 ∷ [])) (x_is 5 0 []) → ⊥
  -- .. and in the current child of the root, S at low or T at high.
  pub child : AgreeAtLow (child_is 0) (child_is 1) → ⊥
