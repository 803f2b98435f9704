-- The faults that the walk finds are those of which the paths say so.
use Rattle.std.proofs.Common.{◌≡◌, ◌⊎◌, inl, inr, ℕ, List, [], ◌∷◌, ◌++◌, Bool, true, false, Some, refl, ap, sym, subst, ◌∙◌, append_assoc, if◌then◌else◌}
use Rattle.sap_tree.specs.Syntax.{SimpleCommand, StateTree, state_node, StateList, no_state, and_state, DesignTree}
use Rattle.sap_names.specs.declared.fault.Fault.{Fault}
use Rattle.sap_names.specs.Prelude.{StandsIn, Before, BeforeAll, First, entities_of}
use Rattle.sap_shape.specs.Paths.{Path, FromState, FromAny, IsOfMemory, WritesAgain, place_of, twice_at, PathFault}
use Rattle.sap_shape.specs.Walk.{Written, fresh, found_in_block, falls_block, past_simple, second_state, second_states}
use Rattle.sap_shape.specs.Lists.{shape_faults}
use Rattle.sap_shape.specs.ShapeFaults.{states_shape, IsShapeFault, HasShape, IsFirstShapeFault}
use Rattle.sap_shape.proofs.Tracks.{stands_left, stands_right, stands_parts, step_past, past_here, past_path, past_kept, Behind, behind_front, behind_rest, Repeats, then_parts, found_behind, stands_behind, repeats_either}
use Rattle.sap_shape.proofs.Followed.{Follows, of_block, block_follows}

-- of states: those of the body, and those of the children behind what is written up to a `fall`

if_so : (test : Bool) (f : Fault) (fs : List Fault) → test ≡ true → StandsIn f fs → StandsIn f (if test then fs else [])
if_so true f fs e h = h
if_so false f fs e h = cc

none_if_not : (test : Bool) (f : Fault) (fs : List Fault) → StandsIn f (if test then fs else []) → (test ≡ true) × StandsIn f fs
none_if_not true f fs h = (refl, h)
none_if_not false f fs h = absurd h

mutual
  state_repeats : (s : StateTree) → Repeats (second_state s) (FromState s)
  state_repeats (state_node place name kind body children) =
      let F : Follows (of_block body) = block_follows body in
      let entering = λ (p : Written). (found_in_block body p).entering in
      let own = λ (p : Written). (found_in_block body p).again in
      let below = λ (p : Written). if falls_block body then second_states children (entering p) else [] in
      record {
        on_path = λ p f h. elim (stands_parts f (own p) (below p) h) [
          | inl i ↦ (let r = F.again.on_path p f i in (r.0, r.1, inl r.2, r.3, r.4))
          | inr i ↦ (
              let j = none_if_not (falls_block body) f (second_states children (entering p)) i in
              let r =
              found_behind entering (of_block body).Falls F.entering (FromAny children) (second_states children) (any_repeat children) (F.falling j.0) p f j.1 in
              (r.0, r.1, inr r.2, r.3, r.4))
        ];
        of_path = λ p k path t h. elim t [
          | inl i ↦ stands_left (twice_at (place_of k)) (own p) (below p) (F.again.of_path p k path i h)
          | inr i ↦ elim (then_parts (of_block body).Falls (FromAny children) path i p k h) [
            | inl j ↦ (
                let on = F.onward i.0 i.2 in
                stands_left (twice_at (place_of k)) (own p) (below p) (F.again.of_path p k (i.0 ++ on.0) on.1 (behind_front i.0 on.0 p k j)))
            | inr j ↦ stands_right (twice_at (place_of k)) (own p) (below p)
                (if_so (falls_block body) (twice_at (place_of k)) (second_states children (entering p)) (F.fallen i.0 i.2)
                (stands_behind entering (of_block body).Falls F.entering (FromAny children) (second_states children) (any_repeat children) p k i.0 i.1 i.2 i.3 j))
          ]
        ];
      }

  any_repeat : (g : StateList) → Repeats (second_states g) (FromAny g)
  any_repeat no_state = record { on_path = λ p f h. absurd h; of_path = λ p k path t h. absurd t }
  any_repeat (and_state s rest) = repeats_either (second_state s) (second_states rest) (FromState s) (FromAny rest) (state_repeats s) (any_repeat rest)

-- where a path writes again, and the write before it

again_at : (path : Path) (p : Written) (k : SimpleCommand) → Behind p path k
    → (before : Path) × (after : Path) × (path ≡ before ++ k ∷ after) × (m : List ℕ) × IsOfMemory k m × (past_path before p m ≡ true)
again_at [] p k h = absurd h
again_at (j ∷ path) p k (inl h) = ([], path, ap (λ (x : SimpleCommand). x ∷ path) (sym h.0), h.1, h.2, h.3)
again_at (j ∷ path) p k (inr h) =
    let r = again_at path (past_simple j p) k h in
    (j ∷ r.0, r.1, ap (λ (x : Path). j ∷ x) r.2, r.3, r.4, r.5)

written_at : (path : Path) (p : Written) (m : List ℕ) → past_path path p m ≡ true
    → (p m ≡ true) ⊎ ((before : Path) × (k : SimpleCommand) × (after : Path) × (path ≡ before ++ k ∷ after) × IsOfMemory k m)
written_at [] p m h = inl h
written_at (k ∷ path) p m h = elim (written_at path (past_simple k p) m h) [
  | inl i ↦ elim (step_past k p m i) [ inl j ↦ inl j | inr j ↦ inr ([], k, path, refl, j) ]
  | inr r ↦ inr (k ∷ r.0, r.1, r.2, ap (λ (x : Path). k ∷ x) r.3, r.4)
]

again_of : (d : DesignTree) (path : Path) (k : SimpleCommand) → FromAny d.states path → Behind fresh path k → WritesAgain d k
again_of d path k t h =
    let a = again_at path fresh k h in
    elim (written_at a.0 fresh a.3 a.5) [
      | inl i ↦ cc
      | inr r ↦ (
          let e : path ≡ r.0 ++ r.1 ∷ (r.2 ++ k ∷ a.1) = a.2 ∙ ap (λ (x : Path). x ++ k ∷ a.1) r.3 ∙ append_assoc r.0 (r.1 ∷ r.2) (k ∷ a.1) in
          record {
            before = r.0;
            first = r.1;
            between = r.2;
            after = a.1;
            path = subst (λ (x : Path). FromAny d.states x) e t;
            memory = a.3;
            one = r.4;
            other = a.4;
          })
    ]

-- what the walk finds in a design, and what the paths say
pub path_fault : (d : DesignTree) (f : Fault) → StandsIn f (second_states d.states fresh) → PathFault d f
path_fault d f h =
    let S : Repeats (second_states d.states) (FromAny d.states) = any_repeat d.states in
    let r = S.on_path fresh f h in
    (r.0, again_of d r.1 r.0 r.2 r.3, r.4)

pub fault_found : (d : DesignTree) (f : Fault) → PathFault d f → StandsIn f (second_states d.states fresh)
fault_found d f h =
    let S : Repeats (second_states d.states) (FromAny d.states) = any_repeat d.states in
    let k = h.0 in
    let w = h.1 in
    let written = past_path w.before fresh in
    let behind : Behind fresh (w.before ++ w.first ∷ (w.between ++ k ∷ w.after)) k =
    behind_rest w.before (w.first ∷ (w.between ++ k ∷ w.after)) fresh k
    (inr (behind_rest w.between (k ∷ w.after) (past_simple w.first written) k
    (inl (refl, w.memory, w.other, past_kept w.between (past_simple w.first written) w.memory (past_here w.first written w.memory w.one))))) in
    subst (λ (x : Fault). StandsIn x (second_states d.states fresh)) (sym h.2) (S.of_path fresh k _ w.path behind)

shape_fault : (d : DesignTree) (f : Fault) → StandsIn f (shape_faults d) → IsShapeFault d f
shape_fault d f h = elim (stands_parts f (states_shape (entities_of d) d.states [] d.states) (second_states d.states fresh) h) [
  | inl i ↦ inl i
  | inr i ↦ inr (path_fault d f i)
]

shape_found : (d : DesignTree) (f : Fault) → IsShapeFault d f → StandsIn f (shape_faults d)
shape_found d f (inl h) = stands_left f (states_shape (entities_of d) d.states [] d.states) (second_states d.states fresh) h
shape_found d f (inr h) = stands_right f (states_shape (entities_of d) d.states [] d.states) (second_states d.states fresh) (fault_found d f h)

-- the faults of shape are exactly those of a list
abbrev pub Exactly : DesignTree → List Fault → Type 0
Exactly d fs = (f : Fault) → (IsShapeFault d f → StandsIn f fs) × (StandsIn f fs → IsShapeFault d f)

pub exactly : (d : DesignTree) (fs : List Fault) → shape_faults d ≡ fs → Exactly d fs
exactly d fs e f = (λ h. subst (λ (x : List Fault). StandsIn f x) e (shape_found d f h), λ h. shape_fault d f (subst (λ (x : List Fault). StandsIn f x) (sym e) h))

pub no_faults : (d : DesignTree) → shape_faults d ≡ [] → HasShape d
no_faults d e f h = subst (λ (x : List Fault). StandsIn f x) e (shape_found d f h)

before_each : (a : Fault) (fs : List Fault) → BeforeAll a fs → (b : Fault) → StandsIn b fs → Before a b
before_each a [] all b h = absurd h
before_each a (f ∷ fs) all b (inl h) = subst (λ (x : Fault). Before a x) (sym h) all.0
before_each a (f ∷ fs) all b (inr h) = before_each a fs all.1 b h

pub first_of_all : (d : DesignTree) (a : Fault) → First (Some a) (shape_faults d) → IsFirstShapeFault d a
first_of_all d a h = (shape_fault d a h.0, λ b stands. before_each a (shape_faults d) h.1 b (shape_found d b stands))

none_left : (fs : List Fault) → ((f : Fault) → StandsIn f fs → ⊥) → fs ≡ []
none_left [] h = refl
none_left (f ∷ fs) h = absurd (h f (inl refl))

-- in a design without them neither list has any
pub states_faultless : (d : DesignTree) → HasShape d → states_shape (entities_of d) d.states [] d.states ≡ []
states_faultless d h = none_left (states_shape (entities_of d) d.states [] d.states) (λ f i. h f (inl i))

pub paths_faultless : (d : DesignTree) → HasShape d → second_states d.states fresh ≡ []
paths_faultless d h = none_left (second_states d.states fresh) (λ f i. h f (inr (path_fault d f i)))

-- a design in which no path writes again, and one in which it is done in one place
pub none_again : (d : DesignTree) → second_states d.states fresh ≡ [] → (f : Fault) → PathFault d f → ⊥
none_again d e f h = subst (λ (x : List Fault). StandsIn f x) e (fault_found d f h)

pub one_again : (d : DesignTree) (a : Fault) → second_states d.states fresh ≡ a ∷ [] → (f : Fault) → (PathFault d f → f ≡ a) × (f ≡ a → PathFault d f)
one_again d a e f = (
  λ h. only (subst (λ (x : List Fault). StandsIn f x) e (fault_found d f h)),
  λ i. path_fault d f (subst (λ (x : List Fault). StandsIn f x) (sym e) (inl i)),
)
  where
    only : StandsIn f (a ∷ []) → f ≡ a
    only (inl h) = h
    only (inr h) = absurd h
