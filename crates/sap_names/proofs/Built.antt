-- What the entities of a design without faults have: widths from 1 to 64, and numbers of 32 bits.
use Rattle.sap_lemmas.proofs.Common.{◌≡◌, ℕ, zero, suc, ◌+◌, ◌<◌, ◌≤◌, ◌^◌, List, [], ◌∷◌, ◌++◌, length, Bool, false, refl, subst, arith, length-append, common_steps, Some, IsTrue, nat_le, ◌&&◌, slice_get, not, count_by}
use Rattle.sap_tree.proofs.DeclLemmas.{count_more}
use Rattle.sap_names.proofs.NameFaultsLemmas.{no_fault}
use Rattle.sap_names.proofs.FaultLemmas.{nil_left, nil_right}
use Rattle.sap_tree.specs.Prelude.{StateTree, state_node, StateList, no_state, and_state, DesignTree, is_whole, is_tree, is_input, is_register, is_memory, state_count, states_count, states_depth, states_commands}
use Rattle.sap_tree.specs.declared.syntax.Numeral.{Numeral}
use Rattle.sap_tree.specs.declared.syntax.Decl.{Decl}
use Rattle.sap_tree.specs.declared.syntax.Decl.TheVariants.{Input, Register, Memory}
use Rattle.sap_names.specs.Entities.{Entity, HasWidth, HaveWidths, declared_width, declared_in, entities_of, entity_of, group_entities, state_entities}
use Rattle.sap_names.specs.NameFaults.{declaration_faults, declarations_faults, design_name_faults, width_faults}
use Rattle.sap_names.specs.Widths.{is_sound, sound_width}
use Rattle.sap_names.specs.declared.kind.Declared.{Declared}
use Rattle.sap_names.specs.declared.kind.Declared.TheVariants as d

within_64 : (w : ℕ) → not (is_sound (sound_width w)) ≡ false → (1 ≤ w) × (w ≤ 64)
within_64 w h = grind (arith, common_steps)

fits : (width : Numeral) → width_faults width ≡ [] → (1 ≤ width.value) × (width.value ≤ 64)
fits width h = within_64 width.value (no_fault _ _ _ h)

module _ (levels : List (List ℕ)) (le : ℕ → ℕ → Bool) where
  declared_width-fits : (x : Decl) → declaration_faults levels le x ≡ [] → HasWidth (entity_of x).what
  declared_width-fits (Input place name width) h = fits width h
  declared_width-fits (Register place name width kind start) h = fits width (nil_left _ _ (nil_left _ _ h))
  declared_width-fits (Memory place name width depth kind) h = fits width (nil_left _ _ (nil_left _ _ h))

  declared-fit : (xs : List Decl) → declarations_faults levels le xs ≡ [] → HaveWidths (declared_in xs)
  declared-fit [] h = tt
  declared-fit (x ∷ xs) h = (
    declared_width-fits x (nil_left (declaration_faults levels le x) (declarations_faults levels le xs) h),
    declared-fit xs (nil_right (declaration_faults levels le x) (declarations_faults levels le xs) h),
  )

have_widths-append : (es fs : List Entity) → HaveWidths es → HaveWidths fs → HaveWidths (es ++ fs)
have_widths-append [] fs h k = k
have_widths-append (e ∷ es) fs h k = (h.0, have_widths-append es fs h.1 k)

mutual
  state-fit : (s : StateTree) → HaveWidths (state_entities s)
  state-fit (state_node place name kind body children) = (tt, group-fit children)

  group-fit : (ss : StateList) → HaveWidths (group_entities ss)
  group-fit no_state = tt
  group-fit (and_state s rest) = have_widths-append (state_entities s) (group_entities rest) (state-fit s) (group-fit rest)

-- without faults, all entities that need one have a width
pub faultless-fit : (levels : List (List ℕ)) (le : ℕ → ℕ → Bool) (x : DesignTree) → design_name_faults levels le x ≡ [] → HaveWidths (entities_of x)
faultless-fit levels le x h =
    have_widths-append (declared_in x.declarations) (group_entities x.states) (declared-fit levels le x.declarations (nil_right _ _ (nil_left _ _ h))) (group-fit x.states)

width-fit : (w : Declared) → HasWidth w → declared_width w ≤ 64
width-fit d.State h = omega arith
width-fit _ h = h.1

pub width-fits : (es : List Entity) (n : ℕ) (e : Entity) → HaveWidths es → slice_get es n ≡ Some e → declared_width e.what ≤ 64
width-fits [] n e h k = absurd (cc)
width-fits (x ∷ es) zero e h k = let same : x ≡ e = cc in subst (λ (y : Entity). declared_width y.what ≤ 64) same (width-fit x.what h.0)
width-fits (x ∷ es) (suc n) e h k = width-fits es n e h.1 k

length-declared : (xs : List Decl) → length (declared_in xs) ≡ count_by is_input xs + count_by is_register xs + count_by is_memory xs
length-declared [] = refl
length-declared (Input place name width ∷ xs) =
    omega (
      arith,
      length-declared xs,
      count_more is_input (Input place name width) xs 1 refl,
      count_more is_register (Input place name width) xs 0 refl,
      count_more is_memory (Input place name width) xs 0 refl,
    )
length-declared (Register place name width kind start ∷ xs) =
    omega (
      arith,
      length-declared xs,
      count_more is_input (Register place name width kind start) xs 0 refl,
      count_more is_register (Register place name width kind start) xs 1 refl,
      count_more is_memory (Register place name width kind start) xs 0 refl,
    )
length-declared (Memory place name width depth kind ∷ xs) =
    omega (
      arith,
      length-declared xs,
      count_more is_input (Memory place name width depth kind) xs 0 refl,
      count_more is_register (Memory place name width depth kind) xs 0 refl,
      count_more is_memory (Memory place name width depth kind) xs 1 refl,
    )

mutual
  unfolding state_count states_count

  length-state : (s : StateTree) → length (state_entities s) ≡ state_count s
  length-state (state_node place name kind body children) = let r = length-group children in omega arith

  length-group : (ss : StateList) → length (group_entities ss) ≡ states_count ss
  length-group no_state = refl
  length-group (and_state s rest) = let q = length-state s in let r = length-group rest in omega (arith, length-append (state_entities s) (group_entities rest))

limited : (t : Bool) (i r m s d c : ℕ) → IsTrue (t && (nat_le i 64 && nat_le r 256 && nat_le m 16 && nat_le s 256 && nat_le d 16 && nat_le c 4096)) → i + r + m + s ≤ 592
limited t i r m s d c h = grind (arith, common_steps)

-- a whole design has few entities
pub few_entities : (x : DesignTree) → IsTrue (is_whole x) → length (entities_of x) < 2 ^ 32
unfolding is_whole
few_entities x h =
    let few = limited (is_tree x) (count_by is_input x.declarations) (count_by is_register x.declarations)
    (count_by is_memory x.declarations) (states_count x.states) (states_depth x.states) (states_commands x.states) h in
    omega (arith, few, length-append (declared_in x.declarations) (group_entities x.states), length-declared x.declarations, length-group x.states)
