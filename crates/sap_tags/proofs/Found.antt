-- What is built of a design's program is the plain program of the design.
use Rattle.std.proofs.Common.{◌≡◌, ℕ, zero, suc, ◌+◌, ◌*◌, ◌^◌, ◌<◌, ◌≤◌, List, [], ◌∷◌, IsTrue, true, false, get_or, refl, sym, ap, ap₂, ◌∙◌, subst, inl, inr, arith}
use Rattle.std.proofs.lemmas.Bool.{cases_Bool}
use Rattle.sap_tree.proofs.SyntaxLemmas.{tree_of_whole}
use Rattle.sap_tree.specs.Prelude.{DesignTree, is_whole, states_count, states_commands}
use Rattle.sap_lattice.specs.Prelude.{Levels, order_of, code_of, width_of}
use Rattle.sap_lattice.specs.Lawful.{IsLattice}
use Rattle.sap_names.specs.Entities.{entities_of}
use Rattle.sap_names.specs.declared.kind.Declared.{Declared}
use Rattle.sap_names.specs.declared.kind.Declared.TheVariants as kind
use Rattle.sap_names.specs.declared.entity.Entity as declared_entity
use Rattle.sap_meaning.specs.Program as meaning
use Rattle.sap_meaning.specs.Program.{World, Entity, nothing, kind_is_state, is_state, width, root}
use Rattle.sap_resolved.specs.Resolve.{states_of}
use Rattle.sap_resolved.specs.Worlds.{world_of}
use Rattle.sap_resolved.specs.Fill.{program_of}
use Rattle.sap_resolved.proofs.Lookup.{Stands, AllMatch, entities_match}
use Rattle.sap_program.specs.Prelude.{IsProgramOf, count, group_of, program_in}
use Rattle.sap_program.specs.declared.program.Program.{Program}
use Rattle.sap_resolved.specs.Sized.Ranges.{IsWidth, RangedProgram}
use Rattle.sap_resolved.specs.Sized.Sound.{WidthsInRange}
use Rattle.sap_shape.specs.WellFormed.{WellFormed}
use Rattle.sap_interface.specs.Prelude.{Named, named_of}
use Rattle.sap_tags_terms.specs.Code.{named_over}
use Rattle.sap_tagged.specs.Prelude.{IsSound, plain_for, plain_of, FewGroup, wires_group}
use Rattle.sap_tags_terms.specs.Narrow.{IsNarrow}
use Rattle.sap_tagged.proofs.Designs.{design}
use Rattle.sap_tagged.proofs.Fitted.{limits, group_few, group_filled}
use Rattle.sap_tags_terms.specs.Parts.{StatesFew}
use Rattle.sap_tags.proofs.FewArms.{few_group}

named_as : (ls : Levels) (d : DesignTree) (p : Program) → IsProgramOf ls d p → named_over ls p ≡ named_of ls d
named_as ls d p h =
    ap₂ (λ (q : meaning.Program) (ns : List (List ℕ)). let r : Named = record { program = q; names = ns; code = code_of (order_of ls) } in r) h.program h.names

pub plain_found : (own ls : Levels) (d : DesignTree) (p : Program) → own ≡ ls → IsProgramOf ls d p
    → plain_of (named_over own p) (width_of (order_of own)) p.sites ≡ plain_for ls d
plain_found own ls d p e h =
    ap (λ l. plain_of (named_over l p) (width_of (order_of l)) p.sites) e
    ∙ ap₂ (λ (n : Named) (sites : ℕ). plain_of n (width_of (order_of ls)) sites) (named_as ls d p h) h.sites

pub ranged_found : (own ls : Levels) (d : DesignTree) (p : Program) → own ≡ ls → IsProgramOf ls d p → WidthsInRange → IsSound ls d
    → RangedProgram (program_in (order_of own) p)
ranged_found own ls d p e h ranged sound =
    subst (λ q. RangedProgram q) (sym (ap (λ l. program_in (order_of l) p) e ∙ h.program)) (ranged ls d (tree_of_whole d sound.whole) sound.formed.names)

pub sound_found : (own ls : Levels) (d : DesignTree) → own ≡ ls → IsLattice own → IsTrue (is_whole d) → WellFormed ls d → IsSound ls d
sound_found own ls d e l whole formed = record { lattice = subst (λ x. IsLattice x) e l; whole = whole; formed = formed }

-- few arms

pub arms_found : (ls : Levels) (d : DesignTree) (p : Program) → IsProgramOf ls d p → IsSound ls d → StatesFew p.states.items
unfolding StatesFew
arms_found ls d p h sound = few_group (count p) p.states.items (subst (λ (q : meaning.Program). FewGroup q.states) (sym h.program) (design ls d sound).few_arms)

-- few wires

few_in_all : (n s c : ℕ) → n ≤ 5 * c + s → s ≤ 256 → c ≤ 4096 → n < 2 ^ 32
few_in_all n s c h i j = omega arith

pub few_found : (own ls : Levels) (d : DesignTree) (p : Program) → own ≡ ls → IsProgramOf ls d p → IsSound ls d
    → wires_group (group_of (count p) p.states.items) < 2 ^ 32
few_found own ls d p e h sound =
    let w = world_of ls d in
    let l = limits d sound.whole in
    let all : wires_group (group_of (count p) p.states.items) ≡ wires_group (states_of ls d) =
    ap (λ q. wires_group q.states) h.program ∙ group_filled w (root w) (states_of ls d) in
    subst (λ m. m < 2 ^ 32) (sym all)
    (few_in_all _ (states_count d.states) (states_commands d.states) (group_few ls (entities_of d) 1 _ d.states) l.0 l.1)

-- no wide entity

state_bare : (e : Declared) (g : Entity) → Stands e g → kind_is_state g.kind ≡ true → g.width ≡ 0
state_bare (kind.Input u) g h s = let k = ap (λ k. kind_is_state k) h.0 in cc
state_bare (kind.Register u) g h s = let k = ap (λ k. kind_is_state k) h.0 in cc
state_bare (kind.Memory u depth) g h s = let k = ap (λ k. kind_is_state k) h.0 in cc
state_bare kind.State g h s = h.1

states_bare : (es : List declared_entity.Entity) (gs : List Entity) → AllMatch es gs → (x : ℕ) → kind_is_state (get_or gs x nothing).kind ≡ true → (get_or gs x nothing).width ≡ 0
states_bare es [] a x s = refl
states_bare [] (g ∷ gs) a x s = absurd a
states_bare (e ∷ es) (g ∷ gs) a zero s = state_bare e.what g a.0.what s
states_bare (e ∷ es) (g ∷ gs) a (suc x) s = states_bare es gs a.1 x s

narrow : (w : World) (x : ℕ) → (is_state w x ≡ true → width w x ≡ 0) → (is_state w x ≡ false → IsWidth (width w x)) → width w x ≤ 64
narrow w x bare wide = elim (cases_Bool (is_state w x)) [ inl s ↦ (let z = bare s in omega arith) | inr s ↦ (wide s).1 ]

pub narrow_found : (ls : Levels) (d : DesignTree) (p : Program) → IsProgramOf ls d p → WidthsInRange → IsSound ls d → IsNarrow p
narrow_found ls d p h ranged sound =
    let r = ranged ls d (tree_of_whole d sound.whole) sound.formed.names in
    let all : (x : ℕ) → (get_or (program_of ls d).world.entities x nothing).width ≤ 64 =
    λ x. narrow (world_of ls d) x (states_bare (entities_of d) (world_of ls d).entities (entities_match ls d) x) (r.widths x) in
    subst (λ (q : meaning.Program). (x : ℕ) → (get_or q.world.entities x nothing).width ≤ 64) (sym h.program) all
