-- A program that is fine, with widths that fit and are in range, has what a machine needs.
use Rattle.sap_lemmas.proofs.Common.{◌≡◌, ℕ, suc, ◌<◌, ◌≤◌, ◌^◌, true, false, refl, sym, ap, subst, arith, nat_eq, nat_lt, inl, inr, cases_Bool, eqb-true, common_steps, or_other, test_of_same, get_or_past}
use Rattle.sap_meaning.proofs.FineLemmas.{inside_among}
use Rattle.sap_maps.specs.Term.{Term}
use Rattle.sap_meaning.specs.Prelude.{World, Program, Entity, nothing, entity, kind_is_register, kind_is_memory, root, is_register, is_memory, is_dynamic, last, LevelTerm, fixed, of, at_place, both, Step, assign, write, retag, retag_cell, go_to, fall_to_child, Command, lone, try, if_else, try_then, case_of, Arms, last_arm, and_arm, Block, end_block, command_then, State, state_node, Group, no_node, and_node, among, FineStep, FineCommand, FineState, FineGroup, FineProgram, FineNode, SizedTerm, SizedLevel, SizedStep, SizedState, SizedGroup, SizedProgram, SizedCommand, Every, EveryInArms, EveryInBlock}
use Rattle.sap_resolved.specs.Sized.Ranges.{RangedTerm, RangedLevel, RangedStep, Ranged, RangedArms, RangedBlock, RangedState, RangedGroup, RangedProgram}
use Rattle.sap_store.specs.Able.{AbleTerm, AbleLevel, AbleTarget, AbleStep, AbleCommand, AbleArms, AbleBlock, AbleState, AbleGroup}

module _ (w : World) where
  -- what is no entity is nothing
  known : (x : ℕ) → ((entity w x ≡ nothing) → ⊥) → x < root w
  known x h = elim (cases_Bool (nat_lt x (root w))) [
    | inl l ↦ below x (root w) l
    | inr l ↦ absurd (h (get_or_past w.entities x nothing (above x (root w) l)))
  ]
    where
      below : (m n : ℕ) → nat_lt m n ≡ true → m < n
      below m n l = grind (arith, common_steps)

      above : (m n : ℕ) → nat_lt m n ≡ false → n ≤ m
      above m n l = grind (arith, common_steps)

  register_within : (x : ℕ) → is_register w x ≡ true → x < root w
  register_within x h = known x (λ e. let r : kind_is_register (entity w x).kind ≡ false = ap (λ (d : Entity). kind_is_register d.kind) e in cc)

  pub memory_within : (x : ℕ) → is_memory w x ≡ true → x < root w
  memory_within x h = known x (λ e. let r : kind_is_memory (entity w x).kind ≡ false = ap (λ (d : Entity). kind_is_memory d.kind) e in cc)

  enforced_within : (x : ℕ) → is_dynamic w x ≡ false → x < root w
  enforced_within x h = known x (λ e. let r : is_dynamic w x ≡ true = ap (λ (d : Entity). d.dynamic) e in cc)

  able_term : (e : Term ℕ) → SizedTerm w e → RangedTerm w e → AbleTerm w e
  able_term e s r = record { sized = s; ranged = r }

  able_level : (n : LevelTerm) → SizedLevel w n → RangedLevel w n → AbleLevel w n
  able_level (fixed n) s r = tt
  able_level (of e) s r = able_term e s r
  able_level (at_place e) s r = able_term e s r
  able_level (both a b) s r = (able_level a s.0 r.0, able_level b s.1 r.1)

  module _ (few : root w < 2 ^ 32) where
    itself : (q : Group) (n s : ℕ) (b : Block) (k : Group) → FineNode w q n s b k → n ≤ s → AbleTarget w s
    itself q n s b k node low = record {
      itself = node.itself;
      within = node.declared;
      few = (let a = node.placed in let i = node.itself in let l = node.declared in omega (arith, a, i, l, low, few));
    }

    later : (q : Group) (n s : ℕ) (b : Block) (k : Group) → FineNode w q n s b k → n ≤ s → (y : ℕ) → last w s < y → suc n ≤ y
    later q n s b k node low y l = let i = node.itself in omega (arith, i, l, low)

    -- states stand behind the ones before them in their group
    able_target : (q g : Group) (n x : ℕ) → FineGroup w q n g → ((y : ℕ) → among g y ≡ true → n ≤ y) → among g x ≡ true → AbleTarget w x
    able_target q no_node n x fine least h = cc
    able_target q (and_node (state_node s b k) g) n x fine least h = elim (cases_Bool (nat_eq x s)) [
      | inl e ↦ subst (AbleTarget w) (sym (eqb-true x s e)) (itself q n s b k fine.0.0 (least s (rw (test_of_same s) refl)))
      | inr e ↦ able_target q g (suc n) x fine.1
          (λ y i. later q n s b k fine.0.0 (least s (rw (test_of_same s) refl)) y (fine.2 y (inside_among g y i))) (or_other (nat_eq x s) (among g x) h e)
    ]

    able_step : (q g : Group) → FineGroup w q 0 q → (k : Step) → FineStep w q g k → SizedStep w k → RangedStep w k → AbleStep w k
    able_step q g fq (assign site x e) f s r = record { entity = register_within x f.0; value = able_term e s.0 r; same = s.1 }
    able_step q g fq (write site m i e) f s r = (
      record { memory = memory_within m f.0; index = able_term i s.0 r.0; within = s.1 },
      record { entity = memory_within m f.0; value = able_term e s.2 r.1; same = s.3 },
    )
    able_step q g fq (retag site x n) f s r = (enforced_within x f.1, able_level n s r)
    able_step q g fq (retag_cell site m j n) f s r = (
      record { memory = memory_within m f.0; index = able_term j s.0 r.0; within = s.1 },
      f.1,
      able_level n s.2 r.1,
    )
    able_step q g fq (go_to site target) f s r = able_target q q 0 target fq (λ y i. omega arith) f
    able_step q g fq (fall_to_child site hang) f s r = tt

    module _ (q g : Group) (fq : FineGroup w q 0 q) where
      mutual
        unfolding AbleCommand AbleArms AbleBlock

        able_command : (c : Command) → Every (FineCommand w q g) c → Every (SizedCommand w) c → Ranged w c → AbleCommand w c
        able_command (lone k) f s r = able_step q g fq k f s r
        able_command (try k hang h) f s r = (able_step q g fq k f.0 s.0 r.0, able_block h f.1 s.1 r.1)
        able_command (if_else hang e a b) f s r = (able_term e s.0.0 r.0, able_block a f.1 s.1 r.1, able_block b f.2 s.2 r.2)
        able_command (try_then k hang a b) f s r = (able_step q g fq k f.0 s.0 r.0, able_block a f.1 s.1 r.1, able_block b f.2 s.2 r.2)
        able_command (case_of hang e arms) f s r = (able_term e s.0.0 r.0, able_arms arms f.1 s.1 r.1)

        able_arms : (arms : Arms) → EveryInArms (FineCommand w q g) arms → EveryInArms (SizedCommand w) arms → RangedArms w arms → AbleArms w arms
        able_arms (last_arm b) f s r = able_block b f s r
        able_arms (and_arm constants b arms) f s r = (able_block b f.0 s.0 r.0, able_arms arms f.1 s.1 r.1)

        able_block : (b : Block) → EveryInBlock (FineCommand w q g) b → EveryInBlock (SizedCommand w) b → RangedBlock w b → AbleBlock w b
        able_block end_block f s r = tt
        able_block (command_then c cs) f s r = (able_command c f.0 s.0 r.0, able_block cs f.1 s.1 r.1)

    mutual
      unfolding AbleState AbleGroup

      able_state : (t : State) (q : Group) (n : ℕ) → FineGroup w q 0 q → FineState w q n t → SizedState w t → RangedState w t → AbleState w t
      able_state (state_node s b g) q n fq f t r = (
        (let a = f.0.itself in let l = f.0.declared in omega (arith, a, l)),
        able_block q g fq b f.0.steps t.0 r.0,
        able_group g g 0 f.1 f.1 t.1 r.1,
      )

      able_group : (g q : Group) (n : ℕ) → FineGroup w q 0 q → FineGroup w q n g → SizedGroup w g → RangedGroup w g → AbleGroup w g
      able_group no_node q n fq f t r = tt
      able_group (and_node a g) q n fq f t r = (able_state a q n fq f.0 t.0 r.0, able_group g q (suc n) fq f.1 t.1 r.1)

pub able_program : (p : Program) → FineProgram p → SizedProgram p → RangedProgram p → root p.world < 2 ^ 32 → AbleGroup p.world p.states
able_program p f s r few = able_group p.world few p.states p.states 0 f.states f.states s.states r.states
