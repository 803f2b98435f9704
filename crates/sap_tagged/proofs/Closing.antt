-- Nothing stands behind a goto or a fall.
use Rattle.sap_lemmas.proofs.Common.{◌≡◌, ℕ, ◌+◌, true, false, not, ◌&&◌, ◌||◌, refl, ap, ◌∙◌, inl, inr, if◌then◌else◌, cases_Bool, and_parts, or_parts, or_right, true_is_not_false, AllByRecursion}
use Rattle.sap_ir.proofs.PlainLemmas.{follow_stop}
use Rattle.sap_maps.specs.Prelude.{Name, Term}
use Rattle.sap_meaning.specs.Prelude.{root, is_dynamic, is_register, listed, Step, assign, write, retag, retag_cell, go_to, Command, lone, try, if_else, try_then, case_of, Arms, last_arm, and_arm, Block, end_block, command_then, Home, listed_alone, Open, Closes, Final, ClosingArms, NoTransfer, EveryInArms, EveryInBlock}
use Rattle.sap_meaning.specs.Fine as fine
use Rattle.sap_tagged.proofs.Parts.{OfParts, sweep_holds, attempt_holds, attempt_then_holds, select_holds, pick_holds}
use Rattle.sap_ir.specs.Prelude.{Body, stop, act, cases, goto, fall, transfers, ends_in_transfers, follow}
use Rattle.sap_tagged.specs.Prelude.{tag_key, wire_key, Setting, var, bits, gives, resets, effect_of, wires, wires_block, command_plain, arms_plain, block_plain}

-- a body that ends as it should; and one that goes nowhere either
abbrev pub Ends : Body → Type 0
Ends b = ends_in_transfers b ≡ true

pub record Stays (b : Body) : Type 0 where
  pub ends : ends_in_transfers b ≡ true
  pub goes : transfers b ≡ false

follow_ends : (a b : Body) → Stays a → Ends b → Ends (follow a b)
follow_ends stop b s e = e
follow_ends (act x rest) b s e = follow_ends rest b (record { ends = s.ends; goes = s.goes }) e
follow_ends (cases t x y rest) b s e =
    let g = or_parts (transfers x || transfers y) (transfers rest) s.goes in
    let i = or_parts (transfers x) (transfers y) g.0 in
    let p = and_parts ((ends_in_transfers x && ends_in_transfers y) && ends_in_transfers rest) _ s.ends in
    let q = and_parts (ends_in_transfers x && ends_in_transfers y) (ends_in_transfers rest) p.0 in
    let r = and_parts (ends_in_transfers x) (ends_in_transfers y) q.0 in
    rw (r.0, r.1, follow_ends rest b (record { ends = q.1; goes = g.1 }) e, i.0, i.1) refl
follow_ends (goto x rest) b s e = absurd (true_is_not_false s.goes)
follow_ends (fall rest) b s e = absurd (true_is_not_false s.goes)

follow_goes : (a b : Body) → transfers a ≡ false → transfers b ≡ false → transfers (follow a b) ≡ false
follow_goes stop b s e = e
follow_goes (act x rest) b s e = follow_goes rest b s e
follow_goes (cases t x y rest) b s e =
    let g = or_parts (transfers x || transfers y) (transfers rest) s in
    let i = or_parts (transfers x) (transfers y) g.0 in
    rw (i.0, i.1) (follow_goes rest b g.1 e)
follow_goes _ b s e = absurd (true_is_not_false s)

follow_stays : (a b : Body) → Stays a → Stays b → Stays (follow a b)
follow_stays a b s e = record { ends = follow_ends a b s e.ends; goes = follow_goes a b s.goes e.goes }

choice_ends : (t : Term Name) (x y : Body) → Ends x → Ends y → Ends (cases t x y stop)
choice_ends t x y e f = rw (e, f) (or_right (not (transfers x || transfers y)) true refl)

pub ends : OfParts Ends
ends = record { nothing = refl; sets = λ n t rest e. e; choice = choice_ends }

stays : OfParts Stays
stays = record {
  nothing = record { ends = refl; goes = refl };
  sets = λ n t rest s. record { ends = s.ends; goes = s.goes };
  choice = λ t x y s r. record { ends = choice_ends t x y s.ends r.ends; goes = rw (s.goes, r.goes) refl };
}

module _ (d : Setting) where
  effect_ends : (sp : Home) (k : ℕ) (t : Step) → Ends (effect_of d sp k t)
  effect_ends sp k (assign site x e) = elim (cases_Bool (is_dynamic d.world x)) [ inl i ↦ rw i refl | inr i ↦ rw i refl ]
  effect_ends sp k (write site m i e) = elim (cases_Bool (is_dynamic d.world m)) [ inl i ↦ rw i refl | inr i ↦ rw i refl ]
  effect_ends sp k (retag site x n) = elim (cases_Bool (is_register d.world x)) [ inl i ↦ rw i refl | inr i ↦ rw i refl ]
  effect_ends sp k (go_to site target) =
      sweep_holds d Ends ends tag_key (resets d.world target) (λ x. bits d d.world.order.bottom) 0 (root d.world)
      (if is_dynamic d.world target then gives d (tag_key target) (var d (wire_key (k + 3))) (goto (d.state_name target) stop) else goto (d.state_name target) stop)
      (elim (cases_Bool (is_dynamic d.world target)) [ inl i ↦ rw i refl | inr i ↦ rw i refl ])
  effect_ends sp k _ = refl

  effect_goes : (sp : Home) (k : ℕ) (t : Step) → fine.transfers t ≡ false → transfers (effect_of d sp k t) ≡ false
  effect_goes sp k (assign site x e) f = elim (cases_Bool (is_dynamic d.world x)) [ inl i ↦ rw i refl | inr i ↦ rw i refl ]
  effect_goes sp k (write site m i e) f = elim (cases_Bool (is_dynamic d.world m)) [ inl i ↦ rw i refl | inr i ↦ rw i refl ]
  effect_goes sp k (retag site x n) f = elim (cases_Bool (is_register d.world x)) [ inl i ↦ rw i refl | inr i ↦ rw i refl ]
  effect_goes sp k (retag_cell site m j n) f = refl
  effect_goes sp k _ f = absurd (true_is_not_false f)

  effect_stays : (sp : Home) (k : ℕ) (t : Step) → fine.transfers t ≡ false → Stays (effect_of d sp k t)
  effect_stays sp k t f = record { ends = effect_ends sp k t; goes = effect_goes sp k t f }

  module _ (sp : Home) where
    mutual
      unfolding command_plain arms_plain block_plain

      command_stays : (p k : ℕ) (c : Command) → Open c → Stays (command_plain d sp p k c)
      command_stays p k (lone t) o = attempt_holds d Stays stays sp p k t (listed_alone d.world sp t) stop (effect_stays sp k t o) stays.nothing
      command_stays p k (try t hang h) o =
          attempt_holds d Stays stays sp p k t (listed hang) (block_plain d sp (k + 2) (k + 5) h) (effect_stays sp k t o.0) (block_stays (k + 2) (k + 5) h o.1)
      command_stays p k (if_else hang e a b) o =
          select_holds d Stays stays p k e (listed hang) (block_plain d sp (k + 1) (k + 2) a) (block_plain d sp (k + 1) (k + 2 + wires_block a) b)
          (block_stays (k + 1) (k + 2) a o.1) (block_stays (k + 1) (k + 2 + wires_block a) b o.2)
      command_stays p k (try_then t hang a b) o =
          attempt_then_holds d Stays stays sp p k t (listed hang) (block_plain d sp (k + 2) (k + 5) a) (block_plain d sp (k + 2) (k + 5 + wires_block a) b)
          (follow_stays (effect_of d sp k t) (block_plain d sp (k + 2) (k + 5) a) (effect_stays sp k t o.0) (block_stays (k + 2) (k + 5) a o.1))
          (block_stays (k + 2) (k + 5 + wires_block a) b o.2)
      command_stays p k (case_of hang e arms) o =
          pick_holds d Stays stays p k e (listed hang) arms (arms_plain d sp (k + 1) (k + 4) arms) (arms_stay (k + 1) (k + 4) arms o.1)

      arms_stay : (p k : ℕ) (arms : Arms) → EveryInArms NoTransfer arms → AllByRecursion Stays (arms_plain d sp p k arms)
      arms_stay p k (last_arm b) o = (block_stays p k b o, tt)
      arms_stay p k (and_arm constants b arms) o = (block_stays p k b o.0, arms_stay p (k + wires_block b) arms o.1)

      block_stays : (p k : ℕ) (b : Block) → EveryInBlock NoTransfer b → Stays (block_plain d sp p k b)
      block_stays p k end_block o = stays.nothing
      block_stays p k (command_then c cs) o =
          follow_stays (command_plain d sp p k c) (block_plain d sp p (k + wires c) cs) (command_stays p k c o.0) (block_stays p (k + wires c) cs o.1)

    mutual
      unfolding command_plain arms_plain block_plain

      final_ends : (p k : ℕ) (c : Command) → Final c → Ends (command_plain d sp p k c)
      final_ends p k (lone t) o = attempt_holds d Ends ends sp p k t (listed_alone d.world sp t) stop (effect_ends sp k t) refl
      final_ends p k (try t hang h) o =
          attempt_holds d Ends ends sp p k t (listed hang) (block_plain d sp (k + 2) (k + 5) h) (effect_ends sp k t) (block_ends (k + 2) (k + 5) h o.1)
      final_ends p k (if_else hang e a b) o =
          select_holds d Ends ends p k e (listed hang) (block_plain d sp (k + 1) (k + 2) a) (block_plain d sp (k + 1) (k + 2 + wires_block a) b)
          (block_ends (k + 1) (k + 2) a o.0) (block_ends (k + 1) (k + 2 + wires_block a) b o.1)
      final_ends p k (try_then t hang a b) o =
          attempt_then_holds d Ends ends sp p k t (listed hang) (block_plain d sp (k + 2) (k + 5) a) (block_plain d sp (k + 2) (k + 5 + wires_block a) b)
          (follow_ends (effect_of d sp k t) (block_plain d sp (k + 2) (k + 5) a) (effect_stays sp k t o.0) (block_ends (k + 2) (k + 5) a o.1))
          (block_ends (k + 2) (k + 5 + wires_block a) b o.2)
      final_ends p k (case_of hang e arms) o =
          pick_holds d Ends ends p k e (listed hang) arms (arms_plain d sp (k + 1) (k + 4) arms) (arms_end (k + 1) (k + 4) arms o)

      arms_end : (p k : ℕ) (arms : Arms) → ClosingArms arms → AllByRecursion Ends (arms_plain d sp p k arms)
      arms_end p k (last_arm b) o = (block_ends p k b o, tt)
      arms_end p k (and_arm constants b arms) o = (block_ends p k b o.0, arms_end p (k + wires_block b) arms o.1)

      pub block_ends : (p k : ℕ) (b : Block) → Closes b → Ends (block_plain d sp p k b)
      block_ends p k end_block o = absurd o
      block_ends p k (command_then c end_block) o =
          ap ends_in_transfers (follow_stop (command_plain d sp p k c)) ∙ final_ends p k c o
      block_ends p k (command_then c (command_then e es)) o =
          follow_ends (command_plain d sp p k c) (block_plain d sp p (k + wires c) (command_then e es)) (command_stays p k c o.0)
          (block_ends p (k + wires c) (command_then e es) o.1)
