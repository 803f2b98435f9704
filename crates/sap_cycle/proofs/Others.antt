-- The list of the steps that have no instruction of their own, as it grows.
use Rattle.sap_lemmas.proofs.Common.{◌≡◌, ◌≤◌, ℕ, List, [], ◌∷◌, ◌++◌, map, length, refl, ap, ap₂, sym, ◌∙◌, arith, length-append, AllByRecursion, map-append, get_or_append_left, all_append, all_follow}
use Rattle.std.proofs.Math.Seq.{get_or-append_seam}
use Rattle.std.proofs.lemmas.Option.{unwrap_or-slice_get}
use Rattle.sap_cycle.specs.declared.steps.Slot.TheVariants.{Number}
use Rattle.sap_cycle.specs.declared.steps.Step.{Step}
use Rattle.sap_cycle.specs.declared.steps.Step.TheVariants.{Copy}
use Rattle.sap_cycle.specs.declared.instructions.Instruction.{Instruction}
use Rattle.sap_cycle.specs.declared.instructions.Instruction.TheVariants as instruction
use Rattle.sap_cycle.specs.Instructions.{step_of_instruction, step_at, IsWithin}

same_step : (others more : List Step) (i : Instruction) → IsWithin (length others) i → step_of_instruction (others ++ more) i ≡ step_of_instruction others i
same_step others more (instruction.Other k) lt =
    unwrap_or-slice_get (others ++ more) k (Copy (Number 0)) ∙ get_or_append_left others more (Copy (Number 0)) k lt
    ∙ sym (unwrap_or-slice_get others k (Copy (Number 0)))
same_step others more _ lt = refl

same_steps : (others more : List Step) (is : List Instruction) → AllByRecursion (IsWithin (length others)) is
    → map (step_of_instruction (others ++ more)) is ≡ map (step_of_instruction others) is
same_steps others more [] h = refl
same_steps others more (i ∷ is) h = ap₂ (λ (s : Step) (ss : List Step). s ∷ ss) (same_step others more i h.0) (same_steps others more is h.1)

pub within_more : (m n : ℕ) (i : Instruction) → m ≤ n → IsWithin m i → IsWithin n i
within_more m n (instruction.Other k) le h = omega (arith, le, h)
within_more m n _ le h = tt

-- one more instruction
pub steps_more : (others new more : List Step) (is : List Instruction) (i : Instruction) (s : Step) → new ≡ others ++ more → AllByRecursion (IsWithin (length others)) is
    → step_of_instruction new i ≡ s → map (step_of_instruction new) (is ++ i ∷ []) ≡ map (step_of_instruction others) is ++ s ∷ []
steps_more others new more is i s e within stands =
    map-append (step_of_instruction new) is (i ∷ [])
    ∙ ap₂ (λ (l : List Step) (x : Step). l ++ x ∷ []) (ap (λ (l : List Step). map (step_of_instruction l) is) e ∙ same_steps others more is within) stands

pub within_pushed : (others new more : List Step) (is : List Instruction) (i : Instruction) → new ≡ others ++ more → AllByRecursion (IsWithin (length others)) is
    → IsWithin (length new) i → AllByRecursion (IsWithin (length new)) (is ++ i ∷ [])
within_pushed others new more is i e within h =
    let le : length others ≤ length new = omega (arith, ap length e, length-append others more) in
    all_append (IsWithin (length new)) is (i ∷ [])
    (all_follow (IsWithin (length others)) (IsWithin (length new)) is (λ j. within_more (length others) (length new) j le) within) (h, tt)

-- the step that was put behind the list
pub last_step : (others new : List Step) (s : Step) (k : ℕ) → new ≡ others ++ s ∷ [] → k ≡ length others → step_at new k ≡ s
last_step others new s k e at =
    ap₂ step_at e at
    ∙ unwrap_or-slice_get (others ++ s ∷ []) (length others) (Copy (Number 0))
    ∙ get_or-append_seam others s [] (Copy (Number 0))
