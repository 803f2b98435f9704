-- Bytes that wait, and what is written of them where a write fails.
use Rattle.sap_lemmas.proofs.Common.{◌≡◌, ℕ, ◌+◌, List, [], ◌++◌, length, take, sym, ◌∙◌, ap, subst, inl, inr, arith, length-append, codes, Option, option_map, take-append-add}
use Rattle.sap_desk.specs.Desk.{Told, added, blamed}
use Rattle.sap_desk.specs.Whole.{CutOutput}
use Rattle.sap_desk.proofs.Steps.{added-twice, option_map-id, option_map-same, option_map-twice}
use Rattle.sap_lines.proofs.stepping.Going.{added_none}
use Rattle.sap_pieces.specs.Written.{PartWritten, Writes}

-- what was written, where nothing is told of none
pub written_is : (part : List ℕ) (before after : Option Told) → Writes 1 part before after → after ≡ option_map (added 1 part) before
written_is part before after (inr told) = told
written_is part before after (inl (none, same)) = same ∙ option_map-id (added 1 part) before (λ t. added_none part t none)

-- the first of the bytes were written, and of what was left a part
module _ (a b : List ℕ) where
  abbrev cut_at : List ℕ → Told → Told
  cut_at part t = blamed (codes "output") (added 1 part t)

  pub cut_then : (before mid after : Option Told) → PartWritten 1 a b before mid → CutOutput b mid after → CutOutput a before after
  cut_then before mid after one failed = record {
    count = length one.part + failed.count;
    within = omega (arith, failed.within, ap length one.whole, length-append one.part b);
    told =
        failed.told
        ∙ ap (option_map (cut_at (take failed.count b))) (written_is one.part before mid one.told)
        ∙ option_map-twice (cut_at (take failed.count b)) (added 1 one.part) before
        ∙ option_map-same _ _ before (λ t. ap (blamed (codes "output")) (added-twice 1 one.part (take failed.count b) t))
        ∙ ap (λ (l : List ℕ). option_map (cut_at l) before)
        (sym (take-append-add one.part b failed.count) ∙ ap (take (length one.part + failed.count)) one.whole);
  }

-- where nothing is left of them, the text alone
pub text_cut : (b text : List ℕ) → b ≡ [] → (mid after : Option Told) → CutOutput text mid after → CutOutput (b ++ text) mid after
text_cut b text none mid after failed = subst (λ (l : List ℕ). CutOutput l mid after) (ap (λ (l : List ℕ). l ++ text) (sym none)) failed
