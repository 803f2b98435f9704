-- What a line on channel 2 leaves, and what a text leaves on channel 1 that was cut off.
use Rattle.std.proofs.Common.{◌≡◌, ◌≤◌, ◌∙◌, ℕ, List, take, length, refl, ap, subst, sym}
use Rattle.std.specs.Prelude.{Option, Some, None, IsSomeAnd, codes, Result, Ok, Err, OnOk, OnErr, option_map}
use Rattle.sap_desk.specs.Desk.{Told, added, blamed}
use Rattle.sap_desk.specs.Whole.{Between, CutOutput, CutLine}
use Rattle.sap_help.specs.Questions.{Asked, IsAnswer, IsCutOff, Untouched}

quiet_added : (line : List ℕ) (before after : Option Told) → after ≡ option_map (added 2 line) before → Between before after Untouched
quiet_added line None after e = tt
quiet_added line (Some t) after e = subst (λ (o : Option Told). IsSomeAnd o (λ n. Untouched t n)) (sym e) (record { files = refl; uses = refl; blame = refl; output = refl })

pub quiet_line : {E : Type 0} (r : Result (Unit {0}) E) (line : List ℕ) (before after : Option Told)
    → OnOk r (after ≡ option_map (added 2 line) before) → OnErr r (CutLine line before after)
    → Between before after Untouched
quiet_line (Ok u) line before after told cut = quiet_added line before after told
quiet_line (Err e) line before after told cut = quiet_added (take cut.count line) before after cut.told

-- what was cut off in writing, and then left alone
cut_then : (asked : Asked) (text : List ℕ) (t m : Told) (after : Option Told) → IsAnswer asked text → (count : ℕ) → count ≤ length text
    → m ≡ blamed (codes "output") (added 1 (take count text) t) → IsSomeAnd after (λ n. Untouched m n) → IsSomeAnd after (λ n. IsCutOff asked t n)
cut_then asked text t m None is count within e h = h
cut_then asked text t m (Some n) is count within e h = record {
  text = text;
  is_answer = is;
  files = h.files ∙ ap (λ (x : Told). x.files) e;
  uses = h.uses ∙ ap (λ (x : Told). x.uses) e;
  blame = h.blame ∙ ap (λ (x : Told). x.blame) e;
  count = count;
  within = within;
  output = h.output ∙ ap (λ (x : Told). x.written 1) e;
}

pub cut_off : (asked : Asked) (text : List ℕ) (before middle after : Option Told) → IsAnswer asked text → CutOutput text before middle
    → Between middle after Untouched → Between before after (IsCutOff asked)
cut_off asked text None middle after is cut quiet = tt
cut_off asked text (Some t) middle after is cut quiet =
    cut_then asked text t (blamed (codes "output") (added 1 (take cut.count text) t)) after is cut.count cut.within refl
    (subst (λ (o : Option Told). Between o after Untouched) cut.told quiet)
