-- The lines of levels, from a place on.
use Rattle.sap_lemmas.proofs.Common.{◌≡◌, ℕ, suc, ◌+◌, ◌<◌, ◌≤◌, List, [], ◌++◌, length, drop, ap, ◌∙◌, arith, drop-cons, after_part, codes, drop_past}
use Rattle.sap_lattice.specs.Prelude.{name_at, code_of, Levels, order_of}
use Rattle.sap_report.specs.Report.{level_line}
use Rattle.sap_report.proofs.Lists.{at_end}
use Rattle.sap_explain.specs.Explanation.{level_comments}

abbrev line_of : Levels → ℕ → List ℕ
line_of ls n = codes "// " ++ level_line (name_at ls.names n) (code_of (order_of ls) n)

from-drop : (ls : Levels) (n : ℕ) → n < length ls.names
    → level_comments ls n (drop n ls.names) ≡ line_of ls n ++ level_comments ls (n + 1) (drop (n + 1) ls.names)
from-drop ls n h =
    let s : suc n ≡ n + 1 = omega arith in
    ap (λ (l : List (List ℕ)). level_comments ls n l) (drop-cons ls.names n [] h)
    ∙ ap (λ (k : ℕ). line_of ls n ++ level_comments ls (n + 1) (drop k ls.names)) s

pub levels_step : (ls : Levels) (n : ℕ) (old new all : List ℕ) → n < length ls.names → new ≡ old ++ line_of ls n
    → old ++ level_comments ls n (drop n ls.names) ≡ all → new ++ level_comments ls (n + 1) (drop (n + 1) ls.names) ≡ all
levels_step ls n old new all h e i = after_part old new _ _ _ e (from-drop ls n h) ∙ i

pub levels_end : (ls : Levels) (n : ℕ) (new all : List ℕ) → length ls.names ≤ n → new ++ level_comments ls n (drop n ls.names) ≡ all → new ≡ all
levels_end ls n new all h i = at_end new _ all (ap (λ (l : List (List ℕ)). level_comments ls n l) (drop_past ls.names n h)) i
