-- Bytes taken away at the front.
use Rattle.sap_lemmas.proofs.Common.{◌≡◌, ℕ, ◌+◌, ◌-◌, ◌≤◌, List, length, take, drop, sym, ap, ◌∙◌, length-drop, arith, take_all, drop-drop}
use Rattle.std.proofs.Math.Seq.{paste}
use Rattle.std.proofs.lemmas.List.Edits.{take-paste}

-- those behind a place, moved to the front, and the others cut off
pub shifted : (xs now : List ℕ) (start n : ℕ) → start ≤ length xs → n ≡ length xs - start → now ≡ take n (paste xs 0 (drop start xs) n) → now ≡ drop start xs
shifted xs now start n within size is =
    let left : length (drop start xs) ≡ length xs - start = length-drop start xs in
    let sum : n ≡ 0 + n = omega arith in
    is
    ∙ ap (λ (k : ℕ). take k (paste xs 0 (drop start xs) n)) sum
    ∙ take-paste xs 0 (drop start xs) n (omega arith) (omega arith)
    ∙ take_all n (drop start xs) (omega arith)

pub skipped : (xs : List ℕ) (start count : ℕ) → drop (start + count) xs ≡ drop count (drop start xs)
skipped xs start count = sym (drop-drop count start xs)
