-- A line in parts: what one more part makes of what was written before it.
use Rattle.sap_lemmas.proofs.Common.{◌≡◌, ℕ, ◌+◌, ◌<◌, ◌≤◌, List, [], ◌∷◌, ◌++◌, length, take, drop, append_assoc, refl, sym, ◌∙◌, ap, subst, arith, inl, inr, length-append, Option, Some, None, option_map, IfSome, Bor, take-append-add, take-append-le, take-append-drop, append-nil, flat_map-append}
use Rattle.sap_desk.specs.Desk.{Told, added, IsWriting}
use Rattle.sap_desk.specs.Cause.{Took, FillsRoom, FailsToWrite}
use Rattle.sap_desk.specs.Whole.{CutLine, joined}
use Rattle.sap_desk.proofs.Steps.{added-twice, option_map-twice, option_map-same}

-- a part of a piece is a part of the line that it stands in
take_in : (k : ℕ) (before piece after : List ℕ) → k ≤ length piece → before ++ take k piece ≡ take (length before + k) (before ++ (piece ++ after))
take_in k before piece after h = rw (take-append-add before (piece ++ after) k, take-append-le k piece after h) refl

-- the line, of which the pieces before one are written, was cut in that one
pub cut_in : (before piece after line : List ℕ) (old mid new : Option Told)
    → line ≡ before ++ (piece ++ after)
    → mid ≡ option_map (added 2 before) old
    → Took 2 piece mid new
    → CutLine line old new
cut_in before piece after line old mid new is written took = record {
  count = length before + took.count;
  within = let _size : length line ≡ length before + (length piece + length after) = ap length is ∙ length-append before (piece ++ after)
      ∙ ap (λ (n : ℕ). length before + n) (length-append piece after) in
      let _part : took.count ≤ length piece = took.within in omega arith;
  told = rw is (took.told ∙ ap (option_map (added 2 (take took.count piece))) written
      ∙ option_map-twice (added 2 (take took.count piece)) (added 2 before) old
      ∙ option_map-same _ _ old (added-twice 2 before (take took.count piece))
      ∙ ap (λ (l : List ℕ). option_map (added 2 l) old) (take_in took.count before piece after took.within));
}

fills_one : (before piece after line : List ℕ) (t : Told) (new : Option Told)
    → line ≡ before ++ (piece ++ after)
    → FailsToWrite 2 piece (added 2 before t) new
    → IsWriting (t.uses 2) → FillsRoom 2 line t new
fills_one before piece after line t new is fails writing = elim fails.why [
  | inl closed_now ↦ absurd (closed_now writing)
  | inr fills ↦ record {
    beyond =
        let _size : length line ≡ length before + (length piece + length after) = ap length is ∙ length-append before (piece ++ after)
        ∙ ap (λ (n : ℕ). length before + n) (length-append piece after) in
        let _held : length (t.written 2 ++ before) ≡ length (t.written 2) + length before = length-append (t.written 2) before in
        let _more : t.room < length (t.written 2 ++ before) + length piece = fills.beyond in
        omega arith;
    full = fills.full;
  }
]

-- a piece that goes beyond the room is a line that does
pub fills_in : (before piece after line : List ℕ) (old mid new : Option Told)
    → line ≡ before ++ (piece ++ after)
    → mid ≡ option_map (added 2 before) old
    → IfSome mid (λ t. FailsToWrite 2 piece t new)
    → IfSome old (λ t. IsWriting (t.uses 2) → FillsRoom 2 line t new)
fills_in before piece after line None mid new is written fails = tt
fills_in before piece after line (Some t) mid new is written fails =
    let P : Option Told → Type 0 = λ o. IfSome o (λ t. FailsToWrite 2 piece t new) in
    fills_one before piece after line t new is (subst P written fails)

-- the line at one of its parts
pub joined_at : (parts : List (Bor (List ℕ))) (i : ℕ) (part : Bor (List ℕ)) → take (i + 1) parts ≡ take i parts ++ part ∷ []
    → joined parts ≡ joined (take i parts) ++ (part.now ++ joined (drop (i + 1) parts))
joined_at parts i part more =
    ap joined (sym (take-append-drop (i + 1) parts) ∙ ap (λ (l : List (Bor (List ℕ))). l ++ drop (i + 1) parts) more)
    ∙ flat_map-append (λ part. part.now) (take i parts ++ part ∷ []) (drop (i + 1) parts)
    ∙ ap (λ (l : List ℕ). l ++ joined (drop (i + 1) parts)) (flat_map-append (λ part. part.now) (take i parts) (part ∷ []))
    ∙ rw (append-nil part.now) (append_assoc (joined (take i parts)) part.now (joined (drop (i + 1) parts)))
