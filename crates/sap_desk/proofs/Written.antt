-- What a write took that failed.
use Rattle.sap_lemmas.proofs.Common.{◌≡◌, ℕ, ◌+◌, ◌-◌, ◌<◌, ◌≤◌, ◌⊎◌, true, false, cond, List, ◌++◌, length, take, min, refl, ◌∙◌, ap, arith, inl, inr, length-append, length-take, take-take, eqb, codes, Some, take_all}
use Rattle.sap_desk.specs.Desk.{Told, Use, closed, reads, writes, stream, IsWriting, added, blamed, blame_at, name_if_writing}
use Rattle.sap_desk.specs.Cause.{Took, FailsToWrite}
use Rattle.sap_desk.specs.MemoryCalls.{fitting, fitting_use}
use Rattle.sap_desk.proofs.Steps.{at_number-same}
use Rattle.sap_desk.proofs.Added.{fitting_whole}

fits_count : (u : Use) (count : ℕ) → fitting_use u count ≤ count
fits_count closed count = omega arith
fits_count (reads name asked position) count = omega arith
fits_count (writes name) count = omega arith
fits_count stream count = omega arith

-- a channel takes no more than is wanted
pub fitting_within : (t : Told) (channel count : ℕ) → fitting t channel count ≤ count
fitting_within t channel count = omega (arith, fits_count (t.uses channel) (min count (t.room - length (t.written channel))))

fits_none : (u : Use) (count : ℕ) → (¬ IsWriting u) → fitting_use u count ≡ 0
fits_none closed count shut = refl
fits_none (reads name asked position) count shut = refl
fits_none (writes name) count shut = absurd (shut tt)
fits_none stream count shut = absurd (shut tt)

-- what fits of a part that was cut off in front
pub fitting_part : (t : Told) (channel count : ℕ) (piece : List ℕ) → count ≤ length piece
    → take (fitting t channel (length (take count piece))) (take count piece) ≡ take (fitting t channel count) piece
fitting_part t channel count piece short =
    let size : length (take count piece) ≡ count = length-take count piece ∙ omega arith in
    rw size (take-take (fitting t channel count) count piece (fitting_within t channel count))

pub took : (t n : Told) (channel wanted : ℕ) (piece : List ℕ) → wanted ≤ length piece
    → n ≡ blame_at channel (name_if_writing (t.uses channel)) (added channel (take (fitting t channel wanted) piece) t)
    → Took channel piece (Some t) (Some n)
took t n channel wanted piece short is = record {
  count = fitting t channel wanted;
  within = omega (arith, fitting_within t channel wanted);
  told = ap Some is;
  closed_takes_none = λ shut. fits_none (t.uses channel) (min wanted (t.room - length (t.written channel))) shut;
}

-- a piece that fits is taken whole
pub fitting_all : (t : Told) (channel : ℕ) (piece : List ℕ) → IsWriting (t.uses channel)
    → length (t.written channel) + length piece ≤ t.room → take (fitting t channel (length piece)) piece ≡ piece
fitting_all t channel piece open_for fits =
    let fit : fitting t channel (length piece) ≡ min (length piece) (t.room - length (t.written channel)) =
    fitting_whole (t.uses channel) (min (length piece) (t.room - length (t.written channel))) open_for in
    take_all (fitting t channel (length piece)) piece (omega (arith, fit))

writing_or : (u : Use) → IsWriting u ⊎ (¬ IsWriting u)
writing_or closed = inr (λ w. w)
writing_or (reads name asked position) = inr (λ w. w)
writing_or (writes name) = inl tt
writing_or stream = inl tt

blame_writes : (channel : ℕ) (name : List ℕ) (t : Told) → (blame_at channel name t).written ≡ t.written
blame_writes channel name t = elim (eqb channel 2) as (λ b. (cond b t (blamed (cond (eqb channel 1) (codes "output") name) t)).written ≡ t.written) [ true ↦ refl | false ↦ refl ]

fills : (t n : Told) (channel : ℕ) (piece name : List ℕ) → IsWriting (t.uses channel) → length (t.written channel) ≤ t.room → t.room < length (t.written channel) + length piece
    → n ≡ blame_at channel name (added channel (take (fitting t channel (length piece)) piece) t) → length (n.written channel) ≡ t.room
fills t n channel piece name open_for within beyond is =
    let written : n.written channel ≡ t.written channel ++ take (fitting t channel (length piece)) piece
    = ap (λ (m : Told). m.written channel) is ∙ ap (λ (w : ℕ → List ℕ). w channel) (blame_writes channel name (added channel (take (fitting t channel (length piece)) piece) t))
    ∙ at_number-same channel (t.written channel ++ take (fitting t channel (length piece)) piece) t.written in
    let fit : fitting t channel (length piece) ≡ min (length piece) (t.room - length (t.written channel)) =
    fitting_whole (t.uses channel) (min (length piece) (t.room - length (t.written channel))) open_for in
    ap length written ∙ length-append (t.written channel) (take (fitting t channel (length piece)) piece)
    ∙ omega (arith, length-take (fitting t channel (length piece)) piece, fit)

-- a write that was to take all failed
pub fails_to_write : (t n : Told) (channel : ℕ) (piece name : List ℕ) → length (t.written channel) ≤ t.room
    → (¬ IsWriting (t.uses channel)) ⊎ (t.room < length (t.written channel) + length piece)
    → n ≡ blame_at channel name (added channel (take (fitting t channel (length piece)) piece) t)
    → FailsToWrite channel piece t (Some n)
fails_to_write t n channel piece name within (inl shut) is = record { why = inl shut }
fails_to_write t n channel piece name within (inr beyond) is = elim (writing_or (t.uses channel)) [
  | inl open_for ↦ record { why = inr (record { beyond = beyond; full = fills t n channel piece name open_for within beyond is }) }
  | inr shut ↦ record { why = inl shut }
]
