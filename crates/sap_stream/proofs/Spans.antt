-- Spans and the cycles that they stand for, counted and cut.
use Rattle.std.proofs.Common.{◌≡◌, ℕ, ◌+◌, ◌-◌, ◌<◌, ◌≤◌, List, [], ◌++◌, length, get_or, drop, replicate, sym, ap, ◌∙◌, arith}
use Rattle.std.proofs.lemmas.List.{length-append, length-replicate, get_or-replicate, get_or_append_left, get_or-drop, drop-append-le, drop-replicate, at_drop_more}
use Rattle.sap_meaning.specs.Cycle.{Tagged}
use Rattle.sap_stream.specs.Spans.{Span, cycles_in, cycles_of}

-- the cycles of the spans from the place i on: those of the span there, and those of the spans behind it
pub length_from : (ss : List Span) (i : ℕ) (s : Span) → i < length ss → s ≡ get_or ss i s
    → length (cycles_of (drop i ss)) ≡ s.count + length (cycles_of (drop (i + 1) ss))
length_from ss i s below e =
    ap length (at_drop_more cycles_of ss i s below) ∙ ap (λ (t : Span). length (cycles_in t ++ cycles_of (drop (i + 1) ss))) (sym e)
    ∙ length-append (cycles_in s) (cycles_of (drop (i + 1) ss))
    ∙ ap (λ (n : ℕ). n + length (cycles_of (drop (i + 1) ss))) (length-replicate s.count s.inputs)

-- what is left of as many cycles with the inputs x, n of them being past, and of those behind
pub past : (n m : ℕ) (x : List Tagged) (behind : List (List Tagged)) → n ≤ m → replicate (m - n) x ++ behind ≡ drop n (replicate m x ++ behind)
past n m x behind h =
    ap (λ (xs : List (List Tagged)). xs ++ behind) (sym (drop-replicate n m x)) ∙ sym (drop-append-le n (replicate m x) behind (omega (arith, length-replicate m x)))

-- the next cycles of a stream of which `before` are past: each of the next `left` has the inputs x
pub at_ahead : (xs behind : List (List Tagged)) (before left k : ℕ) (x : List Tagged) → replicate left x ++ behind ≡ drop before xs → k < left → get_or xs (before + k) [] ≡ x
at_ahead xs behind before left k x e below =
    sym (get_or-drop before xs k []) ∙ ap (λ (ys : List (List Tagged)). get_or ys k []) (sym e)
    ∙ get_or_append_left (replicate left x) behind [] k (omega (arith, length-replicate left x)) ∙ get_or-replicate left k x [] below
