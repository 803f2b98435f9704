-- On what stands in Spans: what several crates cite.
use Rattle.std.proofs.Common.{List, [], ap, sym, ◌++◌, ◌∙◌, ◌∷◌, ◌≡◌}
use Rattle.std.proofs.lemmas.List.{append-nil, append_assoc}
use Rattle.sap_meaning.specs.Cycle.{Tagged}
use Rattle.sap_stream.specs.Spans.{Span, cycles_in, cycles_of}

pub cycles_more : (ss : List Span) (s : Span) → cycles_of (ss ++ s ∷ []) ≡ cycles_of ss ++ cycles_in s
cycles_more [] s = append-nil (cycles_in s)
cycles_more (t ∷ ss) s = ap (λ (xs : List (List Tagged)). cycles_in t ++ xs) (cycles_more ss s) ∙ sym (append_assoc (cycles_in t) (cycles_of ss) (cycles_in s))
