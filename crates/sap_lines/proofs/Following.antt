-- Answers, one after another.
use Rattle.sap_lemmas.proofs.Common.{◌≡◌, ℕ, ◌+◌, List, [], ◌∷◌, ◌++◌, length, sym, ap, ap₂, ◌∙◌, subst, append_assoc, length-append, inl, inr, refl, rules, arith, Some, None, append-nil}
use Rattle.sap_stream.proofs.SpansLemmas.{cycles_more}
use Rattle.sap_meaning.specs.Cycle.{Tagged as Given}
use Rattle.sap_stream.specs.Spans.{Span, cycles_in, cycles_of}
use Rattle.sap_desk.specs.Cause.{counted}
use Rattle.sap_stim.specs.declared.field.Field.{Field}
use Rattle.sap_stim.specs.declared.stimulus.Parsed.{Parsed}
use Rattle.sap_stim.specs.Stimulus.{ahead, behind, read_from}
use Rattle.sap_lines.specs.Reader.{to_come}
use Rattle.sap_lines.specs.Follows.{Begins, BeginsSome, Follows, GoesOn, GoesOnSome, Ends, EndsSome, Stops, StopsSome, parsed_as}

pub begins : Begins
begins ls fs bytes r new = record {
  fields = new.fields;
  count = new.count;
  parsed =
      ap₂ (λ (f : List Field) (n : ℕ). read_from ls f (n + 1) (r.pending ++ bytes)) new.fields new.count
      ∙ ap (λ (p : List ℕ). read_from ls fs 1 (p ++ bytes)) new.pending;
}

behind_more : (lines : List Span) (line : Span) (p : Parsed) → behind (cycles_of lines) (ahead line p) ≡ behind (cycles_of (lines ++ line ∷ [])) p
behind_more lines line p =
    ap (λ (xs : List (List Given)). parsed_as xs p.fault)
    (sym (append_assoc (cycles_of lines) (cycles_in line) p.stream) ∙ ap (λ (xs : List (List Given)). xs ++ p.stream) (sym (cycles_more lines line)))

pub goes_on : GoesOn
goes_on ls fs bytes lines r later rest rest_later follows small fields count tells = record {
  fields = fields ∙ follows.fields;
  count =
      let before = follows.count in
      let one : length (lines ++ later.line ∷ []) ≡ length lines + 1 = length-append lines (later.line ∷ []) in
      let next : counted r.count ≡ r.count + 1 = omega arith in
      count ∙ next ∙ omega arith;
  parsed = sym (behind_more lines later.line (to_come ls later rest_later)) ∙ ap (behind (cycles_of lines)) (sym tells) ∙ follows.parsed;
}

pub ends : Ends
ends ls fs bytes lines r rest line after follows tells =
    sym follows.parsed ∙ ap (behind (cycles_of lines)) tells ∙ ap (λ (xs : List (List Given)). parsed_as xs None) (append-nil (cycles_of lines))

pub stops : Stops
stops ls fs bytes lines r rest line after fault follows tells =
    sym follows.parsed ∙ ap (behind (cycles_of lines)) tells ∙ ap (λ (xs : List (List Given)). parsed_as xs (Some fault)) (append-nil (cycles_of lines))

-- of some bytes

pub begins_some : BeginsSome
begins_some ls fs r new = ([], λ rest. begins ls fs rest r new)

pub goes_on_some : GoesOnSome
goes_on_some ls fs lines r later (bytes, follows) small fields count (more, tells) = (
  bytes ++ more,
  λ rest.
      subst (λ (all : List ℕ). Follows ls fs all (lines ++ later.line ∷ []) later rest) (sym (append_assoc bytes more rest))
      (goes_on ls fs (bytes ++ (more ++ rest)) lines r later (more ++ rest) rest (follows (more ++ rest)) small fields count (tells rest (inl (search rules)))),
)

pub ends_some : EndsSome
ends_some ls fs lines r later (bytes, follows) (more, tells) =
    (bytes ++ (more ++ []), ends ls fs (bytes ++ (more ++ [])) lines r (more ++ []) later.line (to_come ls later []) (follows (more ++ [])) (tells [] (inr refl)))

pub stops_some : StopsSome
stops_some ls fs lines r later fault (bytes, follows) (more, tells) =
    (bytes ++ (more ++ []), stops ls fs (bytes ++ (more ++ [])) lines r (more ++ []) later.line (to_come ls later []) fault (follows (more ++ [])) (tells [] (inr refl)))
