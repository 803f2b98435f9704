-- Forms that can come one after another, as text.
use Rattle.std.proofs.Common.{◌≡◌, List, [], ◌∷◌, ◌++◌, map, refl, sym, ap, ◌∙◌, subst}
use Rattle.sap_text.specs.Lines.{Line, lines_of}
use Rattle.sap_wave.specs.Prelude.{Form, text_of, IsLine, State, Takes, after, Reads}
use Rattle.sap_wave.proofs.Formed.{IsPlain}
use Rattle.sap_wave.proofs.Lined.{ended_line, lines_more, lines_none}

-- from one state to another by these forms
abbrev pub Goes : State → List Form → State → Type 0
Goes s [] t = s ≡ t
Goes s (f ∷ fs) t = IsPlain f × Takes s f × Goes (after s f) fs t

pub goes_from : (s s' t : State) (fs : List Form) → s ≡ s' → Goes s' fs t → Goes s fs t
goes_from s s' t fs e g = subst (λ (z : State). Goes z fs t) (sym e) g

pub goes_on : (s t u : State) (fs gs : List Form) → Goes s fs t → Goes t gs u → Goes s (fs ++ gs) u
goes_on s t u [] gs a b = subst (λ (z : State). Goes z gs u) (sym a) b
goes_on s t u (f ∷ fs) gs a b = (a.0, a.1, goes_on (after s f) t u fs gs a.2 b)

goes_reads : (s t : State) (fs : List Form) → Goes s fs t → Reads s (map ended_line fs) t
goes_reads s t [] a = a
goes_reads s t (f ∷ fs) a =
    let is : IsLine (ended_line f) f = record { ended = refl; text = refl; formed = a.0.formed } in
    (f, is, a.1, goes_reads (after s f) t fs a.2)

goes_lines : (s t : State) (fs : List Form) → Goes s fs t → lines_of (text_of fs) ≡ map ended_line fs
goes_lines s t [] a = lines_none
goes_lines s t (f ∷ fs) a = lines_more f (text_of fs) a.0.in_line ∙ ap (λ ls. ended_line f ∷ ls) (goes_lines (after s f) t fs a.2)

pub goes_text : (s t : State) (fs : List Form) → Goes s fs t → Reads s (lines_of (text_of fs)) t
goes_text s t fs a = subst (λ (ls : List Line). Reads s ls t) (sym (goes_lines s t fs a)) (goes_reads s t fs a)
