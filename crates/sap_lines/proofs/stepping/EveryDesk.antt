-- What the answers of a reader tell on every desk.
use Rattle.sap_lemmas.proofs.Common.{◌≡◌, ◌<◌, List, [], ◌∷◌, ◌++◌, sym, ap, subst, ◌^◌, Some, None}
use Rattle.sap_lattice.specs.Levels.{Levels}
use Rattle.sap_stream.specs.Spans.{Span}
use Rattle.sap_stim.specs.declared.fault.StimFault.{StimFault}
use Rattle.sap_stim.specs.declared.field.Field.{Field}
use Rattle.sap_stim.specs.declared.stimulus.Parsed.{Parsed}
use Rattle.sap_lines.specs.declared.next.Next.{Next}
use Rattle.sap_lines.specs.declared.next.Next.TheVariants.{Line, End, Fault}
use Rattle.sap_lines.specs.Answers.{TellsSome, count_after}
use Rattle.sap_lines.specs.Follows.{EndsSome, FollowsSome, GoesOnSome, StopsSome}
use Rattle.sap_lines.specs.Reader.{Reader}
use Rattle.sap_lines.specs.Stepping.Followed.{IsFaultOfSome}

-- a reader gave some lines of some bytes
abbrev pub Gave : Levels → List Field → Reader → Type 0
Gave ls fs r = (lines : List Span) × FollowsSome ls fs lines r

module _ (ls other : Levels) (fs : List Field) (r s : Reader) (same : other ≡ ls) where
  tells_so : (next : Next) → TellsSome other next r s → TellsSome ls next r s
  tells_so next tells = subst (λ (k : Levels). TellsSome k next r s) same tells

  pub gave_more : GoesOnSome → r.count < 2 ^ 32 → s.fields ≡ r.fields → s.count ≡ count_after Line r.count → TellsSome other Line r s → Gave ls fs r → Gave ls fs s
  gave_more law few fields counts tells (lines, so) = (lines ++ s.line ∷ [], law ls fs lines r s so few fields counts (tells_so Line tells))

  pub none_of_some : EndsSome → TellsSome other End r s → Gave ls fs r → IsFaultOfSome ls fs None
  none_of_some law tells (lines, so) =
      let (bytes, is) = law ls fs lines r s so (tells_so End tells) in
      (bytes, sym (ap (λ (p : Parsed). p.fault) is))

  pub fault_of_some : (fault : StimFault) → StopsSome → TellsSome other (Fault fault) r s → Gave ls fs r → IsFaultOfSome ls fs (Some fault)
  fault_of_some fault law tells (lines, so) =
      let (bytes, is) = law ls fs lines r s fault so (tells_so (Fault fault) tells) in
      (bytes, sym (ap (λ (p : Parsed). p.fault) is))
