use Rattle.std.proofs.Common.{◌≡◌, false, take}
use Rattle.std.specs.Prelude.{bytes_eq}
use Rattle.std.specs.List.{list_any}
use Rattle.sap_help.proofs.text.text_of.Given as goal

-- none of those before is the code
abbrev pub invariant-loop-known : goal.invariant-loop-known
invariant-loop-known l = list_any (λ f. bytes_eq l.code f.0.now) (take l.known-index l.faults) ≡ false
