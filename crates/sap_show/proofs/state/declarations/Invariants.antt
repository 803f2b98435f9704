use Rattle.sap_lemmas.proofs.Common.{◌≡◌, ◌++◌, take, flat_map}
use Rattle.sap_show.specs.Canonical.{declaration_text}
use Rattle.sap_show.proofs.state.declarations.Given as goal

abbrev pub invariant-loop-one : goal.invariant-loop-one
invariant-loop-one l = l.out.items ≡ l.initial.out.items ++ flat_map declaration_text (take l.one-index l.list)
