use Rattle.sap_lemmas.proofs.Common.{◌≡◌, ◌∷◌, map, range_with_len}
use Rattle.sap_gen.specs.Design.{declared_input, declared_register}
use Rattle.sap_gen.proofs.design.declarations.Given as goal

abbrev pub invariant-loop-register : goal.invariant-loop-register
invariant-loop-register l = l.declarations.items ≡ declared_input ∷ map declared_register (range_with_len 0 l.register)
