use Rattle.std.proofs.Common.{◌≡◌, drop}
use Rattle.sap_names.specs.Best.{best_of}
use Rattle.sap_shape.specs.Lists.{closing_arms}
use Rattle.sap_shape.proofs.closing.+closing.Given as goal

-- what is left gives the first of all
abbrev pub invariant-closing_arms-loop-arm : goal.invariant-closing_arms-loop-arm
invariant-closing_arms-loop-arm l = best_of l.best (closing_arms (drop l.arm-index l.arms)) ≡ best_of l.initial.best (closing_arms l.arms)
