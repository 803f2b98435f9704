-- The steps of runs.
use Rattle.std.specs.Prelude.{ℕ, List, [], ◌∷◌, ◌++◌, map}
use Rattle.sap_bits.specs.declared.Op2.{Op2}
use Rattle.sap_bits.specs.declared.Op2.TheVariants.{Add, Sub, And, Or, Xor, Eq, Ne, Lt}
use Rattle.sap_cycle.specs.declared.steps.Slot.TheVariants.{At, Number}
use Rattle.sap_cycle.specs.declared.steps.Step.{Step}
use Rattle.sap_cycle.specs.declared.steps.Step.TheVariants.{Copy, Two, Choose, Pair, Slice}
use Rattle.sap_cycle.specs.declared.operands.Operands.{Operands}
use Rattle.sap_cycle.specs.declared.operands.Operator.{Operator}
use Rattle.sap_cycle.specs.declared.operands.Operator.TheVariants as operator
use Rattle.sap_cycle.specs.declared.runs.Run.{Run}
use Rattle.sap_cycle.specs.declared.runs.Run.TheVariants.{Alike, Other}
use Rattle.sap_cycle.specs.Instructions.{placed_step}

-- The step of an operator and its operands.
abbrev pub step_of_operands : Operator → Operands → Step
step_of_operands operator.Number o = Copy (Number o.a)
step_of_operands operator.Add o = Two Add o.c (At o.a) (At o.b)
step_of_operands operator.Sub o = Two Sub o.c (At o.a) (At o.b)
step_of_operands operator.And o = Two And o.c (At o.a) (At o.b)
step_of_operands operator.Or o = Two Or o.c (At o.a) (At o.b)
step_of_operands operator.Xor o = Two Xor o.c (At o.a) (At o.b)
step_of_operands operator.Eq o = Two Eq o.c (At o.a) (At o.b)
step_of_operands operator.Ne o = Two Ne o.c (At o.a) (At o.b)
step_of_operands operator.Lt o = Two Lt o.c (At o.a) (At o.b)
step_of_operands operator.EqNumber o = Two Eq o.c (At o.a) (Number o.b)
step_of_operands operator.Choose o = Choose (At o.c) (At o.a) (At o.b)
step_of_operands operator.Pair o = Pair o.c (At o.a) (At o.b)
step_of_operands operator.Slice o = Slice (At o.a) o.b o.c

-- A step of an operator on the numbers at two places.
abbrev pub two_step : Op2 → Operands → ℕ × Step
two_step op o = (o.target, Two op o.c (At o.a) (At o.b))

-- The place of a step's number, and the step.
abbrev pub operands_step : Operator → Operands → ℕ × Step
operands_step op o = (o.target, step_of_operands op o)

-- The steps of a run of equal operators, each with its place.
abbrev pub run_steps : (others : List Step) → Run → List (ℕ × Step)
run_steps others (Alike op steps) = map (operands_step op) steps.items
run_steps others (Other steps) = map (placed_step others) steps.items

-- The steps of all runs, one after another.
abbrev pub steps_of_runs : (others : List Step) → List Run → List (ℕ × Step)
steps_of_runs others [] = []
steps_of_runs others (r ∷ rs) = run_steps others r ++ steps_of_runs others rs
