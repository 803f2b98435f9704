-- What expressions, assignments and writes are seen as.
use Rattle.std.specs.Prelude.{List, [], ◌∷◌, map}
use Rattle.sap_maps.specs.Maps.{Name}
use Rattle.sap_maps.specs.Term.{Term, constant, read, cell, one, two, choose, join, part}
use Rattle.sap_ir.specs.declared.guarded.Calc.{Calc, Row_of-Calc, end_of-Calc, more_of-Calc}
use Rattle.sap_ir.specs.declared.guarded.Calc.TheVariants as calc
use Rattle.sap_ir.specs.declared.guarded.Act.{Act}
use Rattle.sap_ir.specs.declared.guarded.Act.TheVariants as act
use Rattle.sap_ir.specs.declared.guarded.GuardedCmd.{GuardedCmd}
use Rattle.sap_ir.specs.Source.{Action, set, put, Command}

-- A term in front of others.
abbrev pub joined_behind : Term Name → List (Term Name) → Term Name
joined_behind t [] = t
joined_behind t (u ∷ us) = join t (joined_behind u us)

-- Terms one behind another, the foremost first; of none a number without width.
abbrev pub joined_terms : List (Term Name) → Term Name
joined_terms [] = constant 0 0
joined_terms (t ∷ ts) = joined_behind t ts

-- The term that a calculation stands for.
abbrev mutual
  pub term_of : Calc → Term Name
  term_of (calc.Constant w n) = constant w n
  term_of (calc.Read x) = read x
  term_of (calc.Cell' m p i) = cell m (term_of i)
  term_of (calc.One' op p a) = one op (term_of a)
  term_of (calc.Two' op p a q b) = two op (term_of a) (term_of b)
  term_of (calc.Choose' p c q a r b) = choose (term_of c) (term_of a) (term_of b)
  term_of (calc.Concat' shape row) = joined_terms (row_terms row)
  term_of (calc.Slice' p a hi lo) = part (term_of a) hi lo

  pub row_terms : {m : _} → Row_of-Calc m → List (Term Name)
  row_terms end_of-Calc = []
  row_terms (more_of-Calc a rest) = term_of a ∷ row_terms rest

-- The action that a stored action stands for.
abbrev pub action_of : Act → Action
action_of (act.Set x a) = set x (term_of a)
action_of (act.Put m i a) = put m (term_of i) (term_of a)

-- The guarded command that a stored one stands for.
abbrev pub command_of : GuardedCmd → Command
command_of c = record { when = term_of c.when; act = action_of c.act }

-- The guarded commands that stored ones stand for.
abbrev pub commands_of : List GuardedCmd → List Command
commands_of cs = map command_of cs
