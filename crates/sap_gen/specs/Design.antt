-- The generated design of a number n. It has no text, so all its places are one.
use Rattle.std.specs.Prelude.{ℕ, ◌+◌, ◌%◌, ◌==◌, List, [], ◌∷◌, ◌++◌, None, map, codes, if◌then◌else◌}
use Rattle.std.specs.Fmt.{decimal}
use Rattle.sap_lattice.specs.Levels.{numbers}
use Rattle.sap_tree.specs.Making.{named, numeral, read, enforced, block, states}
use Rattle.sap_tree.specs.Bare.{nowhere, no_spot}
use Rattle.sap_tree.specs.Syntax.{Expression, binary_of, assign, go_to, Command, lone, CommandBlock, StateTree, state_node, no_state, DesignTree}
use Rattle.sap_tree.specs.declared.syntax.BinaryOperator.TheVariants.{Add}
use Rattle.sap_tree.specs.declared.syntax.Decl.{Decl}
use Rattle.sap_tree.specs.declared.syntax.Decl.TheVariants.{Input, Register}
use Rattle.sap_tree.specs.declared.syntax.Kind.{Kind}
use Rattle.sap_tree.specs.declared.syntax.Kind.TheVariants.{Dynamic}
use Rattle.sap_tree.specs.declared.syntax.Numeral.{Numeral}
use Rattle.sap_tree.specs.declared.version.Version.TheVariants.{One}

-- How many registers and states it has.
abbrev pub register_count : ℕ → ℕ
register_count n = 2 + n % 60

-- How many states the design of a number has.
abbrev pub state_count : ℕ → ℕ
state_count n = 1 + n % 31

-- The name of the input, `d`.
abbrev pub input_name : List ℕ
input_name = codes "d"

-- The name of a register, by its number.
abbrev pub register_name : ℕ → List ℕ
register_name i = codes "x" ++ decimal i

-- The name of a state, by its number.
abbrev pub state_name : ℕ → List ℕ
state_name j = codes "S" ++ decimal j

-- The one width.
abbrev pub eight_bits : Numeral
eight_bits = numeral 8

-- The declaration `input d : 8;`.
abbrev pub declared_input : Decl
declared_input = Input nowhere (named input_name) eight_bits

-- `xI` is dynamic where I is even, and else enforced at a.
abbrev pub register_kind : (i : ℕ) → Kind
register_kind i = if i % 2 == 0 then Dynamic nowhere else enforced (codes "a")

-- The declaration `reg xI : 8 KIND;`.
abbrev pub declared_register : (i : ℕ) → Decl
declared_register i = Register nowhere (named (register_name i)) eight_bits (register_kind i) None

-- `xK` + d.
abbrev pub sum : (k : ℕ) → Expression
sum k = binary_of no_spot Add (read (register_name k)) (read input_name)

-- The assignment to register i, of r registers, in state SJ: `xI := xK + d;` with K = (I + J) mod r.
abbrev pub assignment : (r j i : ℕ) → Command
assignment r j i = lone (assign (named (register_name i)) (sum ((i + j) % r)))

-- Of t states, in the state Sj: goto SM; with M = (j + 1) mod t.
abbrev pub transfer : (t j : ℕ) → Command
transfer t j = lone (go_to nowhere (named (state_name ((j + 1) % t))))

-- The body of a state: an assignment to each register and a transfer.
abbrev pub body : (r t j : ℕ) → CommandBlock
body r t j = block (map (assignment r j) (numbers r) ++ transfer t j ∷ [])

-- The state `state SJ enforced low { .. }`, with an assignment to each register and the `goto`.
abbrev pub state : (r t j : ℕ) → StateTree
state r t j = state_node nowhere (named (state_name j)) (enforced (codes "low")) (body r t j) no_state

-- With r registers and t states.
abbrev pub design_of_counts : (r t : ℕ) → DesignTree
design_of_counts r t = record {
  version = One;
  declarations = declared_input ∷ map declared_register (numbers r);
  states = states (map (state r t) (numbers t));
}

-- The design of a number.
unfoldable pub generated_design : (n : ℕ) → DesignTree
generated_design n = design_of_counts (register_count n) (state_count n)
