-- The design of the machine: two users share a pipeline, which the kernel zeroes and retags at each slice. The tree is
-- written out, not read, so all its places are one.
use Rattle.std.specs.Prelude.{ℕ, List, [], ◌∷◌, Some, None, codes}
use Rattle.sap_tree.specs.Making.{named, numeral, number, enforced, block, states}
use Rattle.sap_tree.specs.Making as make
use Rattle.sap_tree.specs.Bare.{nowhere, no_spot}
use Rattle.sap_tree.specs.Syntax.{Expression, cell_at, unary_of, binary_of, slice, level_of, Command, lone, if_else, no_else, with_else, StateTree, state_node, DesignTree}
use Rattle.sap_tree.specs.Syntax as tree
use Rattle.sap_tree.specs.declared.syntax.UnaryOperator.TheVariants.{Not}
use Rattle.sap_tree.specs.declared.syntax.BinaryOperator.TheVariants.{Add, Sub, Eq}
use Rattle.sap_tree.specs.declared.syntax.Decl.{Decl}
use Rattle.sap_tree.specs.declared.syntax.Decl.TheVariants.{Input, Register, Memory}
use Rattle.sap_tree.specs.declared.version.Version.TheVariants.{One}

-- Input NAME : WIDTH; and so on.
abbrev pub input : (name : List ℕ) → (width : ℕ) → Decl
input name u = Input nowhere (named name) (numeral u)

-- A register enforced at a level.
abbrev pub register : (name : List ℕ) → (width : ℕ) → (level : List ℕ) → Decl
register name u l = Register nowhere (named name) (numeral u) (enforced l) None

-- A register enforced at a level, with a start number.
abbrev pub register_from : (name : List ℕ) → (width : ℕ) → (level : List ℕ) → (initial : ℕ) → Decl
register_from name u l x = Register nowhere (named name) (numeral u) (enforced l) (Some (numeral x))

-- A memory enforced at a level.
abbrev pub memory : (name : List ℕ) → (width depth : ℕ) → (level : List ℕ) → Decl
memory name u d l = Memory nowhere (named name) (numeral u) (numeral d) (enforced l)

-- The lowest level's name.
abbrev pub low : List ℕ
low = codes "low"

-- The first user's level's name.
abbrev pub a : List ℕ
a = codes "a"

-- The second user's level's name.
abbrev pub b : List ℕ
b = codes "b"

-- The inputs, registers and memories of the machine.
abbrev pub declarations : List Decl
declarations =
    input (codes "wa") 12 ∷ input (codes "wb") 12
    ∷ register_from (codes "pc") 4 low 1 ∷ register (codes "acc") 8 low ∷ register (codes "ir") 12 low
    ∷ register (codes "cnt") 3 low ∷ register_from (codes "who") 1 low 1 ∷ register (codes "n") 4 low
    ∷ register (codes "apc") 4 a ∷ register (codes "aacc") 8 a ∷ register (codes "bpc") 4 b
    ∷ register (codes "bacc") 8 b
    ∷ memory (codes "pa") 12 16 a ∷ memory (codes "pb") 12 16 b ∷ memory (codes "da") 8 16 a
    ∷ memory (codes "db") 8 16 b ∷ []

-- Expressions.
abbrev pub read : List ℕ → Expression
read name = make.read name

-- A sum.
abbrev pub plus : Expression → Expression → Expression
plus x y = binary_of no_spot Add x y

-- A difference.
abbrev pub minus : Expression → Expression → Expression
minus x y = binary_of no_spot Sub x y

-- A comparison with a number.
abbrev pub is : Expression → ℕ → Expression
is x k = binary_of no_spot Eq x (number k)

-- A cell of a memory.
abbrev pub cell : List ℕ → Expression → Expression
cell m i = cell_at no_spot m i

-- The program counter.
abbrev pub pc : Expression
pc = read (codes "pc")

-- The accumulator.
abbrev pub acc : Expression
acc = read (codes "acc")

-- The instruction.
abbrev pub ir : Expression
ir = read (codes "ir")

-- It is the first user's turn.
abbrev pub turn_of_a : Expression
turn_of_a = is (read (codes "who")) 0

-- Ir[11:8], ir[7:0] and ir[3:0].
abbrev pub op : Expression
op = slice no_spot ir 11 8

-- The operand of the instruction.
abbrev pub byte : Expression
byte = slice no_spot ir 7 0

-- The operand as the place of a cell.
abbrev pub place : Expression
place = slice no_spot ir 3 0

-- An assignment to a register.
abbrev pub set : List ℕ → Expression → Command
set name e = lone (tree.assign (named name) e)

-- A write of a cell.
abbrev pub store : List ℕ → (index value : Expression) → Command
store name i e = lone (tree.write (named name) i e)

-- A retagging by a level.
abbrev pub set_tag : List ℕ → (level : List ℕ) → Command
set_tag name l = lone (tree.set_tag nowhere (named name) (level_of (named l)))

-- A `goto`.
abbrev pub goto : List ℕ → Command
goto name = lone (tree.go_to nowhere (named name))

-- A `fall`.
abbrev pub fall : Command
fall = lone (tree.fall_to_child nowhere)

-- An `if` without an `else`.
abbrev pub when : Expression → List Command → Command
when e cs = if_else nowhere e (block cs) no_else

-- An `if` with an `else`.
abbrev pub if_or : Expression → (then_part else_part : List Command) → Command
if_or e cs ds = if_else nowhere e (block cs) (with_else (block ds))

-- A state enforced at the lowest level.
abbrev pub state : List ℕ → List Command → (children : List StateTree) → StateTree
state name body children = state_node nowhere (named name) (enforced low) (block body) (states children)

-- A word for each user, in each of sixteen cycles.
abbrev pub boot : StateTree
boot = state (codes "Boot") (
    store (codes "pa") (read (codes "n")) (read (codes "wa"))
    ∷ store (codes "pb") (read (codes "n")) (read (codes "wb"))
    ∷ set (codes "n") (plus (read (codes "n")) (number 1))
    ∷ if_or (is (read (codes "n")) 0) (goto (codes "Kernel") ∷ []) (goto (codes "Boot") ∷ [])
    ∷ []) []

-- It keeps what the pipeline has of one user, zeroes and retags it, and takes what is kept of the other.
abbrev pub kernel : StateTree
kernel = state (codes "Kernel") (
    if_or turn_of_a
    (set (codes "apc") (minus pc (number 1)) ∷ set (codes "aacc") acc ∷ [])
    (set (codes "bpc") (minus pc (number 1)) ∷ set (codes "bacc") acc ∷ [])
    ∷ set_tag (codes "pc") low ∷ set_tag (codes "acc") low ∷ set_tag (codes "ir") low
    ∷ set (codes "who") (unary_of no_spot Not (read (codes "who")))
    ∷ if_or turn_of_a
    (set_tag (codes "pc") a ∷ set_tag (codes "acc") a ∷ set_tag (codes "ir") a ∷ set_tag (codes "User") a
    ∷ set (codes "pc") (read (codes "apc")) ∷ set (codes "acc") (read (codes "aacc")) ∷ [])
    (set_tag (codes "pc") b ∷ set_tag (codes "acc") b ∷ set_tag (codes "ir") b ∷ set_tag (codes "User") b
    ∷ set (codes "pc") (read (codes "bpc")) ∷ set (codes "acc") (read (codes "bacc")) ∷ [])
    ∷ set (codes "cnt") (number 4)
    ∷ goto (codes "Run")
    ∷ []) []

-- In a turn of a the one, else the other.
abbrev pub of_turn : (of_a of_b : Command) → Command
of_turn x y = if_or turn_of_a (x ∷ []) (y ∷ [])

-- A row of the instruction table.
abbrev pub on : (k : ℕ) → Command → Command
on k c = when (is op k) (c ∷ [])

-- The instruction that was fetched before, and the next one fetched.
abbrev pub user : StateTree
user = state (codes "User") (
    on 1 (set (codes "acc") byte)
    ∷ on 2 (of_turn (set (codes "acc") (cell (codes "da") place)) (set (codes "acc") (cell (codes "db") place)))
    ∷ on 3 (of_turn (store (codes "da") place acc) (store (codes "db") place acc))
    ∷ on 4 (of_turn (set (codes "acc") (plus acc (cell (codes "da") place)))
    (set (codes "acc") (plus acc (cell (codes "db") place))))
    ∷ on 5 (of_turn (set (codes "acc") (minus acc (cell (codes "da") place)))
    (set (codes "acc") (minus acc (cell (codes "db") place))))
    ∷ on 6 (set (codes "pc") place)
    ∷ on 7 (when (is acc 0) (set (codes "pc") place ∷ []))
    ∷ on 8 (set (codes "pc") (minus pc (number 1)))
    ∷ of_turn (set (codes "ir") (cell (codes "pa") pc)) (set (codes "ir") (cell (codes "pb") pc))
    ∷ set (codes "pc") (plus pc (number 1))
    ∷ goto (codes "User")
    ∷ []) []

-- Five cycles of a slice.
abbrev pub run : StateTree
run = state (codes "Run") (
    if_or (is (read (codes "cnt")) 0)
    (goto (codes "Kernel") ∷ [])
    (set (codes "cnt") (minus (read (codes "cnt")) (number 1)) ∷ fall ∷ [])
    ∷ []) (user ∷ [])

-- The time-sliced machine as a design.
abbrev pub machine_design : DesignTree
machine_design = record { version = One; declarations = declarations; states = states (boot ∷ kernel ∷ run ∷ []) }
