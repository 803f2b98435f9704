-- How large expressions are.
use Rattle.std.specs.Prelude.{ℕ, ◌+◌, ◌==◌, ◌&&◌, Bool, true, false, List, [], ◌∷◌, ◌++◌}
use Rattle.std.specs.Set.{distinct_count}
use Rattle.std.specs.Str.{bytes_eq}
use Rattle.sap_bits.specs.declared.Op1.{Op1}
use Rattle.sap_bits.specs.declared.Op1.TheVariants.{Not, Neg, AllOnes, AnyOne, Odd}
use Rattle.sap_bits.specs.declared.Op2.{Op2}
use Rattle.sap_bits.specs.declared.Op2.TheVariants.{Add, Sub, Mul, And, Or, Xor, Eq, Ne, Lt, Le, Shl, Shr}
use Rattle.sap_maps.specs.Maps.{Name}
use Rattle.sap_maps.specs.Term.{Term, constant, read, cell, one, two, choose, join, part}

-- the same operator

-- The two operators of one operand are the same.
abbrev pub same_one : Op1 → Op1 → Bool
same_one Not Not = true
same_one Neg Neg = true
same_one AllOnes AllOnes = true
same_one AnyOne AnyOne = true
same_one Odd Odd = true
same_one _ _ = false

-- The two operators of two operands are the same.
abbrev pub same_two : Op2 → Op2 → Bool
same_two Add Add = true
same_two Sub Sub = true
same_two Mul Mul = true
same_two And And = true
same_two Or Or = true
same_two Xor Xor = true
same_two Eq Eq = true
same_two Ne Ne = true
same_two Lt Lt = true
same_two Le Le = true
same_two Shl Shl = true
same_two Shr Shr = true
same_two _ _ = false

-- The same expression.
abbrev pub same_term : Term Name → Term Name → Bool
same_term (constant w x) (constant u y) = w == u && x == y
same_term (read m) (read n) = bytes_eq m n
same_term (cell m i) (cell n j) = bytes_eq m n && same_term i j
same_term (one o a) (one p x) = same_one o p && same_term a x
same_term (two o a b) (two p x y) = same_two o p && (same_term a x && same_term b y)
same_term (choose c a b) (choose z x y) = same_term c z && (same_term a x && same_term b y)
same_term (join a b) (join x y) = same_term a x && same_term b y
same_term (part a hi lo) (part x high low) = same_term a x && (hi == high && lo == low)
same_term _ _ = false

-- What is an operator or a read of a memory in it, with all that stands below.
abbrev pub operations_in : Term Name → List (Term Name)
operations_in (constant w x) = []
operations_in (read n) = []
operations_in (cell m i) = cell m i ∷ operations_in i
operations_in (one o a) = one o a ∷ operations_in a
operations_in (two o a b) = two o a b ∷ (operations_in a ++ operations_in b)
operations_in (choose c a b) = choose c a b ∷ (operations_in c ++ (operations_in a ++ operations_in b))
operations_in (join a b) = join a b ∷ (operations_in a ++ operations_in b)
operations_in (part a hi lo) = part a hi lo ∷ operations_in a

-- How many different ones there are: each becomes one wire at most.
abbrev pub operations : Term Name → ℕ
operations t = distinct_count same_term (operations_in t)

-- Its nodes; what is joined counts by its parts alone.
abbrev pub term_size : {N : Type 0} → Term N → ℕ
term_size (constant w x) = 1
term_size (read n) = 1
term_size (cell m i) = 1 + term_size i
term_size (one o a) = 1 + term_size a
term_size (two o a b) = 1 + term_size a + term_size b
term_size (choose c a b) = 1 + term_size c + term_size a + term_size b
term_size (join a b) = term_size a + term_size b
term_size (part a hi lo) = 1 + term_size a
