-- The rules that names and pairs have to keep, in the order in which they are tested, and the first that is broken.
use Rattle.std.specs.Prelude.{◌≡◌, ◌<◌, ◌≤◌, ◌+◌, ℕ, true, false, ◌⊎◌, Some, List, length, slice_get, Contains}
use Rattle.sap_lattice.specs.declared.pair.Pair.{Pair}
use Rattle.sap_lattice.specs.declared.fault.LatFault.{LatFault}
use Rattle.sap_lattice.specs.declared.fault.LatFault.TheVariants.{Count, Bad, UnknownPair, Cycle, NoJoin, NoLeast, Memory}
use Rattle.sap_text.specs.Names.{is_word, is_among, design_keywords}
use Rattle.sap_lattice.specs.Closure.{Below, IsLevel, IsJoin, IsLeast, name_at}

-- L3: there are too few or too many levels.
abbrev pub BadCount : List (List ℕ) → Type 0
BadCount names = (length names < 2) ⊎ (64 < length names)

-- The name at place `k` is no word, a keyword, longer than 40 bytes, or that of an earlier level.
pub data BadName (names : List (List ℕ)) (k : ℕ) : Type 0 where
  no_word : is_word (name_at names k) ≡ false → BadName names k
  keyword : is_among (name_at names k) design_keywords ≡ true → BadName names k
  too_long : 40 < length (name_at names k) → BadName names k
  repeated : (j : ℕ) → j < k → name_at names j ≡ name_at names k → BadName names k

-- L4: level `k` has no name of the design language, or too long a one, or that of an earlier level.
abbrev pub BadLevel : List (List ℕ) → ℕ → Type 0
BadLevel names k = IsLevel names k × BadName names k

-- L5: the pair at place `k` has a name that is no level.
pub data BadPair (names : List (List ℕ)) (pairs : List Pair) (k : ℕ) : Type 0 where
  lower : (p : Pair) → slice_get pairs k ≡ Some p → ¬ Contains names p.lower → BadPair names pairs k
  upper : (p : Pair) → slice_get pairs k ≡ Some p → ¬ Contains names p.upper → BadPair names pairs k

-- L6: two levels are each at or below the other.
pub record IsCycle (names : List (List ℕ)) (pairs : List Pair) (x y : ℕ) : Type 0 where
  pub apart : x < y
  pub level : IsLevel names y
  pub there : Below names pairs x y
  pub back : Below names pairs y x

-- L7: two levels have no least upper bound.
pub record HasNoJoin (names : List (List ℕ)) (pairs : List Pair) (x y : ℕ) : Type 0 where
  pub apart : x < y
  pub level : IsLevel names y
  pub none : (j : ℕ) → ¬ IsJoin names pairs x y j

-- L8: there is no least level.
abbrev pub HasNoLeast : List (List ℕ) → List Pair → Type 0
HasNoLeast names pairs = (b : ℕ) → ¬ IsLeast names pairs b

-- L3 is kept: there are 2 to 64 levels.
pub record KeepsCount (names : List (List ℕ)) : Type 0 where
  pub at_least_two : 2 ≤ length names
  pub not_too_many : length names ≤ 64

-- L3 and L4 are kept: the rule of `before`, and no level has a bad name.
pub record KeepsNames (names : List (List ℕ)) : Type 0 where
  pub before : KeepsCount names
  pub named : (k : ℕ) → ¬ BadLevel names k

-- L3 to L5 are kept: the rules of `before`, and both names of each pair are levels.
pub record KeepsPairs (names : List (List ℕ)) (pairs : List Pair) : Type 0 where
  pub before : KeepsNames names
  pub known : (k : ℕ) → ¬ BadPair names pairs k

-- L3 to L6 are kept: the rules of `before`, and no two levels are each at or below the other.
pub record KeepsApart (names : List (List ℕ)) (pairs : List Pair) : Type 0 where
  pub before : KeepsPairs names pairs
  pub no_cycle : (x y : ℕ) → ¬ IsCycle names pairs x y

-- L3 to L7 are kept: the rules of `before`, and any two levels have a least upper bound.
pub record KeepsJoins (names : List (List ℕ)) (pairs : List Pair) : Type 0 where
  pub before : KeepsApart names pairs
  pub joined : (x y : ℕ) → ¬ HasNoJoin names pairs x y

-- L3 to L8 are kept: the rules of `before`, and there is a least level.
pub record KeepsAll (names : List (List ℕ)) (pairs : List Pair) : Type 0 where
  pub before : KeepsJoins names pairs
  pub least : ¬ HasNoLeast names pairs

-- `k` is the first number of which it is true.
pub record IsFirst (P : ℕ → Type 0) (k : ℕ) : Type 0 where
  pub here : P k
  pub none_before : (j : ℕ) → j < k → ¬ P j

-- `x` and y are the first two numbers of which it is true, by x and then by y.
pub record IsFirstPair (P : ℕ → ℕ → Type 0) (x y : ℕ) : Type 0 where
  pub here : P x y
  pub none_before : (u v : ℕ) → (u < x) ⊎ ((u ≡ x) × (v < y)) → ¬ P u v

-- `a` and b are the names of the first two levels of which P is true.
pub record AreNamesOfFirst (names : List (List ℕ)) (P : ℕ → ℕ → Type 0) (a b : List ℕ) : Type 0 where
  pub left : ℕ
  pub right : ℕ
  pub first : IsFirstPair P left right
  pub left_name : a ≡ name_at names left
  pub right_name : b ≡ name_at names right

-- What each answer says: the rule that is broken first, and where; positions count from 1.
abbrev pub FirstBroken : List (List ℕ) → List Pair → LatFault → Type 0
FirstBroken names pairs (Count n) = BadCount names × (n ≡ length names)
FirstBroken names pairs (Bad p) = KeepsCount names × ((k : ℕ) × IsFirst (BadLevel names) k × (p ≡ k + 1))
FirstBroken names pairs (UnknownPair p) = KeepsNames names × ((k : ℕ) × IsFirst (BadPair names pairs) k × (p ≡ k + 1))
FirstBroken names pairs (Cycle a b) = KeepsPairs names pairs × AreNamesOfFirst names (IsCycle names pairs) a b
FirstBroken names pairs (NoJoin a b) = KeepsApart names pairs × AreNamesOfFirst names (HasNoJoin names pairs) a b
FirstBroken names pairs NoLeast = KeepsJoins names pairs × HasNoLeast names pairs
FirstBroken names pairs Memory = ⊥
