-- Expressions over names of any type: the widths of names and of memories' cells, the numbers behind names and the
-- cells of memories are given from outside.
use Rattle.std.specs.Prelude.{◌≡◌, ◌<◌, ◌≤◌, ℕ, ◌+◌, ◌-◌, ◌^◌, ◌==◌, if◌then◌else◌}
use Rattle.sap_bits.specs.Arithmetic.{value1, value2, width1, width2, slice_of, joined}
use Rattle.sap_bits.specs.declared.Op1.{Op1}
use Rattle.sap_bits.specs.declared.Op2.{Op2}
use Rattle.sap_bits.specs.declared.Op2.TheVariants.{Shl, Shr}

-- An expression over names, in which each constant has a width.
pub data Term (N : Type 0) : Type 0 where
  constant : (width value : ℕ) → Term N
  read : N → Term N
  -- a cell of a memory, by its index
  cell : N → Term N → Term N
  one : Op1 → Term N → Term N
  two : Op2 → Term N → Term N → Term N
  -- the second where the first isn't 0, else the third
  choose : Term N → Term N → Term N → Term N
  -- the first in front of the second
  join : Term N → Term N → Term N
  -- the bits from lo up to hi
  part : Term N → (hi lo : ℕ) → Term N

-- The width of an expression, where `widths` has that of each name and of each memory's cells.
abbrev pub term_width : {N : Type 0} → (widths : N → ℕ) → Term N → ℕ
term_width widths (constant w x) = w
term_width widths (read n) = widths n
term_width widths (cell m i) = widths m
term_width widths (one op a) = width1 op (term_width widths a)
term_width widths (two op a b) = width2 op (term_width widths a)
term_width widths (choose c a b) = term_width widths a
term_width widths (join a b) = term_width widths a + term_width widths b
term_width widths (part a hi lo) = hi + 1 - lo

-- The value of an expression, where `value` has that of each name and `cells` that of each memory's cells.
abbrev pub term_value : {N : Type 0} → (widths : N → ℕ) → (value : N → ℕ) → (cells : N → ℕ → ℕ) → Term N → ℕ
term_value widths value cells (constant w x) = x
term_value widths value cells (read n) = value n
term_value widths value cells (cell m i) = cells m (term_value widths value cells i)
term_value widths value cells (one op a) = value1 op (term_width widths a) (term_value widths value cells a)
term_value widths value cells (two op a b) =
    value2 op (term_width widths a) (term_value widths value cells a) (term_value widths value cells b)
term_value widths value cells (choose c a b) =
    if term_value widths value cells c == 0 then term_value widths value cells b else term_value widths value cells a
term_value widths value cells (join a b) =
    joined (term_value widths value cells a) (term_width widths b) (term_value widths value cells b)
term_value widths value cells (part a hi lo) = slice_of (term_value widths value cells a) hi lo

-- P holds of each name that is read, Q of each memory of which a cell is read, with its index.
module _ {N : Type 0} (P : N → Type 0) (Q : N → Term N → Type 0) where
  -- P holds of each name that a term reads, and Q of each memory.
  abbrev pub EveryRead : Term N → Type 0
  EveryRead (constant w x) = Unit {0}
  EveryRead (read n) = P n
  EveryRead (cell m i) = Q m i × EveryRead i
  EveryRead (one op a) = EveryRead a
  EveryRead (two op a b) = EveryRead a × EveryRead b
  EveryRead (choose c a b) = EveryRead c × EveryRead a × EveryRead b
  EveryRead (join a b) = EveryRead a × EveryRead b
  EveryRead (part a hi lo) = EveryRead a

-- Other names for those that are read.
abbrev pub map_term : {N M : Type 0} → (N → M) → Term N → Term M
map_term f (constant w x) = constant w x
map_term f (read n) = read (f n)
map_term f (cell m i) = cell (f m) (map_term f i)
map_term f (one op a) = one op (map_term f a)
map_term f (two op a b) = two op (map_term f a) (map_term f b)
map_term f (choose c a b) = choose (map_term f c) (map_term f a) (map_term f b)
map_term f (join a b) = join (map_term f a) (map_term f b)
map_term f (part a hi lo) = part (map_term f a) hi lo

-- The second operand has the first one's width; a shift's count has any.
abbrev pub CountFits : Op2 → (w u : ℕ) → Type 0
CountFits Shl w u = Unit {0}
CountFits Shr w u = Unit {0}
CountFits _ w u = u ≡ w

-- The widths of a term's parts fit one another, and its constants fit their widths.
abbrev pub TermFits : {N : Type 0} → (widths : N → ℕ) → Term N → Type 0
TermFits widths (constant w x) = x < 2 ^ w
TermFits widths (read n) = Unit {0}
TermFits widths (cell m i) = TermFits widths i
TermFits widths (one op a) = TermFits widths a
TermFits widths (two op a b) = TermFits widths a × TermFits widths b
    × CountFits op (term_width widths a) (term_width widths b)
TermFits widths (choose c a b) = TermFits widths c × TermFits widths a × TermFits widths b
    × (term_width widths b ≡ term_width widths a)
TermFits widths (join a b) = TermFits widths a × TermFits widths b
TermFits widths (part a hi lo) = TermFits widths a × (lo ≤ hi)
