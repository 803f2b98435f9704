-- Own widths are from 1 to 64, where concatenations have parts.
use Rattle.sap_lemmas.proofs.Common.{◌≡◌, ℕ, ◌+◌, ◌-◌, ◌<◌, ◌≤◌, Bool, true, false, Option, Some, None, subst, arith, if◌then◌else◌, three_parts, some_same, and_parts}
use Rattle.sap_tree.specs.Prelude.{Expression, literal, sized_literal, variable, cell_at, unary_of, binary_of, choice, slice, concat, zero_extend, no_part, and_part, is_number, has_two_parts, is_expression, are_expressions}
use Rattle.sap_tree.specs.declared.version.Version.{Version}
use Rattle.sap_names.specs.Prelude.{Lookup, sound_width, plain_width, register_width, cell_width, index_width, else_of, own, own_parts, own_binary, family, asked_left, asked_right, is_reduction, sliced, extended}
use Rattle.sap_names.specs.declared.kind.Declared.{Declared}
use Rattle.sap_names.specs.declared.kind.Declared.TheVariants.{Input, Register, Memory}
use Rattle.sap_names.specs.declared.kind.Family.{Family}
use Rattle.sap_names.specs.declared.kind.Family.TheVariants.{Arithmetic, Shift, Comparison}
use Rattle.sap_names.specs.Widths.{asked_count}
use Rattle.sap_resolved.specs.Sized.Ranges.{IsWidth}
use Rattle.sap_resolved.proofs.sized.Faultless.{sound_is, index_power, slice_is, extended_is, joined_is}

-- where it is a width, it is from 1 to 64
abbrev pub Ranges : Option ℕ → Type 0
Ranges o = (u : ℕ) → o ≡ Some u → IsWidth u

pub range_none : Ranges None
range_none u h = cc

pub range_some : (v : ℕ) → IsWidth v → Ranges (Some v)
range_some v r u h = subst (λ (k : ℕ). IsWidth k) (some_same v u h) r

pub range_one : Ranges (Some 1)
range_one = range_some 1 (omega arith, omega arith)

sound_ranges : (v : ℕ) → Ranges (sound_width v)
sound_ranges v u h = let s = sound_is v u h in subst (λ (k : ℕ). IsWidth k) s.0 s.1

plain_ranges : (o : Option Declared) → Ranges (plain_width o)
plain_ranges (Some (Input v)) = sound_ranges v
plain_ranges (Some (Register v)) = sound_ranges v
plain_ranges _ = range_none

pub register_ranges : (o : Option Declared) → Ranges (register_width o)
register_ranges (Some (Register v)) = sound_ranges v
register_ranges _ = range_none

pub cell_ranges : (o : Option Declared) → Ranges (cell_width o)
cell_ranges (Some (Memory v depth)) = sound_ranges v
cell_ranges _ = range_none

pub index_ranges : (o : Option Declared) → Ranges (index_width o)
index_ranges (Some (Memory v depth)) =
    λ u h. (let p = index_power depth u h in
    let l : u ≤ 12 = p.1 in
    (p.0, omega arith))
index_ranges _ = range_none

pub else_ranges : (a b : Option ℕ) → Ranges a → Ranges b → Ranges (else_of a b)
else_ranges None b r s = s
else_ranges (Some v) b r s = r

pub one_ranges : (reduces : Bool) (a : Option ℕ) → Ranges a → Ranges (if reduces then Some 1 else a)
one_ranges true a r = range_one
one_ranges false a r = r

pub asked_one_ranges : (reduces : Bool) (a : Option ℕ) → Ranges a → Ranges (if reduces then None else a)
asked_one_ranges true a r = range_none
asked_one_ranges false a r = r

pub binary_ranges : (k : Family) (a b : Option ℕ) → Ranges a → Ranges b → Ranges (own_binary k a b)
binary_ranges Arithmetic a b r s = else_ranges a b r s
binary_ranges Shift a b r s = r
binary_ranges Comparison a b r s = range_one

pub left_ranges : (k : Family) (whole a b : Option ℕ) → Ranges whole → Ranges a → Ranges b → Ranges (asked_left k whole a b)
left_ranges Comparison whole a b q r s = else_ranges a b r s
left_ranges _ whole a b q r s = q

count_ranges : (b : Option ℕ) → Ranges (asked_count b)
count_ranges None = range_some 64 (omega arith, omega arith)
count_ranges (Some v) = range_none

pub right_ranges : (k : Family) (whole a b : Option ℕ) → Ranges whole → Ranges a → Ranges b → Ranges (asked_right k whole a b)
right_ranges Arithmetic whole a b q r s = q
right_ranges Shift whole a b q r s = count_ranges b
right_ranges Comparison whole a b q r s = else_ranges a b r s

slice_ranges : (o : Option ℕ) (high low : ℕ) → Ranges o → Ranges (sliced o high low)
slice_ranges o high low r u h =
    let s = slice_is o high low u h in
    let i = r s.whole s.is in
    let top : s.whole ≤ 64 = i.1 in
    let l : low ≤ high = s.order in
    let m : high < s.whole = s.within in
    let e : u ≡ high + 1 - low = s.wide in
    (omega arith, omega arith)

extended_ranges : (o : Option ℕ) (width : ℕ) → Ranges o → Ranges (extended o width)
extended_ranges o width r u h =
    let s = extended_is o width u h in
    let i = r s.0 s.1 in
    let bottom : 1 ≤ s.0 = i.0 in
    let l : s.0 ≤ width = s.2 in
    let e : width ≡ u = s.3 in
    let top : width ≤ 64 = s.4 in
    (omega arith, omega arith)

pub own_ranges : (version : Version) (what : Lookup) (e : Expression) → is_expression version e ≡ true → Ranges (own what e)
unfolding is_expression are_expressions
own_ranges version what (literal spot value) i = range_none
own_ranges version what (sized_literal spot v value) i = sound_ranges v
own_ranges version what (variable spot name) i = plain_ranges (what name)
own_ranges version what (cell_at spot name index) i = cell_ranges (what name)
own_ranges version what (unary_of spot o e) i = one_ranges (is_reduction o) (own what e) (own_ranges version what e i)
own_ranges version what (binary_of spot o a b) i =
    let n = and_parts (is_expression version a) (is_expression version b) i in
    binary_ranges (family o) (own what a) (own what b) (own_ranges version what a n.0) (own_ranges version what b n.1)
own_ranges version what (choice spot c a b) i =
    let n = three_parts (is_expression version c) (is_expression version a) (is_expression version b) i in
    else_ranges (own what a) (own what b) (own_ranges version what a n.1) (own_ranges version what b n.2)
own_ranges version what (slice spot e high low) i =
    slice_ranges (own what e) high low (own_ranges version what e (three_parts (is_expression version e) (is_number high) (is_number low) i).0)
own_ranges version what (concat spot no_part) i = cc
own_ranges version what (concat spot (and_part e parts)) i =
    let n = and_parts (has_two_parts (and_part e parts)) (are_expressions version (and_part e parts)) i in
    let m = and_parts (is_expression version e) (are_expressions version parts) n.1 in
    λ u h. (let j = joined_is (own what e) (own_parts what parts) u h in
    let k = own_ranges version what e m.0 j.0 j.2 in
    let bottom : 1 ≤ j.0 = k.0 in
    let sum : j.0 + j.1 ≡ u = j.4 in
    (omega arith, j.5))
own_ranges version what (zero_extend spot e width) i =
    extended_ranges (own what e) width (own_ranges version what e (and_parts (is_expression version e) (is_number width) i).0)
