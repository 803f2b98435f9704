-- The terms of numbers, of levels, of guards and of tests.
use Rattle.std.specs.Prelude.{ℕ, zero, suc, ◌+◌, ◌-◌, nat_lt, ◌&&◌, Bool, true, false, if◌then◌else◌}
use Rattle.sap_bits.specs.declared.Op2.TheVariants.{Or, And, Eq}
use Rattle.sap_maps.specs.Maps.{Name}
use Rattle.sap_maps.specs.Term.{Term, constant, read, cell, one, two, choose, join, part, map_term}
use Rattle.sap_meaning.specs.Program.{World, is_dynamic, authority, children, LevelTerm, fixed, of, at_place, both, Step, assign, write, retag, retag_cell, go_to, fall_to_child, state_node, Group, no_node, and_node}
use Rattle.sap_meaning.specs.Expressions.{width_of}
use Rattle.sap_meaning.specs.Checks.{Home, entry}
use Rattle.sap_ir.specs.Plain.Nested.{seat_width}
use Rattle.sap_tagged.specs.Keys.{Key, value_key, tag_key, seat_key, first_key}
use Rattle.sap_tagged.specs.Setting.{Setting}

-- The variable of a key, read.
abbrev pub var : Setting → Key → Term Name
var d a = read (d.name a)

-- The code of a level.
abbrev pub bits : Setting → ℕ → Term Name
bits d l = constant d.tag (d.code l)

-- The join of two levels.
abbrev pub lub : Term Name → Term Name → Term Name
lub a b = two Or a b

-- The first level is at or below the second.
abbrev pub below_or_at : Term Name → Term Name → Term Name
below_or_at a b = two Eq (two Or a b) b

-- The condition that always holds.
abbrev pub yes : Term Name
yes = constant 1 1

-- expressions

-- A design's term over the names of values.
abbrev pub expr : Setting → Term ℕ → Term Name
expr d e = map_term (λ x. d.name (value_key x)) e

-- The tag of the cell that an index picks.
abbrev pub cell_tag : Setting → (memory : ℕ) → Term ℕ → Term Name
cell_tag d m i = if is_dynamic d.world m then var d (first_key m) else cell (d.name (tag_key m)) (expr d i)

-- The term of the tag of a term: the join of the tags of all that it reads.
abbrev pub tag_of : Setting → Term ℕ → Term Name
tag_of d (constant u n) = bits d d.world.order.bottom
tag_of d (read x) = var d (tag_key x)
tag_of d (cell m i) = lub (tag_of d i) (cell_tag d m i)
tag_of d (one op a) = tag_of d a
tag_of d (two op a b) = lub (tag_of d a) (tag_of d b)
tag_of d (choose c a b) = lub (tag_of d c) (lub (tag_of d a) (tag_of d b))
tag_of d (join a b) = lub (tag_of d a) (tag_of d b)
tag_of d (part a hi lo) = tag_of d a

-- A place in the lattice file has 6 bits. A number of fewer bits is widened to as many.
abbrev pub place_width : ℕ → ℕ
place_width u = if nat_lt u 6 then 6 else u

-- A term with zeros in front up to six bits.
abbrev pub widened : (width : ℕ) → Term Name → Term Name
widened u e = if nat_lt u 6 then join (constant (6 - u) 0) e else e

-- The level at the place e, which has u bits, of so many levels from the i-th on; else the top.
abbrev pub placed : Setting → (u : ℕ) → (e : Term Name) → (i more : ℕ) → Term Name
placed d u e i zero = bits d d.world.order.top
placed d u e i (suc m) = choose (two Eq e (constant u i)) (bits d i) (placed d u e (i + 1) m)

-- The level that a tag expression gives.
abbrev pub new_tag : Setting → LevelTerm → Term Name
new_tag d (fixed n) = bits d n
new_tag d (of e) = tag_of d e
new_tag d (at_place e) = let u = width_of d.world e in
    placed d (place_width u) (widened u (expr d e)) 0 d.world.order.count
new_tag d (both a b) = lub (new_tag d a) (new_tag d b)

-- The level of what a tag expression tells.
abbrev pub told_tag : Setting → LevelTerm → Term Name
told_tag d (fixed n) = bits d d.world.order.bottom
told_tag d (of e) = tag_of d e
told_tag d (at_place e) = tag_of d e
told_tag d (both a b) = lub (told_tag d a) (told_tag d b)

-- The current child, of the children from the i-th on; `seat` is its number, of u bits. It is one of them, so the last
-- is compared with nothing.

-- The tag of the current child of a group.
abbrev pub child_tag : Setting → (u : ℕ) → (seat : Term Name) → Group → (i : ℕ) → Term Name
child_tag d u seat no_node i = bits d d.world.order.bottom
child_tag d u seat (and_node (state_node c b k) no_node) i = var d (tag_key c)
child_tag d u seat (and_node (state_node c b k) (and_node t g)) i =
    choose (two Eq seat (constant u i)) (var d (tag_key c)) (child_tag d u seat (and_node t g) (i + 1))

-- A state may be entered in the context pc.
abbrev pub enters : Setting → (pc : Term Name) → (state : ℕ) → Term Name
enters d pc c = if is_dynamic d.world c then yes else below_or_at pc (var d (tag_key c))

-- The current child of a group may be entered in this context.
abbrev pub child_enters : Setting → (pc : Term Name) → (u : ℕ) → (seat : Term Name) → Group → (i : ℕ) → Term Name
child_enters d pc u seat no_node i = yes
child_enters d pc u seat (and_node (state_node c b k) no_node) i = enters d pc c
child_enters d pc u seat (and_node (state_node c b k) (and_node t g)) i =
    choose (two Eq seat (constant u i)) (enters d pc c) (child_enters d pc u seat (and_node t g) (i + 1))

-- The width of the number of a state's current child, and that number.
abbrev pub seat_bits : Setting → ℕ → ℕ
seat_bits d s = seat_width (children d.world s)

-- The register of a state's current child, read.
abbrev pub seat_of : Setting → ℕ → Term Name
seat_of d s = var d (seat_key s)

-- steps

-- The tag at which a step's test is made, beside the context: that of what it would change, or its authority.
abbrev pub guard_of : Setting → Home → Step → Term Name
guard_of d at (assign site x e) = if is_dynamic d.world x then bits d d.world.order.bottom else var d (tag_key x)
guard_of d at (write site m i e) = if is_dynamic d.world m then bits d d.world.order.bottom
    else lub (tag_of d i) (cell (d.name (tag_key m)) (expr d i))
guard_of d at (retag site x n) = bits d (authority d.world x)
guard_of d at (retag_cell site m j n) = bits d (authority d.world m)
guard_of d at (go_to site target) = bits d (entry d.world target)
guard_of d at (fall_to_child site hang) = child_tag d (seat_bits d at.state) (seat_of d at.state) at.children 0

-- In the context pc.
abbrev pub test_of : Setting → Home → (pc : Term Name) → Step → Term Name
test_of d at pc (assign site x e) = if is_dynamic d.world x then yes
    else below_or_at (lub pc (tag_of d e)) (var d (tag_key x))
test_of d at pc (write site m i e) =
    if is_dynamic d.world m then yes else below_or_at (lub pc (lub (tag_of d i) (tag_of d e)))
    (cell (d.name (tag_key m)) (expr d i))
test_of d at pc (retag site x n) =
    two And (below_or_at (lub pc (told_tag d n)) (bits d (authority d.world x)))
    (below_or_at (bits d (authority d.world x)) (new_tag d n))
test_of d at pc (retag_cell site m j n) =
    two And (below_or_at (lub pc (lub (told_tag d n) (tag_of d j))) (bits d (authority d.world m)))
    (below_or_at (bits d (authority d.world m)) (new_tag d n))
test_of d at pc (go_to site target) =
    two And (enters d pc target) (if is_dynamic d.world at.state then yes
    else below_or_at (lub pc (bits d (entry d.world target))) (var d (tag_key at.state)))
test_of d at pc (fall_to_child site hang) = child_enters d pc (seat_bits d at.state) (seat_of d at.state) at.children 0

-- The level that a step writes.
abbrev pub written : Setting → (pc : Term Name) → Step → Term Name
written d pc (assign site x e) = lub pc (tag_of d e)
written d pc (write site m i e) = lub pc (lub (tag_of d i) (tag_of d e))
written d pc (retag site x n) = new_tag d n
written d pc (retag_cell site m j n) = new_tag d n
written d pc (go_to site target) = pc
written d pc (fall_to_child site hang) = pc

-- The number stays where the level does not fall.
abbrev pub stays : Setting → Step → Term Name
stays d (assign site x e) = yes
stays d (write site m i e) = yes
stays d (retag site x n) = below_or_at (var d (tag_key x)) (new_tag d n)
stays d (retag_cell site m j n) = below_or_at (cell (d.name (tag_key m)) (expr d j)) (new_tag d n)
stays d (go_to site target) = yes
stays d (fall_to_child site hang) = yes

-- Each child is dynamic.
abbrev pub all_dynamic : World → Group → Bool
all_dynamic w no_node = true
all_dynamic w (and_node (state_node c b k) g) = is_dynamic w c && all_dynamic w g

-- The step is no check site.
abbrev pub always : World → Home → Step → Bool
always w at (assign site x e) = is_dynamic w x
always w at (write site m i e) = is_dynamic w m
always w at (retag site x n) = false
always w at (retag_cell site m j n) = false
always w at (go_to site target) = is_dynamic w target && is_dynamic w at.state
always w at (fall_to_child site hang) = all_dynamic w at.children
