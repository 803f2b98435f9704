-- The test and the guard of each step.
use Rattle.std.specs.Prelude.{ℕ, zero, suc, Bool, true, ◌&&◌, ◌||◌, if◌then◌else◌}
use Rattle.sap_meaning.specs.Program.{World, is_dynamic, authority, Step, assign, write, retag, retag_cell, go_to, fall_to_child, state_node, Group, no_node, and_node}
use Rattle.sap_meaning.specs.Store.{Store, own, start, level, child}
use Rattle.sap_meaning.specs.Expressions.{value, tag, new_level, told}

-- Where a command is: in the body of `state`, whose parent is `parent`, the root for a top-level state, and whose
-- children are `children`.
pub record Home : Type 0 where
  pub state : ℕ
  pub parent : ℕ
  pub children : Group

-- The number of the check site that a step is, 0 if it is none.
abbrev pub site_of : Step → ℕ
site_of (assign site x e) = site
site_of (write site m i e) = site
site_of (retag site x n) = site
site_of (retag_cell site m j n) = site
site_of (go_to site target) = site
site_of (fall_to_child site hang) = site

-- The guard of a `goto` to a state: its authority if it is enforced, else the bottom.
abbrev pub entry : World → ℕ → ℕ
entry w x = if is_dynamic w x then w.order.bottom else authority w x

-- `child_level` is the level of the n-th child, and the bottom if there is none.
abbrev pub child_level : World → Group → ℕ → Store → ℕ
child_level w no_node n s = w.order.bottom
child_level w (and_node (state_node c b k) g) zero s = level w (own c) s
child_level w (and_node t g) (suc n) s = child_level w g n s

-- `opens` says whether a fall may enter a child in the context `pc`.
abbrev pub opens : World → ℕ → ℕ → Store → Bool
opens w c pc s = is_dynamic w c || w.order.le pc (level w (own c) s)

-- `child_opens` says whether a fall may enter the n-th child; if there is none, it may.
abbrev pub child_opens : World → Group → ℕ → ℕ → Store → Bool
child_opens w no_node n pc s = true
child_opens w (and_node (state_node c b k) g) zero pc s = opens w c pc s
child_opens w (and_node t g) (suc n) pc s = child_opens w g n pc s

-- The guard of a step; a refusal is recorded at its join with the context. If the target is enforced, an assignment has
-- its tag, a write the join of the index's tag and the cell's, and a `goto` the authority of the state; else they have
-- the bottom. A `setTag` has the authority of its entity, and a `fall` the level of the current child.
abbrev pub guard : World → Home → Step → Store → ℕ
guard w at (assign site x e) s = if is_dynamic w x then w.order.bottom else level w (own x) s
guard w at (write site m i e) s = if is_dynamic w m then w.order.bottom
    else w.order.join (tag w i s) (level w (start m (value w i s)) s)
guard w at (retag site x n) s = authority w x
guard w at (retag_cell site m j n) s = authority w m
guard w at (go_to site target) s = entry w target
guard w at (fall_to_child site hang) s = child_level w at.children (child at.state s) s

-- The step succeeds in the context `pc`. An assignment or a write does so if its target is dynamic, or if `pc` and the
-- tags of all that it reads are at or below the target's tag. A `setTag` does so if `pc`, what the new level tells and
-- the tag of an index are at or below the authority, and the authority is at or below the new level. A `goto` does so
-- if `pc` is at or below the level of an enforced target, and its join with the guard at or below the level of an
-- enforced source. A `fall` does so if `pc` is at or below the level of an enforced child.
abbrev pub test : World → Home → Step → ℕ → Store → Bool
test w at (assign site x e) pc s = is_dynamic w x || w.order.le (w.order.join pc (tag w e s)) (level w (own x) s)
test w at (write site m i e) pc s =
    is_dynamic w m || w.order.le (w.order.join pc (w.order.join (tag w i s) (tag w e s)))
    (level w (start m (value w i s)) s)
test w at (retag site x n) pc s =
    w.order.le (w.order.join pc (told w n s)) (authority w x) && w.order.le (authority w x) (new_level w n s)
test w at (retag_cell site m j n) pc s =
    w.order.le (w.order.join pc (w.order.join (told w n s) (tag w j s))) (authority w m)
    && w.order.le (authority w m) (new_level w n s)
test w at (go_to site target) pc s =
    (is_dynamic w target || w.order.le pc (level w (own target) s))
    && (is_dynamic w at.state || w.order.le (w.order.join pc (entry w target)) (level w (own at.state) s))
test w at (fall_to_child site hang) pc s = child_opens w at.children (child at.state s) pc s
