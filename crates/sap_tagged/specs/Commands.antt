-- The commands of a body. Each looks first, by setting wires, at all that depends on levels; then it raises what hangs;
-- then it has its effect.
use Rattle.std.specs.Prelude.{ℕ, zero, suc, ◌+◌, ◌^◌, nat_le, ◌&&◌, Bool, List, [], ◌∷◌, length, take, drop, if◌then◌else◌}
use Rattle.sap_bits.specs.declared.Op2.TheVariants.{Eq}
use Rattle.sap_maps.specs.Maps.{Name}
use Rattle.sap_maps.specs.Term.{Term, constant, cell, two, choose, part}
use Rattle.sap_meaning.specs.Program.{World, root, is_dynamic, is_register, width, below, listed, Step, assign, write, retag, retag_cell, go_to, fall_to_child, Command, lone, try, if_else, try_then, case_of, Arms, last_arm, and_arm, Block, end_block, command_then}
use Rattle.sap_meaning.specs.Walks.{folded, folded_in_arms, folded_in_block}
use Rattle.sap_meaning.specs.Expressions.{width_of}
use Rattle.sap_meaning.specs.Checks.{Home, site_of}
use Rattle.sap_meaning.specs.Runs.{listed_alone}
use Rattle.sap_ir.specs.Source.{set, put}
use Rattle.sap_ir.specs.Plain.Nested.{Body, stop, act, cases, goto, fall, seat_width}
use Rattle.sap_ir.specs.Plain.Views.{follow}
use Rattle.sap_tagged.specs.Keys.{Key, value_key, tag_key, refused_key, level_key, wire_key, inner_key}
use Rattle.sap_tagged.specs.Setting.{Setting}
use Rattle.sap_tagged.specs.Levels.{var, bits, lub, yes, expr, tag_of, guard_of, test_of, written, stays, always}

-- An assignment in front of others.
abbrev pub gives : Setting → Key → Term Name → Body → Body
gives d a t rest = act (set (d.name a) t) rest

-- A write of a cell, likewise.
abbrev pub stores : Setting → Key → (index value : Term Name) → Body → Body
stores d m i t rest = act (put (d.name m) i t) rest

-- For each of m numbers from x on that is picked, an assignment.
abbrev pub sweep : Setting → (key : ℕ → Key) → (picks : ℕ → Bool) → (term : ℕ → Term Name) → (x m : ℕ) → Body → Body
sweep d key picks term x zero rest = rest
sweep d key picks term x (suc m) rest =
    if picks x then gives d (key x) (term x) (sweep d key picks term (x + 1) m rest)
    else sweep d key picks term (x + 1) m rest

-- Of all entities.
abbrev pub for_each : Setting → (key : ℕ → Key) → (picks : ℕ → Bool) → (term : ℕ → Term Name) → Body → Body
for_each d key picks term rest = sweep d key picks term 0 (root d.world) rest

-- The tag of all that hangs becomes its join with the wire j.
abbrev pub raises : Setting → (hangs : ℕ → Bool) → (j : ℕ) → Body → Body
raises d hangs j rest = for_each d tag_key hangs (λ x. lub (var d (tag_key x)) (var d (wire_key j))) rest

-- What is looked at: wire k has the test, k + 1 the guard, k + 2 the context inside, k + 3 the level that is written, k
-- + 4 whether the number stays. The context is in wire p.
abbrev pub looks : Setting → Home → (p k : ℕ) → Step → Body → Body
looks d at p k s rest =
    gives d (wire_key k) (test_of d at (var d (wire_key p)) s)
    (gives d (wire_key (k + 1)) (guard_of d at s)
    (gives d (wire_key (k + 2)) (lub (var d (wire_key p)) (var d (wire_key (k + 1))))
    (gives d (wire_key (k + 3)) (written d (var d (wire_key p)) s)
    (gives d (wire_key (k + 4)) (stays d s) rest))))

-- A dynamic state below the target.
abbrev pub resets : World → (target : ℕ) → ℕ → Bool
resets w target x = below w target x && is_dynamic w x

-- The effect of a step. A fall leaves its context to the children.
abbrev pub effect_of : Setting → Home → (k : ℕ) → Step → Body
effect_of d at k (assign site x e) =
    if is_dynamic d.world x then gives d (tag_key x) (var d (wire_key (k + 3)))
    (gives d (value_key x) (expr d e) stop) else gives d (value_key x) (expr d e) stop
effect_of d at k (write site m i e) =
    stores d (value_key m) (expr d i) (expr d e)
    (if is_dynamic d.world m then gives d (tag_key m) (lub (var d (tag_key m)) (var d (wire_key (k + 3)))) stop
    else stop)
effect_of d at k (retag site x n) =
    gives d (tag_key x) (var d (wire_key (k + 3)))
    (if is_register d.world x
    then gives d (value_key x) (choose (var d (wire_key (k + 4))) (var d (value_key x))
    (constant (width d.world x) 0)) stop
    else stop)
effect_of d at k (retag_cell site m j n) =
    stores d (tag_key m) (expr d j) (var d (wire_key (k + 3)))
    (stores d (value_key m) (expr d j) (choose (var d (wire_key (k + 4)))
    (cell (d.name (value_key m)) (expr d j)) (constant (width d.world m) 0)) stop)
effect_of d at k (go_to site target) =
    for_each d tag_key (resets d.world target) (λ x. bits d d.world.order.bottom)
    (if is_dynamic d.world target
    then gives d (tag_key target) (var d (wire_key (k + 3))) (goto (d.state_name target) stop)
    else goto (d.state_name target) stop)
effect_of d at k (fall_to_child site hang) = gives d (inner_key at.state) (var d (wire_key (k + 2))) (fall stop)

-- The wires of a refused site are set, and its handler runs.
abbrev pub refusal : Setting → (k : ℕ) → Step → (handler : Body) → Body
refusal d k s h = gives d (refused_key (site_of s)) yes (gives d (level_key (site_of s)) (var d (wire_key (k + 2))) h)

-- What comes behind the raises.
abbrev pub outcome : Setting → Home → (k : ℕ) → Step → (handler : Body) → Body
outcome d at k s h =
    if always d.world at s then effect_of d at k s
    else cases (var d (wire_key k)) (effect_of d at k s) (refusal d k s h) stop

-- The context is in wire p, and the wires from k on are free.
unfoldable pub attempt_of : Setting → Home → (p k : ℕ) → Step → (hangs : ℕ → Bool) → (handler : Body) → Body
attempt_of d at p k s hangs h = looks d at p k s (raises d hangs (k + 1) (outcome d at k s h))

-- What comes behind the raises of a step with `then`: behind its effect the accepted part.
abbrev pub outcome_then : Setting → Home → (k : ℕ) → Step → (accepted refused : Body) → Body
outcome_then d at k s a h =
    if always d.world at s then follow (effect_of d at k s) a
    else cases (var d (wire_key k)) (follow (effect_of d at k s) a) (refusal d k s h) stop

-- The plain commands of a step with a block for each outcome.
unfoldable pub attempt_then_of : Setting → Home → (p k : ℕ) → Step → (hangs : ℕ → Bool)
    → (accepted refused : Body) → Body
attempt_then_of d at p k s hangs a h = looks d at p k s (raises d hangs (k + 1) (outcome_then d at k s a h))

-- The blocks of a `case` are numbered from 0, the one after `else` last. Which of them runs is a number in a wire, so
-- that there is one comparison for each constant, and no block stands deeper than that number has bits.

-- How many arms a `case` has beside its `else`.
abbrev pub arm_count : Arms → ℕ
arm_count (last_arm b) = 0
arm_count (and_arm constants b arms) = suc (arm_count arms)

-- The width of a block's number.
abbrev pub pick_width : Arms → ℕ
pick_width arms = seat_width (suc (arm_count arms))

-- Wire j becomes i, of w bits, where wire n, of u bits, has one of the constants.
abbrev pub picks_arm : Setting → (u n w j i : ℕ) → List ℕ → Body → Body
picks_arm d u n w j i [] rest = rest
picks_arm d u n w j i (c ∷ cs) rest =
    gives d (wire_key j) (choose (two Eq (var d (wire_key n)) (constant u c)) (constant w i)
    (var d (wire_key j))) (picks_arm d u n w j i cs rest)

-- Wire j becomes the number of the first arm that has the number in wire n, else that of the last block: later arms
-- first. The first arm has the number i.
abbrev pub picks : Setting → (u n w j i : ℕ) → Arms → Body → Body
picks d u n w j i (last_arm b) rest = gives d (wire_key j) (constant w i) rest
picks d u n w j i (and_arm constants b arms) rest = picks d u n w j (suc i) arms (picks_arm d u n w j i constants rest)

-- The one of these that has the number in wire j, told by its lowest bits, so many of them.
abbrev pub decides : Setting → (j bits : ℕ) → List Body → Body
decides d j zero [] = stop
decides d j zero (b ∷ bs) = b
decides d j (suc m) bs =
    if nat_le (length bs) (2 ^ m)
    then decides d j m bs
    else cases (part (var d (wire_key j)) m m) (decides d j m (drop (2 ^ m) bs)) (decides d j m (take (2 ^ m) bs)) stop

-- Wire k has the level of the number, k + 1 the context of the blocks, k + 2 the number, k + 3 the number of the block.
unfoldable pub pick_of : Setting → (p k : ℕ) → (number : Term ℕ) → (hangs : ℕ → Bool) → Arms
    → (blocks : List Body) → Body
pick_of d p k e hangs arms blocks =
    gives d (wire_key k) (tag_of d e)
    (gives d (wire_key (k + 1)) (lub (var d (wire_key p)) (var d (wire_key k)))
    (gives d (wire_key (k + 2)) (expr d e)
    (raises d hangs k
    (picks d (width_of d.world e) (k + 2) (pick_width arms) (k + 3) 0 arms
    (decides d (k + 3) (pick_width arms) blocks)))))

-- Wire k has the level of the condition, k + 1 the context of the branches.
unfoldable pub select_of : Setting → (p k : ℕ) → (condition : Term ℕ) → (hangs : ℕ → Bool)
    → (then_part else_part : Body) → Body
select_of d p k e hangs a b =
    gives d (wire_key k) (tag_of d e)
    (gives d (wire_key (k + 1)) (lub (var d (wire_key p)) (var d (wire_key k)))
    (raises d hangs k (cases (expr d e) a b stop)))

-- How many wires a command has.
abbrev pub own_wires : Command → (below : ℕ) → ℕ
own_wires (lone s) below = 5
own_wires (try s hang h) below = 5 + below
own_wires (if_else hang e a b) below = 2 + below
own_wires (try_then s hang a b) below = 5 + below
own_wires (case_of hang e arms) below = 4 + below

-- How many helping wires a command takes.
abbrev pub wires : Command → ℕ
wires c = folded 0 ◌+◌ own_wires c

-- How many helping wires the arms of a `case` take.
abbrev pub wires_arms : Arms → ℕ
wires_arms arms = folded_in_arms 0 ◌+◌ own_wires arms

-- How many helping wires a block takes.
abbrev pub wires_block : Block → ℕ
wires_block b = folded_in_block 0 ◌+◌ own_wires b

unfoldable mutual
  pub command_plain : Setting → Home → (p k : ℕ) → Command → Body
  command_plain d at p k (lone s) = attempt_of d at p k s (listed_alone d.world at s) stop
  command_plain d at p k (try s hang h) = attempt_of d at p k s (listed hang) (block_plain d at (k + 2) (k + 5) h)
  command_plain d at p k (if_else hang e a b) =
      select_of d p k e (listed hang) (block_plain d at (k + 1) (k + 2) a)
      (block_plain d at (k + 1) (k + 2 + wires_block a) b)
  command_plain d at p k (try_then s hang a b) =
      attempt_then_of d at p k s (listed hang) (block_plain d at (k + 2) (k + 5) a)
      (block_plain d at (k + 2) (k + 5 + wires_block a) b)
  command_plain d at p k (case_of hang e arms) =
      pick_of d p k e (listed hang) arms (arms_plain d at (k + 1) (k + 4) arms)

  -- The blocks.
  pub arms_plain : Setting → Home → (p k : ℕ) → Arms → List Body
  arms_plain d at p k (last_arm b) = block_plain d at p k b ∷ []
  arms_plain d at p k (and_arm constants b arms) = block_plain d at p k b ∷ arms_plain d at p (k + wires_block b) arms

  pub block_plain : Setting → Home → (p k : ℕ) → Block → Body
  block_plain d at p k end_block = stop
  block_plain d at p k (command_then c cs) = follow (command_plain d at p k c) (block_plain d at p (k + wires c) cs)
