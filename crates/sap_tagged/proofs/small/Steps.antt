-- How large the commands of steps are.
use Rattle.sap_lemmas.proofs.Common.{◌≡◌, ℕ, zero, suc, ◌+◌, ◌*◌, ◌≤◌, Bool, true, false, arith, inl, inr, length-append, if◌then◌else◌, bytes_eq, cases_Bool, mul-le-mul_left}
use Rattle.sap_bits.specs.declared.Op2.TheVariants.{And}
use Rattle.sap_maps.specs.Prelude.{Name, Term, constant, cell, choose}
use Rattle.sap_meaning.specs.Prelude.{root, is_dynamic, is_register, authority, width, Step, assign, write, retag, retag_cell, go_to, fall_to_child, Home, entry}
use Rattle.sap_ir.specs.Prelude.{Body, stop, act, cases, goto, fall, Forest, none, state, state_names, children_of, follow}
use Rattle.sap_size.specs.Terms.{operations, term_size}
use Rattle.sap_size.specs.Nested.{states_in, body_weight}
use Rattle.sap_size.specs.Programs.{step_size, states_below}
use Rattle.sap_tagged.specs.Prelude.{Key, value_key, tag_key, seat_key, wire_key, Setting, var, bits, lub, below_or_at, yes, expr, tag_of, new_tag, told_tag, enters, seat_bits, guard_of, test_of, written, stays, always, gives, sweep, raises, resets, effect_of, refusal, outcome, attempt_of, outcome_then, attempt_then_of}
use Rattle.sap_tagged.proofs.small.Held.{cell_weighs, two_weighs, choose_weighs, lub_weighs, below_weighs}
use Rattle.sap_tagged.proofs.small.Tags.{Roomy, either_weighs, expr_weighs, tag_weighs, level_weighs, child_tag_weighs, enters_weighs, child_enters_weighs}

-- what is below a state of a group is below the group
children_within : (group : Forest) (x : Name) → states_in (children_of group x) ≤ states_in group
children_within none x = omega arith
children_within (state y b kids rest) x =
    let r = children_within rest x in
    let n = length-append (state_names kids) (state_names rest) in
    elim (cases_Bool (bytes_eq y x)) [ inl t ↦ rw t (omega (arith, n)) | inr f ↦ rw f (omega (arith, r, n)) ]

-- a body for each number that is picked
pub sweep_weighs : (group : Forest) (d : Setting) (key : ℕ → Key) (picks : ℕ → Bool) (term : ℕ → Term Name) (w : ℕ) → ((x : ℕ) → operations (term x) + 1 ≤ w)
    → (x m : ℕ) (rest : Body) → body_weight group (sweep d key picks term x m rest) ≤ m * w + body_weight group rest
sweep_weighs group d key picks term w h x zero rest = omega arith
sweep_weighs group d key picks term w h x (suc m) rest =
    let r = sweep_weighs group d key picks term w h (x + 1) m rest in
    let s = h x in
    elim (cases_Bool (picks x)) [ inl t ↦ rw t (omega (arith, r, s)) | inr f ↦ rw f (omega (arith, r, s)) ]

pub raises_weigh : (group : Forest) (d : Setting) (hangs : ℕ → Bool) (j : ℕ) (rest : Body) → body_weight group (raises d hangs j rest) ≤ 2 * root d.world + body_weight group rest
raises_weigh group d hangs j rest =
    let s = sweep_weighs group d tag_key hangs (λ x. lub (var d (tag_key x)) (var d (wire_key j))) 2 (λ x. let l =
    lub_weighs (var d (tag_key x)) (var d (wire_key j)) in omega (arith, l)) 0 (root d.world) rest in
    omega (arith, s)

either_body : (group : Forest) (c : Bool) (a b : Body) (n : ℕ) → body_weight group a ≤ n → body_weight group b ≤ n → body_weight group (if c then a else b) ≤ n
either_body group true a b n h k = h
either_body group false a b n h k = k

pub follow_weighs : (group : Forest) (a b : Body) → body_weight group (follow a b) ≡ body_weight group a + body_weight group b
follow_weighs group stop b = omega arith
follow_weighs group (act a rest) b = let r = follow_weighs group rest b in omega (arith, r)
follow_weighs group (cases t y n rest) b = let r = follow_weighs group rest b in omega (arith, r)
follow_weighs group (goto x rest) b = let r = follow_weighs group rest b in omega (arith, r)
follow_weighs group (fall rest) b = let r = follow_weighs group rest b in omega (arith, r)

-- what is looked at before a step
looked : Setting → Home → (p : ℕ) → Step → ℕ
looked d at p s = operations (test_of d at (var d (wire_key p)) s) + operations (guard_of d at s) + operations (written d (var d (wire_key p)) s) + operations (stays d s)

module _ (d : Setting) (room : ℕ) (r : Roomy d room) (at : Home) (few : states_below at.children ≤ root d.world) (group : Forest)
    (small : states_in group ≤ root d.world) (p k : ℕ) where
  abbrev pc : Term Name
  pc = var d (wire_key p)

  -- its four terms and its effect
  abbrev Fits : Step → Type 0
  Fits s = looked d at p s + body_weight group (effect_of d at k s) + (11 + 2 * root d.world) ≤ room * (1 + step_size s)

  set_fits : (site x : ℕ) (e : Term ℕ) → Fits (assign site x e)
  unfolding looked
  set_fits site x e =
      let w = r.wide in
      let v = r.levels in
      let t = tag_weighs d e in
      let o = expr_weighs d e in
      let l = lub_weighs pc (tag_of d e) in
      let b = below_weighs (lub pc (tag_of d e)) (var d (tag_key x)) in
      let test = either_weighs (is_dynamic d.world x) yes (below_or_at (lub pc (tag_of d e)) (var d (tag_key x)))
      (3 + operations (tag_of d e)) (omega arith) (omega (arith, l, b)) in
      let guard = either_weighs (is_dynamic d.world x) (bits d d.world.order.bottom) (var d (tag_key x)) 0 (omega arith) (omega arith) in
      let effect = either_body group (is_dynamic d.world x)
      (gives d (tag_key x) (var d (wire_key (k + 3))) (gives d (value_key x) (expr d e) stop)) (gives d (value_key x) (expr d e) stop)
      (2 + operations (expr d e)) (omega arith) (omega arith) in
      let m : term_size e * 22 ≤ term_size e * room = mul-le-mul_left (term_size e) (omega (arith, w, v)) in
      omega (arith, w, v, t, o, l, test, guard, effect, m)

  write_fits : (site m : ℕ) (i e : Term ℕ) → Fits (write site m i e)
  unfolding looked
  write_fits site m i e =
      let w = r.wide in
      let v = r.levels in
      let ti = tag_weighs d i in
      let te = tag_weighs d e in
      let oi = expr_weighs d i in
      let oe = expr_weighs d e in
      let c = cell_weighs (d.name (tag_key m)) (expr d i) in
      let j = lub_weighs (tag_of d i) (tag_of d e) in
      let l = lub_weighs pc (lub (tag_of d i) (tag_of d e)) in
      let b = below_weighs (lub pc (lub (tag_of d i) (tag_of d e))) (cell (d.name (tag_key m)) (expr d i)) in
      let g = lub_weighs (tag_of d i) (cell (d.name (tag_key m)) (expr d i)) in
      let u = lub_weighs (var d (tag_key m)) (var d (wire_key (k + 3))) in
      let test = either_weighs (is_dynamic d.world m) yes
      (below_or_at (lub pc (lub (tag_of d i) (tag_of d e))) (cell (d.name (tag_key m)) (expr d i)))
      (5 + operations (tag_of d i) + operations (tag_of d e) + operations (expr d i)) (omega arith) (omega (arith, c, j, l, b)) in
      let guard = either_weighs (is_dynamic d.world m) (bits d d.world.order.bottom)
      (lub (tag_of d i) (cell (d.name (tag_key m)) (expr d i))) (2 + operations (tag_of d i) + operations (expr d i)) (omega arith) (omega (arith, c, g)) in
      let tagged = either_body group (is_dynamic d.world m) (gives d (tag_key m) (lub (var d (tag_key m)) (var d (wire_key (k + 3)))) stop)
      stop 2 (omega (arith, u)) (omega arith) in
      let mi : term_size i * 22 ≤ term_size i * room = mul-le-mul_left (term_size i) (omega (arith, w, v)) in
      let me : term_size e * 22 ≤ term_size e * room = mul-le-mul_left (term_size e) (omega (arith, w, v)) in
      omega (arith, w, v, ti, te, oi, oe, j, l, test, guard, tagged, mi, me)

  retag_fits : (site x : ℕ) (n : _) → Fits (retag site x n)
  unfolding looked
  retag_fits site x n =
      let w = r.wide in
      let v = r.levels in
      let t = level_weighs d room r n in
      let auth = bits d (authority d.world x) in
      let l = lub_weighs pc (told_tag d n) in
      let a = below_weighs (lub pc (told_tag d n)) auth in
      let b = below_weighs auth (new_tag d n) in
      let test = two_weighs And (below_or_at (lub pc (told_tag d n)) auth) (below_or_at auth (new_tag d n)) in
      let s = below_weighs (var d (tag_key x)) (new_tag d n) in
      let c = choose_weighs (var d (wire_key (k + 4))) (var d (value_key x)) (constant (width d.world x) 0) in
      let kept = either_body group (is_register d.world x)
      (gives d (value_key x) (choose (var d (wire_key (k + 4))) (var d (value_key x)) (constant (width d.world x) 0)) stop) stop 2 (omega (arith, c)) (omega arith) in
      omega (arith, w, v, t, l, a, b, test, s, kept)

  cell_fits : (site m : ℕ) (j : Term ℕ) (n : _) → Fits (retag_cell site m j n)
  unfolding looked
  cell_fits site m j n =
      let w = r.wide in
      let v = r.levels in
      let t = level_weighs d room r n in
      let tj = tag_weighs d j in
      let oj = expr_weighs d j in
      let auth = bits d (authority d.world m) in
      let told = lub (told_tag d n) (tag_of d j) in
      let tag_cell = cell (d.name (tag_key m)) (expr d j) in
      let value_cell = cell (d.name (value_key m)) (expr d j) in
      let h = lub_weighs (told_tag d n) (tag_of d j) in
      let l = lub_weighs pc told in
      let a = below_weighs (lub pc told) auth in
      let b = below_weighs auth (new_tag d n) in
      let test = two_weighs And (below_or_at (lub pc told) auth) (below_or_at auth (new_tag d n)) in
      let tc = cell_weighs (d.name (tag_key m)) (expr d j) in
      let s = below_weighs tag_cell (new_tag d n) in
      let vc = cell_weighs (d.name (value_key m)) (expr d j) in
      let c = choose_weighs (var d (wire_key (k + 4))) value_cell (constant (width d.world m) 0) in
      let mj : term_size j * 22 ≤ term_size j * room = mul-le-mul_left (term_size j) (omega (arith, w, v)) in
      omega (arith, w, v, t, tj, oj, h, l, a, b, test, tc, s, vc, c, mj)

  goto_fits : (site target : ℕ) → Fits (go_to site target)
  unfolding looked
  goto_fits site target =
      let w = r.wide in
      let v = r.levels in
      let from = bits d (entry d.world target) in
      let e = enters_weighs d (d.name (wire_key p)) target in
      let l = lub_weighs pc from in
      let b = below_weighs (lub pc from) (var d (tag_key at.state)) in
      let stay = either_weighs (is_dynamic d.world at.state) yes (below_or_at (lub pc from) (var d (tag_key at.state))) 3 (omega arith) (omega (arith, l, b)) in
      let test = two_weighs And (enters d pc target) (if is_dynamic d.world at.state then yes else below_or_at (lub pc from) (var d (tag_key at.state))) in
      let there : Body = goto (d.state_name target) stop in
      let c = children_within group (d.state_name target) in
      let last = either_body group (is_dynamic d.world target) (gives d (tag_key target) (var d (wire_key (k + 3))) there) there
      (2 + root d.world) (omega (arith, c, small)) (omega (arith, c, small)) in
      let rest = sweep_weighs group d tag_key (resets d.world target) (λ x. bits d d.world.order.bottom) 1 (λ x. omega arith) 0
      (root d.world) (if is_dynamic d.world target then gives d (tag_key target) (var d (wire_key (k + 3))) there else there) in
      omega (arith, w, v, e, stay, test, last, rest)

  fall_fits : (site : ℕ) (hang : _) → Fits (fall_to_child site hang)
  unfolding looked
  fall_fits site hang =
      let w = r.wide in
      let v = r.levels in
      let t = child_enters_weighs d (d.name (wire_key p)) (seat_bits d at.state) (d.name (seat_key at.state)) at.children 0 in
      let g = child_tag_weighs d (seat_bits d at.state) (d.name (seat_key at.state)) at.children 0 in
      omega (arith, w, v, t, g, few)

  step_fits : (s : Step) → Fits s
  step_fits (assign site x e) = set_fits site x e
  step_fits (write site m i e) = write_fits site m i e
  step_fits (retag site x n) = retag_fits site x n
  step_fits (retag_cell site m j n) = cell_fits site m j n
  step_fits (go_to site target) = goto_fits site target
  step_fits (fall_to_child site hang) = fall_fits site hang

  -- a step with what is looked at, with what it raises and with its handler
  pub attempt_weighs : (s : Step) (hangs : ℕ → Bool) (handler : Body)
      → body_weight group (attempt_of d at p k s hangs handler) ≤ room * (1 + step_size s) + body_weight group handler
  unfolding attempt_of looked
  attempt_weighs s hangs handler =
      let f = step_fits s in
      let l = lub_weighs pc (var d (wire_key (k + 1))) in
      let rest = raises_weigh group d hangs (k + 1) (outcome d at k s handler) in
      let choice : Body = cases (var d (wire_key k)) (effect_of d at k s) (refusal d k s handler) stop in
      let o = either_body group (always d.world at s) (effect_of d at k s) choice (5 + body_weight group (effect_of d at k s)
      + body_weight group handler) (omega arith) (omega arith) in
      omega (arith, f, l, rest, o)

  -- a step with what comes behind its effect too
  pub attempt_then_weighs : (s : Step) (hangs : ℕ → Bool) (accepted refused : Body)
      → body_weight group (attempt_then_of d at p k s hangs accepted refused) ≤ room * (1 + step_size s) + body_weight group accepted + body_weight group refused
  unfolding attempt_then_of looked
  attempt_then_weighs s hangs accepted refused =
      let f = step_fits s in
      let l = lub_weighs pc (var d (wire_key (k + 1))) in
      let done : Body = follow (effect_of d at k s) accepted in
      let q = follow_weighs group (effect_of d at k s) accepted in
      let rest = raises_weigh group d hangs (k + 1) (outcome_then d at k s accepted refused) in
      let choice : Body = cases (var d (wire_key k)) done (refusal d k s refused) stop in
      let o = either_body group (always d.world at s) done choice (5 + body_weight group done + body_weight group refused) (omega arith) (omega arith) in
      omega (arith, f, l, q, rest, o)
