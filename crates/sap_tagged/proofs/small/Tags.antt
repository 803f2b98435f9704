-- Operations of the terms of tags and of levels.
use Rattle.sap_lemmas.proofs.Common.{◌≡◌, ℕ, zero, suc, ◌+◌, ◌*◌, ◌≤◌, List, [], ◌∷◌, ◌++◌, length, Bool, true, false, refl, arith, inl, inr, length-append, nat_lt, if◌then◌else◌, cases_Bool, mul-le-mul_left}
use Rattle.sap_bits.specs.declared.Op2.TheVariants.{Eq}
use Rattle.sap_maps.specs.Prelude.{Name, Term, constant, read, cell, one, two, choose, join, part}
use Rattle.sap_meaning.specs.Prelude.{root, is_dynamic, LevelTerm, fixed, of, at_place, both, state_node, Group, no_node, and_node, width_of}
use Rattle.sap_size.specs.Terms.{operations_in, operations, term_size}
use Rattle.sap_size.specs.Programs.{level_size, states_below}
use Rattle.sap_size.proofs.Terms.{has, has_front, has_behind, operations_within}
use Rattle.sap_tagged.specs.Prelude.{tag_key, Setting, var, lub, expr, cell_tag, tag_of, place_width, widened, placed, new_tag, told_tag, child_tag, enters, child_enters}
use Rattle.sap_tagged.proofs.small.Held.{Held, Covers, held_none, held_first, held_rest, held_front, held_behind, held_more, held_both, two_weighs, choose_weighs, lub_weighs, below_weighs}

-- what a number of items has room for: of each command and each state so many
pub record Roomy (d : Setting) (room : ℕ) : Type 0 where
  pub wide : 8 * (root d.world + d.world.order.count) + 6 ≤ room
  pub levels : 2 ≤ d.world.order.count

-- either of two terms
pub either_weighs : (c : Bool) (a b : Term Name) (n : ℕ) → operations a ≤ n → operations b ≤ n → operations (if c then a else b) ≤ n
either_weighs true a b n h k = h
either_weighs false a b n h k = k

module _ (d : Setting) where
  -- an expression

  expr_short : (e : Term ℕ) → length (operations_in (expr d e)) + 1 ≤ term_size e
  expr_short (cell m i) = let r = expr_short i in omega (arith, r)
  expr_short (one o a) = let r = expr_short a in omega (arith, r)
  expr_short (two o a b) =
      let r = expr_short a in
      let s = expr_short b in
      let n = length-append (operations_in (expr d a)) (operations_in (expr d b)) in
      omega (arith, r, s, n)
  expr_short (choose c a b) =
      let q = expr_short c in
      let r = expr_short a in
      let s = expr_short b in
      let m = length-append (operations_in (expr d c)) (operations_in (expr d a) ++ operations_in (expr d b)) in
      let n = length-append (operations_in (expr d a)) (operations_in (expr d b)) in
      omega (arith, q, r, s, m, n)
  expr_short (join a b) =
      let r = expr_short a in
      let s = expr_short b in
      let n = length-append (operations_in (expr d a)) (operations_in (expr d b)) in
      omega (arith, r, s, n)
  expr_short (part a hi lo) = let r = expr_short a in omega (arith, r)
  expr_short _ = omega arith

  pub expr_weighs : (e : Term ℕ) → operations (expr d e) + 1 ≤ term_size e
  expr_weighs e =
      let l = operations_within (expr d e) (operations_in (expr d e)) (λ q h. h) in
      let s = expr_short e in
      omega (arith, l, s)

  -- The joins of the tag of an expression, and the tags of the cells that it reads.
  tag_list : Term ℕ → List (Term Name)
  tag_list (constant u n) = []
  tag_list (read x) = []
  tag_list (cell m i) = tag_of d (cell m i) ∷ (cell_tag d m i ∷ tag_list i)
  tag_list (one o a) = tag_list a
  tag_list (two o a b) = tag_of d (two o a b) ∷ (tag_list a ++ tag_list b)
  tag_list (choose c a b) = tag_of d (choose c a b) ∷ (lub (tag_of d a) (tag_of d b) ∷ (tag_list c ++ (tag_list a ++ tag_list b)))
  tag_list (join a b) = tag_of d (join a b) ∷ (tag_list a ++ tag_list b)
  tag_list (part a hi lo) = tag_list a

  tags_short : (e : Term ℕ) → length (tag_list e) + 2 ≤ 2 * term_size e
  unfolding tag_list
  tags_short (cell m i) = let r = tags_short i in omega (arith, r)
  tags_short (one o a) = let r = tags_short a in omega (arith, r)
  tags_short (two o a b) =
      let r = tags_short a in
      let s = tags_short b in
      let n = length-append (tag_list a) (tag_list b) in
      omega (arith, r, s, n)
  tags_short (choose c a b) =
      let q = tags_short c in
      let r = tags_short a in
      let s = tags_short b in
      let m = length-append (tag_list c) (tag_list a ++ tag_list b) in
      let n = length-append (tag_list a) (tag_list b) in
      omega (arith, q, r, s, m, n)
  tags_short (join a b) =
      let r = tags_short a in
      let s = tags_short b in
      let n = length-append (tag_list a) (tag_list b) in
      omega (arith, r, s, n)
  tags_short (part a hi lo) = let r = tags_short a in omega (arith, r)
  tags_short _ = omega arith

  cell_covered : (xs : List (Term Name)) (m : ℕ) (i : Term ℕ) → has xs (cell_tag d m i) ≡ true → Covers xs (expr d i) → Covers xs (cell_tag d m i)
  cell_covered xs m i h k =
      elim (cases_Bool (is_dynamic d.world m)) [
        | inl t ↦ rw t (held_none xs)
        | inr f ↦ rw f (held_more xs (cell (d.name (tag_key m)) (expr d i)) (operations_in (expr d i)) (rw f at h) k)
      ]

  tag_covered : (xs : List (Term Name)) (e : Term ℕ) → Held xs (tag_list e) → Covers xs (expr d e) → Covers xs (tag_of d e)
  unfolding tag_list
  tag_covered xs (constant u n) h k = held_none xs
  tag_covered xs (read x) h k = held_none xs
  tag_covered xs (cell m i) h k =
      let t = tag_of d (cell m i) in
      let c = cell_tag d m i in
      let ki = held_rest xs (expr d (cell m i)) (operations_in (expr d i)) k in
      let hc = held_rest xs t (c ∷ tag_list i) h in
      held_more xs t (operations_in (tag_of d i) ++ operations_in c) (held_first xs t (c ∷ tag_list i) h)
      (held_both xs (operations_in (tag_of d i)) (operations_in c) (tag_covered xs i (held_rest xs c (tag_list i) hc) ki)
      (cell_covered xs m i (held_first xs c (tag_list i) hc) ki))
  tag_covered xs (one o a) h k = tag_covered xs a h (held_rest xs (expr d (one o a)) (operations_in (expr d a)) k)
  tag_covered xs (two o a b) h k =
      let t = tag_of d (two o a b) in
      let l = held_rest xs t (tag_list a ++ tag_list b) h in
      let m = held_rest xs (expr d (two o a b)) (operations_in (expr d a) ++ operations_in (expr d b)) k in
      held_more xs t (operations_in (tag_of d a) ++ operations_in (tag_of d b)) (held_first xs t (tag_list a ++ tag_list b) h)
      (held_both xs (operations_in (tag_of d a)) (operations_in (tag_of d b))
      (tag_covered xs a (held_front xs (tag_list a) (tag_list b) l) (held_front xs (operations_in (expr d a)) (operations_in (expr d b)) m))
      (tag_covered xs b (held_behind xs (tag_list a) (tag_list b) l) (held_behind xs (operations_in (expr d a)) (operations_in (expr d b)) m)))
  tag_covered xs (choose c a b) h k =
      let t = tag_of d (choose c a b) in
      let u = lub (tag_of d a) (tag_of d b) in
      let ts = tag_list c ++ (tag_list a ++ tag_list b) in
      let es = operations_in (expr d a) ++ operations_in (expr d b) in
      let hu = held_rest xs t (u ∷ ts) h in
      let l = held_rest xs u ts hu in
      let lab = held_behind xs (tag_list c) (tag_list a ++ tag_list b) l in
      let m = held_rest xs (expr d (choose c a b)) (operations_in (expr d c) ++ es) k in
      let mab = held_behind xs (operations_in (expr d c)) es m in
      let ca = tag_covered xs a (held_front xs (tag_list a) (tag_list b) lab) (held_front xs (operations_in (expr d a)) (operations_in (expr d b)) mab) in
      let cb = tag_covered xs b (held_behind xs (tag_list a) (tag_list b) lab) (held_behind xs (operations_in (expr d a)) (operations_in (expr d b)) mab) in
      let cu = held_more xs u (operations_in (tag_of d a) ++ operations_in (tag_of d b)) (held_first xs u ts hu)
      (held_both xs (operations_in (tag_of d a)) (operations_in (tag_of d b)) ca cb) in
      let ch = tag_covered xs c (held_front xs (tag_list c) (tag_list a ++ tag_list b) l) (held_front xs (operations_in (expr d c)) es m) in
      held_more xs t (operations_in (tag_of d c) ++ operations_in u) (held_first xs t (u ∷ ts) h) (held_both xs (operations_in (tag_of d c)) (operations_in u) ch cu)
  tag_covered xs (join a b) h k =
      let t = tag_of d (join a b) in
      let l = held_rest xs t (tag_list a ++ tag_list b) h in
      let m = held_rest xs (expr d (join a b)) (operations_in (expr d a) ++ operations_in (expr d b)) k in
      held_more xs t (operations_in (tag_of d a) ++ operations_in (tag_of d b)) (held_first xs t (tag_list a ++ tag_list b) h)
      (held_both xs (operations_in (tag_of d a)) (operations_in (tag_of d b))
      (tag_covered xs a (held_front xs (tag_list a) (tag_list b) l) (held_front xs (operations_in (expr d a)) (operations_in (expr d b)) m))
      (tag_covered xs b (held_behind xs (tag_list a) (tag_list b) l) (held_behind xs (operations_in (expr d a)) (operations_in (expr d b)) m)))
  tag_covered xs (part a hi lo) h k = tag_covered xs a h (held_rest xs (expr d (part a hi lo)) (operations_in (expr d a)) k)

  -- each index stands in the tags of all reads around it, and counts once
  pub tag_weighs : (e : Term ℕ) → operations (tag_of d e) + 3 ≤ 3 * term_size e
  tag_weighs e =
      let ts = tag_list e in
      let es = operations_in (expr d e) in
      let l = operations_within (tag_of d e) (ts ++ es) (tag_covered (ts ++ es) e (λ q h. has_front ts es q h) (λ q h. has_behind ts es q h)) in
      let n = length-append ts es in
      let s = tags_short e in
      let r = expr_short e in
      omega (arith, l, n, s, r)

  -- levels by their places

  placed_list : (u : ℕ) → (e : Term Name) → (i more : ℕ) → List (Term Name)
  placed_list u e i zero = []
  placed_list u e i (suc m) = placed d u e i (suc m) ∷ (two Eq e (constant u i) ∷ placed_list u e (i + 1) m)

  placed_short : (u : ℕ) (e : Term Name) (i m : ℕ) → length (placed_list u e i m) ≡ 2 * m
  unfolding placed_list
  placed_short u e i zero = refl
  placed_short u e i (suc m) = let r = placed_short u e (i + 1) m in omega (arith, r)

  placed_covered : (xs : List (Term Name)) (u : ℕ) (e : Term Name) (i m : ℕ) → Held xs (placed_list u e i m) → Covers xs e → Covers xs (placed d u e i m)
  unfolding placed_list
  placed_covered xs u e i zero h k = held_none xs
  placed_covered xs u e i (suc m) h k =
      let t = placed d u e i (suc m) in
      let c = two Eq e (constant u i) in
      let r = placed d u e (i + 1) m in
      let hc = held_rest xs t (c ∷ placed_list u e (i + 1) m) h in
      let kc = held_more xs c (operations_in e ++ []) (held_first xs c (placed_list u e (i + 1) m) hc) (held_both xs (operations_in e) [] k (held_none xs)) in
      held_more xs t (operations_in c ++ operations_in r) (held_first xs t (c ∷ placed_list u e (i + 1) m) h)
      (held_both xs (operations_in c) (operations_in r) kc (placed_covered xs u e (i + 1) m (held_rest xs c (placed_list u e (i + 1) m) hc) k))

  widened_short : (u : ℕ) (e : Term ℕ) → length (operations_in (widened u (expr d e))) ≤ term_size e
  widened_short u e =
      let s = expr_short e in
      elim (cases_Bool (nat_lt u 6)) [ inl t ↦ rw t (omega (arith, s)) | inr f ↦ rw f (omega (arith, s)) ]

  place_weighs : (u v : ℕ) (e : Term ℕ) (m : ℕ) → operations (placed d u (widened v (expr d e)) 0 m) ≤ 2 * m + term_size e
  place_weighs u v e m =
      let w = widened v (expr d e) in
      let ps = placed_list u w 0 m in
      let es = operations_in w in
      let l = operations_within (placed d u w 0 m) (ps ++ es) (placed_covered (ps ++ es) u w 0 m (λ q h. has_front ps es q h) (λ q h. has_behind ps es q h)) in
      let n = length-append ps es in
      let s = placed_short u w 0 m in
      let r = widened_short v e in
      omega (arith, l, n, s, r)

  -- the level that a tag expression gives, four times, and what it tells
  pub level_weighs : (room : ℕ) → Roomy d room → (n : LevelTerm) → 4 * operations (new_tag d n) + operations (told_tag d n) + 5 ≤ room * level_size n
  level_weighs room r (fixed n) = let w = r.wide in omega (arith, w)
  level_weighs room r (of e) =
      let w = r.wide in
      let l = r.levels in
      let t = tag_weighs e in
      let m : term_size e * 22 ≤ term_size e * room = mul-le-mul_left (term_size e) (omega (arith, w, l)) in
      omega (arith, w, l, t, m)
  level_weighs room r (at_place e) =
      let w = r.wide in
      let l = r.levels in
      let t = tag_weighs e in
      let u = width_of d.world e in
      let p = place_weighs (place_width u) u e d.world.order.count in
      let m : term_size e * 22 ≤ term_size e * room = mul-le-mul_left (term_size e) (omega (arith, w, l)) in
      omega (arith, w, l, t, p, m)
  level_weighs room r (both a b) =
      let p = level_weighs room r a in
      let q = level_weighs room r b in
      let s = lub_weighs (new_tag d a) (new_tag d b) in
      let t = lub_weighs (told_tag d a) (told_tag d b) in
      omega (arith, p, q, s, t)

  -- the current child

  pub child_tag_weighs : (u : ℕ) (seat : Name) (g : Group) (i : ℕ) → operations (child_tag d u (read seat) g i) ≤ 2 * states_below g
  child_tag_weighs u seat (and_node (state_node c b k) (and_node t g)) i =
      let r = child_tag_weighs u seat (and_node t g) (i + 1) in
      let p = two_weighs Eq (read seat) (constant u i) in
      let q = choose_weighs (two Eq (read seat) (constant u i)) (var d (tag_key c)) (child_tag d u (read seat) (and_node t g) (i + 1)) in
      omega (arith, r, p, q)
  child_tag_weighs u seat _ i = omega arith

  pub enters_weighs : (pc : Name) (c : ℕ) → operations (enters d (read pc) c) ≤ 2
  enters_weighs pc c =
      let b = below_weighs (read pc) (var d (tag_key c)) in either_weighs (is_dynamic d.world c) _ _ 2 (omega arith) (omega (arith, b))

  pub child_enters_weighs : (pc : Name) (u : ℕ) (seat : Name) (g : Group) (i : ℕ) → operations (child_enters d (read pc) u (read seat) g i) ≤ 4 * states_below g
  child_enters_weighs pc u seat no_node i = omega arith
  child_enters_weighs pc u seat (and_node (state_node c b k) no_node) i = let e = enters_weighs pc c in omega (arith, e)
  child_enters_weighs pc u seat (and_node (state_node c b k) (and_node t g)) i =
      let r = child_enters_weighs pc u seat (and_node t g) (i + 1) in
      let e = enters_weighs pc c in
      let p = two_weighs Eq (read seat) (constant u i) in
      let q = choose_weighs (two Eq (read seat) (constant u i)) (enters d (read pc) c) (child_enters d (read pc) u (read seat) (and_node t g) (i + 1)) in
      omega (arith, r, e, p, q)
