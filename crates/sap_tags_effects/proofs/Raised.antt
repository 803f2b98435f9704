-- Assignments to the tags of many entities, as walks along lists of numbers.
use Rattle.sap_lemmas.proofs.Common.{◌≡◌, ℕ, zero, suc, ◌+◌, ◌-◌, ◌<◌, ◌≤◌, Bool, true, false, ◌&&◌, ◌||◌, List, [], ◌∷◌, length, get_or, drop, map, refl, sym, ap, ◌∙◌, arith, add-one, nat_eq, nat_lt, if◌then◌else◌, inl, inr, nat_le, cases_Bool, lt-ltb, le-ltb, ltb-true, leb-true, le-leb, eq-eqb, eqb-true, ne_eqb, and_parts, length_map, test_symmetric}
use Rattle.std.proofs.lemmas.Bool.{and_left, and_right}
use Rattle.sap_resolved.proofs.FillLemmas.{table_at}
use Rattle.sap_ir.proofs.PlainLemmas.{follow_stop}
use Rattle.sap_maps.specs.Prelude.{Name, Term}
use Rattle.sap_meaning.specs.Prelude.{root, is_dynamic, listed, go_to, Home, listed_alone}
use Rattle.sap_ir.specs.Prelude.{Body, stop, follow}
use Rattle.sap_ir.proofs.plain.Views.{follow-more}
use Rattle.sap_program.specs.Prelude.{rises_from, rises, hangs, flags, entity_of, step_of}
use Rattle.sap_program.specs.declared.program.Step.{Step}
use Rattle.sap_program.specs.declared.program.Entity.{Entity}
use Rattle.sap_program.specs.declared.program.Step.TheVariants as step
use Rattle.sap_tagged.specs.Prelude.{Key, tag_key, wire_key, Setting, var, lub, gives, sweep, raises}

-- tables

-- rising lists

-- each number is above the one before it, and the first is x or above
abbrev from : ℕ → List ℕ → Bool
from x [] = true
from x (y ∷ ys) = nat_le x y && rises_from y ys

from_rising : (xs : List ℕ) → rises xs ≡ true → from 0 xs ≡ true
from_rising [] h = refl
from_rising (y ∷ ys) h = rw (le-leb 0 y (omega arith), h) refl

from_tail : (y : ℕ) (ys : List ℕ) → rises_from y ys ≡ true → from (y + 1) ys ≡ true
from_tail y [] h = refl
from_tail y (z ∷ zs) h = let b = and_parts (nat_lt y z) (rises_from z zs) h in let l = ltb-true y z b.0 in rw (le-leb (y + 1) z (omega arith), b.1) refl

from_next : (x y : ℕ) (ys : List ℕ) → x < y → from x (y ∷ ys) ≡ true → from (x + 1) (y ∷ ys) ≡ true
from_next x y ys l h = let b = and_parts (nat_le x y) (rises_from y ys) h in rw (le-leb (x + 1) y (omega arith), b.1) refl

unhung : (x m : ℕ) (ys : List ℕ) → x < m → from m ys ≡ true → hangs ys x ≡ false
unhung x m [] l h = refl
unhung x m (y ∷ ys) l h =
    let b = and_parts (nat_le m y) (rises_from y ys) h in
    let k = leb-true m y b.0 in
    rw (ne_eqb y x (λ e. omega (arith, e, k, l)), unhung x (y + 1) ys (omega arith) (from_tail y ys b.1)) refl

module _ (d : Setting) (key : ℕ → Key) (term : ℕ → Term Name) where
  -- assignments for the numbers of a list below n
  abbrev pub walk : (n : ℕ) → List ℕ → Body
  walk n [] = stop
  walk n (x ∷ xs) = if nat_lt x n then gives d (key x) (term x) (walk n xs) else walk n xs

  walk_past : (n : ℕ) (xs : List ℕ) → from n xs ≡ true → walk n xs ≡ stop
  walk_past n [] h = refl
  walk_past n (y ∷ ys) h =
      let b = and_parts (nat_le n y) (rises_from y ys) h in
      let k = leb-true n y b.0 in
      rw (le-ltb y n k) (walk_past n ys (further ys (from_tail y ys b.1)))
    where
      further : (zs : List ℕ) → from (y + 1) zs ≡ true → from n zs ≡ true
      further [] i = refl
      further (z ∷ zs) i =
          let b = and_parts (nat_le (y + 1) z) (rises_from z zs) i in
          let l = leb-true (y + 1) z b.0 in
          let c = and_parts (nat_le n y) (rises_from y ys) h in
          let k = leb-true n y c.0 in
          rw (le-leb n z (omega arith), b.1) refl

  swept : (picks : ℕ → Bool) (m x n : ℕ) (xs : List ℕ) → n ≡ x + m → from x xs ≡ true → ((y : ℕ) → x ≤ y → y < n → picks y ≡ hangs xs y)
      → sweep d key picks term x m stop ≡ walk n xs
  swept picks zero x n xs e f h = sym (walk_past n xs (let i : x ≡ n = omega arith in rw (← i) f))
  swept picks (suc m) x n [] e f h =
      rw (h x (omega arith) (omega arith)) (swept picks m (x + 1) n [] (omega arith) refl (λ y l k. h y (omega arith) k))
  swept picks (suc m) x n (z ∷ zs) e f h =
      let b = and_parts (nat_le x z) (rises_from z zs) f in
      elim (cases_Bool (nat_lt x z)) [
        | inl t ↦
            let l : x < z = ltb-true x z t in
            let g = from_next x z zs l f in
            rw (h x (omega arith) (omega arith) ∙ unhung x (x + 1) (z ∷ zs) (omega arith) g)
            (swept picks m (x + 1) n (z ∷ zs) (omega arith) g (λ y l k. h y (omega arith) k))
        | inr t ↦
            let l = leb-true x z b.0 in
            let i : x ≡ z = grind arith in
            let first : picks x ≡ true = h x (omega arith) (omega arith) ∙ rw (eq-eqb z x (sym i)) refl in
            let there : nat_lt z n ≡ true = lt-ltb z n (omega arith) in
            rw (first, there, ← i)
            (ap (gives d (key x) (term x)) (swept picks m (x + 1) n zs (omega arith) (rw i (from_tail z zs b.1))
            (λ y l k. h y (omega arith) k ∙ rw (ne_eqb z y (λ (j : z ≡ y). omega (arith, j))) refl)))
      ]

  pub walk_is : (picks : ℕ → Bool) (n : ℕ) (xs : List ℕ) → rises xs ≡ true → ((y : ℕ) → y < n → picks y ≡ hangs xs y) → sweep d key picks term 0 n stop ≡ walk n xs
  walk_is picks n xs r h = swept picks n 0 n xs (omega arith) (from_rising xs r) (λ y l k. h y k)

  -- one number more

  pub walk_next : (n : ℕ) (xs : List ℕ) (i e : ℕ) → i < length xs
      → walk n (drop i xs) ≡ follow (if nat_lt (get_or xs i e) n then gives d (key (get_or xs i e)) (term (get_or xs i e)) stop else stop) (walk n (drop (i + 1) xs))
  walk_next n [] i e l = absurd (omega arith)
  walk_next n (x ∷ xs) zero e l = elim (cases_Bool (nat_lt x n)) [ inl t ↦ rw t refl | inr t ↦ rw t refl ]
  walk_next n (x ∷ xs) (suc i) e l = let r = walk_next n xs i e (omega arith) in simp (add-one) (simp (add-one) at r)

  pub walk_step : (n : ℕ) (xs : List ℕ) (i e : ℕ) (now new all : Body) → i < length xs
      → new ≡ follow now (if nat_lt (get_or xs i e) n then gives d (key (get_or xs i e)) (term (get_or xs i e)) stop else stop)
      → follow now (walk n (drop i xs)) ≡ all → follow new (walk n (drop (i + 1) xs)) ≡ all
  walk_step n xs i e now new all l h k =
      ap (λ (b : Body). follow b (walk n (drop (i + 1) xs))) h
      ∙ follow-more now (if nat_lt (get_or xs i e) n then gives d (key (get_or xs i e)) (term (get_or xs i e)) stop else stop) (walk n (drop (i + 1) xs))
      ∙ ap (follow now) (sym (walk_next n xs i e l)) ∙ k

  pub walk_rest : (n : ℕ) (xs : List ℕ) (i : ℕ) → length xs ≤ i → walk n (drop i xs) ≡ stop
  walk_rest n [] zero l = refl
  walk_rest n [] (suc i) l = refl
  walk_rest n (x ∷ xs) zero l = absurd (omega arith)
  walk_rest n (x ∷ xs) (suc i) l = walk_rest n xs i (omega arith)

  -- one entity more

  sweep_more : (picks : ℕ → Bool) (x m k : ℕ) → m ≡ suc k
      → sweep d key picks term x m stop ≡ follow (if picks x then gives d (key x) (term x) stop else stop) (sweep d key picks term (x + 1) k stop)
  sweep_more picks x m k e = rw e (elim (cases_Bool (picks x)) [ inl t ↦ rw t refl | inr t ↦ rw t refl ])

  pub sweep_next : (picks : ℕ → Bool) (x n : ℕ) → x < n
      → sweep d key picks term x (n - x) stop ≡ follow (if picks x then gives d (key x) (term x) stop else stop) (sweep d key picks term (x + 1) (n - (x + 1)) stop)
  sweep_next picks x n l = sweep_more picks x (n - x) (n - (x + 1)) (omega arith)

  sweep_none : (picks : ℕ → Bool) (x m : ℕ) → m ≡ 0 → sweep d key picks term x m stop ≡ stop
  sweep_none picks x m e = rw e refl

  pub sweep_rest : (picks : ℕ → Bool) (x n : ℕ) → n ≤ x → sweep d key picks term x (n - x) stop ≡ stop
  sweep_rest picks x n l = sweep_none picks x (n - x) (omega arith)

  -- a sweep in front of others
  pub sweep_follow : (picks : ℕ → Bool) (x m : ℕ) (b : Body) → sweep d key picks term x m b ≡ follow (sweep d key picks term x m stop) b
  sweep_follow picks x zero b = refl
  sweep_follow picks x (suc m) b = elim (cases_Bool (picks x)) [
    | inl e ↦ rw e (ap (gives d (key x) (term x)) (sweep_follow picks (x + 1) m b))
    | inr e ↦ rw e (sweep_follow picks (x + 1) m b)
  ]

-- raises

-- the raise of an entity
abbrev pub raised : Setting → (wire : ℕ) → ℕ → Term Name
raised d j x = lub (var d (tag_key x)) (var d (wire_key j))

pub raises_listed : (d : Setting) (n : ℕ) (xs : List ℕ) (j : ℕ) → root d.world ≡ n → rises xs ≡ true → raises d (listed (flags n xs)) j stop ≡ walk d tag_key (raised d j) n xs
raises_listed d n xs j e r = rw e (walk_is d tag_key (raised d j) (listed (flags n xs)) n xs r (λ y l. table_at n (hangs xs) y l))

pub raises_follow : (d : Setting) (picks : ℕ → Bool) (j : ℕ) (b : Body) → raises d picks j b ≡ follow (raises d picks j stop) b
raises_follow d picks j b = sweep_follow d tag_key (raised d j) picks 0 (root d.world) b

-- a step alone raises but the state that it leaves
pub alone_dynamic : (d : Setting) (at : Home) (j n site target : ℕ) → root d.world ≡ n → is_dynamic d.world at.state ≡ true
    → raises d (listed_alone d.world at (go_to site target)) j stop ≡ (if nat_lt at.state n then gives d (tag_key at.state) (raised d j at.state) stop else stop)
alone_dynamic d at j n site target e t =
    rw e (walk_is d tag_key (raised d j) (listed_alone d.world at (go_to site target)) n (at.state ∷ []) refl picked)
  where
    picked : (y : ℕ) → y < n → listed_alone d.world at (go_to site target) y ≡ hangs (at.state ∷ []) y
    picked y l = elim (cases_Bool (nat_eq y at.state)) [
      | inl i ↦ (let k = eqb-true y at.state i in rw (k, t, eq-eqb at.state at.state refl) refl)
      | inr i ↦ and_right (is_dynamic d.world y) (nat_eq y at.state) i ∙ sym (ap (λ (b : Bool). b || false) (test_symmetric at.state y ∙ i))
    ]

pub alone_enforced : (d : Setting) (at : Home) (j site target : ℕ) → is_dynamic d.world at.state ≡ false → raises d (listed_alone d.world at (go_to site target)) j stop ≡ stop
alone_enforced d at j site target t = walk_is d tag_key (raised d j) (listed_alone d.world at (go_to site target)) (root d.world) [] refl picked
  where
    picked : (y : ℕ) → y < root d.world → listed_alone d.world at (go_to site target) y ≡ false
    picked y l = elim (cases_Bool (nat_eq y at.state)) [
      | inl i ↦ and_left (is_dynamic d.world y) (nat_eq y at.state) (ap (is_dynamic d.world) (eqb-true y at.state i) ∙ t)
      | inr i ↦ and_right (is_dynamic d.world y) (nat_eq y at.state) i
    ]

pub entities_count : (es : List Entity) → length (map entity_of es) ≡ length es
entities_count es = length_map entity_of es

-- a step as the code takes it

pub goto_dynamic : (d : Setting) (at : Home) (j n : ℕ) (k : Step) (site target : ℕ) → k ≡ step.Goto site target → root d.world ≡ n → is_dynamic d.world at.state ≡ true
    → (if nat_lt at.state n then gives d (tag_key at.state) (raised d j at.state) stop else stop) ≡ raises d (listed_alone d.world at (step_of n k)) j stop
goto_dynamic d at j n k site target i e t = rw i (sym (alone_dynamic d at j n site target e t))

pub goto_enforced : (d : Setting) (at : Home) (j n : ℕ) (k : Step) (site target : ℕ) (b : Body) → k ≡ step.Goto site target → is_dynamic d.world at.state ≡ false
    → b ≡ follow b (raises d (listed_alone d.world at (step_of n k)) j stop)
goto_enforced d at j n k site target b i t = rw i (sym (ap (follow b) (alone_enforced d at j site target t) ∙ follow_stop b))

pub quiet : (d : Setting) (at : Home) (j n : ℕ) (k : Step) (b : Body) → ((x : ℕ) → listed_alone d.world at (step_of n k) x ≡ false)
    → b ≡ follow b (raises d (listed_alone d.world at (step_of n k)) j stop)
quiet d at j n k b h =
    sym (ap (follow b) (walk_is d tag_key (raised d j) (listed_alone d.world at (step_of n k)) (root d.world) [] refl (λ y l. h y)) ∙ follow_stop b)

pub ruleset sweeps = (sweep_next, sweep_rest, entities_count, follow_stop, follow-more)
