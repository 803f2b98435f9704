-- Which block of a `case` runs: that of the first arm that has the number, told by a number in a wire.
use Rattle.sap_lemmas.proofs.Common.{◌≡◌, ℕ, zero, suc, ◌+◌, ◌-◌, ◌*◌, ◌/◌, ◌%◌, ◌^◌, ◌<◌, ◌≤◌, Bool, true, false, ◌||◌, List, [], ◌∷◌, length, get_or, take, drop, refl, ap, ◌∙◌, arith, nat_le, nat_lt, inl, inr, if◌then◌else◌, ◌==◌, cases_Bool, leb-false, leb-true, ltb-false, ltb-true, get_or-take, length-take-le, length-drop, div-mul-add, pow-suc}
use Rattle.std.proofs.lemmas.List.{get_or-drop}
use Rattle.sap_bits.specs.Arithmetic.{slice_of}
use Rattle.sap_maps.specs.Maps.{Name}
use Rattle.sap_meaning.specs.Prelude.{Arms, last_arm, and_arm, Store, is_constant}
use Rattle.sap_ir.specs.Prelude.{Going, Body, stop, body_does}
use Rattle.sap_tagged.specs.Prelude.{wire_key, Setting, arm_count, picks_arm, picks, decides, Lawful, at, Stands}
use Rattle.sap_tagged.proofs.Puts.{put_to}
use Rattle.sap_tagged.proofs.Looks.{Quiet, quiet_none, quiet_next, wired}
use Rattle.sap_tagged.proofs.Effects.{chosen}

-- the number of the first arm that has a number among its constants, of the last block where none has
abbrev pub arm_place : Arms → ℕ → ℕ
arm_place (last_arm b) n = 0
arm_place (and_arm constants b arms) n = if is_constant constants n then 0 else suc (arm_place arms n)

pub arm_within : (arms : Arms) (n : ℕ) → arm_place arms n ≤ arm_count arms
arm_within (last_arm b) n = omega arith
arm_within (and_arm constants b arms) n = elim (cases_Bool (is_constant constants n)) [
  | inl t ↦ rw t (omega arith)
  | inr t ↦ rw t (let i = arm_within arms n in omega (arith, i))
]

-- bits of a number

one_bit : (v m : ℕ) → slice_of v m m ≡ v / 2 ^ m % 2
one_bit v m = let e : m + 1 - m ≡ 1 = omega arith in ap (λ (k : ℕ). v / 2 ^ m % 2 ^ k) e

low_bit : (v m q r : ℕ) → v ≡ 2 * q * 2 ^ m + r → r < 2 ^ m → slice_of v m m ≡ 0
low_bit v m q r e l =
    let d : v / 2 ^ m ≡ 2 * q = ap (λ (n : ℕ). n / 2 ^ m) e ∙ div-mul-add (2 * q) (2 ^ m) r l in
    let z : 2 * q % 2 ≡ 0 = omega arith in
    one_bit v m ∙ ap (λ (n : ℕ). n % 2) d ∙ z

high_bit : (v m q r : ℕ) → v ≡ (2 * q + 1) * 2 ^ m + r → r < 2 ^ m → slice_of v m m ≡ 1
high_bit v m q r e l =
    let d : v / 2 ^ m ≡ 2 * q + 1 = ap (λ (n : ℕ). n / 2 ^ m) e ∙ div-mul-add (2 * q + 1) (2 ^ m) r l in
    let z : (2 * q + 1) % 2 ≡ 1 = omega arith in
    one_bit v m ∙ ap (λ (n : ℕ). n % 2) d ∙ z

lower : (v m q r : ℕ) → v ≡ q * 2 ^ suc m + r → v ≡ 2 * q * 2 ^ m + r
lower v m q r e = e ∙ ap (λ (p : ℕ). q * p + r) (pow-suc 2 m) ∙ moved q (2 ^ m) r
  where
    moved : (q p r : ℕ) → q * (p * 2) + r ≡ 2 * q * p + r
    moved q p r = omega arith

upper : (v m q r : ℕ) → v ≡ q * 2 ^ suc m + r → 2 ^ m ≤ r → v ≡ (2 * q + 1) * 2 ^ m + (r - 2 ^ m)
upper v m q r e l = e ∙ ap (λ (p : ℕ). q * p + r) (pow-suc 2 m) ∙ moved q (2 ^ m) r l
  where
    moved : (q p r : ℕ) → p ≤ r → q * (p * 2) + r ≡ (2 * q + 1) * p + (r - p)
    moved q p r l = omega (arith, l)

half : (n m : ℕ) → n ≤ 2 ^ suc m → n ≤ 2 ^ m + 2 ^ m
half n m h = let e = pow-suc 2 m in omega (arith, h, e)

module _ (d : Setting) (widths : Name → ℕ) (f : Going → Going) (go : Name → Going → Going) where
  -- the r-th body runs, where the wire's lowest bits are r
  pub decided : (j m : ℕ) (bs : List Body) (v q r : ℕ) (g : Going) → at d g (wire_key j) ≡ v → v ≡ q * 2 ^ m + r → r < length bs → length bs ≤ 2 ^ m
      → body_does widths f go (decides d j m bs) g ≡ body_does widths f go (get_or bs r stop) g
  decided j zero [] v q r g e s l h = absurd (omega (arith, l))
  decided j zero (b ∷ bs) v q r g e s l h = let z : r ≡ 0 = omega (arith, l, h) in rw z refl
  decided j (suc m) bs v q r g e s l h = elim (cases_Bool (nat_le (length bs) (2 ^ m))) [
    | inl t ↦ rw t (decided j m bs v (2 * q) r g e (lower v m q r s) l (leb-true (length bs) (2 ^ m) t))
    | inr t ↦
        rw t
        (elim (cases_Bool (nat_lt r (2 ^ m))) [
          | inl i ↦
              (let below : r < 2 ^ m = ltb-true r (2 ^ m) i in
              let size : length (take (2 ^ m) bs) ≡ 2 ^ m = length-take-le (2 ^ m) bs (let a = leb-false (length bs) (2 ^ m) t in omega (arith, a)) in
              let bit : slice_of (at d g (wire_key j)) m m ≡ 0 = ap (λ (n : ℕ). slice_of n m m) e ∙ low_bit v m q r (lower v m q r s) below in
              rw bit
              (decided j m (take (2 ^ m) bs) v (2 * q) r g e (lower v m q r s) (omega (arith, size, below)) (omega (arith, size))
              ∙ ap (λ (b : Body). body_does widths f go b g) (get_or-take (2 ^ m) bs r stop below)))
          | inr i ↦
              (let beyond : 2 ^ m ≤ r = ltb-false r (2 ^ m) i in
              let size : length (drop (2 ^ m) bs) ≡ length bs - 2 ^ m = length-drop (2 ^ m) bs in
              let most : length bs ≤ 2 ^ m + 2 ^ m = half (length bs) m h in
              let rest : r - 2 ^ m < 2 ^ m = omega (arith, l, most, beyond) in
              let place : 2 ^ m + (r - 2 ^ m) ≡ r = omega (arith, beyond) in
              let bit : slice_of (at d g (wire_key j)) m m ≡ 1 = ap (λ (n : ℕ). slice_of n m m) e ∙ high_bit v m q (r - 2 ^ m) (upper v m q r s beyond) rest in
              rw bit
              (decided j m (drop (2 ^ m) bs) v (2 * q + 1) (r - 2 ^ m) g e (upper v m q r s beyond) (omega (arith, size, l, beyond)) (omega (arith, size, most))
              ∙ ap (λ (b : Body). body_does widths f go b g) (get_or-drop (2 ^ m) bs (r - 2 ^ m) stop ∙ ap (λ (n : ℕ). get_or bs n stop) place)))
        ])
  ]

module _ (d : Setting) (widths : Name → ℕ) (laws : Lawful d widths) (f : Going → Going) (go : Name → Going → Going) where
  -- The wire j is x, and wires before it are as they were.
  pub record Picked (s : Store) (j x : ℕ) (g g' : Going) : Type 0 where
    pub stands : Stands d g' s
    pub here : at d g' (wire_key j) ≡ x
    pub quiet : Quiet d j g g'

  either : (a b : Bool) (i y : ℕ) → (if b then i else (if a then i else y)) ≡ (if a || b then i else y)
  either true true i y = refl
  either _ _ i y = refl

  arm_picked : (u n w j i v : ℕ) (cs : List ℕ) (rest : Body) (g : Going) (s : Store) → n < j → at d g (wire_key n) ≡ v → Stands d g s
      → (g' : Going) × (body_does widths f go (picks_arm d u n w j i cs rest) g ≡ body_does widths f go rest g')
      × Picked s j (if is_constant cs v then i else at d g (wire_key j)) g g'
  unfolding put_to
  arm_picked u n w j i v [] rest g s l e st = (g, refl, record { stands = st; here = refl; quiet = quiet_none d j g })
  arm_picked u n w j i v (c ∷ cs) rest g s l e st =
      let old = at d g (wire_key j) in
      let x : ℕ = if (if at d g (wire_key n) == c then 1 else 0) == 0 then old else i in
      let y : ℕ = if v == c then i else old in
      let ex : x ≡ y = ap (λ (z : ℕ). if (if z == c then 1 else 0) == 0 then old else i) e ∙ chosen (v == c) i old in
      let r = wired d widths laws s j g x y st ex in
      let g1 = put_to d g (wire_key j) x in
      let q1 = r.quiet j (omega arith) in
      let a = arm_picked u n w j i v cs rest g1 s l (q1.kept n l ∙ e) r.stands in
      let p = a.2 in (
        a.0,
        a.1,
        record {
          stands = p.stands;
          here = p.here ∙ ap (λ (z : ℕ). if is_constant cs v then i else z) r.here ∙ either (v == c) (is_constant cs v) i old;
          quiet = quiet_next d j g g1 a.0 q1 p.quiet;
        },
      )

  pub arms_picked : (u n w j i v : ℕ) (arms : Arms) (rest : Body) (g : Going) (s : Store) → n < j → at d g (wire_key n) ≡ v → Stands d g s
      → (g' : Going) × (body_does widths f go (picks d u n w j i arms rest) g ≡ body_does widths f go rest g') × Picked s j (i + arm_place arms v) g g'
  unfolding put_to
  arms_picked u n w j i v (last_arm b) rest g s l e st =
      let zero_more : i ≡ i + 0 = omega arith in
      let r = wired d widths laws s j g i (i + 0) st zero_more in (
        put_to d g (wire_key j) i,
        refl,
        record { stands = r.stands; here = r.here; quiet = r.quiet j (omega arith) },
      )
  arms_picked u n w j i v (and_arm constants b arms) rest g s l e st =
      let a = arms_picked u n w j (suc i) v arms (picks_arm d u n w j i constants rest) g s l e st in
      let g1 = a.0 in
      let p = a.2 in
      let c = arm_picked u n w j i v constants rest g1 s l (p.quiet.kept n l ∙ e) p.stands in
      let q = c.2 in (
        c.0,
        a.1 ∙ c.1,
        record {
          stands = q.stands;
          here = q.here ∙ ap (λ (z : ℕ). if is_constant constants v then i else z) p.here ∙ number (is_constant constants v) i (arm_place arms v);
          quiet = quiet_next d j g g1 c.0 p.quiet q.quiet;
        },
      )
    where
      number : (b : Bool) (i m : ℕ) → (if b then i else suc i + m) ≡ i + (if b then 0 else suc m)
      number true i m = omega arith
      number false i m = omega arith
