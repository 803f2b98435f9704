-- Where no fault stands, each test of one is false; and what that says of widths.
use Rattle.std.proofs.lemmas.Option.{cond_some}
use Rattle.sap_lemmas.proofs.Common.{◌≡◌, ℕ, zero, suc, ◌+◌, ◌-◌, ◌^◌, ◌<◌, ◌≤◌, List, [], ◌++◌, Bool, true, false, not, ◌&&◌, Option, Some, None, refl, sym, ap, ◌∙◌, subst, arith, inl, inr, eqb, leb, ltb, cases_Bool, eqb-true, leb-true, and_parts, leb-false, ltb-true, not-false, some_same}
use Rattle.sap_names.proofs.FaultLemmas.{nil_left, nil_right}
use Rattle.sap_names.specs.Prelude.{unsettled, too_large, sound_width, index_bits, else_of, extended, sliced, is_sound}
use Rattle.sap_names.specs.declared.fault.Fault.{Fault}
use Rattle.sap_names.specs.Widths.{bits_up_to, joined}
use Rattle.sap_resolved.specs.Sized.Ranges.{IsWidth, IsDepth}

-- no fault in two lists, three or four
pub none_two : (xs ys : List Fault) → xs ++ ys ≡ [] → (xs ≡ []) × (ys ≡ [])
none_two xs ys h = (nil_left xs ys h, nil_right xs ys h)

pub none_three : (xs ys zs : List Fault) → xs ++ ys ++ zs ≡ [] → (xs ≡ []) × (ys ≡ []) × (zs ≡ [])
none_three xs ys zs h =
    let l = nil_left (xs ++ ys) zs h in
    (nil_left xs ys l, nil_right xs ys l, nil_right (xs ++ ys) zs h)

pub none_four : (xs ys zs us : List Fault) → xs ++ ys ++ zs ++ us ≡ [] → (xs ≡ []) × (ys ≡ []) × (zs ≡ []) × (us ≡ [])
none_four xs ys zs us h =
    let l = none_three xs ys zs (nil_left (xs ++ ys ++ zs) us h) in
    (l.0, l.1, l.2, nil_right (xs ++ ys ++ zs) us h)

-- own and asked-for width settle to one
pub settled_as : (mine : Option ℕ) (r : ℕ) → unsettled mine (Some r) ≡ false → else_of mine (Some r) ≡ Some r
settled_as None r h = refl
settled_as (Some w) r h = ap (λ n. Some n) (eqb-true w r (not-false (eqb w r) h))

pub settled : (mine asked : Option ℕ) → unsettled mine asked ≡ false → (u : ℕ) × (else_of mine asked ≡ Some u)
settled None None h = cc
settled None (Some r) h = (r, refl)
settled (Some w) asked h = (w, refl)

-- where nothing is asked for, there is an own width
pub settled_own : (mine : Option ℕ) → unsettled mine None ≡ false → (u : ℕ) × (mine ≡ Some u)
settled_own None h = cc
settled_own (Some w) h = (w, refl)

pub sound_some : (mine : Option ℕ) → is_sound mine ≡ true → (u : ℕ) × (mine ≡ Some u)
sound_some None h = cc
sound_some (Some w) h = (w, refl)

pub some_sound : (mine : Option ℕ) (u : ℕ) → mine ≡ Some u → is_sound mine ≡ true
some_sound None u h = cc
some_sound (Some w) u h = refl

-- a fault of what has no own width, though its parts have
pub sound_whole : (mine : Option ℕ) (parts : Bool) → (not (is_sound mine) && parts) ≡ false → parts ≡ true → (u : ℕ) × (mine ≡ Some u)
sound_whole None parts h p = cc
sound_whole (Some w) parts h p = (w, refl)

pub fits_width : (mine : Option ℕ) (w value : ℕ) → mine ≡ Some w → too_large mine value ≡ false → value < 2 ^ w
fits_width None w value e h = cc
fits_width (Some u) w value e h = subst (λ (k : ℕ). value < 2 ^ k) (some_same u w e) (leb-false (2 ^ u) value h)

pub sound_is : (w u : ℕ) → sound_width w ≡ Some u → (w ≡ u) × IsWidth w
sound_is w u h =
    let s = cond_some (leb 1 w && leb w 64) w u h in
    let t = and_parts (leb 1 w) (leb w 64) s.0 in
    (s.1, (leb-true 1 w t.0, leb-true w 64 t.1))

pub sound_same : (w : ℕ) → is_sound (sound_width w) ≡ true → sound_width w ≡ Some w
sound_same w h =
    let s = sound_some (sound_width w) h in
    s.1 ∙ ap (λ n. Some n) (sym (sound_is w s.0 s.1).0)

-- the bits of an index, among n
power_bits : (n depth b : ℕ) → bits_up_to n depth ≡ Some b → (1 ≤ b) × (b ≤ n) × (depth ≡ 2 ^ b)
power_bits zero depth b h = cc
power_bits (suc n) depth b h = elim (cases_Bool (eqb depth (2 ^ suc n))) [
  | inl t ↦
      let e : Some (suc n) ≡ Some b = rw t at h in
      let f : suc n ≡ b = some_same (suc n) b e in
      (omega arith, omega arith, subst (λ (k : ℕ). depth ≡ 2 ^ k) f (eqb-true depth (2 ^ suc n) t))
  | inr t ↦
      let p = power_bits n depth b (rw t at h) in
      let l : b ≤ n = p.1 in
      (p.0, omega arith, p.2)
]

pub index_power : (depth b : ℕ) → index_bits depth ≡ Some b → IsDepth depth b
index_power depth b h = power_bits 12 depth b h

-- a slice from `high` down to `low`
pub record Sliced (mine : Option ℕ) (high low u : ℕ) : Type 0 where
  pub whole : ℕ
  pub is : mine ≡ Some whole
  pub order : low ≤ high
  pub within : high < whole
  pub wide : u ≡ high + 1 - low

pub slice_is : (mine : Option ℕ) (high low u : ℕ) → sliced mine high low ≡ Some u → Sliced mine high low u
slice_is None high low u h = cc
slice_is (Some w) high low u h =
    let s = cond_some (leb low high && ltb high w) (high - low + 1) u h in
    let t = and_parts (leb low high) (ltb high w) s.0 in
    let l : low ≤ high = leb-true low high t.0 in
    let m : high < w = ltb-true high w t.1 in
    let e : high - low + 1 ≡ u = s.1 in
    record { whole = w; is = refl; order = l; within = m; wide = omega arith }

-- zeros in front up to a width
pub extended_is : (mine : Option ℕ) (width u : ℕ) → extended mine width ≡ Some u → (w : ℕ) × (mine ≡ Some w) × (w ≤ width) × (width ≡ u) × (width ≤ 64)
extended_is None width u h = cc
extended_is (Some w) width u h =
    let s = cond_some (leb w width && leb width 64) width u h in
    let t = and_parts (leb w width) (leb width 64) s.0 in
    (w, refl, leb-true w width t.0, s.1, leb-true width 64 t.1)

-- two parts together
pub joined_is : (left right : Option ℕ) (u : ℕ) → joined left right ≡ Some u → (a : ℕ) × (b : ℕ) × (left ≡ Some a) × (right ≡ Some b) × (a + b ≡ u) × (u ≤ 64)
joined_is None right u h = cc
joined_is (Some a) None u h = cc
joined_is (Some a) (Some b) u h =
    let s = cond_some (leb (a + b) 64) (a + b) u h in
    let e : a + b ≡ u = s.1 in
    let l : a + b ≤ 64 = leb-true (a + b) 64 s.0 in
    (a, b, refl, refl, e, omega arith)
