-- Registers of current children, and their widths.
use Rattle.sap_lemmas.proofs.Common.{◌≡◌, ℕ, zero, suc, ◌+◌, ◌-◌, ◌*◌, ◌%◌, ◌^◌, ◌<◌, ◌≤◌, ◌==◌, List, [], ◌∷◌, map, Some, true, ap, ◌∙◌, refl, arith, inl, inr, nat_le, bytes_eq, cases_Bool, le-leb, leb-false, leb-true, lt-leb, Decides-eqb, mod-eq_of_lt, above_unequal}
use Rattle.std.proofs.Math.Pow.{pow-lt}
use Rattle.sap_maps.specs.Prelude.{Name, find}
use Rattle.sap_ir.specs.declared.guarded.Var.{Var}
use Rattle.sap_ir.specs.Source.{Source}
use Rattle.sap_ir.specs.Plain.Nested.{Forest, none, state, has_states, size, width_from, seat_width}
use Rattle.sap_ir.specs.Plain.IsPlain.{SeatFine}

-- a width from u on, that is u where it is not the first beyond those that are too small
pub width_low : (k u count : ℕ) → u ≤ width_from k u count
width_low zero u count = omega arith
width_low (suc k) u count =
    elim (cases_Bool (nat_le count (2 ^ u))) [
      | inl t ↦ rw t (omega arith)
      | inr f ↦ rw f (let r = width_low k (u + 1) count in omega (arith, r))
    ]

pub width_high : (k u count : ℕ) → width_from k u count ≤ u + k
width_high zero u count = omega arith
width_high (suc k) u count =
    elim (cases_Bool (nat_le count (2 ^ u))) [
      | inl t ↦ rw t (omega arith)
      | inr f ↦ rw f (let r = width_high k (u + 1) count in omega (arith, r))
    ]

pub width_holds : (k u count : ℕ) → count ≤ 2 ^ (u + k) → count ≤ 2 ^ width_from k u count
width_holds zero u count h = let e : u + 0 ≡ u = omega arith in rw e at h
width_holds (suc k) u count h =
    elim (cases_Bool (nat_le count (2 ^ u))) [
      | inl t ↦ rw t (leb-true count (2 ^ u) t)
      | inr f ↦ rw f (width_holds k (u + 1) count (let e : u + suc k ≡ u + 1 + k = omega arith in rw e at h))
    ]

pub width_least : (k u count v : ℕ) → u ≤ v → count ≤ 2 ^ v → width_from k u count ≤ v
width_least zero u count v l h = l
width_least (suc k) u count v l h =
    elim (cases_Bool (nat_le count (2 ^ u))) [
      | inl t ↦ rw t l
      | inr f ↦
          rw f (width_least k (u + 1) count v (elim (cases_Bool (u == v)) [
            | inl q ↦ absurd (let e : u ≡ v = (Decides-eqb u v).0 q in let a = leb-false count (2 ^ u) f in
                let b : 2 ^ u ≡ 2 ^ v = ap (λ (n : ℕ). 2 ^ n) e in omega (arith, a, b, h))
            | inr q ↦ above_unequal u v l q
          ]) h)
    ]

pub seat_positive : (count : ℕ) → 1 ≤ seat_width count
unfolding seat_width
seat_positive count = width_low 63 1 count

pub seat_within : (count : ℕ) → seat_width count ≤ 64
unfolding seat_width
seat_within count = width_high 63 1 count

-- where there are no more children than 64 bits tell apart
pub seat_holds : (count : ℕ) → count ≤ 2 ^ 64 → count ≤ 2 ^ seat_width count
unfolding seat_width
seat_holds count h = width_holds 63 1 count h

pub seat_least : (count v : ℕ) → 1 ≤ v → count ≤ 2 ^ v → seat_width count ≤ v
unfolding seat_width
seat_least count v l h = width_least 63 1 count v l h

-- a register that is found with its start is found with its width
pub found_width : (rs : List Var) (n : Name) (e : ℕ × ℕ) → find {X = ℕ × ℕ} (map (λ r. (r.name, (r.width, r.start))) rs) n ≡ Some e
    → find (map (λ r. (r.name, r.width)) rs) n ≡ Some e.0
found_width [] n e h = absurd (cc)
found_width (r ∷ rs) n e h =
    elim (cases_Bool (bytes_eq r.name n)) [
      | inl t ↦ let g : Some (r.width, r.start) ≡ Some e = rw t at h in let k : (r.width, r.start) ≡ e = cc in rw t (ap (λ (q : ℕ × ℕ). Some q.0) k)
      | inr f ↦ rw f (found_width rs n e (rw f at h))
    ]

-- the register of a group with states
pub seat_register : (s : Source) (x : Name) (f : Forest) → has_states f ≡ true → SeatFine s x f → find (map (λ r. (r.name, r.width)) s.registers) x ≡ Some (seat_width (size f))
seat_register s x none h g = absurd (cc)
seat_register s x (state y b kids rest) h g = found_width s.registers x _ g.0

-- the widths one after another

pub width_start : (count : ℕ) → width_from (64 - 1) 1 count ≡ seat_width count
unfolding seat_width
width_start count = refl

pub width_found : (u count : ℕ) → u < 64 → count ≤ 2 ^ u → width_from (64 - u) u count ≡ u
width_found u count l h = let e : 64 - u ≡ suc (64 - (u + 1)) = omega arith in rw (e, le-leb count (2 ^ u) h) refl

pub width_next : (u count : ℕ) → u < 64 → 2 ^ u < count → width_from (64 - u) u count ≡ width_from (64 - (u + 1)) (u + 1) count
width_next u count l h = let e : 64 - u ≡ suc (64 - (u + 1)) = omega arith in rw (e, lt-leb count (2 ^ u) h) refl

pub shifted : (u : ℕ) → u < 64 → 1 * 2 ^ u % 18446744073709551616 ≡ 2 ^ u
shifted u l =
    let e : 1 * 2 ^ u ≡ 2 ^ u = omega arith in
    ap (λ (n : ℕ). n % 18446744073709551616) e ∙ mod-eq_of_lt (pow-lt {i = u} {j = 64} l)
