-- Lists cut into parts of as many numbers each.
use Rattle.sap_lemmas.proofs.Common.{◌≡◌, ℕ, zero, suc, ◌+◌, ◌*◌, ◌-◌, ◌<◌, ◌≤◌, List, [], ◌∷◌, ◌++◌, Some, length, take, drop, refl, ap, ◌∙◌, arith, slice_get, drop-append-le, drop-drop, length-drop, take-append-le, take_all}
use Rattle.std.proofs.lemmas.Nat.{row_fits}
use Rattle.std.proofs.Math.Nat.{suc-mul}
use Rattle.sap_wave.specs.BlockLists.{parts_of}

pub part_count : (w n : ℕ) (ns : List ℕ) → length (parts_of w n ns) ≡ n
part_count w zero ns = refl
part_count w (suc n) ns = ap suc (part_count w n (drop w ns))

-- a part lies within the list
pub part_within : (w n k : ℕ) (ns : List ℕ) → length ns ≡ n * w → k < length (parts_of w n ns) → k * w + w ≤ length ns
part_within w n k ns e l =
    let count = part_count w n ns in
    let fits = row_fits k w n w (omega (arith, l, count)) (omega arith) in
    omega (arith, fits, e)

part_at : (w n : ℕ) (ns : List ℕ) (k : ℕ) → k < n → slice_get (parts_of w n ns) k ≡ Some (take w (drop (k * w) ns))
part_at w zero ns k l = absurd (omega (arith, l))
part_at w (suc n) ns zero l = let none : 0 ≡ 0 * w = omega arith in ap (λ (z : ℕ). Some (take w (drop z ns))) none
part_at w (suc n) ns (suc k) l =
    let next : w + k * w ≡ suc k * w = let s = suc-mul k w in omega (arith, s) in
    part_at w n (drop w ns) k (omega (arith, l)) ∙ ap (λ (z : List ℕ). Some (take w z)) (drop-drop (k * w) w ns) ∙ ap (λ (z : ℕ). Some (take w (drop z ns))) next

pub part_there : (w n : ℕ) (ns : List ℕ) (k : ℕ) → k < length (parts_of w n ns) → slice_get (parts_of w n ns) k ≡ Some (take (k * w + w - k * w) (drop (k * w) ns))
part_there w n ns k l =
    let count = part_count w n ns in
    let size : w ≡ k * w + w - k * w = omega arith in
    part_at w n ns k (omega (arith, l, count)) ∙ ap (λ (z : ℕ). Some (take z (drop (k * w) ns))) size

pub one_more_part : (w n : ℕ) (ns ms : List ℕ) → length ns ≡ n * w → length ms ≡ w → parts_of w (suc n) (ns ++ ms) ≡ parts_of w n ns ++ (ms ∷ [])
one_more_part w zero [] ms e f = ap (λ (z : List ℕ). z ∷ []) (take_all w ms (omega (arith, f)))
one_more_part w zero (n ∷ ns) ms e f = absurd (omega (arith, e))
one_more_part w (suc n) ns ms e f =
    let all : length ns ≡ n * w + w = e ∙ suc-mul n w in
    let within : w ≤ length ns = omega (arith, all) in
    let left : length (drop w ns) ≡ n * w = let size = length-drop w ns in omega (arith, size, all) in
    ap (λ (z : List ℕ). z ∷ parts_of w (suc n) (drop w (ns ++ ms))) (take-append-le w ns ms within)
    ∙ ap (λ (z : List ℕ). take w ns ∷ parts_of w (suc n) z) (drop-append-le w ns ms within)
    ∙ ap (λ (z : List (List ℕ)). take w ns ∷ z) (one_more_part w n (drop w ns) ms left f)
