-- Helping wires are numbered in order.
use Rattle.sap_lemmas.proofs.Common.{◌≡◌, ℕ, suc, ◌+◌, List, [], ◌∷◌, ◌++◌, map, not, length, Bool, true, false, sym, ap, ap₂, ◌∙◌, subst, refl, inl, inr, arith, append-nil, length-append, AllByRecursion, all_follow, map_of_all}
use Rattle.sap_maps.specs.Maps.{Name}
use Rattle.sap_net.specs.Prelude.{is_among, Net, names_of}
use Rattle.sap_net.specs.declared.parts.Operand.{Operand}
use Rattle.sap_net.specs.declared.parts.Right.{Right}
use Rattle.sap_net.specs.declared.parts.Right.TheVariants.{Copy, One, Two, Choose, Concat, Slice, Cell}
use Rattle.sap_net.specs.declared.parts.Wire.{Wire}
use Rattle.sap_share.specs.Names.{helper}
use Rattle.sap_trim.specs.Names.{numbered, port_names, shown_wires, helping_wires}
use Rattle.sap_trim.specs.Replaced.{Stands, replaced}
use Rattle.sap_fold.specs.Folding.{settled}
use Rattle.sap_fold.specs.Wires.{AddsNew, Adds}
use Rattle.sap_fold.specs.Wires.{Provides}
use Rattle.sap_trim.specs.Walked.{State, Begins, Settles, Walked}
use Rattle.sap_trim.specs.Built.{wire_of, built}
use Rattle.sap_fold.proofs.Lists.{filter_append, filter_all, filter_none}
use Rattle.sap_trim.proofs.Declared.{names_append, filter_holds}

-- What is known of the helping wires.
pub record Tidy (taken : Name → Bool) (ws : List Wire) (next : ℕ) : Type 0 where
  pub long : ((k : ℕ) → taken (helper k) ≡ false) → length ws ≡ next
  pub named : ((k : ℕ) → taken (helper k) ≡ false) → names_of ws ≡ numbered next

new_tidy : (taken : Name → Bool) (ws : List Wire) (next u : ℕ) (r : Right) (n : Name) (after : List Wire) (na : ℕ)
    → AddsNew taken ws next u r n after na → Tidy taken ws next → Tidy taken after na
new_tidy taken ws next u r n after na a t =
    let x : Wire = record { name = n; width = u; right = r } in
    let tidy : Tidy taken (ws ++ x ∷ []) (a.number + 1) = record {
      long = λ free. let l = t.long free in let e = a.free.first (free next) in omega (arith, length-append ws (x ∷ []), l, e);
      named = λ free.
          let e = a.free.first (free next) in
          let m = t.named free in
          let k : n ≡ helper next = a.free.name ∙ ap helper e in
          let s : a.number + 1 ≡ suc next = omega (arith, e) in
          names_append ws (x ∷ []) ∙ ap₂ (λ (xs : List Name) (y : Name). xs ++ y ∷ []) m k ∙ sym (ap numbered s);
    } in
    subst (λ (k : ℕ). Tidy taken after k) (sym a.next_is) (subst (λ (ys : List Wire). Tidy taken ys (a.number + 1)) (sym a.wires) tidy)

same_tidy : (taken : Name → Bool) (ws after : List Wire) (next na : ℕ) → after ≡ ws → na ≡ next → Tidy taken ws next → Tidy taken after na
same_tidy taken ws after next na e f t =
    subst (λ (k : ℕ). Tidy taken after k) (sym f) (subst (λ (ys : List Wire). Tidy taken ys next) (sym e) t)

adds_tidy : (taken : Name → Bool) (ws : List Wire) (next u : ℕ) (r : Right) (n : Name) (after : List Wire) (na : ℕ)
    → Adds taken ws next u r n after na → Tidy taken ws next → Tidy taken after na
adds_tidy taken ws next u r n after na (inl a) t = same_tidy taken ws after next na a.wires a.next_is t
adds_tidy taken ws next u r n after na (inr a) t = new_tidy taken ws next u r n after na a t

provides_tidy : (taken : Name → Bool) (ws : List Wire) (next u : ℕ) (r : Right) (o : Operand) (after : List Wire) (na : ℕ)
    → Provides taken ws next u r o after na → Tidy taken ws next → Tidy taken after na
provides_tidy taken ws next u (Copy p) o after na a t = same_tidy taken ws after next na a.1 a.2 t
provides_tidy taken ws next u (One op p) o after na a t = adds_tidy taken ws next u (One op p) a.0 after na a.2 t
provides_tidy taken ws next u (Two op p q) o after na a t = adds_tidy taken ws next u (Two op p q) a.0 after na a.2 t
provides_tidy taken ws next u (Choose c p q) o after na a t = adds_tidy taken ws next u (Choose c p q) a.0 after na a.2 t
provides_tidy taken ws next u (Concat os) o after na a t = adds_tidy taken ws next u (Concat os) a.0 after na a.2 t
provides_tidy taken ws next u (Slice x hi lo) o after na a t = adds_tidy taken ws next u (Slice x hi lo) a.0 after na a.2 t
provides_tidy taken ws next u (Cell m i) o after na a t = adds_tidy taken ws next u (Cell m i) a.0 after na a.2 t

pub walk_tidy : (taken : Name → Bool) (ws : List Wire) (s t : State) → Walked (Settles taken) s ws t → Tidy taken s.wires s.next → Tidy taken t.wires t.next
walk_tidy taken [] s t e h = subst (λ (z : State). Tidy taken z.wires z.next) e h
walk_tidy taken (w ∷ ws) s t k h =
    let c = k.1 in
    walk_tidy taken ws k.0 t k.2 (provides_tidy taken s.wires s.next w.width (settled w.width (replaced s.stands w.right)) c.operand k.0.wires k.0.next c.provides h)

pub begins_tidy : (taken : Name → Bool) (n : Net) (s : State) → Begins n s → Tidy taken s.wires s.next
begins_tidy taken n s b =
    same_tidy taken [] s.wires 0 s.next b.wires b.next (record { long = λ free. refl; named = λ free. refl })

-- the helping wires of the new netlist
shown_ports : (e : Stands) (P : List Name) (xs : List Wire) → AllByRecursion (λ w. is_among w.name P ≡ true) xs
    → AllByRecursion (λ w. not (is_among w.name P) ≡ false) (map (wire_of e) xs)
shown_ports e P [] a = tt
shown_ports e P (x ∷ xs) a = (ap not a.0, shown_ports e P xs a.1)

pub helping_are : (n : Net) (ws : List Wire) (e : Stands) → AllByRecursion (λ w. is_among w.name (port_names n) ≡ false) ws → helping_wires (built n ws e) ≡ ws
helping_are n ws e a =
    let P = port_names n in
    let f = λ (w : Wire). not (is_among w.name P) in
    filter_append f ws (map (wire_of e) (shown_wires n))
    ∙ ap₂ (λ (xs ys : List Wire). xs ++ ys) (filter_all f ws
    (all_follow (λ w. is_among w.name P ≡ false) (λ w. f w ≡ true) ws (λ w h. ap not h) a))
    (filter_none f (map (wire_of e) (shown_wires n)) (shown_ports e P (shown_wires n) (filter_holds (λ w. is_among w.name P) n.wires)))
    ∙ append-nil ws

-- its port wires are as many as those of the given one
pub shown_are : (n : Net) (ws : List Wire) (e : Stands) → AllByRecursion (λ w. is_among w.name (port_names n) ≡ false) ws
    → shown_wires (built n ws e) ≡ map (wire_of e) (shown_wires n)
shown_are n ws e a =
    let f = λ (w : Wire). is_among w.name (port_names n) in
    let outs = map (wire_of e) (shown_wires n) in
    filter_append f ws outs
    ∙ ap₂ (λ (xs ys : List Wire). xs ++ ys) (filter_none f ws a) (filter_all f outs (map_of_all (λ w. f w ≡ true) (wire_of e) (shown_wires n) (filter_holds f n.wires)))
