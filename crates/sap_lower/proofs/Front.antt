-- Wires are only added behind those that are there.
use Rattle.sap_lemmas.proofs.Common.{◌≡◌, ℕ, ◌≤◌, Bool, List, [], ◌∷◌, Option, Some, None, length, take, take_all, ap, ◌∙◌, sym, refl, subst, arith, length-append, take-append-le, Result, Ok, Err, OnOk}
use Rattle.sap_bits.specs.declared.Op2.{Op2}
use Rattle.sap_maps.specs.Prelude.{Name, Term, find, two}
use Rattle.sap_net.specs.Rules.{Shapes}
use Rattle.sap_net.specs.declared.parts.Operand.{Operand}
use Rattle.sap_net.specs.declared.parts.Right.{Right}
use Rattle.sap_net.specs.declared.parts.Wire.{Wire}
use Rattle.sap_share.specs.Keys.{key}
use Rattle.sap_share.specs.Names.{helper}
use Rattle.sap_share.specs.Rights.{rights}
use Rattle.sap_lower.specs.declared.parts.Part.{Part}
use Rattle.sap_lower.specs.declared.facts.Fact.{Fact}
use Rattle.sap_lower.specs.Lowering.{Low, shared, calculated, low_two, low}
use Rattle.sap_lower.specs.Writes.{reads_cell, spared, low_choice}
use Rattle.sap_lower.specs.Reads.{entries_seen}
use Rattle.sap_lower.proofs.Adding.{OfEach, calculated_added, low_added}

-- the first so many wires are as before
pub record KeepsFront (b : ℕ) (ws xs : List Wire) : Type 0 where
  pub longer : b ≤ length ws → b ≤ length xs
  pub front : b ≤ length ws → take b xs ≡ take b ws

module _ (b : ℕ) where
  shared_front : (ws : List Wire) (u : ℕ) (r : Right) (o : Option Name) → KeepsFront b ws (shared o ws u r).wires
  shared_front ws u r (Some n) = record { longer = λ l. l; front = λ l. refl }
  shared_front ws u r None =
      let w : Wire = record { name = helper (length ws); width = u; right = r } in
      let e = length-append ws (w ∷ []) in
      record { longer = λ l. omega (arith, e); front = λ l. take-append-le b ws (w ∷ []) l }

  both_front : (ws xs ys : List Wire) → KeepsFront b ws xs → KeepsFront b xs ys → KeepsFront b ws ys
  both_front ws xs ys f g = record { longer = λ l. g.longer (f.longer l); front = λ l. g.front (f.longer l) ∙ f.front l }

  fronts : OfEach (KeepsFront b)
  fronts =
      record {
        none = λ ws. record { longer = λ l. l; front = λ l. refl };
        both = both_front;
        wire = λ ws u r. shared_front ws u r (find (rights ws) (key u r));
      }

  pub calculated_kept : (ws : List Wire) (u : ℕ) (r : Right) → KeepsFront b ws (calculated ws u r).wires
  calculated_kept ws u r = calculated_added (KeepsFront b) fronts ws u r

  pub low_kept : (ms : Shapes) (es : List (Name × Part)) (t : Term Name) (ws : List Wire) → KeepsFront b ws (low ms es t ws).wires
  low_kept ms es t ws = low_added (KeepsFront b) fronts ms es t ws

pub low_longer : (b : ℕ) (ms : Shapes) (es : List (Name × Part)) (t : Term Name) (ws : List Wire) → b ≤ length ws → b ≤ length (low ms es t ws).wires
low_longer b ms es t ws l = (low_kept b ms es t ws).longer l

pub low_take : (b : ℕ) (ms : Shapes) (es : List (Name × Part)) (t : Term Name) (ws : List Wire) → b ≤ length ws → take b (low ms es t ws).wires ≡ take b ws
low_take b ms es t ws l = (low_kept b ms es t ws).front l

-- Two operands one after another, where the second is read by the wires that were there before the first.
pub two_lowered : (ms : Shapes) (en : List (Name × Part)) (fs : List Fact) (b : ℕ) (ws w1 w2 : List Wire) (op : Op2) (s t : Term Name) (x y : Part)
    → w1 ≡ (low ms (entries_seen (take b ws) fs en) s ws).wires → x ≡ (low ms (entries_seen (take b ws) fs en) s ws).part → take b w1 ≡ take b ws
    → w2 ≡ (low ms (entries_seen (take b w1) fs en) t w1).wires → y ≡ (low ms (entries_seen (take b w1) fs en) t w1).part
    → low_two op x y w2 ≡ low ms (entries_seen (take b ws) fs en) (two op s t) ws
two_lowered ms en fs b ws w1 w2 op s t x y e f g h k =
    let es = entries_seen (take b ws) fs en in
    let first = low ms es s ws in
    let wires : w2 ≡ (low ms es t first.wires).wires =
    h ∙ ap (λ (u : List Wire). (low ms (entries_seen u fs en) t w1).wires) g ∙ ap (λ (u : List Wire). (low ms es t u).wires) e in
    let second : y ≡ (low ms es t first.wires).part =
    k ∙ ap (λ (u : List Wire). (low ms (entries_seen u fs en) t w1).part) g ∙ ap (λ (u : List Wire). (low ms es t u).part) e in
    ap (λ (q : Part). low_two op q y w2) f ∙ ap (λ (q : Part). low_two op first.part q w2) second
    ∙ ap (λ (q : List Wire). low_two op first.part (low ms es t first.wires).part q) wires

-- A write of a choice, of which each term is read by the wires that were there before the first.
pub choice_lowered : (ms : Shapes) (en : List (Name × Part)) (fs : List Fact) (b : ℕ) (m : Name) (c i : Operand) (ws w1 w2 w3 : List Wire) (s t u : Term Name)
    (z x y : Part) (keeps : Bool)
    → w1 ≡ (low ms (entries_seen (take b ws) fs en) s ws).wires → z ≡ (low ms (entries_seen (take b ws) fs en) s ws).part → take b w1 ≡ take b ws
    → w2 ≡ (low ms (entries_seen (take b w1) fs en) t w1).wires → x ≡ (low ms (entries_seen (take b w1) fs en) t w1).part → take b w2 ≡ take b w1
    → w3 ≡ (low ms (entries_seen (take b w2) fs en) u w2).wires → y ≡ (low ms (entries_seen (take b w2) fs en) u w2).part
    → keeps ≡ reads_cell (take (length w3) w3) m i x.operand
    → spared keeps c z.operand x y w3 ≡ low_choice ms (entries_seen (take b ws) fs en) m c i s t u ws
choice_lowered ms en fs b m c i ws w1 w2 w3 s t u z x y keeps e1 ez f1 e2 g2 f2 e3 g3 k =
    let es = entries_seen (take b ws) fs en in
    let first = low ms es s ws in
    let second = low ms es t first.wires in
    let third = low ms es u second.wires in
    let seen1 : entries_seen (take b w1) fs en ≡ es = ap (λ (q : List Wire). entries_seen q fs en) f1 in
    let seen2 : entries_seen (take b w2) fs en ≡ es = ap (λ (q : List Wire). entries_seen q fs en) (f2 ∙ f1) in
    let low2 : low ms (entries_seen (take b w1) fs en) t w1 ≡ second =
    ap (λ (q : List (Name × Part)). low ms q t w1) seen1 ∙ ap (λ (q : List Wire). low ms es t q) e1 in
    let low3 : low ms (entries_seen (take b w2) fs en) u w2 ≡ third =
    ap (λ (q : List (Name × Part)). low ms q u w2) seen2 ∙ ap (λ (q : List Wire). low ms es u q) (e2 ∙ ap (λ (l : Low). l.wires) low2) in
    let ex : x ≡ second.part = g2 ∙ ap (λ (l : Low). l.part) low2 in
    let ey : y ≡ third.part = g3 ∙ ap (λ (l : Low). l.part) low3 in
    let ew : w3 ≡ third.wires = e3 ∙ ap (λ (l : Low). l.wires) low3 in
    let kept : keeps ≡ reads_cell w3 m i x.operand = k ∙ ap (λ (q : List Wire). reads_cell q m i x.operand) (take_all (length w3) w3 (omega arith)) in
    ap (λ (q : Bool). spared q c z.operand x y w3) kept
    ∙ ap (λ (p : Part). spared (reads_cell w3 m i x.operand) c p.operand x y w3) ez
    ∙ ap (λ (p : Part). spared (reads_cell w3 m i p.operand) c first.part.operand p y w3) ex
    ∙ ap (λ (p : Part). spared (reads_cell w3 m i second.part.operand) c first.part.operand second.part p w3) ey
    ∙ ap (λ (q : List Wire). spared (reads_cell q m i second.part.operand) c first.part.operand second.part third.part q) ew

-- where a call that lowers an expression answers well, the first so many wires are as before

pub front_ok : {A E : Type 0} (r : Result A E) (b : ℕ) (ms : Shapes) (es : List (Name × Part)) (t : Term Name) (ws new : List Wire) → b ≤ length ws
    → OnOk r (new ≡ (low ms es t ws).wires) → OnOk r (take b new ≡ take b ws)
front_ok (Ok x) b ms es t ws new l h = ap (λ (u : List Wire). take b u) h ∙ low_take b ms es t ws l
front_ok (Err e) b ms es t ws new l h = tt

pub longer_ok : {A E : Type 0} (r : Result A E) (b : ℕ) (ms : Shapes) (es : List (Name × Part)) (t : Term Name) (ws new : List Wire) → b ≤ length ws
    → OnOk r (new ≡ (low ms es t ws).wires) → OnOk r (b ≤ length new)
longer_ok (Ok x) b ms es t ws new l h = subst (λ (u : List Wire). b ≤ length u) (sym h) (low_longer b ms es t ws l)
longer_ok (Err e) b ms es t ws new l h = tt

-- so they are where one that makes a calculation does

pub calculated_front_ok : {A E : Type 0} (r : Result A E) (b : ℕ) (ws xs new : List Wire) (u : ℕ) (q : Right) → b ≤ length xs → take b xs ≡ take b ws
    → OnOk r (new ≡ (calculated xs u q).wires) → OnOk r (take b new ≡ take b ws)
calculated_front_ok (Ok x) b ws xs new u q l f h = ap (λ (y : List Wire). take b y) h ∙ (calculated_kept b xs u q).front l ∙ f
calculated_front_ok (Err e) b ws xs new u q l f h = tt

pub calculated_longer_ok : {A E : Type 0} (r : Result A E) (b : ℕ) (xs new : List Wire) (u : ℕ) (q : Right) → b ≤ length xs
    → OnOk r (new ≡ (calculated xs u q).wires) → OnOk r (b ≤ length new)
calculated_longer_ok (Ok x) b xs new u q l h = subst (λ (y : List Wire). b ≤ length y) (sym h) ((calculated_kept b xs u q).longer l)
calculated_longer_ok (Err e) b xs new u q l h = tt
