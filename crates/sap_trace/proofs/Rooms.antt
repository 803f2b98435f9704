-- The room of the lines of a trace.
use Rattle.sap_lemmas.proofs.Common.{◌≡◌, ℕ, suc, [], inl, inr, ◌+◌, ◌-◌, ◌*◌, ◌^◌, ◌<◌, ◌≤◌, List, length, max, ap, ◌∙◌, length-append, eq-zero-or-pos, arith, subst, Option, Some, Result, Ok, Err, OnErr, OnOk, decimal, slice_get, option_map, unwrap_or, cases_lt, length-decimal-le, mul_comm}
use Rattle.std.proofs.Math.Nat.{mul-le-mul_right}
use Rattle.sap_tree.specs.Syntax.{DesignTree}
use Rattle.sap_lattice.specs.Levels.{Levels, level_in}
use Rattle.sap_names.specs.Entities.{entities_of}
use Rattle.sap_check.specs.declared.site.Site.{Site}
use Rattle.sap_check.specs.Sites.{sites_of}
use Rattle.sap_check.specs.SiteTexts.{entity_name, site_target, site_word}
use Rattle.sap_stim.specs.Rows.{level_coded}
use Rattle.sap_stim.proofs.RowLeast.{Longest}
use Rattle.sap_stim.proofs.RowRoom.{Within, each_name, text_within}
use Rattle.sap_trace.specs.Lines.{line_head, site_at, site_line, target_text}
use Rattle.sap_trace.specs.Rooms.{HoldsCycle, HoldsLine, site_room}

-- the line of a cycle is within the room of any cycle
pub line_fits : (d : DesignTree) (cycle k : ℕ) (level : List ℕ) → cycle < 2 ^ 64 → length (site_line d cycle k level) ≤ site_room d k level
unfolding line_head
line_fits d cycle k level small =
    let digits : length (decimal cycle) ≤ 20 = length-decimal-le 20 cycle (omega arith) (omega arith) small in
    simp length-append (omega (arith, digits))

-- the number of a site has at most 10 digits
pub few_digits : (n : ℕ) → n < 2 ^ 32 → length (decimal n) ≤ 10
few_digits n small = length-decimal-le 10 n (omega arith) (omega (arith, small)) (omega (arith, small))

-- the line of a site beside its level
pub beside_level : (d : DesignTree) (k size : ℕ) (s : Site) (name : List ℕ) → site_at d k ≡ Some s → option_map (λ e. e.name.name) (slice_get (entities_of d) s.entity) ≡ Some name
    → size ≡ length name + length (site_word s.kind) + length (decimal k) + 40 → size ≡ site_room d k []
unfolding site_target
beside_level d k size s name at named is =
    let target : length (target_text (entities_of d) (site_at d k)) ≡ length (target_text (entities_of d) (Some s)) =
    ap (λ (o : Option Site). length (target_text (entities_of d) o)) at in
    let own : length (entity_name (entities_of d) s.entity) ≡ length name = ap (λ (o : Option (List ℕ)). length (unwrap_or o [])) named in
    let parts : length (target_text (entities_of d) (Some s)) ≡ length (site_word s.kind) + 1 + length (entity_name (entities_of d) s.entity) = simp length-append (omega arith) in
    omega (arith, target, own, parts, is)

-- so many bytes are enough for the line of each of the first sites, beside its level
abbrev pub IsMost : DesignTree → (count most : ℕ) → Type 0
IsMost d count most = (k : ℕ) → 1 ≤ k → k ≤ count → site_room d k [] ≤ most

-- and fewer aren't
abbrev pub IsLeast : DesignTree → (most : ℕ) → Type 0
IsLeast d most = (other : ℕ) → IsMost d (length (sites_of d)) other → most ≤ other

-- one site more
pub most_more : (d : DesignTree) (count most size more : ℕ) → IsMost d count most → size ≡ site_room d (count + 1) [] → more ≡ max size most → IsMost d (count + 1) more
most_more d count most size more before is grown k from to = elim (cases_lt k (count + 1)) [
  | inl less ↦ let b = before k from (omega arith) in omega (arith, b, grown)
  | inr not_less ↦
      let same : k ≡ count + 1 = omega arith in
      let e : site_room d k [] ≡ site_room d (count + 1) [] = ap (λ (j : ℕ). site_room d j []) same in
      omega (arith, e, is, grown)
]

pub least_more : (d : DesignTree) (count most size more : ℕ) → IsLeast d most → count < length (sites_of d)
    → size ≡ site_room d (count + 1) [] → more ≡ max size most → IsLeast d more
least_more d count most size more before small is grown other holds =
    let b = before other holds in
    let here = holds (count + 1) (omega arith) (omega arith) in
    omega (arith, b, here, is, grown)

-- the longest level behind the longest part before it
pub holds_line : (ls : Levels) (d : DesignTree) (most level room : ℕ) → 21 ≤ level → Within ls.names level (length ls.names)
    → IsMost d (length (sites_of d)) most → room ≡ most + level → HoldsLine ls d room
holds_line ls d most level room number within beside is = record {
  level = λ k l from to.
      let b = beside k from to in
      let r = each_name ls.names level within (level_in (length ls.names) l) in
      omega (arith, b, r, is);
  code = λ k tag from to small.
      let b = beside k from to in
      let r = text_within ls.names level tag (level_coded ls tag) number (each_name ls.names level within) small in
      omega (arith, b, r, is);
}

pub no_less : (ls : Levels) (d : DesignTree) (most level other : ℕ) → Longest ls level → IsLeast d most → 1 ≤ length (sites_of d) → HoldsLine ls d other → most + level ≤ other
no_less ls d most level other longest least some holds =
    let line : (k : ℕ) → 1 ≤ k → k ≤ length (sites_of d) → site_room d k [] + level ≤ other
    = λ k from to. let h = holds.code k longest.tag from to longest.small in omega (arith, h, longest.text) in
    let first = line 1 (omega arith) some in
    let before = least (other - level) (λ k from to. let h = line k from to in omega (arith, h)) in
    omega (arith, first, before)

-- without sites there are no lines
pub holds_none : (ls : Levels) (d : DesignTree) (room : ℕ) → length (sites_of d) ≡ 0 → HoldsLine ls d room
holds_none ls d room none = record { level = λ k l from to. absurd (omega arith); code = λ k tag from to small. absurd (omega arith) }

-- the lines of a cycle
pub holds_cycle : (ls : Levels) (d : DesignTree) (line count room : ℕ) → HoldsLine ls d line → count ≡ length (sites_of d) → room ≡ line * count → HoldsCycle ls d room
holds_cycle ls d line count room holds all is = record {
  line = line;
  holds = holds;
  all = let e : line * count ≡ length (sites_of d) * line = ap (λ (k : ℕ). line * k) all ∙ mul_comm line (length (sites_of d)) in omega (arith, e, is);
}

pub cycle_no_less : (ls : Levels) (d : DesignTree) (line count other : ℕ) → ((o : ℕ) → HoldsLine ls d o → line ≤ o)
    → count ≡ length (sites_of d) → HoldsCycle ls d other → line * count ≤ other
cycle_no_less ls d line count other least all holds =
    let fewest : line * count ≤ holds.line * count = mul-le-mul_right count (least holds.line holds.holds) in
    let e : holds.line * count ≡ length (sites_of d) * holds.line = ap (λ (k : ℕ). holds.line * k) all ∙ mul_comm holds.line (length (sites_of d)) in
    omega (arith, fewest, e, holds.all)

pub no_cycle : (ls : Levels) (d : DesignTree) (bound other : ℕ) → ((o : ℕ) → HoldsLine ls d o → suc bound ≤ o) → HoldsCycle ls d other → suc bound ≤ other
no_cycle ls d bound other none holds = elim (eq-zero-or-pos (length (sites_of d))) [
  | inl no_site ↦ let n = none 0 (holds_none ls d 0 no_site) in absurd (omega (arith, n))
  | inr some ↦
      let line = none holds.line holds.holds in
      let one : 1 * holds.line ≤ length (sites_of d) * holds.line = mul-le-mul_right holds.line some in
      omega (arith, line, one, holds.all)
]

-- one site's room more
pub room_more : (k count line : ℕ) → k < count → k * line + line ≤ count * line
room_more k count line small =
    let one : (k + 1) * line ≤ count * line = mul-le-mul_right line (omega arith) in
    let two : (k + 1) * line ≡ k * line + line = omega arith in
    omega (arith, one, two)

pub ok_at : {T E P : Type 0} (r : Result T E) (value : T) → r ≡ Ok value → OnOk r P → P
ok_at {T} {E} {P} r value is holds = subst (λ (q : Result T E). OnOk q P) is holds

pub err_at : {T E : Type 0} (P Q : ℕ → Type 0) (r : Result T E) (line : ℕ) → P line → OnErr r ((l : ℕ) → P l → Q l) → OnErr r (Q line)
err_at {T} {E} P Q (Ok v) line p h = tt
err_at {T} {E} P Q (Err e) line p h = h line p
