-- The lines of points and the names in them, from a place on.
use Rattle.sap_lemmas.proofs.Common.{◌≡◌, ℕ, ◌+◌, ◌-◌, ◌<◌, ◌≤◌, List, [], ◌∷◌, ◌++◌, ◌&&◌, ◌==◌, length, drop, refl, sym, ap, ◌∙◌, arith, append_assoc, Bool, true, false, not, Option, Some, slice_get, unwrap_or, option_map, codes, if◌then◌else◌, after_part, drop_past, nat_tests, append-nil}
use Rattle.sap_tree.specs.Syntax.{DesignTree}
use Rattle.sap_names.specs.Entities.{entities_of}
use Rattle.sap_names.specs.declared.entity.Entity.{Entity}
use Rattle.sap_check.specs.declared.point.Point.{Point}
use Rattle.sap_check.specs.SiteTexts.{entity_name}
use Rattle.sap_hang.specs.Hang.{IsHangTable, Table, hangs, says}
use Rattle.sap_report.specs.Report.{each_name, hanging, names_text, point_line, point_lines, where_hung}
use Rattle.sap_report.proofs.Lists.{at_end, drop-at, drop-some}

-- names, where there is one and where there is none

some_names : (n : List ℕ) (ns : List (List ℕ)) → (length (n ∷ ns) == 0) ≡ false
some_names n ns = grind (arith, nat_tests)

pub text-none : (names : List (List ℕ)) → (length names == 0) ≡ true → names_text names ≡ codes " -"
text-none [] h = refl
text-none (n ∷ ns) h = absurd (cc (h, some_names n ns))

pub each-none : (names : List (List ℕ)) → (length names == 0) ≡ true → each_name names ≡ []
each-none [] h = refl
each-none (n ∷ ns) h = absurd (cc (h, some_names n ns))

pub text-some : (names : List (List ℕ)) → (length names == 0) ≡ false → names_text names ≡ each_name names
text-some [] h = absurd (cc h)
text-some (n ∷ ns) h = refl

pub names-none : (names : List (List ℕ)) (b : Bool) (old mid new : List ℕ) → b ≡ (length names == 0) → b ≡ true
    → mid ≡ old ++ each_name names → new ≡ mid ++ codes " -" → new ≡ old ++ names_text names
names-none names b old mid new e t h k =
    let none : (length names == 0) ≡ true = sym e ∙ t in
    k ∙ ap (λ (l : List ℕ). l ++ codes " -") (h ∙ ap (λ (l : List ℕ). old ++ l) (each-none names none)) ∙ append_assoc old [] (codes " -")
    ∙ ap (λ (l : List ℕ). old ++ l) (sym (text-none names none))

pub names-some : (names : List (List ℕ)) (b : Bool) (old new : List ℕ) → b ≡ (length names == 0) → b ≡ false → new ≡ old ++ each_name names → new ≡ old ++ names_text names
names-some names b old new e t h = h ∙ ap (λ (l : List ℕ). old ++ l) (sym (text-some names (sym e ∙ t)))

pub ruleset named = (text-none, each-none, text-some)

-- what the table says is what hangs
pub says_so : (d : DesignTree) (table : Table) (p x : ℕ) (b : Bool) → IsHangTable d table → b ≡ says table p x → b ≡ hangs d p x
says_so d table p x b h e = e ∙ h.points p x

pub name_hung : (d : DesignTree) (p x : ℕ) (b : Bool) (out mid new : List ℕ) → b ≡ hangs d p x → b ≡ true → mid ≡ out ++ codes " " → new ≡ mid ++ entity_name (entities_of d) x
    → new ≡ out ++ each_name (where_hung d p x)
name_hung d p x b out mid new h t e k =
    let n = entity_name (entities_of d) x in
    k ∙ ap (λ (l : List ℕ). l ++ n) e ∙ append_assoc out (codes " ") n ∙ ap (λ (l : List ℕ). out ++ (codes " " ++ l)) (sym (append-nil n))
    ∙ ap (λ (c : Bool). out ++ each_name (if c then n ∷ [] else [])) (sym t ∙ h)

pub name_free : (d : DesignTree) (p x : ℕ) (b : Bool) (out : List ℕ) → b ≡ hangs d p x → b ≡ false → out ≡ out ++ each_name (where_hung d p x)
name_free d p x b out h t =
    sym (append-nil out) ∙ ap (λ (c : Bool). out ++ each_name (if c then entity_name (entities_of d) x ∷ [] else [])) (sym t ∙ h)

none_step : (b none : Bool) (n : List ℕ) (rest : List (List ℕ)) → ((none && not b) && (length rest == 0)) ≡ (none && (length (if b then n ∷ rest else rest) == 0))
none_step true true n rest = sym (some_names n rest)
none_step true false n rest = refl
none_step false true n rest = refl
none_step false false n rest = refl

each_step : (b : Bool) (n : List ℕ) (rest : List (List ℕ)) → each_name (if b then n ∷ [] else []) ++ each_name rest ≡ each_name (if b then n ∷ rest else rest)
each_step true n rest = ap (λ (l : List ℕ). (codes " " ++ l) ++ each_name rest) (append-nil n) ∙ append_assoc (codes " ") n (each_name rest)
each_step false n rest = refl

module _ (d : DesignTree) (p : ℕ) where
  abbrev all : List Entity
  all = entities_of d

  abbrev later : ℕ → List (List ℕ)
  later x = hanging d p x (drop x all)

  later-step : (x : ℕ) → x < length all → later x ≡ (if hangs d p x then entity_name all x ∷ later (x + 1) else later (x + 1))
  later-step x h =
      let s = drop-some all x h in
      ap (λ (l : List Entity). hanging d p x l) (drop-at all x s.0 s.1)
      ∙ ap (λ (n : List ℕ). if hangs d p x then n ∷ later (x + 1) else later (x + 1))
      (sym (ap (λ (o : Option Entity). unwrap_or (option_map (λ (e : Entity). e.name.name) o) []) s.1))

  -- whether there is none so far, and the names so far
  abbrev pub Far : (x : ℕ) → Bool → List ℕ → List ℕ → Type 0
  Far x none out old = ((none && (length (hanging d p x (drop x (entities_of d))) == 0)) ≡ (length (hanging d p 0 (entities_of d)) == 0))
      × (out ++ each_name (hanging d p x (drop x (entities_of d))) ≡ old ++ each_name (hanging d p 0 (entities_of d)))

  pub far_step : (x : ℕ) (none hung : Bool) (out old new : List ℕ) → x < length (entities_of d) → hung ≡ hangs d p x
      → new ≡ out ++ each_name (where_hung d p x) → Far x none out old
      → Far (x + 1) (none && not hung) new old
  far_step x none hung out old new h e k i =
      let n = entity_name all x in (
        ap (λ (b : Bool). (none && not b) && (length (later (x + 1)) == 0)) e ∙ none_step (hangs d p x) none n (later (x + 1))
            ∙ ap (λ (l : List (List ℕ)). none && (length l == 0)) (sym (later-step x h)) ∙ i.0,
        ap (λ (l : List ℕ). l ++ each_name (later (x + 1))) k ∙ append_assoc out (each_name (where_hung d p x)) (each_name (later (x + 1)))
            ∙ ap (λ (l : List ℕ). out ++ l) (each_step (hangs d p x) n (later (x + 1))) ∙ ap (λ (l : List (List ℕ)). out ++ each_name l) (sym (later-step x h)) ∙ i.1,
      )

abbrev pub line_at : DesignTree → (p : ℕ) → Point → List ℕ
line_at d p q = point_line q (hanging d p 0 (entities_of d))

point_lines-drop : (d : DesignTree) (qs : List Point) (n : ℕ) (q : Point) → slice_get qs ((n + 1) - 1) ≡ Some q
    → point_lines d (n + 1) (drop n qs) ≡ line_at d (n + 1) q ++ point_lines d ((n + 1) + 1) (drop (n + 1) qs)
point_lines-drop d qs n q h =
    let s : (n + 1) - 1 ≡ n = omega arith in
    ap (λ (l : List Point). point_lines d (n + 1) l) (drop-at qs n q (ap (λ (k : ℕ). slice_get qs k) (sym s) ∙ h))

pub points_step : (d : DesignTree) (qs : List Point) (n : ℕ) (q : Point) (old new all : List ℕ) → slice_get qs ((n + 1) - 1) ≡ Some q → new ≡ old ++ line_at d (n + 1) q
    → old ++ point_lines d (n + 1) (drop n qs) ≡ all → new ++ point_lines d ((n + 1) + 1) (drop (n + 1) qs) ≡ all
points_step d qs n q old new all h e i = after_part old new _ _ _ e (point_lines-drop d qs n q h) ∙ i

pub points_end : (d : DesignTree) (qs : List Point) (n : ℕ) (new all : List ℕ) → length qs ≤ n → new ++ point_lines d (n + 1) (drop n qs) ≡ all → new ≡ all
points_end d qs n new all h i = at_end new _ all (ap (λ (l : List Point). point_lines d (n + 1) l) (drop_past qs n h)) i
