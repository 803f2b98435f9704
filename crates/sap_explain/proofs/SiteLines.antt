-- The lines of check sites, from a place on.
use Rattle.sap_lemmas.proofs.Common.{◌≡◌, ℕ, ◌+◌, ◌-◌, ◌≤◌, List, ◌++◌, length, drop, sym, ap, ◌∙◌, arith, Some, slice_get, after_part, drop_past}
use Rattle.sap_names.specs.declared.entity.Entity.{Entity}
use Rattle.sap_check.specs.declared.site.Site.{Site}
use Rattle.sap_report.proofs.Lists.{at_end, drop-at}
use Rattle.sap_explain.specs.Explanation.{site_comment, site_comments}

module _ (part : List ℕ) (es : List Entity) (ss : List Site) (n : ℕ) where
  from-drop : (s : Site) → slice_get ss ((n + 1) - 1) ≡ Some s
      → site_comments part es (n + 1) (drop n ss) ≡ site_comment part es (n + 1) s ++ site_comments part es ((n + 1) + 1) (drop (n + 1) ss)
  from-drop s h =
      let e : (n + 1) - 1 ≡ n = omega arith in
      ap (λ (l : List Site). site_comments part es (n + 1) l) (drop-at ss n s (ap (λ (k : ℕ). slice_get ss k) (sym e) ∙ h))

  pub sites_step : (s : Site) (old new all : List ℕ) → slice_get ss ((n + 1) - 1) ≡ Some s → new ≡ old ++ site_comment part es (n + 1) s
      → old ++ site_comments part es (n + 1) (drop n ss) ≡ all → new ++ site_comments part es ((n + 1) + 1) (drop (n + 1) ss) ≡ all
  sites_step s old new all h e i = after_part old new _ _ _ e (from-drop s h) ∙ i

  pub sites_end : (new all : List ℕ) → length ss ≤ n → new ++ site_comments part es (n + 1) (drop n ss) ≡ all → new ≡ all
  sites_end new all h i = at_end new _ all (ap (λ (l : List Site). site_comments part es (n + 1) l) (drop_past ss n h)) i
