-- The tests of widths say what the width rules ask.
use Rattle.sap_lemmas.proofs.Common.{◌≡◌, ◌∙◌, ℕ, ◌<◌, [], ◌∷◌, Bool, true, false, refl, ap, sym, arith, true≢false, inl, inr, common_steps, Option, Some, None, ◌||◌, list_any, or_true}
use Rattle.sap_text.specs.Best.{StandsIn}
use Rattle.sap_vtext.specs.Widths.{Pairs, Differ}
use Rattle.sap_vjudge.specs.Listed.{differ, too_wide}

differ-Differ : (v w : Option ℕ) → differ (v, w) ≡ true → Differ (v, w)
differ-Differ (Some u) (Some w) h = λ e. absurd (grind (arith, common_steps))
differ-Differ (Some u) None h = absurd (true≢false (sym h))
differ-Differ None w h = absurd (true≢false (sym h))

Differ-differ : (v w : Option ℕ) → Differ (v, w) → differ (v, w) ≡ true
Differ-differ (Some u) (Some w) h = grind (arith, common_steps)
Differ-differ (Some u) None h = absurd h
Differ-differ None w h = absurd h

-- a pair that differs
pub differs-some : (ps : Pairs) → list_any differ ps ≡ true → (p : Option ℕ × Option ℕ) × StandsIn p ps × Differ p
differs-some [] h = absurd (true≢false (sym h))
differs-some (p ∷ ps) h = by_test (differ p) refl h (λ g. differs-some ps g)
  where
    by_test : (b : Bool) → differ p ≡ b → (b || list_any differ ps) ≡ true → (list_any differ ps ≡ true → (q : Option ℕ × Option ℕ) × StandsIn q ps × Differ q)
        → (q : Option ℕ × Option ℕ) × StandsIn q (p ∷ ps) × Differ q
    by_test true e g rest = (p, inl refl, differ-Differ p.0 p.1 e)
    by_test false e g rest = let r = rest g in (r.0, inr r.1, r.2)

pub some-differs : (ps : Pairs) (p : Option ℕ × Option ℕ) → StandsIn p ps → Differ p → list_any differ ps ≡ true
some-differs [] p h d = absurd h
some-differs (q ∷ ps) p (inl e) d = ap (λ (r : Option ℕ × Option ℕ). differ r || list_any differ ps) (sym e) ∙ ap (λ (b : Bool). b || list_any differ ps) (Differ-differ p.0 p.1 d)
some-differs (q ∷ ps) p (inr h) d = ap (λ (b : Bool). differ q || b) (some-differs ps p h d) ∙ or_true (differ q)

pub too_wide-some : (o : Option ℕ) → too_wide o ≡ true → (w : ℕ) × (o ≡ Some w) × (64 < w)
too_wide-some None h = absurd (true≢false (sym h))
too_wide-some (Some w) h = (w, refl, grind (arith, common_steps))

pub some-too_wide : (o : Option ℕ) (w : ℕ) → o ≡ Some w → 64 < w → too_wide o ≡ true
some-too_wide o w e h = ap too_wide e ∙ grind (arith, common_steps)
