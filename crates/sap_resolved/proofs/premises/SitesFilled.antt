-- Filling in what hangs leaves the check sites of a program as they are, but for what hangs on a fall.
use Rattle.sap_lemmas.proofs.Common.{◌≡◌, ℕ, Bool, true, false, not, ◌||◌, List, [], ◌∷◌, ◌++◌, refl, sym, ap, ◌∙◌, if◌then◌else◌, map, map-append}
use Rattle.sap_meaning.specs.Prelude.{World, is_dynamic, Step, assign, fall_to_child, Block, State, state_node, Group, no_node, and_node, gathered_in_block, Home, site_of, some_enforced, is_site, PlacedStep, step_sites, block_sites, state_sites, group_sites, site_numbers}
use Rattle.sap_meaning.proofs.WalksLemmas.{gathered_in_block_through}
use Rattle.sap_resolved.specs.Fill.{filled_step, filled_block, filled_state, filled_group}
use Rattle.sap_resolved.proofs.FillLemmas.{gathered_filled_block}

some_filled : (w : World) (p : ℕ) (g : Group) → some_enforced w (filled_group w p g) ≡ some_enforced w g
some_filled w p no_node = refl
some_filled w p (and_node (state_node c b k) g) = ap (λ (r : Bool). not (is_dynamic w c) || r) (some_filled w p g)

-- what is told of a step, whatever hangs on it
module _ (w : World) (A : Type 0) (tell : PlacedStep → A)
    (alike : (at : Home) (s : ℕ) (k : Step) → tell (record { state = s; step = filled_step w at k }) ≡ tell (record { state = s; step = k })) where
  both : (a b c d : List PlacedStep) → map tell a ≡ map tell c → map tell b ≡ map tell d → map tell (a ++ b) ≡ map tell (c ++ d)
  both a b c d e f =
      map-append tell a b ∙ ap (λ (u : List A). u ++ map tell b) e ∙ ap (λ (u : List A). map tell c ++ u) f ∙ sym (map-append tell c d)

  told : (f : Step → List PlacedStep) (b : Block)
      → map tell (gathered_in_block [] ◌++◌ f b) ≡ gathered_in_block (map tell []) ◌++◌ (λ k. map tell (f k)) b
  told f b = gathered_in_block_through [] ◌++◌ (map tell []) ◌++◌ (map tell) refl (map-append tell) f b

  module _ (at : Home) (s : ℕ) (g i : Group) (same : some_enforced w i ≡ some_enforced w g) where
    site_filled : (k : Step) → is_site w s i (filled_step w at k) ≡ is_site w s g k
    site_filled (fall_to_child site hang) = same
    site_filled _ = refl

    one_filled : (yes : Bool) (k : Step)
        → map tell (if yes then (let t : PlacedStep = record { state = s; step = filled_step w at k } in t ∷ []) else [])
        ≡ map tell (if yes then (let t : PlacedStep = record { state = s; step = k } in t ∷ []) else [])
    one_filled true k = ap (λ (a : A). a ∷ []) (alike at s k)
    one_filled false k = refl

    step_sites_filled : (k : Step) → map tell (step_sites w s i (filled_step w at k)) ≡ map tell (step_sites w s g k)
    step_sites_filled k =
        ap (λ (b : Bool). map tell (if b then (let t : PlacedStep = record { state = s; step = filled_step w at k } in t ∷ []) else [])) (site_filled k)
        ∙ one_filled (is_site w s g k) k

    block_sites_filled : (b : Block) → map tell (block_sites w s i (filled_block w at b)) ≡ map tell (block_sites w s g b)
    block_sites_filled b =
        told (step_sites w s i) (filled_block w at b)
        ∙ gathered_filled_block w (map tell []) ◌++◌ (λ k. map tell (step_sites w s i k)) (λ k. map tell (step_sites w s g k)) at step_sites_filled b
        ∙ sym (told (step_sites w s g) b)

  mutual
    state_sites_filled : (p : ℕ) (t : State) → map tell (state_sites w (filled_state w p t)) ≡ map tell (state_sites w t)
    state_sites_filled p (state_node s b g) =
        let at : Home = record { state = s; parent = p; children = g } in
        both (block_sites w s (filled_group w s g) (filled_block w at b)) (group_sites w (filled_group w s g)) (block_sites w s g b) (group_sites w g)
        (block_sites_filled at s g (filled_group w s g) (some_filled w s g) b) (group_sites_filled s g)

    pub group_sites_filled : (p : ℕ) (g : Group) → map tell (group_sites w (filled_group w p g)) ≡ map tell (group_sites w g)
    group_sites_filled p no_node = refl
    group_sites_filled p (and_node t g) =
        both (state_sites w (filled_state w p t)) (group_sites w (filled_group w p g)) (state_sites w t) (group_sites w g) (state_sites_filled p t)
        (group_sites_filled p g)

number_filled : (w : World) (at : Home) (k : Step) → site_of (filled_step w at k) ≡ site_of k
number_filled w at (assign site x e) = refl
number_filled w at _ = refl

pub numbers_filled : (w : World) (p : ℕ) (g : Group) → site_numbers (group_sites w (filled_group w p g)) ≡ site_numbers (group_sites w g)
numbers_filled w p g = group_sites_filled w ℕ (λ (k : PlacedStep). site_of k.step) (λ at s k. number_filled w at k) p g
