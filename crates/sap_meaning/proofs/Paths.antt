-- What looks alike by levels looks alike by their codes.
use Rattle.sap_lemmas.proofs.Common.{◌≡◌, ℕ, zero, suc, ◌<◌, List, [], ◌∷◌, map, inl, inr, refl, sym, ap, ◌∙◌, AllByRecursion}
use Rattle.sap_lattice.specs.Order.{Order}
use Rattle.sap_meaning.specs.Program.{state_node, Group, no_node, and_node}
use Rattle.sap_meaning.specs.Agree.{Alike, ActiveState, path_from, PathsRelated}
use Rattle.sap_meaning.specs.Codes.{LookAlike}

-- a state on an active path with the code of its level
abbrev pub with_code : (code : ℕ → ℕ) → ActiveState → ActiveState
with_code code x = record { state = x.state; tag = code x.tag }

-- the tag of each is one of the lattice
abbrev pub HaveLevels : Order → List ActiveState → Type 0
HaveLevels o xs = AllByRecursion (λ (x : ActiveState). x.tag < o.count) xs

module _ (o : Order) where
  pub path_levels : (child tag : ℕ → ℕ) → ((x : ℕ) → tag x < o.count) → (g : Group) (n : ℕ) → HaveLevels o (path_from child tag g n)
  path_levels child tag levels no_node n = tt
  path_levels child tag levels (and_node (state_node c b k) g) zero = (levels c, path_levels child tag levels k (child c))
  path_levels child tag levels (and_node a g) (suc n) = path_levels child tag levels g n

module _ (o : Order) (code : ℕ → ℕ) (l : ℕ) where
  pub coded_alike : (Same Told : Type 0) (t u g h : ℕ) → (Same → Told) → g ≡ code t → h ≡ code u → t < o.count → u < o.count
      → Alike o l Same t u → LookAlike o code l Told g h
  coded_alike Same Told t u g h f gt hu i j (inl s) = inl (f s.0, gt ∙ ap code s.1 ∙ sym hu, (t, i, sym gt, s.2))
  coded_alike Same Told t u g h f gt hu i j (inr s) = inr ((t, i, sym gt, s.0), (u, j, sym hu, s.1))

  pub coded_related : (xs ys : List ActiveState) → HaveLevels o xs → HaveLevels o ys → PathsRelated (Alike o l) xs ys
      → PathsRelated (LookAlike o code l) (map (with_code code) xs) (map (with_code code) ys)
  coded_related [] [] p q r = tt
  coded_related [] (y ∷ ys) p q r = absurd r
  coded_related (x ∷ xs) [] p q r = absurd r
  coded_related (x ∷ xs) (y ∷ ys) p q r =
      coded_alike _ _ x.tag y.tag _ _ (λ s. (s.0, coded_related xs ys p.1 q.1 s.1)) refl refl p.0 q.0 r
