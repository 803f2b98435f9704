-- What the wires of check sites tell of a cycle that stands for one of the design are its refusals.
use Rattle.sap_lemmas.proofs.Common.{◌≡◌, ℕ, zero, suc, ◌+◌, ◌<◌, ◌≤◌, Bool, true, false, List, [], ◌∷◌, ◌++◌, Option, length, refl, sym, ap, ap₂, ◌∙◌, subst, arith, inl, inr, ◌↔◌, if◌then◌else◌, append_assoc, ◌==◌, Decides-eqb, append-nil}
use Rattle.sap_tree.specs.Syntax.{DesignTree}
use Rattle.sap_lattice.specs.Prelude.{Levels, order_of, Codes, code_of}
use Rattle.sap_maps.specs.Maps.{Valuation}
use Rattle.sap_meaning.specs.Prelude.{Store, Refusal, program_sites, refused_sites, numbers_from, Sublist}
use Rattle.sap_check.specs.Sites.{sites_of}
use Rattle.sap_net.specs.PortNames.{refused_name}
use Rattle.sap_net.specs.PortNames as ports
use Rattle.sap_interface.specs.Prelude.{IsRefusedAt, IsRefused, StandsFor, named_of}
use Rattle.sap_interface.specs.Designs as interface
use Rattle.sap_interface.proofs.Refused.{refused_among}
use Rattle.sap_resolved.specs.Fill.{program_of}
use Rattle.sap_stim.specs.Rows.{level_text}
use Rattle.sap_sim.specs.Labelled.LabelledRows.{level_name}
use Rattle.sap_sim.proofs.labelled.Levels.{name_coded}
use Rattle.sap_secure.specs.CheckSites.Numbering.{OneNumbering}
use Rattle.sap_secure.proofs.check_sites.Counts.{numbers_are, count_is}
use Rattle.sap_trace.specs.Lines.{site_line, refusal_lines}
use Rattle.sap_trace.specs.Seen.{coded_name, seen_line, seen_lines}

-- the lines of one site more
seen_last : (ls : Levels) (d : DesignTree) (c k n : ℕ) (v : Valuation) → seen_lines ls d c k (suc n) v ≡ seen_lines ls d c k n v ++ seen_line ls d c (k + n) v
seen_last ls d c k zero v =
    let e : k ≡ k + 0 = omega arith in append-nil (seen_line ls d c k v) ∙ ap (λ (j : ℕ). seen_line ls d c j v) e
seen_last ls d c k (suc n) v =
    let e : suc k + n ≡ k + suc n = omega arith in
    ap (λ (xs : List ℕ). seen_line ls d c k v ++ xs) (seen_last ls d c (suc k) n v)
    ∙ sym (append_assoc (seen_line ls d c k v) (seen_lines ls d c (suc k) n v) (seen_line ls d c (suc k + n) v))
    ∙ ap (λ (j : ℕ). seen_lines ls d c k (suc n) v ++ seen_line ls d c j v) e

pub seen_step : (ls : Levels) (d : DesignTree) (c n : ℕ) (v : Valuation) (first old new : List ℕ) → old ≡ first ++ seen_lines ls d c 1 n v → new ≡ old ++ seen_line ls d c (n + 1) v
    → new ≡ first ++ seen_lines ls d c 1 (n + 1) v
seen_step ls d c n v first old new h e =
    let i : n + 1 ≡ 1 + n = omega arith in
    let j : suc n ≡ n + 1 = omega arith in
    e ∙ ap₂ (λ (xs ys : List ℕ). xs ++ ys) h (ap (λ (k : ℕ). seen_line ls d c k v) i)
    ∙ append_assoc first (seen_lines ls d c 1 n v) (seen_line ls d c (1 + n) v)
    ∙ ap (λ (xs : List ℕ). first ++ xs) (sym (seen_last ls d c 1 n v) ∙ ap (λ (k : ℕ). seen_lines ls d c 1 k v) j)

pub no_lines : (old : List ℕ) → old ≡ old ++ []
no_lines old = sym (append-nil old)

-- The wires of the sites from m on, as many as n, tell the refusals of these.
pub record Tell (ls : Levels) (v : Valuation) (m n : ℕ) (rs : List Refusal) : Type 0 where
  pub refusals : (k : ℕ) → m ≤ k → k < m + n → (v.value (refused_name k) ≡ 1) ↔ IsRefused rs k
  pub levels : (k t : ℕ) → m ≤ k → k < m + n → IsRefusedAt rs k t → v.value (ports.refused_level_name k) ≡ code_of (order_of ls) t

module _ (ls : Levels) (d : DesignTree) (codes : Codes (order_of ls)) (some : 0 < length ls.names) (c : ℕ) (v : Valuation) where
  -- the name of the level at which a site is refused
  level_told : (k t : ℕ) → v.value (ports.refused_level_name k) ≡ code_of (order_of ls) t → coded_name ls (v.value (ports.refused_level_name k)) ≡ level_name ls t
  level_told k t e =
      ap (λ (x : ℕ). coded_name ls x) e
      ∙ ap (λ (o : Option (List ℕ)). level_text o (code_of (order_of ls) t)) (name_coded ls codes some t)

  line_told : (k t : ℕ) → v.value (refused_name k) ≡ 1 → v.value (ports.refused_level_name k) ≡ code_of (order_of ls) t
      → seen_line ls d c k v ≡ site_line d c k (level_name ls t)
  line_told k t one e =
      let yes : (v.value (refused_name k) == 1) ≡ true = (Decides-eqb (v.value (refused_name k)) 1).1 one in
      ap (λ (b : Bool). if b then site_line d c k (coded_name ls (v.value (ports.refused_level_name k))) else []) yes
      ∙ ap (λ (xs : List ℕ). site_line d c k xs) (level_told k t e)

  no_line : (k : ℕ) → (v.value (refused_name k) ≡ 1 → ⊥) → seen_line ls d c k v ≡ []
  no_line k none = decided (v.value (refused_name k) == 1) refl where
    decided : (b : Bool) → (v.value (refused_name k) == 1) ≡ b → (if b then site_line d c k (coded_name ls (v.value (ports.refused_level_name k))) else []) ≡ []
    decided true t = absurd (none ((Decides-eqb (v.value (refused_name k)) 1).0 t))
    decided false t = refl

  later : (m n : ℕ) (rs : List Refusal) → Tell ls v m (suc n) rs → Tell ls v (suc m) n rs
  later m n rs h = record { refusals = λ k p q. h.refusals k (omega arith) (omega arith); levels = λ k t p q. h.levels k t (omega arith) (omega arith) }

  -- behind the first refusal
  behind : (m n : ℕ) (r : Refusal) (rs : List Refusal) → r.site ≡ m → Tell ls v m (suc n) (r ∷ rs) → Tell ls v (suc m) n rs
  behind m n r rs e h = record {
    refusals = λ k p q.
        let both = h.refusals k (omega arith) (omega arith) in
        (λ one. other k p (both.0 one), λ refused. both.1 (refused.0, inr refused.1));
    levels = λ k t p q i. h.levels k t (omega arith) (omega arith) (inr i);
  }
    where
      other : (k : ℕ) → suc m ≤ k → IsRefused (r ∷ rs) k → IsRefused rs k
      other k p (t, inl i) = (let a : r.site ≡ k = i.0 in absurd (omega arith))
      other k p (t, inr i) = (t, i)

  told : (m n : ℕ) (rs : List Refusal) → Sublist (refused_sites rs) (numbers_from m n) → Tell ls v m n rs → refusal_lines ls d c rs ≡ seen_lines ls d c m n v
  told m zero [] sub h = refl
  told m zero (r ∷ rs) sub h = absurd sub
  told m (suc n) [] sub h =
      let none : v.value (refused_name m) ≡ 1 → ⊥ = λ one. ((h.refusals m (omega arith) (omega arith)).0 one).1 in
      told (suc m) n [] tt (later m n [] h) ∙ ap (λ (xs : List ℕ). xs ++ seen_lines ls d c (suc m) n v) (sym (no_line m none))
  told m (suc n) (r ∷ rs) sub h = elim sub [
    | inl q ↦
        let here : IsRefusedAt (r ∷ rs) m r.level = inl (q.0, refl) in
        let line : seen_line ls d c m v ≡ site_line d c m (level_name ls r.level) =
        line_told m r.level ((h.refusals m (omega arith) (omega arith)).1 (r.level, here)) (h.levels m r.level (omega arith) (omega arith) here) in
        ap₂ (λ (xs ys : List ℕ). xs ++ ys) (ap (λ (k : ℕ). site_line d c k (level_name ls r.level)) q.0 ∙ sym line)
        (told (suc m) n rs q.1 (behind m n r rs q.0 h))
    | inr q ↦
        let none : v.value (refused_name m) ≡ 1 → ⊥ =
        λ one. (let i = (h.refusals m (omega arith) (omega arith)).0 one in let l : suc m ≤ m = (refused_among (suc m) n (r ∷ rs) q m i.0 i.1).0 in omega arith) in
        told (suc m) n (r ∷ rs) q (later m n (r ∷ rs) h) ∙ ap (λ (xs : List ℕ). xs ++ seen_lines ls d c (suc m) n v) (sym (no_line m none))
  ]

  -- where the wires stand for a cycle of the design
  pub lines_told : OneNumbering ls d → (s : Store) (rs : List Refusal) → StandsFor (named_of ls d) (interface.site_count_of d) v s rs
      → Sublist (refused_sites rs) (program_sites (program_of ls d)) → refusal_lines ls d c rs ≡ seen_lines ls d c 1 (length (sites_of d)) v
  lines_told one s rs stands sub =
      let count : interface.site_count_of d ≡ length (sites_of d) = count_is d in
      told 1 (length (sites_of d)) rs (subst (λ (ks : List ℕ). Sublist (refused_sites rs) ks) (numbers_are ls d one) sub)
      (record { refusals = λ k p q. stands.refusals k p (omega arith); levels = λ k t p q. stands.refusal_levels k t })
