-- Bodies keep the rules of names and of widths.
use Rattle.sap_lemmas.proofs.Common.{◌≡◌, ℕ, zero, suc, ◌+◌, ◌^◌, ◌<◌, ◌≤◌, List, [], ◌∷◌, ◌++◌, length, take, drop, Bool, true, false, not, ◌&&◌, ◌||◌, Some, refl, sym, ap, ◌∙◌, subst, if◌then◌else◌, arith, nat_lt, nat_le, inl, inr, AllByRecursion, cases_Bool, and_parts, or_right, common_steps, pow_pos, true_is_not_false}
use Rattle.sap_resolved.proofs.SizedLemmas.{ranged_width}
use Rattle.sap_meaning.proofs.ProgramLemmas.{memory_no_input, register_no_input, state_no_input}
use Rattle.sap_maps.specs.Prelude.{Name, find, Term, constant, cell, two, choose}
use Rattle.sap_bits.specs.declared.Op2.TheVariants.{Eq}
use Rattle.sap_tree.specs.Limits.{most_arms}
use Rattle.sap_meaning.specs.Prelude.{World, Kind, entity, root, is_dynamic, is_input, is_register, is_state, width, children, listed, Step, assign, write, retag, retag_cell, go_to, fall_to_child, Command, lone, try, if_else, try_then, case_of, Arms, last_arm, and_arm, Block, end_block, command_then, Group, kind_is_input, kind_is_register, kind_is_state, width_of, Every, EveryInArms, EveryInBlock, arm_constants, Home, site_of, among, listed_alone, FineStep, FineCommand, size, SizedStep, AreWithin, depth, SizedCommand}
use Rattle.sap_meaning.specs.Program as program
use Rattle.sap_meaning.specs.Sites as sites
use Rattle.sap_resolved.specs.Sized.Ranges.{IsWidth, RangedStep, Ranged, RangedArms, RangedBlock}
use Rattle.sap_net.specs.Names.{is_among}
use Rattle.sap_ir.specs.Prelude.{Source, readable, shapes, assignable, Body, stop, act, cases, goto, fall, BodyFine, follow}
use Rattle.sap_ir.proofs.plain.SeatWidths.{seat_positive, seat_within, seat_holds}
use Rattle.sap_tagged.specs.Prelude.{Key, value_key, tag_key, seat_key, refused_key, level_key, wire_key, first_key, inner_key, same, Setting, var, bits, lub, yes, expr, tag_of, guard_of, test_of, written, stays, always, all_dynamic, gives, stores, sweep, raises, looks, resets, effect_of, refusal, attempt_of, attempt_then_of, arm_count, pick_width, picks_arm, picks, decides, pick_of, select_of, wires, wires_block, command_plain, arms_plain, block_plain, Few, FewArms, FewBlock, saved, has_tag}
use Rattle.sap_tagged.proofs.Bools.{tagged_within, register_within, value_no_memory, kept_no_memory, enforced_within, tagged, tagged_memory}
use Rattle.sap_tagged.proofs.StepTerms.{Placed}
use Rattle.sap_tagged.proofs.Ends.{Among}
use Rattle.sap_tagged.proofs.Conditions.{StepConditions, CommandConditions, ArmsConditions, BlockConditions}
use Rattle.sap_tagged.proofs.Parts.{tried, all_taken, all_dropped}
use Rattle.sap_tagged.proofs.Fits.{Declares, Fine, number_fine, level_fine, lub_fine, bits_fine, yes_fine, guard_fine, test_fine, written_fine, stays_fine}

-- what can be assigned, and is no register of a current child
pub record Assigns (d : Setting) (s : Source) (fixed : List Name) : Type 0 where
  pub values : (x : ℕ) → is_register d.world x ≡ true → find (assignable s) (d.name (value_key x)) ≡ Some (width d.world x)
  pub tags : (x : ℕ) → has_tag d.world x ≡ true → is_input d.world x ≡ false → find (assignable s) (d.name (tag_key x)) ≡ Some d.tag
  pub firsts : (m : ℕ) → saved d.world m ≡ true → find (assignable s) (d.name (first_key m)) ≡ Some d.tag
  pub inners : (x : ℕ) → nat_lt x (root d.world) ≡ true → 0 < children d.world x → find (assignable s) (d.name (inner_key x)) ≡ Some d.tag
  pub free : (a : Key) → ((p : ℕ) → same a (seat_key p) ≡ false) → is_among (d.name a) fixed ≡ false

-- a wire of a width
abbrev pub IsWire : Setting → Source → (k u : ℕ) → Type 0
IsWire d s k u = (find (readable s) (d.name (wire_key k)) ≡ Some u) × (find (assignable s) (d.name (wire_key k)) ≡ Some u)

abbrev pub StepWires : Setting → Source → ℕ → Type 0
StepWires d s k = IsWire d s k 1 × IsWire d s (k + 1) d.tag × IsWire d s (k + 2) d.tag × IsWire d s (k + 3) d.tag × IsWire d s (k + 4) 1

abbrev mutual
  pub CommandWires : Setting → Source → ℕ → Command → Type 0
  CommandWires d s k (lone t) = StepWires d s k
  CommandWires d s k (try t hang h) = StepWires d s k × BlockWires d s (k + 5) h
  CommandWires d s k (if_else hang e a b) = IsWire d s k d.tag × IsWire d s (k + 1) d.tag × BlockWires d s (k + 2) a × BlockWires d s (k + 2 + wires_block a) b
  CommandWires d s k (try_then t hang a b) = StepWires d s k × BlockWires d s (k + 5) a × BlockWires d s (k + 5 + wires_block a) b
  CommandWires d s k (case_of hang e arms) =
      IsWire d s k d.tag × IsWire d s (k + 1) d.tag × IsWire d s (k + 2) (width_of d.world e) × IsWire d s (k + 3) (pick_width arms) × ArmsWires d s (k + 4) arms

  pub ArmsWires : Setting → Source → ℕ → Arms → Type 0
  ArmsWires d s k (last_arm b) = BlockWires d s k b
  ArmsWires d s k (and_arm constants b arms) = BlockWires d s k b × ArmsWires d s (k + wires_block b) arms

  pub BlockWires : Setting → Source → ℕ → Block → Type 0
  BlockWires d s k end_block = Unit {0}
  BlockWires d s k (command_then c cs) = CommandWires d s k c × BlockWires d s (k + wires c) cs

-- the two wires of a site
abbrev pub SiteWires : Setting → Source → ℕ → Type 0
SiteWires d s k = (find (assignable s) (d.name (refused_key k)) ≡ Some 1) × (find (assignable s) (d.name (level_key k)) ≡ Some d.tag)

-- what hangs has a tag that can be assigned
abbrev pub Hangs : World → (ℕ → Bool) → Type 0
Hangs w h = (x : ℕ) → h x ≡ true → has_tag w x ≡ true × (is_input w x ≡ false)

-- of what hangs on a command alone
abbrev pub OwnHangs : World → Home → Command → Type 0
OwnHangs w sp (lone t) = Hangs w (listed_alone w sp t)
OwnHangs w sp (try t hang h) = Hangs w (listed hang)
OwnHangs w sp (if_else hang e a b) = Hangs w (listed hang)
OwnHangs w sp (try_then t hang a b) = Hangs w (listed hang)
OwnHangs w sp (case_of hang e arms) = Hangs w (listed hang)

abbrev pub CommandHangs : World → Home → Command → Type 0
CommandHangs w sp c = Every (OwnHangs w sp) c

abbrev pub ArmsHang : World → Home → Arms → Type 0
ArmsHang w sp arms = EveryInArms (OwnHangs w sp) arms

abbrev pub BlockHangs : World → Home → Block → Type 0
BlockHangs w sp b = EveryInBlock (OwnHangs w sp) b

pub among_left : (xs ys : List sites.PlacedStep) (k : ℕ) → Among (sites.site_numbers xs) k → Among (sites.site_numbers (xs ++ ys)) k
among_left [] ys k h = absurd h
among_left (x ∷ xs) ys k (inl e) = inl e
among_left (x ∷ xs) ys k (inr h) = inr (among_left xs ys k h)

pub among_right : (xs ys : List sites.PlacedStep) (k : ℕ) → Among (sites.site_numbers ys) k → Among (sites.site_numbers (xs ++ ys)) k
among_right [] ys k h = h
among_right (x ∷ xs) ys k h = inr (among_right xs ys k h)

-- a step that is no check site always happens

all_or_some : (w : World) (g : Group) → all_dynamic w g ≡ false → sites.some_enforced w g ≡ true
all_or_some w program.no_node h = absurd (true_is_not_false h)
all_or_some w (program.and_node (program.state_node c b k) g) h = by (is_dynamic w c) (all_dynamic w g) h (all_or_some w g)
  where
    by : (a e : Bool) → (a && e) ≡ false → (e ≡ false → sites.some_enforced w g ≡ true) → (not a || sites.some_enforced w g) ≡ true
    by true e h f = f h
    by false e h f = refl

site_step : (w : World) (sp : Home) (t : Step) → always w sp t ≡ false → sites.is_site w sp.state sp.children t ≡ true
site_step w sp (assign site x e) h = rw h refl
site_step w sp (write site m i e) h = rw h refl
site_step w sp (go_to site target) h = by (is_dynamic w target) (is_dynamic w sp.state) h
  where
    by : (a b : Bool) → (a && b) ≡ false → (not b || not a) ≡ true
    by true true h = absurd (true_is_not_false h)
    by true false h = refl
    by false true h = refl
    by false false h = refl
site_step w sp (fall_to_child site hang) h = all_or_some w sp.children h
site_step w sp _ h = refl

site_listed : (w : World) (sp : Home) (t : Step) → always w sp t ≡ false → Among (sites.site_numbers (sites.step_sites w sp.state sp.children t)) (site_of t)
site_listed w sp t h = rw (site_step w sp t h) (inl refl)

-- kinds

kept_kind : (k : Kind) → (kind_is_register k || kind_is_state k) ≡ true → kind_is_input k ≡ false
kept_kind program.input h = absurd (true_is_not_false (sym h))
kept_kind _ h = refl

module _ (d : Setting) (s : Source) (h : Declares d s) (fixed group : List Name) (w : Assigns d s fixed) (nested : Bool) where
  abbrev pub Good : Body → Type 0
  Good b = BodyFine s fixed group nested b

  pub gives_fine : (a : Key) (t : Term Name) (rest : Body) (u : ℕ) → find (assignable s) (d.name a) ≡ Some u → Fine d s h u t
      → ((p : ℕ) → same a (seat_key p) ≡ false) → Good rest → Good (gives d a t rest)
  gives_fine a t rest u e f n r = ((u, e, f), ap not (w.free a n), r)

  tag_gives : (x : ℕ) (t : Term Name) (rest : Body) → has_tag d.world x ≡ true → is_input d.world x ≡ false → Fine d s h d.tag t → Good rest → Good (gives d (tag_key x) t rest)
  tag_gives x t rest q i f r = gives_fine (tag_key x) t rest d.tag (w.tags x q i) f (λ p. refl) r

  pub wire_gives : (k u : ℕ) (t : Term Name) (rest : Body) → IsWire d s k u → Fine d s h u t → Good rest → Good (gives d (wire_key k) t rest)
  wire_gives k u t rest q f r = gives_fine (wire_key k) t rest u q.1 f (λ p. refl) r

  stores_fine : (a : Key) (i t : Term Name) (rest : Body) (u b n : ℕ) → IsWidth b → find (shapes s) (d.name a) ≡ Some (u, n) → 2 ^ b ≡ n
      → Fine d s h b i → Fine d s h u t → Good rest → Good (stores d a i t rest)
  stores_fine a i t rest u b n v e p f g r = ((u, b, v, e ∙ ap (λ (z : ℕ). Some (u, z)) (sym p), f, g), refl, r)

  pub sweep_fine : (v : ℕ → Key) (picks : ℕ → Bool) (t : ℕ → Term Name) (x m : ℕ) (rest : Body)
      → ((y : ℕ) → x ≤ y → y < x + m → picks y ≡ true → (u : ℕ) × (find (assignable s) (d.name (v y)) ≡ Some u) × Fine d s h u (t y))
      → ((y p : ℕ) → same (v y) (seat_key p) ≡ false) → Good rest → Good (sweep d v picks t x m rest)
  sweep_fine v picks t x zero rest f n r = r
  sweep_fine v picks t x (suc m) rest f n r = elim (cases_Bool (picks x)) [
    | inl e ↦
        rw e
        (let q = f x (omega arith) (omega arith) e in
        gives_fine (v x) (t x) (sweep d v picks t (x + 1) m rest) q.0 q.1 q.2 (n x)
        (sweep_fine v picks t (x + 1) m rest (λ y l k i. f y (omega (arith, l)) (omega (arith, k)) i) n r))
    | inr e ↦ rw e (sweep_fine v picks t (x + 1) m rest (λ y l k i. f y (omega (arith, l)) (omega (arith, k)) i) n r)
  ]

  pub raises_fine : (hangs : ℕ → Bool) (j : ℕ) (rest : Body) → Hangs d.world hangs → IsWire d s j d.tag → Good rest → Good (raises d hangs j rest)
  raises_fine hangs j rest f q r =
      sweep_fine tag_key hangs (λ x. lub (var d (tag_key x)) (var d (wire_key j))) 0 (root d.world) rest
      (λ y l k e. let i = f y e in (d.tag, w.tags y i.0 i.1, lub_fine d s h (var d (tag_key y)) (var d (wire_key j)) (h.tags y i.0) q.0)) (λ y p. refl) r

  follow_fine : (a b : Body) → Good a → Good b → Good (follow a b)
  follow_fine stop b f g = g
  follow_fine (act x rest) b f g = (f.0, f.1, follow_fine rest b f.2 g)
  follow_fine (cases t x y rest) b f g = (f.0, f.1, f.2, follow_fine rest b f.3 g)
  follow_fine (goto x rest) b f g = (f.0, follow_fine rest b f.1 g)
  follow_fine (fall rest) b f g = (f.0, follow_fine rest b f.1 g)

  module _ (q : Group) (sp : Home) (placed : Placed d.world q sp) (named : (t : ℕ) → among q t ≡ true → is_among (d.state_name t) group ≡ true)
      (kids : 0 < size sp.children → nested ≡ true) where
    looks_fine : (p k : ℕ) (t : Step) (rest : Body) → IsWire d s p d.tag → StepWires d s k → FineStep d.world q sp.children t
        → SizedStep d.world t → RangedStep d.world t → StepConditions d.world t
        → Good rest → Good (looks d sp p k t rest)
    looks_fine p k t rest pc ws f z r c g =
        let P = var d (wire_key p) in
        let b4 : Body = gives d (wire_key (k + 4)) (stays d t) rest in
        let b3 : Body = gives d (wire_key (k + 3)) (written d P t) b4 in
        let b2 : Body = gives d (wire_key (k + 2)) (lub P (var d (wire_key (k + 1)))) b3 in
        let b1 : Body = gives d (wire_key (k + 1)) (guard_of d sp t) b2 in
        wire_gives k 1 (test_of d sp P t) b1 ws.0 (test_fine d s h q sp placed P t pc.0 f z r c)
        (wire_gives (k + 1) d.tag (guard_of d sp t) b2 ws.1 (guard_fine d s h q sp placed t f z r c)
        (wire_gives (k + 2) d.tag (lub P (var d (wire_key (k + 1)))) b3 ws.2 (lub_fine d s h P (var d (wire_key (k + 1))) pc.0 ws.1.0)
        (wire_gives (k + 3) d.tag (written d P t) b4 ws.3 (written_fine d s h q sp placed P t pc.0 f z r c)
        (wire_gives (k + 4) 1 (stays d t) rest ws.4 (stays_fine d s h q sp placed t f z r c) g))))

    zero_fine : (u : ℕ) → Fine d s h u (constant u 0)
    zero_fine u = (refl, pow_pos u)

    effect_fine : (k : ℕ) (t : Step) → StepWires d s k → FineStep d.world q sp.children t → SizedStep d.world t → RangedStep d.world t
        → StepConditions d.world t → Good (effect_of d sp k t)
    effect_fine k (assign site x e) ws f z r c =
        let number : Fine d s h (width d.world x) (expr d e) = subst (λ (u : ℕ). Fine d s h u (expr d e)) z.1 (number_fine d s h e f.1 z.0 r c) in
        let last : Good (gives d (value_key x) (expr d e) stop) = gives_fine (value_key x) (expr d e) stop (width d.world x) (w.values x f.0) number (λ p. refl) tt in
        let m = value_no_memory d.world x (or_right _ (is_register d.world x) f.0) in
        elim (cases_Bool (is_dynamic d.world x)) [
          | inl i ↦ rw i (tag_gives x (var d (wire_key (k + 3))) (gives d (value_key x) (expr d e) stop)
              (tagged d.world x (register_within d.world x f.0) m) (register_no_input (entity d.world x).kind f.0) ws.3.0 last)
          | inr i ↦ rw i last
        ]
    effect_fine k (write site m i e) ws f z r c =
        let number : Fine d s h (width d.world m) (expr d e) = subst (λ (u : ℕ). Fine d s h u (expr d e)) z.3 (number_fine d s h e f.2 z.2 r.1 c.1) in
        stores_fine (value_key m) (expr d i) (expr d e)
        (if is_dynamic d.world m then gives d (tag_key m) (lub (var d (tag_key m)) (var d (wire_key (k + 3)))) stop else stop)
        (width d.world m) (width_of d.world i) (depth d.world m) (ranged_width d.world i r.0) (h.stores m f.0) z.1
        (number_fine d s h i f.1 z.0 r.0 c.0) number
        (elim (cases_Bool (is_dynamic d.world m)) [
          | inl j ↦
              rw j
              (tag_gives m (lub (var d (tag_key m)) (var d (wire_key (k + 3)))) stop (tagged_memory d.world m f.0 j) (memory_no_input (entity d.world m).kind f.0)
              (lub_fine d s h (var d (tag_key m)) (var d (wire_key (k + 3))) (h.tags m (tagged_memory d.world m f.0 j)) ws.3.0) tt)
          | inr j ↦ rw j tt
        ])
    effect_fine k (retag site x n) ws f z r c =
        let m = kept_no_memory d.world x f.0 in
        let t = tagged d.world x (enforced_within d.world x f.1) m in
        tag_gives x (var d (wire_key (k + 3)))
        (if is_register d.world x then gives d (value_key x)
        (choose (var d (wire_key (k + 4))) (var d (value_key x)) (constant (width d.world x) 0)) stop else stop) t (kept_kind (entity d.world x).kind f.0) ws.3.0
        (elim (cases_Bool (is_register d.world x)) [
          | inl i ↦
              rw i
              (gives_fine (value_key x) (choose (var d (wire_key (k + 4))) (var d (value_key x)) (constant (width d.world x) 0)) stop (width d.world x) (w.values x i)
              (ws.4.0, h.values x (or_right _ (is_register d.world x) i), zero_fine (width d.world x)) (λ p. refl) tt)
          | inr i ↦ rw i tt
        ])
    effect_fine k (retag_cell site m j n) ws f z r c =
        let index = number_fine d s h j f.2 z.0 r.0 c.0 in
        let wide = ranged_width d.world j r.0 in
        stores_fine (tag_key m) (expr d j) (var d (wire_key (k + 3)))
        (stores d (value_key m) (expr d j) (choose (var d (wire_key (k + 4))) (cell (d.name (value_key m)) (expr d j))
        (constant (width d.world m) 0)) stop) d.tag (width_of d.world j) (depth d.world m) wide (h.marks m f.0 f.1) z.1 index ws.3.0
        (stores_fine (value_key m) (expr d j) (choose (var d (wire_key (k + 4))) (cell (d.name (value_key m)) (expr d j))
        (constant (width d.world m) 0)) stop (width d.world m) (width_of d.world j)
        (depth d.world m) wide (h.stores m f.0) z.1 index
        (ws.4.0, (width_of d.world j, wide, h.stores m f.0 ∙ ap (λ (y : ℕ). Some (width d.world m, y)) (sym z.1), index), zero_fine (width d.world m)) tt)
    effect_fine k (go_to site target) ws f z r c =
        let i = placed.siblings target f in
        let state = placed.states target f in
        let last : Good (goto (d.state_name target) stop) = (named target f, tt) in
        sweep_fine tag_key (resets d.world target) (λ x. bits d d.world.order.bottom) 0 (root d.world)
        (if is_dynamic d.world target then gives d (tag_key target) (var d (wire_key (k + 3))) (goto (d.state_name target) stop) else goto (d.state_name target) stop)
        (λ y l k e. let v = reset_tag target y (within y (root d.world) k) e in (d.tag, w.tags y v.0 v.1, bits_fine d s h d.world.order.bottom)) (λ y p. refl)
        (elim (cases_Bool (is_dynamic d.world target)) [
          | inl j ↦ rw j (tag_gives target (var d (wire_key (k + 3))) (goto (d.state_name target) stop) i.0 (state_no_input (entity d.world target).kind state) ws.3.0 last)
          | inr j ↦ rw j last
        ])
      where
        within : (y n : ℕ) → y < 0 + n → nat_lt y n ≡ true
        within y n l = grind (arith, common_steps)

        reset_tag : (target y : ℕ) → nat_lt y (root d.world) ≡ true → resets d.world target y ≡ true → has_tag d.world y ≡ true × (is_input d.world y ≡ false)
        reset_tag target y l e =
            let b = and_parts _ (is_dynamic d.world y) e in
            let state = (and_parts (is_state d.world y) _ b.0).0 in
            let m = kept_no_memory d.world y (or_right _ (is_state d.world y) state) in
            (tagged d.world y l m, state_no_input (entity d.world y).kind state)
    effect_fine k (fall_to_child site hang) ws f z r c =
        gives_fine (inner_key sp.state) (var d (wire_key (k + 2))) (fall stop) d.tag
        (w.inners sp.state (tagged_within d.world sp.state (placed.siblings sp.state placed.here).0) (rw placed.seated f)) ws.2.0 (λ p. refl) (kids f, tt)

    -- the wires of the sites that are listed
    abbrev pub AllSites : List sites.PlacedStep → Type 0
    AllSites ks = (k : ℕ) → Among (sites.site_numbers ks) k → SiteWires d s k

    refusal_fine : (k : ℕ) (t : Step) (handler : Body) → StepWires d s k → SiteWires d s (site_of t) → Good handler → Good (refusal d k t handler)
    refusal_fine k t handler ws site g =
        gives_fine (refused_key (site_of t)) yes (gives d (level_key (site_of t)) (var d (wire_key (k + 2))) handler) 1 site.0 (yes_fine d s h) (λ p. refl)
        (gives_fine (level_key (site_of t)) (var d (wire_key (k + 2))) handler d.tag site.1 ws.2.0 (λ p. refl) g)

    -- an effect, or an effect and an accepted part, and what a refusal leads to
    tried_fine : (p k : ℕ) (t : Step) (hangs : ℕ → Bool) (done handler : Body) → IsWire d s p d.tag → StepWires d s k → Hangs d.world hangs
        → AllSites (sites.step_sites d.world sp.state sp.children t)
        → FineStep d.world q sp.children t → SizedStep d.world t → RangedStep d.world t → StepConditions d.world t → Good done
        → Good handler → Good (tried d sp p k t hangs done handler)
    tried_fine p k t hangs done handler pc ws hs site f z r c e g =
        looks_fine p k t _ pc ws f z r c
        (raises_fine hangs (k + 1) _ hs ws.1
        (elim (cases_Bool (always d.world sp t)) [
          | inl i ↦ rw i e
          | inr i ↦ rw i (ws.0.0, e, refusal_fine k t handler ws (site (site_of t) (site_listed d.world sp t i)) g, tt)
        ]))

    select_fine : (p k : ℕ) (e : Term ℕ) (hangs : ℕ → Bool) (x y : Body) → IsWire d s p d.tag → IsWire d s k d.tag
        → IsWire d s (k + 1) d.tag → Hangs d.world hangs → Fine d s h d.tag (tag_of d e)
        → Fine d s h 1 (expr d e) → Good x → Good y → Good (select_of d p k e hangs x y)
    unfolding select_of
    select_fine p k e hangs x y pc a b hs level number f g =
        wire_gives k d.tag (tag_of d e) (gives d (wire_key (k + 1)) (lub (var d (wire_key p)) (var d (wire_key k))) (raises d hangs k (cases (expr d e) x y stop))) a level
        (wire_gives (k + 1) d.tag (lub (var d (wire_key p)) (var d (wire_key k))) (raises d hangs k (cases (expr d e) x y stop)) b
        (lub_fine d s h (var d (wire_key p)) (var d (wire_key k)) pc.0 a.0)
        (raises_fine hangs k (cases (expr d e) x y stop) hs a (number, f, g, tt)))

    -- the number of a block

    picks_arm_fine : (u n w j i : ℕ) (cs : List ℕ) (rest : Body) → IsWidth u → IsWire d s n u → IsWire d s j w → i < 2 ^ w → AreWithin u cs
        → Good rest → Good (picks_arm d u n w j i cs rest)
    picks_arm_fine u n w j i [] rest wide wn wj small within g = g
    picks_arm_fine u n w j i (c ∷ cs) rest wide wn wj small within g =
        wire_gives j w (choose (two Eq (var d (wire_key n)) (constant u c)) (constant w i) (var d (wire_key j))) (picks_arm d u n w j i cs rest) wj
        ((u, u, wide, wide, wn.0, (refl, within.0), refl, refl), (refl, small), wj.0) (picks_arm_fine u n w j i cs rest wide wn wj small within.1 g)

    picks_fine : (u n w j i : ℕ) (arms : Arms) (rest : Body) → IsWidth u → IsWire d s n u → IsWire d s j w → i + arm_count arms < 2 ^ w
        → AllByRecursion (AreWithin u) (arm_constants arms) → Good rest
        → Good (picks d u n w j i arms rest)
    picks_fine u n w j i (last_arm b) rest wide wn wj small z g = wire_gives j w (constant w i) rest wj (refl, (omega (arith, small))) g
    picks_fine u n w j i (and_arm constants b arms) rest wide wn wj small z g =
        picks_fine u n w j (suc i) arms (picks_arm d u n w j i constants rest) wide wn wj (omega (arith, small)) z.1
        (picks_arm_fine u n w j i constants rest wide wn wj (omega (arith, small)) z.0 g)

    -- the block that has it

    decides_fine : (j bits m : ℕ) (bs : List Body) → IsWidth bits → IsWire d s j bits → m ≤ bits → AllByRecursion Good bs → Good (decides d j m bs)
    decides_fine j bits zero [] wide wj l g = tt
    decides_fine j bits zero (b ∷ bs) wide wj l g = g.0
    decides_fine j bits (suc m) bs wide wj l g = elim (cases_Bool (nat_le (length bs) (2 ^ m))) [
      | inl t ↦ rw t (decides_fine j bits m bs wide wj (omega (arith, l)) g)
      | inr t ↦
          rw t (
            (bits, wide, wj.0, omega arith, omega (arith, l), omega arith),
            decides_fine j bits m (drop (2 ^ m) bs) wide wj (omega (arith, l)) (all_dropped Good (2 ^ m) bs g),
            decides_fine j bits m (take (2 ^ m) bs) wide wj (omega (arith, l)) (all_taken Good (2 ^ m) bs g),
            tt,
          )
    ]

    pick_fine : (p k : ℕ) (e : Term ℕ) (hangs : ℕ → Bool) (arms : Arms) (blocks : List Body) → IsWire d s p d.tag → IsWire d s k d.tag → IsWire d s (k + 1) d.tag
        → IsWire d s (k + 2) (width_of d.world e) → IsWire d s (k + 3) (pick_width arms) → Hangs d.world hangs
        → Fine d s h d.tag (tag_of d e) → Fine d s h (width_of d.world e) (expr d e)
        → IsWidth (width_of d.world e) → arm_count arms ≤ most_arms
        → AllByRecursion (AreWithin (width_of d.world e)) (arm_constants arms) → AllByRecursion Good blocks → Good (pick_of d p k e hangs arms blocks)
    unfolding pick_of
    pick_fine p k e hangs arms blocks pc a b n j hs level number wide few z g =
        let w = pick_width arms in
        let count = suc (arm_count arms) in
        let held : count ≤ 2 ^ w = seat_holds count (omega (arith, few)) in
        let chosen = decides d (k + 3) w blocks in
        let b3 : Body = picks d (width_of d.world e) (k + 2) w (k + 3) 0 arms chosen in
        let b2 : Body = gives d (wire_key (k + 2)) (expr d e) (raises d hangs k b3) in
        let b1 : Body = gives d (wire_key (k + 1)) (lub (var d (wire_key p)) (var d (wire_key k))) b2 in
        wire_gives k d.tag (tag_of d e) b1 a level
        (wire_gives (k + 1) d.tag (lub (var d (wire_key p)) (var d (wire_key k))) b2 b (lub_fine d s h (var d (wire_key p)) (var d (wire_key k)) pc.0 a.0)
        (wire_gives (k + 2) (width_of d.world e) (expr d e) (raises d hangs k b3) n number
        (raises_fine hangs k b3 hs a
        (picks_fine (width_of d.world e) (k + 2) w (k + 3) 0 arms chosen wide n j (omega (arith, held)) z
        (decides_fine (k + 3) w w blocks (seat_positive count, seat_within count) j (omega arith) g)))))

    mutual
      unfolding attempt_of attempt_then_of command_plain arms_plain block_plain

      command_fine : (p k : ℕ) (c : Command) → IsWire d s p d.tag → CommandWires d s k c → CommandHangs d.world sp c → AllSites (sites.command_sites d.world sp.state sp.children c)
          → Every (FineCommand d.world q sp.children) c → Every (SizedCommand d.world) c → Ranged d.world c → CommandConditions d.world c → Few c
          → Good (command_plain d sp p k c)
      command_fine p k (lone t) pc ws hs site f z r c few =
          tried_fine p k t (listed_alone d.world sp t) (effect_of d sp k t) stop pc ws hs site f z r c (effect_fine k t ws f z r c) tt
      command_fine p k (try t hang b) pc ws hs site f z r c few =
          tried_fine p k t (listed hang) (effect_of d sp k t) (block_plain d sp (k + 2) (k + 5) b) pc ws.0 hs.0
          (λ n i. site n (among_left (sites.step_sites d.world sp.state sp.children t) (sites.block_sites d.world sp.state sp.children b) n i)) f.0 z.0 r.0 c.0
          (effect_fine k t ws.0 f.0 z.0 r.0 c.0) (block_fine (k + 2) (k + 5) b ws.0.2 ws.1 hs.1
          (λ n i. site n (among_right (sites.step_sites d.world sp.state sp.children t) (sites.block_sites d.world sp.state sp.children b) n i)) f.1 z.1 r.1 c.1 few.1)
      command_fine p k (if_else hang e a b) pc ws hs site f z r c few =
          select_fine p k e (listed hang) (block_plain d sp (k + 1) (k + 2) a) (block_plain d sp (k + 1) (k + 2 + wires_block a) b) pc ws.0 ws.1 hs.0
          (level_fine d s h e f.0 z.0.0 r.0 c.0) (subst (λ (u : ℕ). Fine d s h u (expr d e)) z.0.1 (number_fine d s h e f.0 z.0.0 r.0 c.0))
          (block_fine (k + 1) (k + 2) a ws.1 ws.2 hs.1
          (λ n i. site n (among_left (sites.block_sites d.world sp.state sp.children a) (sites.block_sites d.world sp.state sp.children b) n i)) f.1 z.1 r.1 c.1 few.1)
          (block_fine (k + 1) (k + 2 + wires_block a) b ws.1 ws.3 hs.2
          (λ n i. site n (among_right (sites.block_sites d.world sp.state sp.children a) (sites.block_sites d.world sp.state sp.children b) n i)) f.2 z.2 r.2 c.2 few.2)
      command_fine p k (try_then t hang a b) pc ws hs site f z r c few =
          let own = sites.step_sites d.world sp.state sp.children t in
          let first = sites.block_sites d.world sp.state sp.children a in
          let second = sites.block_sites d.world sp.state sp.children b in
          let x = block_plain d sp (k + 2) (k + 5) a in
          tried_fine p k t (listed hang) (follow (effect_of d sp k t) x) (block_plain d sp (k + 2) (k + 5 + wires_block a) b) pc ws.0 hs.0
          (λ m i. site m (among_left own (first ++ second) m i)) f.0 z.0 r.0 c.0
          (follow_fine (effect_of d sp k t) x (effect_fine k t ws.0 f.0 z.0 r.0 c.0)
          (block_fine (k + 2) (k + 5) a ws.0.2 ws.1 hs.1 (λ m i. site m (among_right own (first ++ second) m (among_left first second m i))) f.1 z.1 r.1 c.1 few.1))
          (block_fine (k + 2) (k + 5 + wires_block a) b ws.0.2 ws.2 hs.2 (λ m i. site m (among_right own (first ++ second) m (among_right first second m i))) f.2 z.2 r.2 c.2 few.2)
      command_fine p k (case_of hang e arms) pc ws hs site f z r c few =
          pick_fine p k e (listed hang) arms (arms_plain d sp (k + 1) (k + 4) arms) pc ws.0 ws.1 ws.2 ws.3 hs.0 (level_fine d s h e f.0 z.0.0 r.0 c.0)
          (number_fine d s h e f.0 z.0.0 r.0 c.0) (ranged_width d.world e r.0) few.0.0 z.0.1
          (arms_fine (k + 1) (k + 4) arms ws.1 ws.4 hs.1 site f.1 z.1 r.1 c.1 few.1)

      arms_fine : (p k : ℕ) (arms : Arms) → IsWire d s p d.tag → ArmsWires d s k arms → ArmsHang d.world sp arms → AllSites (sites.arms_sites d.world sp.state sp.children arms)
          → EveryInArms (FineCommand d.world q sp.children) arms → EveryInArms (SizedCommand d.world) arms → RangedArms d.world arms → ArmsConditions d.world arms
          → FewArms arms → AllByRecursion Good (arms_plain d sp p k arms)
      arms_fine p k (last_arm b) pc ws hs site f z r c few = (block_fine p k b pc ws hs site f z r c few, tt)
      arms_fine p k (and_arm constants b arms) pc ws hs site f z r c few =
          let first = sites.block_sites d.world sp.state sp.children b in
          let others = sites.arms_sites d.world sp.state sp.children arms in (
            block_fine p k b pc ws.0 hs.0 (λ m i. site m (among_left first others m i)) f.0 z.0 r.0 c.0 few.0,
            arms_fine p (k + wires_block b) arms pc ws.1 hs.1 (λ m i. site m (among_right first others m i)) f.1 z.1 r.1 c.1 few.1,
          )

      pub block_fine : (p k : ℕ) (b : Block) → IsWire d s p d.tag → BlockWires d s k b → BlockHangs d.world sp b → AllSites (sites.block_sites d.world sp.state sp.children b)
          → EveryInBlock (FineCommand d.world q sp.children) b → EveryInBlock (SizedCommand d.world) b → RangedBlock d.world b → BlockConditions d.world b
          → FewBlock b → Good (block_plain d sp p k b)
      block_fine p k end_block pc ws hs site f z r c few = tt
      block_fine p k (command_then a b) pc ws hs site f z r c few =
          follow_fine (command_plain d sp p k a) (block_plain d sp p (k + wires a) b)
          (command_fine p k a pc ws.0 hs.0 (λ n i. site n
          (among_left (sites.command_sites d.world sp.state sp.children a) (sites.block_sites d.world sp.state sp.children b) n i)) f.0 z.0 r.0 c.0 few.0)
          (block_fine p (k + wires a) b pc ws.1 hs.1
          (λ n i. site n (among_right (sites.command_sites d.world sp.state sp.children a) (sites.block_sites d.world sp.state sp.children b) n i)) f.1 z.1 r.1 c.1 few.1)
