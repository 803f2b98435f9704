-- What holds of a command's parts holds of the command.
use Rattle.sap_lemmas.proofs.Common.{ℕ, zero, suc, ◌+◌, ◌^◌, nat_le, List, [], ◌∷◌, length, take, drop, Bool, inl, inr, if◌then◌else◌, cases_Bool, AllByRecursion}
use Rattle.sap_maps.specs.Prelude.{Name, Term}
use Rattle.sap_meaning.specs.Prelude.{root, Step, Arms, last_arm, and_arm, width_of, Home}
use Rattle.sap_ir.specs.Prelude.{set, Body, stop, act, cases, follow}
use Rattle.sap_tagged.specs.Prelude.{Key, tag_key, first_key, wire_key, Setting, gives, saved, saves, always, var, lub, sweep, raises, looks, effect_of, refusal, attempt_of, attempt_then_of, pick_width, picks_arm, picks, decides, pick_of, select_of}

-- what holds of no body, of one that sets a name first, and of a choice with nothing behind it
pub record OfParts (P : Body → Type 0) : Type 0 where
  pub nothing : P stop
  pub sets : (n : Name) (t : Term Name) (rest : Body) → P rest → P (act (set n t) rest)
  pub choice : (t : Term Name) (x y : Body) → P x → P y → P (cases t x y stop)

pub all_taken : {A : Type 0} (P : A → Type 0) (n : ℕ) (xs : List A) → AllByRecursion P xs → AllByRecursion P (take n xs)
all_taken P (suc n) (x ∷ xs) h = (h.0, all_taken P n xs h.1)
all_taken P _ _ h = tt

pub all_dropped : {A : Type 0} (P : A → Type 0) (n : ℕ) (xs : List A) → AllByRecursion P xs → AllByRecursion P (drop n xs)
all_dropped P zero xs h = h
all_dropped P (suc n) [] h = tt
all_dropped P (suc n) (x ∷ xs) h = all_dropped P n xs h.1

-- a step with its looks, where what is done and what a refusal leads to are given
abbrev pub tried : Setting → Home → (p k : ℕ) → Step → (hangs : ℕ → Bool) → (done handler : Body) → Body
tried d sp p k t hangs done h =
    looks d sp p k t (raises d hangs (k + 1) (if always d.world sp t then done else cases (var d (wire_key k)) done (refusal d k t h) stop))

module _ (d : Setting) (P : Body → Type 0) (holds : OfParts P) where
  pub sweep_holds : (v : ℕ → Key) (h : ℕ → Bool) (t : ℕ → Term Name) (x m : ℕ) (rest : Body) → P rest → P (sweep d v h t x m rest)
  sweep_holds v h t x zero rest r = r
  sweep_holds v h t x (suc m) rest r = elim (cases_Bool (h x)) [
    | inl i ↦ rw i (holds.sets _ _ _ (sweep_holds v h t (x + 1) m rest r))
    | inr i ↦ rw i (sweep_holds v h t (x + 1) m rest r)
  ]

  raised : (hangs : ℕ → Bool) (j : ℕ) (rest : Body) → P rest → P (raises d hangs j rest)
  raised hangs j rest r = sweep_holds tag_key hangs (λ x. lub (var d (tag_key x)) (var d (wire_key j))) 0 (root d.world) rest r

  -- a top state's body
  pub top_holds : (hangs : ℕ → Bool) (k x : ℕ) (rest : Body) → P rest → P (saves d (gives d (wire_key k) (var d (tag_key x)) (raises d hangs k rest)))
  top_holds hangs k x rest r = sweep_holds first_key (saved d.world) (λ m. var d (tag_key m)) 0 (root d.world) _ (holds.sets _ _ _ (raised hangs k rest r))

  module _ (sp : Home) (p k : ℕ) where
    tried_holds : (t : Step) (hangs : ℕ → Bool) (done h : Body) → P done → P h → P (tried d sp p k t hangs done h)
    tried_holds t hangs done h e r =
        holds.sets _ _ _ (holds.sets _ _ _ (holds.sets _ _ _ (holds.sets _ _ _ (holds.sets _ _ _ (raised hangs (k + 1) _ (elim (cases_Bool (always d.world sp t)) [
          | inl i ↦ rw i e
          | inr i ↦ rw i (holds.choice _ _ _ e (holds.sets _ _ _ (holds.sets _ _ _ r)))
        ]))))))

    pub attempt_holds : (t : Step) (hangs : ℕ → Bool) (h : Body) → P (effect_of d sp k t) → P h → P (attempt_of d sp p k t hangs h)
    unfolding attempt_of
    attempt_holds t hangs h e r = tried_holds t hangs (effect_of d sp k t) h e r

    pub attempt_then_holds : (t : Step) (hangs : ℕ → Bool) (x y : Body) → P (follow (effect_of d sp k t) x) → P y → P (attempt_then_of d sp p k t hangs x y)
    unfolding attempt_then_of
    attempt_then_holds t hangs x y e r = tried_holds t hangs (follow (effect_of d sp k t) x) y e r

  pub select_holds : (p k : ℕ) (e : Term ℕ) (hangs : ℕ → Bool) (x y : Body) → P x → P y → P (select_of d p k e hangs x y)
  unfolding select_of
  select_holds p k e hangs x y f g = holds.sets _ _ _ (holds.sets _ _ _ (raised hangs k _ (holds.choice _ _ _ f g)))

  -- the number of a block, and the block that has it

  picks_arm_holds : (u n w j i : ℕ) (cs : List ℕ) (rest : Body) → P rest → P (picks_arm d u n w j i cs rest)
  picks_arm_holds u n w j i [] rest r = r
  picks_arm_holds u n w j i (c ∷ cs) rest r = holds.sets _ _ _ (picks_arm_holds u n w j i cs rest r)

  picks_holds : (u n w j i : ℕ) (arms : Arms) (rest : Body) → P rest → P (picks d u n w j i arms rest)
  picks_holds u n w j i (last_arm b) rest r = holds.sets _ _ _ r
  picks_holds u n w j i (and_arm constants b arms) rest r = picks_holds u n w j (suc i) arms (picks_arm d u n w j i constants rest) (picks_arm_holds u n w j i constants rest r)

  decides_holds : (j m : ℕ) (bs : List Body) → AllByRecursion P bs → P (decides d j m bs)
  decides_holds j zero [] h = holds.nothing
  decides_holds j zero (b ∷ bs) h = h.0
  decides_holds j (suc m) bs h = elim (cases_Bool (nat_le (length bs) (2 ^ m))) [
    | inl t ↦ rw t (decides_holds j m bs h)
    | inr t ↦ rw t (holds.choice _ _ _ (decides_holds j m (drop (2 ^ m) bs) (all_dropped P (2 ^ m) bs h)) (decides_holds j m (take (2 ^ m) bs) (all_taken P (2 ^ m) bs h)))
  ]

  pub pick_holds : (p k : ℕ) (e : Term ℕ) (hangs : ℕ → Bool) (arms : Arms) (blocks : List Body) → AllByRecursion P blocks → P (pick_of d p k e hangs arms blocks)
  unfolding pick_of
  pick_holds p k e hangs arms blocks h =
      holds.sets _ _ _ (holds.sets _ _ _ (holds.sets _ _ _ (raised hangs k _
      (picks_holds (width_of d.world e) (k + 2) (pick_width arms) (k + 3) 0 arms _ (decides_holds (k + 3) (pick_width arms) blocks h)))))
