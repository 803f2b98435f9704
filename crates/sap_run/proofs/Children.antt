-- The child of a group at a place.
use Rattle.std.proofs.Common.{◌≡◌, ℕ, zero, suc, ◌<◌, ◌≤◌, List, [], ◌∷◌, length, get_or, true, refl, arith}
use Rattle.sap_meaning.specs.Prelude.{World, Store, own, level, child_level, opens, child_opens}
use Rattle.sap_program.specs.Views.{group_of}
use Rattle.sap_program.specs.declared.program.State.{State, out-State}
use Rattle.sap_program.proofs.Shown.{state_of-out}

module _ (w : World) (s : Store) (m : ℕ) where
  pub child_level-none : (cs : List State) (n : ℕ) → length cs ≤ n → child_level w (group_of m cs) n s ≡ w.order.bottom
  unfolding group_of
  child_level-none [] n h = refl
  child_level-none (c ∷ cs) zero h = absurd (omega (arith, h))
  child_level-none (c ∷ cs) (suc n) h = rw (state_of-out m c) (child_level-none cs n (omega (arith, h)))

  pub child_level-some : (cs : List State) (n x : ℕ) (d : State) → n < length cs → x ≡ (out-State (get_or cs n d)).number → child_level w (group_of m cs) n s ≡ level w (own x) s
  unfolding group_of
  child_level-some [] n x d h e = absurd (omega (arith, h))
  child_level-some (c ∷ cs) zero x d h e = rw (state_of-out m c, e) refl
  child_level-some (c ∷ cs) (suc n) x d h e = rw (state_of-out m c) (child_level-some cs n x d (omega (arith, h)) e)

  pub child_opens-none : (cs : List State) (n pc : ℕ) → length cs ≤ n → child_opens w (group_of m cs) n pc s ≡ true
  unfolding group_of
  child_opens-none [] n pc h = refl
  child_opens-none (c ∷ cs) zero pc h = absurd (omega (arith, h))
  child_opens-none (c ∷ cs) (suc n) pc h = rw (state_of-out m c) (child_opens-none cs n pc (omega (arith, h)))

  pub child_opens-some : (cs : List State) (n pc : ℕ) (d : State) → n < length cs → child_opens w (group_of m cs) n pc s ≡ opens w (out-State (get_or cs n d)).number pc s
  unfolding group_of
  child_opens-some [] n pc d h = absurd (omega (arith, h))
  child_opens-some (c ∷ cs) zero pc d h = rw (state_of-out m c) refl
  child_opens-some (c ∷ cs) (suc n) pc d h = rw (state_of-out m c) (child_opens-some cs n pc d (omega (arith, h)))

pub ruleset levels = (child_level-none, child_level-some)

pub ruleset opening = (child_opens-none, child_opens-some)
