-- What a command does where its test or its condition is known and nothing is raised.
use Rattle.std.proofs.Common.{◌≡◌, ℕ, Bool, true, false, List, refl}
use Rattle.std.proofs.Math.Path.{fun_ext}
use Rattle.sap_lattice.specs.Order.{Order}
use Rattle.sap_maps.specs.Term.{Term}
use Rattle.sap_meaning.specs.Program.{World, Step, lone, if_else, Block, end_block, command_then}
use Rattle.sap_meaning.specs.Store.{Store, Slot, own, next_whole, raised, raise, After, stay}
use Rattle.sap_meaning.specs.Expressions.{value, tag}
use Rattle.sap_meaning.specs.Checks.{Home, guard, test}
use Rattle.sap_meaning.specs.Touches.{touches, raised_alone}
use Rattle.sap_meaning.specs.Does.{within, effect, attempt, select, does, does_block}

-- stores are equal where all that they have is
pub same_store : (s t : Store) → ((z : Slot) → s.number z ≡ t.number z) → ((z : Slot) → s.level z ≡ t.level z) → ((p : ℕ) → s.child p ≡ t.child p) → s ≡ t
same_store s t n l c = λ i. record { number = fun_ext n i; level = fun_ext l i; child = fun_ext c i }

-- nothing hangs
abbrev pub Quiet : (ℕ → Bool) → Type 0
Quiet hangs = (x : ℕ) → hangs x ≡ false

raised_quiet : (hangs : ℕ → Bool) → Quiet hangs → (z : Slot) → raised hangs z ≡ false
raised_quiet hangs q (own x) = q x
raised_quiet hangs q (next_whole m) = q m
raised_quiet hangs q _ = refl

-- a raise of nothing changes nothing
pub raise_quiet : (o : Order) (hangs : ℕ → Bool) (t : ℕ) (s : Store) → Quiet hangs → raise o hangs t s ≡ s
unfolding raise
raise_quiet o hangs t s q = same_store (raise o hangs t s) s (λ z. refl) (λ z. rw (raised_quiet hangs q z) refl) (λ p. refl)

-- Commands at the front of a block, the rest of which is `cs`; none of them changes the context pc.
module _ (w : World) (at : Home) (enter : ℕ → ℕ → Store → After) (cs : Block) (pc : ℕ) (s : Store) where
  -- a step whose test holds
  pub accept : (k : Step) (t : Store) → Quiet (raised_alone w at k) → test w at k pc s ≡ true → effect (within w at enter) k pc s s ≡ stay t
      → does_block (within w at enter) (command_then (lone k) cs) pc s ≡ does_block (within w at enter) cs pc t
  unfolding does_block does attempt
  accept k t quiet holds is = rw (raise_quiet w.order (raised_alone w at k) (guard w at k s) s quiet, holds, is) refl

  module _ (e : Term ℕ) (hang : List Bool) (a b : Block) (quiet : Quiet (touches w at (if_else hang e a b))) (context : w.order.join pc (tag w e s) ≡ pc) where
    -- an `if` whose condition is 1 ..
    pub take_then : (t : Store) → value w e s ≡ 1 → does_block (within w at enter) a pc s ≡ stay t
        → does_block (within w at enter) (command_then (if_else hang e a b) cs) pc s ≡ does_block (within w at enter) cs pc t
    unfolding does_block does select
    take_then t passes is = rw (raise_quiet w.order (touches w at (if_else hang e a b)) (tag w e s) s quiet, context, passes, is) refl

    -- .. or 0
    pub take_else : (t : Store) → value w e s ≡ 0 → does_block (within w at enter) b pc s ≡ stay t
        → does_block (within w at enter) (command_then (if_else hang e a b) cs) pc s ≡ does_block (within w at enter) cs pc t
    unfolding does_block does select
    take_else t fails is = rw (raise_quiet w.order (touches w at (if_else hang e a b)) (tag w e s) s quiet, context, fails, is) refl

  -- an `if` without `else` whose condition is 0
  pub skip : (e : Term ℕ) (hang : List Bool) (a : Block) → Quiet (touches w at (if_else hang e a end_block)) → w.order.join pc (tag w e s) ≡ pc → value w e s ≡ 0
      → does_block (within w at enter) (command_then (if_else hang e a end_block) cs) pc s ≡ does_block (within w at enter) cs pc s
  unfolding does_block
  skip e hang a quiet context fails = take_else e hang a end_block quiet context s fails refl
