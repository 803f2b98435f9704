-- Nothing behind an accepted step.
use Rattle.sap_lemmas.proofs.Common.{◌≡◌, ℕ, Bool, refl, sym, inl, inr, cases_Bool}
use Rattle.sap_meaning.proofs.StoreLemmas.{and_stay}
use Rattle.sap_meaning.specs.Prelude.{within, World, Step, try, Store, After, stay, Home, test, touches, attempt, attempt_then, does, does_block}
use Rattle.sap_worked.specs.Deciding.{NothingBehind}

attempt_is : (w : World) (at : Home) (enter : ℕ → ℕ → Store → After) (k : Step) (hangs : ℕ → Bool) (h : ℕ → Store → After) (pc : ℕ) (s : Store)
    → attempt (within w at enter) k hangs h pc s ≡ attempt_then (within w at enter) k hangs (λ p t. stay t) h pc s
unfolding attempt attempt_then
attempt_is w at enter k hangs h pc s = elim (cases_Bool (test w at k pc s)) [ inl e ↦ rw e (sym (and_stay _)) | inr e ↦ rw e refl ]

pub nothing_behind : NothingBehind
unfolding does does_block
nothing_behind w at enter k hang h pc s = attempt_is w at enter k (touches w at (try k hang h)) (does_block (within w at enter) h) pc s
