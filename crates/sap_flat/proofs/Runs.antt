-- What commands lead to, and which memories they write.
use Rattle.sap_lemmas.proofs.Common.{◌≡◌, ℕ, ◌==◌, List, [], ◌∷◌, ◌++◌, Bool, true, false, ap, ap₂, ◌∙◌, refl, if◌then◌else◌, append-nil as append_none, append-nil as names_none}
use Rattle.sap_maps.specs.Maps.{Name}
use Rattle.sap_ir.specs.Prelude.{Action, set, put, Command, Going, value_in, after_action, after_command, after, with_memory, memories_written}

pub record Runs (vw : Name → ℕ) (g : Going) (cs : List Command) (h : Going) (ms : List Name) : Type 0 where
  pub ends : after vw g cs ≡ h
  pub writes : memories_written vw g cs ≡ ms

pub runs_none : (vw : Name → ℕ) (g : Going) → Runs vw g [] g []
runs_none vw g = record { ends = refl; writes = refl }

off_command : (vw : Name → ℕ) (g : Going) (c : Command) → value_in vw g c.when ≡ 0 → after_command vw g c ≡ g
off_command vw g c z = rw z refl

pub runs_off : (vw : Name → ℕ) (g h : Going) (c : Command) (cs : List Command) (ms : List Name) → value_in vw g c.when ≡ 0 → Runs vw g cs h ms → Runs vw g (c ∷ cs) h ms
runs_off vw g h c cs ms z r =
    record { ends = ap (λ x. after vw x cs) (off_command vw g c z) ∙ r.ends; writes = rw z r.writes }

on_command : (vw : Name → ℕ) (g : Going) (c : Command) → (value_in vw g c.when == 0) ≡ false → after_command vw g c ≡ after_action vw g c.act
on_command vw g c q = rw q refl

pub runs_on : (vw : Name → ℕ) (g h : Going) (c : Command) (cs : List Command) (ms : List Name) → (value_in vw g c.when == 0) ≡ false
    → Runs vw (after_action vw g c.act) cs h ms → Runs vw g (c ∷ cs) h (with_memory c.act ms)
runs_on vw g h c cs ms q r =
    record { ends = ap (λ x. after vw x cs) (on_command vw g c q) ∙ r.ends; writes = rw q (ap (with_memory c.act) r.writes) }

after_append : (vw : Name → ℕ) (cs ds : List Command) (g : Going) → after vw g (cs ++ ds) ≡ after vw (after vw g cs) ds
after_append vw [] ds g = refl
after_append vw (c ∷ cs) ds g = after_append vw cs ds (after_command vw g c)

one_more : (b : Bool) (a : Action) (xs ys zs : List Name) → xs ≡ ys ++ zs → (if b then xs else with_memory a xs) ≡ (if b then ys else with_memory a ys) ++ zs
one_more true a xs ys zs e = e
one_more false (set x t) xs ys zs e = e
one_more false (put m i t) xs ys zs e = ap (λ (l : List Name). m ∷ l) e

written_append : (vw : Name → ℕ) (cs ds : List Command) (g : Going) → memories_written vw g (cs ++ ds) ≡ memories_written vw g cs ++ memories_written vw (after vw g cs) ds
written_append vw [] ds g = refl
written_append vw (c ∷ cs) ds g =
    one_more (value_in vw g c.when == 0) c.act _ _ _ (written_append vw cs ds (after_command vw g c))

pub runs_append : (vw : Name → ℕ) (g h k : Going) (cs ds : List Command) (ms ns : List Name) → Runs vw g cs h ms → Runs vw h ds k ns → Runs vw g (cs ++ ds) k (ms ++ ns)
runs_append vw g h k cs ds ms ns r q =
    record {
      ends = after_append vw cs ds g ∙ ap (λ x. after vw x ds) r.ends ∙ q.ends;
      writes = written_append vw cs ds g
          ∙ ap₂ (λ (a b : List Name). a ++ b) r.writes (ap (λ x. memories_written vw x ds) r.ends ∙ q.writes);
    }

-- with nothing behind
pub runs_end : (vw : Name → ℕ) (g h : Going) (cs : List Command) (ms : List Name) → Runs vw g cs h ms → Runs vw g (cs ++ []) h ms
runs_end vw g h cs ms r =
    let e = append_none cs in
    record { ends = ap (λ ds. after vw g ds) e ∙ r.ends; writes = ap (λ ds. memories_written vw g ds) e ∙ r.writes }

-- with nothing written behind
pub runs_last : (vw : Name → ℕ) (g h : Going) (cs : List Command) (ms : List Name) → Runs vw g cs h (ms ++ []) → Runs vw g cs h ms
runs_last vw g h cs ms r = record { ends = r.ends; writes = r.writes ∙ names_none ms }
