-- What a user is given decides what is kept of it.
use Rattle.std.proofs.Common.{◌≡◌, ℕ, Bool, true, false, ◌+◌, ◌*◌, refl, sym, ap, ◌∙◌, arith, List}
use Rattle.std.specs.Prelude.{nat_lt}
use Rattle.std.proofs.Math.Path.{fun_ext}
use Rattle.std.proofs.lemmas.Grind.{common_steps}
use Rattle.sap_meaning.specs.Prelude.{Store, Tagged}
use Rattle.sap_machine.specs.declared.user.User.{User}
use Rattle.sap_machine.proofs.Literal.{machine, machine_world}
use Rattle.sap_machine.specs.Table.{UserState}
use Rattle.sap_machine.specs.Slices.{after_slices}
use Rattle.sap_machine.specs.Laws.{word, Keeps, after_cycles, SameWords, KeptAlike, WordsDecide}
use Rattle.sap_machine.proofs.Run.{runs_the_table}

-- words are equal as functions, since past the sixteenth there is none
same_words : (u : User) (s t : List (List Tagged)) → SameWords machine_world u s t → word machine_world u s ≡ word machine_world u t
unfolding word
same_words u s t same = fun_ext (λ i. by i (nat_lt i 16) refl)
  where
    by : (i : ℕ) (inside : Bool) → nat_lt i 16 ≡ inside → word machine_world u s i ≡ word machine_world u t i
    by i true e = same i (grind (arith, common_steps))
    by i false e = rw e refl

alike : (u : User) (x y : UserState) (s t : Store) → x ≡ y → Keeps u x s → Keeps u y t → KeptAlike u s t
alike u x y s t same k h = record {
  pc = k.pc ∙ ap (λ (x : UserState). x.pc) same ∙ sym h.pc;
  acc = k.acc ∙ ap (λ (x : UserState). x.acc) same ∙ sym h.acc;
  cell = λ i below. k.cell i below ∙ ap (λ (x : UserState). x.cell i) same ∙ sym (h.cell i below);
}

pub words_decide : WordsDecide machine
words_decide s t fit_s fit_t u same n long_s long_t =
    alike u (after_slices u (word machine_world u s) n) (after_slices u (word machine_world u t) n)
    (after_cycles machine (17 + 6 * n) s).store (after_cycles machine (17 + 6 * n) t).store
    (ap (λ word. after_slices u word n) (same_words u s t same)) (runs_the_table s fit_s n long_s u) (runs_the_table t fit_t n long_t u)
