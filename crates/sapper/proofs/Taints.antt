-- The clause of `taint` follows from what it asks.
use Rattle.sap_lemmas.proofs.Common.{◌≡◌, ◌≢◌, ◌⊎◌, ℕ, List, refl, sym, ◌∙◌, ap, subst, inr, arith, Option, Some, None, IfSome}
use Rattle.sap_desk.specs.Desk.{Told}
use Rattle.sap_desk.specs.Whole.{Between, Gained}
use Rattle.sap_desk.proofs.Steps.{at_name-same}
use Rattle.sap_lattice.specs.Levels.{Levels}
use Rattle.sap_net.specs.Net.{Net}
use Rattle.sap_vtext.specs.Modules.{IsModule}
use Rattle.sap_taint.specs.TagNames.{IsClash, HasRoomForTags}
use Rattle.sap_taint_pass.specs.declared.fault.TaintFault.TheVariants.{Clash}
use Rattle.sap_words.specs.Words.{Words, taint}
use Rattle.sap_files.specs.Prelude.{Ending, Refusal, done, refused, taint_refused, status_of, line_of, Has, IsLatticeFile, lattice_file, module_file, Asks, file, with_the, Cause, Files, Leaves, Written, IsTaintedText}
use Rattle.sap_commands.specs.Taint.{FirstClash, tagged_or_refused}
use Rattle.sap_files.proofs.Lattices.{lattice_lawful}
use Rattle.sap_files.proofs.Modules.{module_lawful, one_module}
use Rattle.sap_taint.proofs.Clashes.{no_clash_with_room}
use Rattle.sap_commands.specs.Commands.{asks, asks_for, asks_if}
use Rattle.sap_commands.proofs.CommandLaws.{one_cause_lem}
use Rattle.sapper.specs.Answers.{Answers}
use Rattle.sapper.specs.Exact.{Exact}
use Rattle.sapper.specs.Taints.{TellsTaint, Taints}
use Rattle.sapper.proofs.Headline.{by_cause, done_alone}
use Rattle.sapper.proofs.Waves.{past_file, refused_at, zero_of}

tells : (ls : Levels) (net : Net) (text : List ℕ) → IsTaintedText ls net text → TellsTaint ls net text
tells ls net text is = record {
  tagged = is.tagged;
  is_module = is.is_module;
  no_other = λ other other_is. one_module text other is.tagged other_is is.is_module;
  taint = is.taint;
}

module _ (lattice verilog out : List ℕ) (answer : ℕ) (t n : Told) where
  abbrev behind_module : Levels → Net → Asks
  behind_module ls net = with_the (Option (List ℕ)) (FirstClash net) (tagged_or_refused ls net out)

  abbrev behind_lattice : Levels → Asks
  behind_lattice ls = file verilog module_file (λ net. behind_module ls net)

  abbrev IsCaused : Ending → Type 0
  IsCaused e = Cause (asks (taint lattice verilog out)) t e

  -- where it is done no name clashes
  no_clash : (ls : Levels) (net : Net) → Has t lattice IsLatticeFile ls → Has t verilog IsModule net → IsCaused done → (x : List ℕ) → IsClash net x → ⊥
  no_clash ls net has had cause x clash =
      let behind : Cause (behind_lattice ls) t done = past_file t lattice lattice_file behind_lattice done lattice_lawful ls has cause in
      of_verdict (past_file t verilog module_file (behind_module ls) done module_lawful net had behind)
    where
      of_verdict : Cause (behind_module ls net) t done → ⊥
      of_verdict (None, room, is) = no_clash_with_room net x clash room
      of_verdict (Some y, other, is) = cc

  abbrev Done : Type 0
  Done =
      (ls : Levels) × (net : Net) × Has t lattice IsLatticeFile ls × Has t verilog IsModule net × HasRoomForTags net
      × ((text : List ℕ) × (n.files out ≡ Some text) × TellsTaint ls net text)

  written : IsCaused done → Written (asks (taint lattice verilog out)) t n.files → Done
  written cause (ls, has, (net, had, (Some x, clash, same))) = absurd (no_clash ls net has had cause x clash)
  written cause (ls, has, (net, had, (None, room, (text, tainted, files)))) = (
    ls,
    net,
    has,
    had,
    room,
    (text, ap (λ (fs : Files). fs out) files ∙ at_name-same out (Some text) t.files, tells ls net text tainted),
  )

  always : ((e : Ending) → IsCaused e → (answer ≡ status_of e) ⊎ ((answer ≡ 6) ⊎ (answer ≡ 7)))
      → (ls : Levels) (net : Net) → Has t lattice IsLatticeFile ls → Has t verilog IsModule net → HasRoomForTags net → answer ≢ 6 → answer ≢ 7 → answer ≡ 0
  always exact ls net has had room = zero_of answer (exact done (inr (ls, has, inr (net, had, (None, room, refl)))))

  no_module : (e : Ending) × IsCaused e × (answer ≡ status_of e) → (ls : Levels) (text : List ℕ) → Has t lattice IsLatticeFile ls → t.files verilog ≡ Some text
      → ((net : Net) → ¬ (IsModule text net)) → answer ≡ 5
  no_module (e, cause, is) ls text has there none =
      let behind : Cause (behind_lattice ls) t e = past_file t lattice lattice_file behind_lattice e lattice_lawful ls has cause in
      let r = refused_at t verilog module_file (behind_module ls) e text there none behind in
      is ∙ ap status_of r.1 ∙ ap (λ (w : Refusal). status_of (refused w)) r.2.1

  clash_caused : (ls : Levels) (net : Net) (x : List ℕ) → Has t lattice IsLatticeFile ls → Has t verilog IsModule net → IsClash net x
      → IsCaused (refused (taint_refused (Clash x)))
  clash_caused ls net x has had clash = inr (ls, has, inr (net, had, (Some x, clash, refl)))

taints : (words : List (List ℕ)) (lost now answer : ℕ) (t n : Told) → Answers words lost now answer t n → Exact words t answer → Taints words lost now answer t n
taints words lost now answer t n a exact = λ lattice verilog out is.
    let caused = λ (no_failure : answer ≢ 6) (no_want : answer ≢ 7).
    subst (λ (c : Option Words). Cause (asks_if c) t a.ending) is (by_cause words t answer a.ending a.status a.cause no_failure no_want) in
    record {
      only = λ zero.
          let ended : a.ending ≡ done = done_alone a.ending (sym zero ∙ a.status) in
          let left : Leaves (asks_for words) t n.files done = subst (λ (e : Ending). Leaves (asks_for words) t n.files e) ended a.leaves in
          let cause : Cause (asks (taint lattice verilog out)) t done =
          subst (λ (e : Ending). Cause (asks (taint lattice verilog out)) t e) ended
          (caused (λ six. not_both answer 6 zero six (λ e. omega (arith, e))) (λ seven. not_both answer 7 zero seven (λ e. omega (arith, e)))) in
          written lattice verilog out answer t n cause (subst (λ (c : Option Words). Written (asks_if c) t n.files) is left);
      always = always lattice verilog out answer t n
          (subst (λ (c : Option Words). (e : Ending) → Cause (asks_if c) t e → (answer ≡ status_of e) ⊎ ((answer ≡ 6) ⊎ (answer ≡ 7))) is exact.always);
      no_module = λ ls text has there none no_failure no_want.
          no_module lattice verilog out answer t n (a.ending, caused no_failure no_want, a.status) ls text has there none;
      clashes = λ ls net x has had clash no_failure no_want.
          let ends : a.ending ≡ refused (taint_refused (Clash x)) =
          one_cause_lem (taint lattice verilog out) t a.ending (refused (taint_refused (Clash x))) (caused no_failure no_want)
          (clash_caused lattice verilog out answer t n ls net x has had clash) in
          (a.status ∙ ap status_of ends, subst (λ (e : Ending). Gained (line_of e) lost now t n) ends a.line);
    }
  where
    not_both : (x y : ℕ) → x ≡ 0 → x ≡ y → (0 ≡ y → ⊥) → ⊥
    not_both x y zero same apart = apart (sym zero ∙ same)

-- ---- between what a desk tells before and after

pub taints_told : (words : List (List ℕ)) (lost now answer : ℕ) (old new : Option Told) → Between old new (Answers words lost now answer) → IfSome old (λ t. Exact words t answer)
    → Between old new (Taints words lost now answer)
taints_told words lost now answer None new a e = tt
taints_told words lost now answer (Some t) None a e = absurd a
taints_told words lost now answer (Some t) (Some n) a e = taints words lost now answer t n a e
