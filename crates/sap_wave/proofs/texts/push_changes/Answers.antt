use Rattle.sap_lemmas.proofs.Common.{◌≡◌, ◌<◌, ◌+◌, ◌++◌, false, true, length, length-append, ap, ◌∙◌, sym, arith, ◌==◌, get_or, vec_capacity, nat_tests}
use Rattle.sap_desk.proofs.Steps.{on_err}
use Rattle.sap_text.specs.Places.{line}
use Rattle.sap_wave.specs.Prelude.{form_text, set_to}
use Rattle.sap_wave.proofs.WrittenLines.{changes_from, changes_more, no_change, full_more, grows}
use Rattle.sap_wave.proofs.texts.push_changes.Goals as goal
use Rattle.sap_wave.proofs.texts.push_changes.Goals.{then-before-k+in_ok-push_set, else-before-k}

pub returns-in_err-push_set-clause-full : goal.returns-in_err-push_set-clause-full
returns-in_err-push_set-clause-full c =
    let xs = c.args.variables.now in
    let ms = c.args.before.now in
    let ns = c.args.after.now in
    let k = c.loop-k.k in
    let other : (get_or ms k 0 == get_or ns k 0) ≡ false = grind (arith, nat_tests) in
    let more = changes_more xs ms ns k c.index-variables-k.result c.loop-k-test.true c.requires.before c.requires.after c.index-variables-k.is other in
    let full : vec_capacity c.loop-k.out < length (c.args.out.now.items ++ changes_from xs ms ns 0) =
    full_more c.loop-k.out.items (c.args.out.now.items ++ changes_from xs ms ns 0)
    (line (form_text (set_to k c.index-variables-k.result (get_or ns k 0)))) (changes_from xs ms ns (k + 1)) (changes_from xs ms ns k)
    (vec_capacity c.loop-k.out) c.loop-k.invariant.text more c.in_err-push_set.ensures.full in
    let size = length-append c.args.out.now.items (changes_from xs ms ns 0) in
    on_err c.from_residual.result (omega (arith, full, size, c.loop-k.invariant.room))

pub loop-k-preserved : goal.loop-k-preserved
loop-k-preserved c =
    let xs = c.args.variables.now in
    let ms = c.args.before.now in
    let ns = c.args.after.now in
    let k = c.loop-k.k in
    elim c.if-before-k.branch [
      | then-before-k+in_ok-push_set w ↦
          let other : (get_or ms k 0 == get_or ns k 0) ≡ false = grind (arith, nat_tests) in
          let more = changes_more xs ms ns k w.index-variables-k.result c.loop-k-test.true c.requires.before c.requires.after w.index-variables-k.is other in
          record {
            text =
                ap (λ v. v.items ++ changes_from c.args.variables.now c.args.before.now c.args.after.now (c.loop-k.k + 1)) w.out-is
                ∙ grows c.loop-k.out.items (c.args.out.now.items ++ changes_from xs ms ns 0) w.push_set.new.out.items
                (line (form_text (set_to k w.index-variables-k.result (get_or ns k 0)))) (changes_from xs ms ns (k + 1))
                (changes_from xs ms ns k) c.loop-k.invariant.text more w.in_ok-push_set.ensures.text;
            room =
                let e : vec_capacity c.if-before-k.out ≡ vec_capacity w.push_set.new.out = ap (λ v. vec_capacity v) w.out-is in
                omega (arith, e, c.loop-k.invariant.room, w.in_ok-push_set.ensures.room);
          }
      | else-before-k w ↦
          let same : (get_or ms k 0 == get_or ns k 0) ≡ true = grind (arith, nat_tests) in
          let none = no_change xs ms ns k c.loop-k-test.true c.requires.before c.requires.after same in
          record {
            text =
                ap (λ v. v.items ++ changes_from c.args.variables.now c.args.before.now c.args.after.now (c.loop-k.k + 1)) w.out-is
                ∙ ap (λ x. c.loop-k.out.items ++ x) (sym none)
                ∙ c.loop-k.invariant.text;
            room = let e : vec_capacity c.if-before-k.out ≡ vec_capacity c.loop-k.out = ap (λ v. vec_capacity v) w.out-is in omega (arith, e, c.loop-k.invariant.room);
          }
    ]
