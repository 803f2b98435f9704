use Rattle.std.proofs.Common.{◌≡◌, ◌+◌, ◌*◌, ℕ, subst, ◌∙◌, ap, arith}
use Rattle.sap_cpu.proofs.Texts.{Written, all_written, written_more}
use Rattle.sap_cpu.proofs.stimulus.stimulus_text.Goals as goal

pub loop-i-init : goal.loop-i-init
loop-i-init c = record { text = c.new-out.ensures.items; size_a = c.as_array-a.ensures.size; size_b = c.as_array-b.ensures.size }

pub loop-i-preserved : goal.loop-i-preserved
loop-i-preserved c =
    written_more c.as_array-a.result.now c.as_array-b.result.now c.loop-i.i c.loop-i.out.items c.push_words.new.out.items c.loop-i-test.true
    c.loop-i.invariant c.in_ok-push_words.ensures

pub returns : goal.returns
returns c =
    let most = c.loop-i.auto.i-end in
    let least = c.loop-i-test.false in
    let all : c.loop-i.i ≡ 16 = omega arith in
    let written : Written c.as_array-a.result.now c.as_array-b.result.now 16 c.loop-i.out.items =
    subst (λ (n : ℕ). Written c.as_array-a.result.now c.as_array-b.result.now n c.loop-i.out.items) all c.loop-i.invariant in
    c.new.ensures
    ∙ all_written c.as_array-a.result.now c.as_array-b.result.now c.args.a.now c.args.b.now c.args.slices (1 + 6 * c.from.result)
    c.loop-i.out.items c.extend_from_slice.new.self.items c.push_number.new.out.items c.extend_from_slice-2.new.self.items
    written c.as_array-a.ensures.words c.as_array-b.ensures.words (ap (λ n. 1 + 6 * n) c.from.ensures)
    c.in_ok-extend_from_slice.ensures.items c.in_ok-push_number.ensures.text c.in_ok-extend_from_slice-2.ensures.items
