use Rattle.std.proofs.Common.{◌≡◌, ◌+◌, ◌<◌, ◌∙◌, ℕ, List, ap, sym, subst, arith, length}
use Rattle.std.specs.Prelude.{IsTrue}
use Rattle.sap_meaning.specs.Store.{After}
use Rattle.sap_program.specs.Hangs.{rises}
use Rattle.sap_program.specs.declared.program.Arm.{Arm}
use Rattle.sap_program.specs.declared.program.Command.{Command}
use Rattle.sap_store.specs.Code.{store_in}
use Rattle.sap_run.specs.Runs.{marked, CommandAble, BlockAble, ArmsAble, StateAble, GroupAble}
use Rattle.sap_run.proofs.Passed.{passed, is_effect}
use Rattle.sap_run.proofs.Runs.{able-do, able-try, able-if, able-then, able-case, able-picked, able-none, able-in, able-child, able-state}
use Rattle.sap_run.proofs.Weights.{commands_weight, command_weight, arms_weight, states_weight, state_weight, commands_weight-none, command_weight-do, command_weight-try, command_weight-if, command_weight-then, command_weight-case, picked_weight, command_weight-in, state_weight-in, state_weight-out}
use Rattle.sap_run.proofs.run.+run.Goals as goal

pub take-returns-in_default : goal.take-returns-in_default
take-returns-in_default t c =
    let d = c.args.environment.now in
    let s = store_in d c.args.store.now in
    let e = is_effect c.args.step.now c.in_default.not-Fall in
    let p = passed d c.args.here.now c.args.step.now s e in
    record {
      store = c.act.ensures.store e ∙ ap (λ (a : After). a.store) p;
      marks = ap (λ (a : After). marked a.refused c.args.marks.now) p;
      ready = c.act.ensures.ready;
    }

pub commands-command-requires : goal.commands-command-requires
commands-command-requires t c =
    let d = c.args.environment.now in
    let cs = c.args.list.now in
    let i = c.loop-one.one-index in
    let l : i < length cs = omega arith in
    let w = command_weight-in cs i c.one-item.result l in
    let e = ap command_weight c.one-item.is in
    (omega (arith, w, e), (c.loop-one.invariant.ready, (c.requires.home, subst (CommandAble d) (sym c.one-item.is) (able-in d cs i c.one-item.result l c.requires.able))))

pub command-attempt-requires : goal.command-attempt-requires
command-attempt-requires t c =
    let d = c.args.environment.now in
    let w : command_weight c.args.one.now ≡ 3 = ap command_weight c.in-Do.is ∙ command_weight-do c.in-Do.step in (
      omega (arith, w, commands_weight-none),
      (
        c.requires.ready,
        (
          c.requires.home,
          (
            c.raised_alone-hang.ensures.rising,
            (able-do d c.in-Do.step (subst (CommandAble d) c.in-Do.is c.requires.able), (able-none d, able-none d)),
          ),
        ),
      ),
    )

pub command-attempt-requires-in-Try : goal.command-attempt-requires-in-Try
command-attempt-requires-in-Try t c =
    let d = c.args.environment.now in
    let w : command_weight c.args.one.now ≡ commands_weight c.as_slice-handler.result.now + 3 =
    ap command_weight c.in-Try.is ∙ command_weight-try c.in-Try.step c.in-Try.hang c.in-Try.handler
    ∙ ap (λ (l : List Command). commands_weight l + 3) (sym c.as_slice-handler.ensures.value) in
    let a = able-try d c.in-Try.step c.in-Try.hang c.in-Try.handler (subst (CommandAble d) c.in-Try.is c.requires.able) in (
      omega (arith, w, commands_weight-none),
      (
        c.requires.ready,
        (
          c.requires.home,
          (
            subst (λ (h : List ℕ). IsTrue (rises h)) (sym c.numbers.ensures.same)
                c.numbers.ensures.rising,
            (a.0, (able-none d, subst (BlockAble d) (sym c.as_slice-handler.ensures.value) a.1)),
          ),
        ),
      ),
    )

pub command-select-requires : goal.command-select-requires
command-select-requires t c =
    let d = c.args.environment.now in
    let w : command_weight c.args.one.now ≡ commands_weight c.as_slice-yes.result.now + commands_weight c.as_slice-no.result.now + 3 =
    ap command_weight c.in-If.is ∙ command_weight-if c.in-If.hang c.in-If.condition c.in-If.yes c.in-If.no
    ∙ ap (λ (l : List Command). commands_weight l + commands_weight c.in-If.no.items + 3) (sym c.as_slice-yes.ensures.value)
    ∙ ap (λ (l : List Command). commands_weight c.as_slice-yes.result.now + commands_weight l + 3) (sym c.as_slice-no.ensures.value) in
    let a = able-if d c.in-If.hang c.in-If.condition c.in-If.yes c.in-If.no (subst (CommandAble d) c.in-If.is c.requires.able) in (
      omega (arith, w),
      (
        c.requires.ready,
        (
          c.requires.home,
          (
            subst (λ (h : List ℕ). IsTrue (rises h)) (sym c.numbers-numbers.ensures.same) c.numbers-numbers.ensures.rising,
            (a.0, (subst (BlockAble d) (sym c.as_slice-yes.ensures.value) a.1, subst (BlockAble d) (sym c.as_slice-no.ensures.value) a.2)),
          ),
        ),
      ),
    )

pub command-attempt-requires-in-TryThen : goal.command-attempt-requires-in-TryThen
command-attempt-requires-in-TryThen t c =
    let d = c.args.environment.now in
    let w : command_weight c.args.one.now ≡ commands_weight c.as_slice-accepted.result.now + commands_weight c.as_slice-refused.result.now + 3 =
    ap command_weight c.in-TryThen.is ∙ command_weight-then c.in-TryThen.step c.in-TryThen.hang c.in-TryThen.accepted c.in-TryThen.refused
    ∙ ap (λ (l : List Command). commands_weight l + commands_weight c.in-TryThen.refused.items + 3) (sym c.as_slice-accepted.ensures.value)
    ∙ ap (λ (l : List Command). commands_weight c.as_slice-accepted.result.now + commands_weight l + 3) (sym c.as_slice-refused.ensures.value) in
    let a = able-then d c.in-TryThen.step c.in-TryThen.hang c.in-TryThen.accepted c.in-TryThen.refused (subst (CommandAble d) c.in-TryThen.is c.requires.able) in (
      omega (arith, w),
      (
        c.requires.ready,
        (
          c.requires.home,
          (
            subst (λ (h : List ℕ). IsTrue (rises h)) (sym c.numbers-numbers-in-TryThen.ensures.same) c.numbers-numbers-in-TryThen.ensures.rising,
            (a.0, (subst (BlockAble d) (sym c.as_slice-accepted.ensures.value) a.1, subst (BlockAble d) (sym c.as_slice-refused.ensures.value) a.2)),
          ),
        ),
      ),
    )

pub command-choose-requires : goal.command-choose-requires
command-choose-requires t c =
    let d = c.args.environment.now in
    let w : command_weight c.args.one.now ≡ arms_weight c.as_slice-arms.result.now c.as_slice-last.result.now + 3 =
    ap command_weight c.in-Case.is ∙ command_weight-case c.in-Case.hang c.in-Case.number c.in-Case.arms c.in-Case.last
    ∙ ap (λ (l : List Arm). arms_weight l c.in-Case.last.items + 3) (sym c.as_slice-arms.ensures.value)
    ∙ ap (λ (l : List Command). arms_weight c.as_slice-arms.result.now l + 3) (sym c.as_slice-last.ensures.value) in
    let a = able-case d c.in-Case.hang c.in-Case.number c.in-Case.arms c.in-Case.last (subst (CommandAble d) c.in-Case.is c.requires.able) in
    let arms = subst (λ (l : List Arm). ArmsAble d l c.in-Case.last.items) (sym c.as_slice-arms.ensures.value) a.1 in (
      omega (arith, w),
      (
        c.requires.ready,
        (
          c.requires.home,
          (
            subst (λ (h : List ℕ). IsTrue (rises h)) (sym c.numbers-numbers-in-Case.ensures.same) c.numbers-numbers-in-Case.ensures.rising,
            (a.0, subst (λ (l : List Command). ArmsAble d c.as_slice-arms.result.now l) (sym c.as_slice-last.ensures.value) arms),
          ),
        ),
      ),
    )

pub choose-commands-requires : goal.choose-commands-requires
choose-commands-requires t c =
    let d = c.args.environment.now in
    let w = picked_weight c.args.arms.now c.args.last.now c.see-chosen.result.number in
    let e = ap commands_weight c.picked-list.ensures in (
      omega (arith, w, e),
      (
        c.raise.ensures.ready,
        (c.requires.home, subst (BlockAble d) (sym c.picked-list.ensures) (able-picked d c.args.arms.now c.args.last.now c.see-chosen.result.number c.requires.arms)),
      ),
    )

pub enter-body-requires : goal.enter-body-requires
enter-body-requires t c =
    let d = c.args.environment.now in
    let kids = c.args.children.now in
    let k = c.index-children-place.result in
    let l : c.args.place < length kids = omega arith in
    let w = state_weight-in kids c.args.place k l in
    let e = ap state_weight c.index-children-place.is in
    (omega (arith, w, e), (c.requires.ready, (c.requires.parent, subst (StateAble d) (sym c.index-children-place.is) (able-child d kids c.args.place k l c.requires.able))))

pub body-commands-requires : goal.body-commands-requires
body-commands-requires t c =
    let d = c.args.environment.now in
    let k = c.args.state.now in
    let w = state_weight-out k in
    let b = ap commands_weight c.as_slice-list.ensures.value in
    let g = ap states_weight c.as_slice-children.ensures.value in
    let a = able-state d k c.requires.able in (
      omega (arith, w, b, g),
      (
        c.requires.ready,
        (
          record { state = a.0; parent = c.requires.parent; children = subst (GroupAble d) (sym c.as_slice-children.ensures.value) a.2 },
          subst (BlockAble d) (sym c.as_slice-list.ensures.value) a.1,
        ),
      ),
    )
