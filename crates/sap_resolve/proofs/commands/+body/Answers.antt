use Rattle.sap_lemmas.proofs.Common.{◌∙◌, ◌+◌, ◌^◌, ap, arith, length, List, refl, IfOk-weaker}
use Rattle.sap_program.specs.Views.{arms_before}
use Rattle.sap_program.specs.declared.program.Arm.{Arm}
use Rattle.sap_resolved.specs.Resolve.{step_of}
use Rattle.sap_resolve.specs.Lists.{arms_from}
use Rattle.sap_resolve.specs.Rows.{arms_with, step_points, step_with}
use Rattle.sap_tree.specs.Trees.{command_of, else_of, expression_of, simple_of}
use Rattle.sap_tree.proofs.Views.{command_of-if, command_of-try, command_of-try_then, command_of-case}
use Rattle.sap_resolve.proofs.Lighter.{try_lighter, if_lighter, else_lighter, accepted_lighter, refused_lighter, arms_lighter, last_lighter, arm_lighter, some_lighter, command_lighter}
use Rattle.sap_resolve.proofs.Choices.{try_sites, try_points, if_sites, if_points, else_sites, else_points, accepted_sites, accepted_points, refused_sites, refused_points, case_sites, case_points, last_sites, last_points, case_made, then_made, case_all_sites, case_all_points, then_all_sites, then_all_points, if_made, all_sites, all_points, some_sites, some_points}
use Rattle.sap_resolve.specs.Surroundings.{surroundings_of, rows_of}
use Rattle.sap_resolve.proofs.Lists.{commands_step, commands_end, sites_step, sites_end, sites_within, points_step, points_end, points_within}
use Rattle.sap_resolve.proofs.Arms.{arms_step, arms_end, arms_sites_step, arms_sites_end, arms_sites_within, arms_points_step, arms_points_end, arms_points_within}
use Rattle.sap_program.proofs.Shown.{arms_before-none}
use Rattle.sap_meaning.specs.Program.{last_arm}
use Rattle.sap_resolve.proofs.commands.+body.Goals as goal

pub command-commands-requires : goal.command-commands-requires
command-commands-requires t c =
    let lighter = try_lighter (command_of c.args.c.now) (simple_of c.in-Try.simple) c.in-Try.field-1 c.in-Try.handler c.as_slice.result.now
    (ap command_of c.in-Try.is ∙ command_of-try _ _ _) c.as_slice.ensures.value in (
      omega (arith, lighter),
      (
        try_sites c.args.standing.now.lattice.now (surroundings_of c.args.standing.now) c.args.next.now c.args.point.now (2 ^ 32)
            (command_of c.args.c.now) c.requires.sites c.requires.points (simple_of c.in-Try.simple) c.in-Try.field-1 c.in-Try.handler
            (ap command_of c.in-Try.is ∙ command_of-try _ _ _) c.as_slice.result.now c.take_site-site-in-Try.new.next c.as_slice.ensures.value
            c.take_site-site-in-Try.ensures.next,
        try_points c.args.standing.now.lattice.now (surroundings_of c.args.standing.now)
            c.args.next.now c.args.point.now (2 ^ 32) (command_of c.args.c.now) c.requires.sites c.requires.points (simple_of c.in-Try.simple)
            c.in-Try.field-1 c.in-Try.handler (ap command_of c.in-Try.is ∙ command_of-try _ _ _) c.as_slice.result.now
            c.take_site-site-in-Try.new.next _ c.take_points-at.new.point c.take_site-site-in-Try.result c.as_slice.ensures.value
            c.take_site-site-in-Try.ensures.next c.take_site-site-in-Try.ensures.number refl c.take_points-at.ensures.point,
      ),
    )

pub command-commands-requires-in-If : goal.command-commands-requires-in-If
command-commands-requires-in-If t c =
    let lighter = if_lighter (command_of c.args.c.now) c.in-If.field-0 (expression_of c.in-If.e) c.in-If.one (else_of c.in-If.other)
    c.as_slice-in-If.result.now (ap command_of c.in-If.is ∙ command_of-if _ _ _ _) c.as_slice-in-If.ensures.value in (
      omega (arith, lighter),
      (
        if_sites c.args.standing.now.lattice.now (surroundings_of c.args.standing.now) c.args.next.now c.args.point.now (2 ^ 32)
            (command_of c.args.c.now) c.requires.sites c.requires.points c.in-If.field-0 (expression_of c.in-If.e) c.in-If.one
            (else_of c.in-If.other) (ap command_of c.in-If.is ∙ command_of-if _ _ _ _) c.as_slice-in-If.result.now
            c.as_slice-in-If.ensures.value,
        if_points c.args.standing.now.lattice.now (surroundings_of c.args.standing.now) c.args.next.now
            c.args.point.now (2 ^ 32) (command_of c.args.c.now) c.requires.sites c.requires.points c.in-If.field-0 (expression_of c.in-If.e)
            c.in-If.one (else_of c.in-If.other) (ap command_of c.in-If.is ∙ command_of-if _ _ _ _) c.as_slice-in-If.result.now
            c.take_point-at.new.point c.as_slice-in-If.ensures.value c.take_point-at.ensures.point,
      ),
    )

pub command-otherwise-requires : goal.command-otherwise-requires
command-otherwise-requires t c =
    let lighter = else_lighter (command_of c.args.c.now) c.in-If.field-0 (expression_of c.in-If.e) c.in-If.one (else_of c.in-If.other)
    (ap command_of c.in-If.is ∙ command_of-if _ _ _ _) in (
      omega (arith, lighter),
      (
        else_sites c.args.standing.now.lattice.now (surroundings_of c.args.standing.now) c.args.next.now c.args.point.now (2 ^ 32)
            (command_of c.args.c.now) c.requires.sites c.requires.points c.in-If.field-0 (expression_of c.in-If.e) c.in-If.one
            (else_of c.in-If.other) (ap command_of c.in-If.is ∙ command_of-if _ _ _ _) c.as_slice-in-If.result.now c.commands-in-If.new.next
            c.as_slice-in-If.ensures.value c.in_ok-yes-in-If.ensures.next,
        else_points c.args.standing.now.lattice.now (surroundings_of c.args.standing.now) c.args.next.now c.args.point.now (2 ^ 32)
            (command_of c.args.c.now) c.requires.sites c.requires.points c.in-If.field-0 (expression_of c.in-If.e) c.in-If.one
            (else_of c.in-If.other) (ap command_of c.in-If.is ∙ command_of-if _ _ _ _) c.as_slice-in-If.result.now c.commands-in-If.new.next
            c.take_point-at.new.point c.commands-in-If.new.point c.as_slice-in-If.ensures.value c.in_ok-yes-in-If.ensures.next
            c.take_point-at.ensures.point c.in_ok-yes-in-If.ensures.point,
      ),
    )

pub command-returns-in_ok-no-in-If-clause-command : goal.command-returns-in_ok-no-in-If-clause-command
command-returns-in_ok-no-in-If-clause-command t c =
    IfOk-weaker c.conditional.result _ _ (λ _ made. made
    ∙ if_made c.args.standing.now.lattice.now (surroundings_of c.args.standing.now) c.args.next.now c.args.point.now
    (rows_of c.args.standing.now) (command_of c.args.c.now) c.in-If.field-0 (expression_of c.in-If.e) c.in-If.one
    (else_of c.in-If.other) (ap command_of c.in-If.is ∙ command_of-if _ _ _ _) c.as_slice-in-If.result.now c.commands-in-If.new.next
    c.take_point-at.new.point c.commands-in-If.new.point c.as_slice-in-If.ensures.value c.in_ok-yes-in-If.ensures.next
    c.take_point-at.ensures.point c.in_ok-yes-in-If.ensures.point
    _ _ _ _ (ap (λ n. rows_of c.args.standing.now n) c.take_point-at.ensures.number) refl c.in_ok-yes-in-If.ensures.commands
    c.in_ok-no-in-If.ensures.commands) c.conditional.ensures

pub command-returns-in_ok-no-in-If-clause-next : goal.command-returns-in_ok-no-in-If-clause-next
command-returns-in_ok-no-in-If-clause-next t c =
    IfOk-weaker c.conditional.result _ _ (λ _ _. all_sites (surroundings_of c.args.standing.now) c.args.next.now (command_of c.args.c.now)
    c.in-If.field-0 (expression_of c.in-If.e) c.in-If.one (else_of c.in-If.other) (ap command_of c.in-If.is
    ∙ command_of-if _ _ _ _) c.as_slice-in-If.result.now c.commands-in-If.new.next c.otherwise.new.next c.as_slice-in-If.ensures.value
    c.in_ok-yes-in-If.ensures.next c.in_ok-no-in-If.ensures.next) c.conditional.ensures

pub command-returns-in_ok-no-in-If-clause-point :
    goal.command-returns-in_ok-no-in-If-clause-point
command-returns-in_ok-no-in-If-clause-point t c =
    IfOk-weaker c.conditional.result _ _ (λ _ _. all_points c.args.standing.now.lattice.now (surroundings_of c.args.standing.now)
    c.args.next.now c.args.point.now (command_of c.args.c.now) c.in-If.field-0 (expression_of c.in-If.e) c.in-If.one
    (else_of c.in-If.other) (ap command_of c.in-If.is ∙ command_of-if _ _ _ _) c.as_slice-in-If.result.now c.commands-in-If.new.next
    c.take_point-at.new.point c.commands-in-If.new.point c.otherwise.new.point c.as_slice-in-If.ensures.value
    c.in_ok-yes-in-If.ensures.next c.take_point-at.ensures.point c.in_ok-yes-in-If.ensures.point c.in_ok-no-in-If.ensures.point) c.conditional.ensures

pub command-commands-requires-in-TryThen : goal.command-commands-requires-in-TryThen
command-commands-requires-in-TryThen t c =
    let lighter = accepted_lighter (command_of c.args.c.now) (simple_of c.in-TryThen.simple) c.in-TryThen.field-1 c.in-TryThen.accepted
    c.in-TryThen.refused c.as_slice-in-TryThen.result.now (ap command_of c.in-TryThen.is ∙ command_of-try_then _ _ _ _) c.as_slice-in-TryThen.ensures.value in (
      omega (arith, lighter),
      (
        accepted_sites c.args.standing.now.lattice.now (surroundings_of c.args.standing.now) c.args.next.now c.args.point.now (2 ^ 32)
            (command_of c.args.c.now) c.requires.sites c.requires.points (simple_of c.in-TryThen.simple) c.in-TryThen.field-1
            c.in-TryThen.accepted c.in-TryThen.refused (ap command_of c.in-TryThen.is
            ∙ command_of-try_then _ _ _ _) c.as_slice-in-TryThen.result.now c.take_site-site-in-TryThen.new.next
            c.as_slice-in-TryThen.ensures.value c.take_site-site-in-TryThen.ensures.next,
        accepted_points c.args.standing.now.lattice.now (surroundings_of c.args.standing.now) c.args.next.now c.args.point.now (2 ^ 32)
            (command_of c.args.c.now) c.requires.sites c.requires.points (simple_of c.in-TryThen.simple) c.in-TryThen.field-1
            c.in-TryThen.accepted c.in-TryThen.refused (ap command_of c.in-TryThen.is
            ∙ command_of-try_then _ _ _ _) c.as_slice-in-TryThen.result.now c.take_site-site-in-TryThen.new.next
            _ c.take_points-at-in-TryThen.new.point c.take_site-site-in-TryThen.result c.as_slice-in-TryThen.ensures.value
            c.take_site-site-in-TryThen.ensures.next c.take_site-site-in-TryThen.ensures.number
            refl c.take_points-at-in-TryThen.ensures.point,
      ),
    )

pub command-commands-requires-in-TryThen-2 : goal.command-commands-requires-in-TryThen-2
command-commands-requires-in-TryThen-2 t c =
    let lighter = refused_lighter (command_of c.args.c.now) (simple_of c.in-TryThen.simple) c.in-TryThen.field-1 c.in-TryThen.accepted
    c.in-TryThen.refused c.as_slice-in-TryThen-2.result.now (ap command_of c.in-TryThen.is ∙ command_of-try_then _ _ _ _) c.as_slice-in-TryThen-2.ensures.value in (
      omega (arith, lighter),
      (
        refused_sites c.args.standing.now.lattice.now (surroundings_of c.args.standing.now) c.args.next.now c.args.point.now (2 ^ 32)
            (command_of c.args.c.now) c.requires.sites c.requires.points (simple_of c.in-TryThen.simple) c.in-TryThen.field-1
            c.in-TryThen.accepted c.in-TryThen.refused (ap command_of c.in-TryThen.is
            ∙ command_of-try_then _ _ _ _) c.as_slice-in-TryThen.result.now c.as_slice-in-TryThen-2.result.now
            c.take_site-site-in-TryThen.new.next c.commands-in-TryThen.new.next c.as_slice-in-TryThen.ensures.value
            c.as_slice-in-TryThen-2.ensures.value c.take_site-site-in-TryThen.ensures.next c.in_ok-accepted-in-TryThen.ensures.next,
        refused_points c.args.standing.now.lattice.now (surroundings_of c.args.standing.now) c.args.next.now c.args.point.now (2 ^ 32)
            (command_of c.args.c.now) c.requires.sites c.requires.points (simple_of c.in-TryThen.simple) c.in-TryThen.field-1
            c.in-TryThen.accepted c.in-TryThen.refused (ap command_of c.in-TryThen.is
            ∙ command_of-try_then _ _ _ _) c.as_slice-in-TryThen.result.now c.as_slice-in-TryThen-2.result.now
            c.take_site-site-in-TryThen.new.next c.commands-in-TryThen.new.next _ c.take_points-at-in-TryThen.new.point
            c.commands-in-TryThen.new.point c.take_site-site-in-TryThen.result c.as_slice-in-TryThen.ensures.value c.as_slice-in-TryThen-2.ensures.value
            c.take_site-site-in-TryThen.ensures.next c.in_ok-accepted-in-TryThen.ensures.next c.take_site-site-in-TryThen.ensures.number
            refl c.take_points-at-in-TryThen.ensures.point c.in_ok-accepted-in-TryThen.ensures.point,
      ),
    )

pub command-returns-in_ok-refused-in-TryThen-clause-command : goal.command-returns-in_ok-refused-in-TryThen-clause-command
command-returns-in_ok-refused-in-TryThen-clause-command t c =
    IfOk-weaker c.decided.result _ _ (λ _ made. made
    ∙ then_made c.args.standing.now.lattice.now (surroundings_of c.args.standing.now) c.args.next.now c.args.point.now
    (rows_of c.args.standing.now) (command_of c.args.c.now) (simple_of c.in-TryThen.simple) c.in-TryThen.field-1 c.in-TryThen.accepted
    c.in-TryThen.refused (ap command_of c.in-TryThen.is ∙ command_of-try_then _ _ _ _) c.as_slice-in-TryThen.result.now
    c.as_slice-in-TryThen-2.result.now c.take_site-site-in-TryThen.new.next c.commands-in-TryThen.new.next
    _ c.take_points-at-in-TryThen.new.point c.commands-in-TryThen.new.point c.take_site-site-in-TryThen.result
    c.as_slice-in-TryThen.ensures.value c.as_slice-in-TryThen-2.ensures.value c.take_site-site-in-TryThen.ensures.next c.in_ok-accepted-in-TryThen.ensures.next
    c.take_site-site-in-TryThen.ensures.number refl c.take_points-at-in-TryThen.ensures.point c.in_ok-accepted-in-TryThen.ensures.point _ _ _ _
    (ap (λ n. step_with (rows_of c.args.standing.now) n
    (step_of c.args.standing.now.lattice.now (surroundings_of c.args.standing.now) c.take_site-site-in-TryThen.result
    (simple_of c.in-TryThen.simple))) c.take_points-at-in-TryThen.ensures.number)
    (ap (λ n. rows_of c.args.standing.now (n
    + step_points (step_of c.args.standing.now.lattice.now (surroundings_of c.args.standing.now) c.take_site-site-in-TryThen.result
    (simple_of c.in-TryThen.simple)))) c.take_points-at-in-TryThen.ensures.number)
    c.in_ok-accepted-in-TryThen.ensures.commands c.in_ok-refused-in-TryThen.ensures.commands) c.decided.ensures

pub command-returns-in_ok-refused-in-TryThen-clause-next : goal.command-returns-in_ok-refused-in-TryThen-clause-next
command-returns-in_ok-refused-in-TryThen-clause-next t c =
    IfOk-weaker c.decided.result _ _ (λ _ _. then_all_sites (surroundings_of c.args.standing.now) c.args.next.now (command_of c.args.c.now)
    (simple_of c.in-TryThen.simple) c.in-TryThen.field-1 c.in-TryThen.accepted c.in-TryThen.refused (ap command_of c.in-TryThen.is
    ∙ command_of-try_then _ _ _ _) c.as_slice-in-TryThen.result.now c.as_slice-in-TryThen-2.result.now
    c.take_site-site-in-TryThen.new.next c.commands-in-TryThen.new.next c.commands-in-TryThen-2.new.next
    c.as_slice-in-TryThen.ensures.value c.as_slice-in-TryThen-2.ensures.value c.take_site-site-in-TryThen.ensures.next
    c.in_ok-accepted-in-TryThen.ensures.next c.in_ok-refused-in-TryThen.ensures.next) c.decided.ensures

pub command-returns-in_ok-refused-in-TryThen-clause-point : goal.command-returns-in_ok-refused-in-TryThen-clause-point
command-returns-in_ok-refused-in-TryThen-clause-point t c =
    IfOk-weaker c.decided.result _ _ (λ _ _. then_all_points c.args.standing.now.lattice.now (surroundings_of c.args.standing.now)
    c.args.next.now c.args.point.now (command_of c.args.c.now) (simple_of c.in-TryThen.simple) c.in-TryThen.field-1
    c.in-TryThen.accepted c.in-TryThen.refused (ap command_of c.in-TryThen.is
    ∙ command_of-try_then _ _ _ _) c.as_slice-in-TryThen.result.now c.as_slice-in-TryThen-2.result.now
    c.take_site-site-in-TryThen.new.next c.commands-in-TryThen.new.next _ c.take_points-at-in-TryThen.new.point
    c.commands-in-TryThen.new.point c.commands-in-TryThen-2.new.point c.take_site-site-in-TryThen.result c.as_slice-in-TryThen.ensures.value
    c.as_slice-in-TryThen-2.ensures.value c.take_site-site-in-TryThen.ensures.next c.in_ok-accepted-in-TryThen.ensures.next c.take_site-site-in-TryThen.ensures.number refl
    c.take_points-at-in-TryThen.ensures.point c.in_ok-accepted-in-TryThen.ensures.point c.in_ok-refused-in-TryThen.ensures.point) c.decided.ensures

pub command-arms-requires : goal.command-arms-requires
command-arms-requires t c =
    let lighter = arms_lighter (command_of c.args.c.now) c.in-Case.field-0 (expression_of c.in-Case.e) c.in-Case.branches.items
    c.in-Case.other (ap command_of c.in-Case.is ∙ command_of-case _ _ _ _) c.as_slice-in-Case.result.now c.as_slice-in-Case.ensures.value in (
      omega (arith, lighter),
      (
        case_sites c.args.standing.now.lattice.now (surroundings_of c.args.standing.now) c.args.next.now c.args.point.now (2 ^ 32)
            (command_of c.args.c.now) c.requires.sites c.requires.points c.in-Case.field-0 (expression_of c.in-Case.e)
            c.in-Case.branches.items c.in-Case.other (ap command_of c.in-Case.is ∙ command_of-case _ _ _ _) c.as_slice-in-Case.result.now c.as_slice-in-Case.ensures.value,
        case_points c.args.standing.now.lattice.now (surroundings_of c.args.standing.now) c.args.next.now c.args.point.now (2 ^ 32)
            (command_of c.args.c.now) c.requires.sites c.requires.points c.in-Case.field-0 (expression_of c.in-Case.e)
            c.in-Case.branches.items c.in-Case.other (ap command_of c.in-Case.is ∙ command_of-case _ _ _ _) c.as_slice-in-Case.result.now
            c.take_point-at-in-Case.new.point c.as_slice-in-Case.ensures.value c.take_point-at-in-Case.ensures.point,
      ),
    )

pub command-commands-requires-in-Case : goal.command-commands-requires-in-Case
command-commands-requires-in-Case t c =
    let lighter = last_lighter (command_of c.args.c.now) c.in-Case.field-0 (expression_of c.in-Case.e) c.in-Case.branches.items
    c.in-Case.other (ap command_of c.in-Case.is ∙ command_of-case _ _ _ _) c.as_slice-in-Case-2.result.now c.as_slice-in-Case-2.ensures.value in (
      omega (arith, lighter),
      (
        last_sites c.args.standing.now.lattice.now (surroundings_of c.args.standing.now) c.args.next.now c.args.point.now (2 ^ 32)
            (command_of c.args.c.now) c.requires.sites c.requires.points c.in-Case.field-0 (expression_of c.in-Case.e)
            c.in-Case.branches.items c.in-Case.other (ap command_of c.in-Case.is ∙ command_of-case _ _ _ _) c.as_slice-in-Case.result.now
            c.as_slice-in-Case-2.result.now c.arms.new.next c.as_slice-in-Case.ensures.value c.as_slice-in-Case-2.ensures.value c.in_ok-arms-in-Case.ensures.next,
        last_points c.args.standing.now.lattice.now (surroundings_of c.args.standing.now) c.args.next.now c.args.point.now (2 ^ 32)
            (command_of c.args.c.now) c.requires.sites c.requires.points c.in-Case.field-0 (expression_of c.in-Case.e)
            c.in-Case.branches.items c.in-Case.other (ap command_of c.in-Case.is ∙ command_of-case _ _ _ _) c.as_slice-in-Case.result.now
            c.as_slice-in-Case-2.result.now c.arms.new.next c.take_point-at-in-Case.new.point c.arms.new.point
            c.as_slice-in-Case.ensures.value c.as_slice-in-Case-2.ensures.value c.in_ok-arms-in-Case.ensures.next c.take_point-at-in-Case.ensures.point
            c.in_ok-arms-in-Case.ensures.point,
      ),
    )

pub command-returns-in_ok-last-in-Case-clause-command : goal.command-returns-in_ok-last-in-Case-clause-command
command-returns-in_ok-last-in-Case-clause-command t c =
    IfOk-weaker c.choice.result _ _ (λ _ made. made
    ∙ case_made c.args.standing.now.lattice.now (surroundings_of c.args.standing.now) c.args.next.now c.args.point.now
    (rows_of c.args.standing.now) (command_of c.args.c.now) c.in-Case.field-0 (expression_of c.in-Case.e) c.in-Case.branches.items
    c.in-Case.other (ap command_of c.in-Case.is ∙ command_of-case _ _ _ _) c.as_slice-in-Case.result.now c.as_slice-in-Case-2.result.now
    c.arms.new.next c.take_point-at-in-Case.new.point c.arms.new.point c.as_slice-in-Case.ensures.value c.as_slice-in-Case-2.ensures.value
    c.in_ok-arms-in-Case.ensures.next c.take_point-at-in-Case.ensures.point
    _ _ (λ b. arms_before (length c.args.standing.now.names.now) c.in_ok-arms-in-Case.arms.items (last_arm b))
    _ (ap (λ n. rows_of c.args.standing.now n) c.take_point-at-in-Case.ensures.number) refl
    c.in_ok-arms-in-Case.ensures.arms c.in_ok-last-in-Case.ensures.commands) c.choice.ensures

pub command-returns-in_ok-last-in-Case-clause-next : goal.command-returns-in_ok-last-in-Case-clause-next
command-returns-in_ok-last-in-Case-clause-next t c =
    IfOk-weaker c.choice.result _ _ (λ _ _. case_all_sites c.args.standing.now.lattice.now (surroundings_of c.args.standing.now)
    c.args.next.now (command_of c.args.c.now) c.in-Case.field-0 (expression_of c.in-Case.e) c.in-Case.branches.items c.in-Case.other
    (ap command_of c.in-Case.is ∙ command_of-case _ _ _ _) c.as_slice-in-Case.result.now c.as_slice-in-Case-2.result.now c.arms.new.next
    c.commands-in-Case.new.next c.as_slice-in-Case.ensures.value c.as_slice-in-Case-2.ensures.value c.in_ok-arms-in-Case.ensures.next
    c.in_ok-last-in-Case.ensures.next) c.choice.ensures

pub command-returns-in_ok-last-in-Case-clause-point : goal.command-returns-in_ok-last-in-Case-clause-point
command-returns-in_ok-last-in-Case-clause-point t c =
    IfOk-weaker c.choice.result _ _ (λ _ _. case_all_points c.args.standing.now.lattice.now (surroundings_of c.args.standing.now)
    c.args.next.now c.args.point.now (command_of c.args.c.now) c.in-Case.field-0 (expression_of c.in-Case.e) c.in-Case.branches.items
    c.in-Case.other (ap command_of c.in-Case.is ∙ command_of-case _ _ _ _) c.as_slice-in-Case.result.now c.as_slice-in-Case-2.result.now
    c.arms.new.next c.take_point-at-in-Case.new.point c.arms.new.point c.commands-in-Case.new.point c.as_slice-in-Case.ensures.value c.as_slice-in-Case-2.ensures.value
    c.in_ok-arms-in-Case.ensures.next c.take_point-at-in-Case.ensures.point c.in_ok-arms-in-Case.ensures.point c.in_ok-last-in-Case.ensures.point) c.choice.ensures

pub arms-commands-requires : goal.arms-commands-requires
arms-commands-requires t c =
    let lighter = arm_lighter c.args.list.now c.loop-arm.arm-index c.arm-item.result c.as_slice-in-loop-arm.result.now (omega arith)
    c.arm-item.is c.as_slice-in-loop-arm.ensures.value in (
      omega (arith, lighter),
      (
        arms_sites_within c.args.standing.now.lattice.now (surroundings_of c.args.standing.now) c.arm-item.result
            c.as_slice-in-loop-arm.result.now c.as_slice-in-loop-arm.ensures.value c.args.list.now c.loop-arm.arm-index c.loop-arm.next (omega arith) c.arm-item.is _ (2 ^ 32)
            c.loop-arm.invariant.1 c.requires.sites,
        arms_points_within c.args.standing.now.lattice.now (surroundings_of c.args.standing.now) c.arm-item.result
            c.as_slice-in-loop-arm.result.now c.as_slice-in-loop-arm.ensures.value c.args.list.now c.loop-arm.arm-index c.loop-arm.next
            (omega arith) c.arm-item.is c.loop-arm.point _ (2 ^ 32)
            c.loop-arm.invariant.2 c.requires.points,
      ),
    )

pub arms-loop-arm-init : goal.arms-loop-arm-init
arms-loop-arm-init t c = (
  λ last. ap (λ (l : List Arm). arms_before (length c.args.standing.now.names.now) l
      (arms_with (rows_of c.args.standing.now) c.args.point.now
      (arms_from c.args.standing.now.lattice.now (surroundings_of c.args.standing.now) c.args.next.now c.args.list.now last)))
      c.new-made.ensures.items ∙ arms_before-none _ _,
  refl,
  refl,
)

pub arms-loop-arm-preserved : goal.arms-loop-arm-preserved
arms-loop-arm-preserved t c = (
  λ last.
      arms_step c.args.standing.now.lattice.now (surroundings_of c.args.standing.now) c.arm-item.result c.as_slice-in-loop-arm.result.now
      c.as_slice-in-loop-arm.ensures.value c.args.list.now c.loop-arm.arm-index c.loop-arm.next (omega arith) c.arm-item.is (length c.args.standing.now.names.now)
      (rows_of c.args.standing.now) c.as_slice.result.now _ c.loop-arm.point _ c.loop-arm.made.items _ _ c.as_slice.ensures.value
      c.in_ok-push.ensures.items c.in_ok-constants.ensures c.in_ok-block.ensures.commands
      c.in_ok-block.ensures.next c.in_ok-block.ensures.point last
      ∙ c.loop-arm.invariant.0 last,
  arms_sites_step c.args.standing.now.lattice.now (surroundings_of c.args.standing.now) c.arm-item.result c.as_slice-in-loop-arm.result.now
      c.as_slice-in-loop-arm.ensures.value c.args.list.now c.loop-arm.arm-index c.loop-arm.next (omega arith) c.arm-item.is _ c.in_ok-block.ensures.next
      ∙ c.loop-arm.invariant.1,
  arms_points_step c.args.standing.now.lattice.now (surroundings_of c.args.standing.now) c.arm-item.result c.as_slice-in-loop-arm.result.now
      c.as_slice-in-loop-arm.ensures.value c.args.list.now c.loop-arm.arm-index c.loop-arm.next (omega arith) c.arm-item.is _ c.loop-arm.point _
      c.in_ok-block.ensures.next c.in_ok-block.ensures.point
      ∙ c.loop-arm.invariant.2,
)

pub arms-returns-clause-arms : goal.arms-returns-clause-arms
arms-returns-clause-arms t c = λ last.
    arms_end c.args.standing.now.lattice.now (surroundings_of c.args.standing.now) (length c.args.standing.now.names.now)
    (rows_of c.args.standing.now) c.args.list.now c.loop-arm.arm-index c.loop-arm.next c.loop-arm.point c.loop-arm.made.items last _ (omega arith) (c.loop-arm.invariant.0 last)

pub arms-returns-clause-next : goal.arms-returns-clause-next
arms-returns-clause-next t c = arms_sites_end c.args.standing.now.lattice.now (surroundings_of c.args.standing.now) c.args.list.now
    c.loop-arm.arm-index c.loop-arm.next _ (omega arith) c.loop-arm.invariant.1

pub arms-returns-clause-point : goal.arms-returns-clause-point
arms-returns-clause-point t c = arms_points_end c.args.standing.now.lattice.now (surroundings_of c.args.standing.now) c.args.list.now
    c.loop-arm.arm-index c.loop-arm.next c.loop-arm.point _ (omega arith) c.loop-arm.invariant.2

pub commands-command-requires : goal.commands-command-requires
commands-command-requires t c =
    let lighter = command_lighter c.args.list.now c.loop-c.c-index c.c-item.result (omega arith) c.c-item.is in (
      omega (arith, lighter),
      (
        sites_within (surroundings_of c.args.standing.now) c.args.list.now c.loop-c.c-index c.c-item.result c.loop-c.next _ (2 ^ 32)
            (omega arith) c.c-item.is c.loop-c.invariant.1 c.requires.sites,
        points_within c.args.standing.now.lattice.now (surroundings_of c.args.standing.now) c.args.list.now c.loop-c.c-index
            c.c-item.result c.loop-c.next c.loop-c.point _ (2 ^ 32) (omega arith) c.c-item.is c.loop-c.invariant.2 c.requires.points,
      ),
    )

pub otherwise-commands-requires : goal.otherwise-commands-requires
otherwise-commands-requires t c =
    let lighter = some_lighter c.args.other.now c.in-Some.block c.as_slice.result.now c.in-Some.is c.as_slice.ensures.value in (
      omega (arith, lighter),
      (
        some_sites (surroundings_of c.args.standing.now) c.args.next.now (2 ^ 32) c.args.other.now c.in-Some.block c.as_slice.result.now
            c.in-Some.is c.as_slice.ensures.value c.requires.sites,
        some_points c.args.standing.now.lattice.now (surroundings_of c.args.standing.now) c.args.next.now c.args.point.now (2 ^ 32)
            c.args.other.now c.in-Some.block c.as_slice.result.now c.in-Some.is c.as_slice.ensures.value c.requires.points,
      ),
    )

pub commands-loop-c-preserved : goal.commands-loop-c-preserved
commands-loop-c-preserved t c = (
  commands_step c.args.standing.now.lattice.now (surroundings_of c.args.standing.now) (length c.args.standing.now.names.now)
      (rows_of c.args.standing.now) c.args.list.now c.loop-c.c-index c.c-item.result c.loop-c.next _ c.loop-c.point _
      c.loop-c.made.items _ _ (omega arith) c.c-item.is c.in_ok-push.ensures.items c.in_ok-one.ensures.command c.in_ok-one.ensures.next c.in_ok-one.ensures.point
      ∙ c.loop-c.invariant.0,
  sites_step (surroundings_of c.args.standing.now) c.args.list.now c.loop-c.c-index c.c-item.result c.loop-c.next _ (omega arith) c.c-item.is c.in_ok-one.ensures.next
      ∙ c.loop-c.invariant.1,
  points_step c.args.standing.now.lattice.now (surroundings_of c.args.standing.now) c.args.list.now c.loop-c.c-index c.c-item.result
      c.loop-c.next _ c.loop-c.point _ (omega arith) c.c-item.is c.in_ok-one.ensures.next
      c.in_ok-one.ensures.point
      ∙ c.loop-c.invariant.2,
)

pub commands-returns-clause-commands : goal.commands-returns-clause-commands
commands-returns-clause-commands t c =
    commands_end c.args.standing.now.lattice.now (surroundings_of c.args.standing.now) (length c.args.standing.now.names.now)
    (rows_of c.args.standing.now) c.args.list.now c.loop-c.c-index c.loop-c.next c.loop-c.point _ _ (omega arith)
    c.loop-c.invariant.0

pub commands-returns-clause-next : goal.commands-returns-clause-next
commands-returns-clause-next t c =
    sites_end (surroundings_of c.args.standing.now) c.args.list.now c.loop-c.c-index c.loop-c.next _ (omega arith) c.loop-c.invariant.1

pub commands-returns-clause-point : goal.commands-returns-clause-point
commands-returns-clause-point t c =
    points_end c.args.standing.now.lattice.now (surroundings_of c.args.standing.now) c.args.list.now c.loop-c.c-index c.loop-c.next
    c.loop-c.point _ (omega arith) c.loop-c.invariant.2
