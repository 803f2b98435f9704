use Rattle.std.proofs.Common.{◌≡◌, ℕ, ◌/◌, ◌+◌, ◌-◌, ◌%◌, refl, ap, sym, ◌∙◌, arith, get_or}
use Rattle.sap_machine.specs.Table.{UserState, does_row, load_number, nop, operations}
use Rattle.sap_cpu.specs.Views.{user_state}
use Rattle.sap_cpu.proofs.Instructions.{stepped, no_row, jumps, falls_through, subtracted}
use Rattle.sap_cpu.proofs.state.State.step.Goals as goal

pub returns-in-1 : goal.returns-in-1
returns-in-1 c = c.load.ensures ∙ sym (stepped (user_state c.args.self.now) c.word-word.result 1 c.word-word.ensures c.in-1.is)

pub returns-in-2 : goal.returns-in-2
returns-in-2 c =
    c.load-in-2.ensures ∙ ap (λ x. load_number x (user_state c.args.self.now)) c.cell.ensures
    ∙ sym (stepped (user_state c.args.self.now) c.word-word.result 2 c.word-word.ensures c.in-2.is)

pub returns-in-3 : goal.returns-in-3
returns-in-3 c = c.store.ensures ∙ sym (stepped (user_state c.args.self.now) c.word-word.result 3 c.word-word.ensures c.in-3.is)

pub returns-in-4 : goal.returns-in-4
returns-in-4 c =
    let s : UserState = user_state c.args.self.now in
    let sum : (c.acc.result + c.cell-in-4.result) % 256 ≡ (s.acc + s.cell (c.word-word.result % 256 % 16)) % 256 =
    ap (λ x. (x + c.cell-in-4.result) % 256) c.acc.ensures ∙ ap (λ y. (s.acc + y) % 256) c.cell-in-4.ensures in
    c.load-in-4.ensures ∙ ap (λ x. load_number x s) sum ∙ sym (stepped s c.word-word.result 4 c.word-word.ensures c.in-4.is)

pub returns-in-5 : goal.returns-in-5
returns-in-5 c =
    let s : UserState = user_state c.args.self.now in
    let difference : (c.acc-in-5.result + (256 - c.cell-in-5.result)) % 256 ≡ (256 + s.acc - s.cell (c.word-word.result % 256 % 16)) % 256 =
    subtracted c.acc-in-5.result c.cell-in-5.result c.cell-in-5.type_inv
    ∙ ap (λ x. (256 + x - c.cell-in-5.result) % 256) c.acc-in-5.ensures ∙ ap (λ y. (256 + s.acc - y) % 256) c.cell-in-5.ensures in
    c.load-in-5.ensures ∙ ap (λ x. load_number x s) difference ∙ sym (stepped s c.word-word.result 5 c.word-word.ensures c.in-5.is)

pub returns-in-6 : goal.returns-in-6
returns-in-6 c = c.jump.ensures ∙ sym (stepped (user_state c.args.self.now) c.word-word.result 6 c.word-word.ensures c.in-6.is)

pub returns-then-acc-eq0 : goal.returns-then-acc-eq0
returns-then-acc-eq0 c =
    c.jump-then-acc-eq0.ensures
    ∙ sym (stepped (user_state c.args.self.now) c.word-word.result 7 c.word-word.ensures c.in-7.is
    ∙ jumps (user_state c.args.self.now) (c.word-word.result % 256) (c.word-word.result % 256 % 16) (sym c.acc-in-7.ensures ∙ c.if-acc-eq0.true))

pub returns-else-acc-eq0 : goal.returns-else-acc-eq0
returns-else-acc-eq0 c =
    c.go_on.ensures
    ∙ sym (stepped (user_state c.args.self.now) c.word-word.result 7 c.word-word.ensures c.in-7.is
    ∙ falls_through (user_state c.args.self.now) (c.word-word.result % 256) (c.word-word.result % 256 % 16) (λ e. c.if-acc-eq0.false (c.acc-in-7.ensures ∙ e)))

pub returns-in-8 : goal.returns-in-8
returns-in-8 c = sym (stepped (user_state c.args.self.now) c.word-word.result 8 c.word-word.ensures c.in-8.is)

pub returns-in_default : goal.returns-in_default
returns-in_default c =
    let o : ℕ = c.word-word.result / 256 in
    let known : get_or operations o nop ≡ nop =
    no_row o (λ e. absurd (omega arith)) (λ e. absurd (omega arith)) (λ e. absurd (omega arith)) (λ e. absurd (omega arith))
    (λ e. absurd (omega arith)) (λ e. absurd (omega arith)) (λ e. absurd (omega arith)) (λ e. absurd (omega arith)) in
    c.go_on-in_default.ensures
    ∙ sym (stepped (user_state c.args.self.now) c.word-word.result o c.word-word.ensures refl
    ∙ ap (λ r. does_row r (c.word-word.result % 256) (c.word-word.result % 256 % 16) (user_state c.args.self.now)) known)
