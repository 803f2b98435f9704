-- The worked examples, by computation.
use Rattle.std.proofs.Common.{rules, refl}
use Rattle.std.specs.Fmt.{digits}
use Rattle.sap_text.specs.Lines.{lines_of}
use Rattle.sap_meaning.specs.Prelude.{put_number, put_level, put_child, raise, reset, settle, effect, attempt, select, does, does_block, does_state, does_child, cycle, set_inputs, root_fall, first}
use Rattle.sap_machine.proofs.Literal.{machine}
use Rattle.sap_machine.specs.Assembly.{assembled}
use Rattle.sap_machine.specs.Slices.{after_slices}
use Rattle.sap_machine.specs.Table.{step}
use Rattle.sap_machine.specs.Text.{users_text, stimulus_text}
use Rattle.sap_machine.specs.Examples.{AroundTheEnds, AsmOfTwo, Assembles, Branches, CpuOfTwo, NoEnd, NoForm, Numbers, Refusals, RunOfTwo, Stored, TooMany, TwinsAgree}

pub around_the_ends : AroundTheEnds
unfolding step
around_the_ends = (refl, refl, refl)

pub branches : Branches
unfolding step
branches = (refl, refl, refl, refl)

pub stored : Stored
unfolding step
stored = (refl, refl)

pub assembles : Assembles
unfolding assembled lines_of
assembles = (refl, refl, refl)

pub numbers : Numbers
unfolding assembled lines_of
numbers = (refl, refl, refl)

pub no_form : NoForm
unfolding assembled lines_of
no_form = (refl, refl, refl, refl, refl, refl, refl, refl, refl)

pub no_end : NoEnd
unfolding assembled lines_of
no_end = (refl, refl)

pub too_many : TooMany
unfolding assembled lines_of
too_many = (refl, refl, refl)

pub asm_of_two : AsmOfTwo
unfolding stimulus_text assembled lines_of digits
asm_of_two = refl

pub cpu_of_two : CpuOfTwo
unfolding users_text assembled lines_of after_slices step digits
cpu_of_two = refl

pub refusals : Refusals
unfolding assembled lines_of digits
refusals = (refl, refl)

pub run_of_two : RunOfTwo machine
unfolding cycle set_inputs root_fall first put_number put_level put_child raise reset settle effect attempt select does does_block does_state does_child
run_of_two = refl

pub twins_agree : TwinsAgree machine.world.order
twins_agree = search rules
