use Rattle.std.proofs.Common.{subst, sym}
use Rattle.sap_wave.specs.declared.state.State.{State as Held}
use Rattle.sap_wave.specs.Prelude.{IsOtherIn, IsIndexed, LineRead, state_of}
use Rattle.sap_wave.proofs.steps.read_line.Goals as goal

pub returns-in-BeforeTimescale : goal.returns-in-BeforeTimescale
returns-in-BeforeTimescale c = subst (λ (s : Held). LineRead (state_of s) c.args.text.now c.first_line.result) (sym c.in-BeforeTimescale.is) c.first_line.ensures

pub returns-in-BeforeScope : goal.returns-in-BeforeScope
returns-in-BeforeScope c = subst (λ (s : Held). LineRead (state_of s) c.args.text.now c.second_line.result) (sym c.in-BeforeScope.is) c.second_line.ensures

pub declaring_line-requires : goal.declaring_line-requires
declaring_line-requires c = subst IsIndexed c.in-Declaring.is c.requires.indexed

pub returns-in-Declaring : goal.returns-in-Declaring
returns-in-Declaring c = subst (λ (s : Held). LineRead (state_of s) c.args.text.now c.declaring_line.result) (sym c.in-Declaring.is) c.declaring_line.ensures

pub returns-in-BeforeEnd : goal.returns-in-BeforeEnd
returns-in-BeforeEnd c = subst (λ (s : Held). LineRead (state_of s) c.args.text.now c.end_line.result) (sym c.in-BeforeEnd.is) c.end_line.ensures

pub returns-in-BeforeBlocks : goal.returns-in-BeforeBlocks
returns-in-BeforeBlocks c = subst (λ (s : Held). LineRead (state_of s) c.args.text.now c.blocks_line.result) (sym c.in-BeforeBlocks.is) c.blocks_line.ensures

pub block_line-requires : goal.block_line-requires
block_line-requires c = subst (λ (s : Held). IsOtherIn (state_of s) c.args.text.now) c.in-InBlock.is c.requires.other

pub returns-in-InBlock : goal.returns-in-InBlock
returns-in-InBlock c = subst (λ (s : Held). LineRead (state_of s) c.args.text.now c.block_line.result) (sym c.in-InBlock.is) c.block_line.ensures
