use Rattle.sap_wave.proofs.WrittenLines.{head_written}
use Rattle.sap_wave.proofs.texts.push_head.Goals as goal

pub returns : goal.returns
returns c =
    head_written c.push_all_set.result c.args.variables.now c.args.first.now c.args.out.now.items c.extend_from_slice.new.self.items
    c.push_declarations.new.out.items c.extend_from_slice-2.new.self.items c.push_block.new.out.items c.push_all_set.new.out.items
    c.in_ok-extend_from_slice.ensures.items c.in_ok-push_declarations.ensures c.in_ok-extend_from_slice-2.ensures.items c.in_ok-push_block.ensures.text c.push_all_set.ensures
