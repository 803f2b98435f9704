use Rattle.std.proofs.Common.{sym}
use Rattle.sap_wave.proofs.Flat.{part_count}
use Rattle.sap_wave.proofs.block_list.BlockList.count.Goals as goal

pub returns-clause-count : goal.returns-clause-count
returns-clause-count c = let b = c.args.self.now in sym (part_count b.width b.count b.numbers.items)
