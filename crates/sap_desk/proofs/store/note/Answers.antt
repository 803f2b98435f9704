use Rattle.sap_lemmas.proofs.Common.{refl, length, slice_get_read}
use Rattle.sap_desk.proofs.store.note.Goals as goal

pub returns : goal.returns
returns c = record {
  before = c.index_mut.result.now;
  after = _;
  was = slice_get_read c.args.channels.now.items (length c.args.channels.now.items) c.args.k c.index_mut.result.now refl c.requires c.index_mut.ensures.value;
  now = refl;
  by = refl;
}
