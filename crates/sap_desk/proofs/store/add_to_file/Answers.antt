use Rattle.sap_lemmas.proofs.Common.{rules, refl, length, slice_get_read}
use Rattle.sap_desk.proofs.store.add_to_file.Goals as goal

pub returns : goal.returns
returns c = record {
  before = c.index_mut-file.result.now;
  after = record { name = c.index_mut-file.result.now.name; bytes = c.extend_from_slice.new.self };
  was = slice_get_read c.args.files.now.items (length c.args.files.now.items) c.args.place c.index_mut-file.result.now refl c.requires.there c.index_mut-file.ensures.value;
  now = refl;
  by = record { name = refl; bytes = search rules; room = c.extend_from_slice.ensures.capacity };
}
