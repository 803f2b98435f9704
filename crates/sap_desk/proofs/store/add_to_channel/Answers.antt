use Rattle.sap_lemmas.proofs.Common.{rules, refl, length, slice_get_read}
use Rattle.sap_desk.proofs.store.add_to_channel.Goals as goal

pub returns : goal.returns
returns c = record {
  before = c.index_mut-channel.result.now;
  after = record {
    state = c.index_mut-channel.result.now.state;
    name = c.index_mut-channel.result.now.name;
    written = c.extend_from_slice.new.self;
    given = c.index_mut-channel.result.now.given;
  };
  was = slice_get_read c.args.channels.now.items (length c.args.channels.now.items) c.args.k c.index_mut-channel.result.now refl c.requires.there c.index_mut-channel.ensures.value;
  now = refl;
  by = record { state = refl; name = refl; written = search rules; given = refl; room = c.extend_from_slice.ensures.capacity };
}
