use Rattle.sap_desk.proofs.Added.{same_given, same_names, stands_longer, told_stream, told_both, fits_file, stands_both}
use Rattle.sap_desk.proofs.store.Store.add.Goals as goal

pub add_to_file-requires-clause-fits : goal.add_to_file-requires-clause-fits
add_to_file-requires-clause-fits c = fits_file c.args.self.now.room _ _ c.args.part.now c.args.k c.in-Some.place _ c.args.self.now.stands
    c.requires.there c.in-Some.ensures.writes c.in-Some.ensures.place c.requires.fits

pub invariant_of-self : goal.invariant_of-self
invariant_of-self c = record {
  stands = stands_both c.args.self.now.room _ _ _ c.args.part.now c.args.k c.in-Some.place
      _ _ c.args.self.now.stands c.in-Some.ensures.writes c.in-Some.ensures.place c.add_to_file.ensures c.add_to_channel.ensures c.requires.fits;
}

pub invariant_of-self-in-None : goal.invariant_of-self-in-None
invariant_of-self-in-None c = record {
  stands =
      stands_longer c.args.k c.args.part.now _ _ c.add_to_channel-in-None.ensures c.args.self.now.room c.args.self.now.files.items c.requires.fits c.args.self.now.stands;
}

pub returns-in-Some-clause-told : goal.returns-in-Some-clause-told
returns-in-Some-clause-told c = told_both c.args.self.now.room _ _ _ c.args.part.now c.args.k c.in-Some.place _ _ c.args.self.now.stands
    c.in-Some.ensures.writes c.in-Some.ensures.place c.add_to_file.ensures c.add_to_channel.ensures

pub returns-in-Some-clause-given : goal.returns-in-Some-clause-given
returns-in-Some-clause-given c = same_given c.args.k c.args.part.now _ _ c.add_to_channel.ensures

pub returns-in-Some-clause-names : goal.returns-in-Some-clause-names
returns-in-Some-clause-names c = same_names c.args.k c.args.part.now _ _ c.add_to_channel.ensures

pub returns-in-None-clause-told : goal.returns-in-None-clause-told
returns-in-None-clause-told c = λ blame. told_stream c.args.self.now.files.items c.args.self.now.room blame c.args.k c.args.part.now
    _ _ c.add_to_channel-in-None.ensures c.requires.writing c.in-None.ensures.none

pub returns-in-None-clause-given : goal.returns-in-None-clause-given
returns-in-None-clause-given c = same_given c.args.k c.args.part.now _ _ c.add_to_channel-in-None.ensures

pub returns-in-None-clause-names : goal.returns-in-None-clause-names
returns-in-None-clause-names c = same_names c.args.k c.args.part.now _ _ c.add_to_channel-in-None.ensures
