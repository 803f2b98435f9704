use Rattle.sap_lemmas.proofs.Common.{rules, ◌≡◌, ◌++◌, ◌∷◌, [], length, string_bytes, is_ok}
use Rattle.sap_desk.proofs.Told.{fresh_use, names_more, given_more, told_opened, stands_reader}
use Rattle.sap_desk.proofs.store.Store.open_reader.Goals as goal

pub invariant_of-self : goal.invariant_of-self
invariant_of-self c =
    record {
      stands = stands_reader c.args.self.now.room c.args.self.now.files.items c.args.self.now.channels.items c.push.new.self.items
          c.in_ok-channel.channel (string_bytes c.args.name)
          (is_ok c.push.result) c.push.ensures.items c.in_ok-channel.ensures.written c.in_ok-channel.ensures.given c.in_ok-channel.ensures.use_at c.args.self.now.stands;
    }

pub returns-clause-fresh : goal.returns-clause-fresh
returns-clause-fresh c =
    let number : c.len-k.result ≡ length c.args.self.now.channels.items = search rules in
    fresh_use c.args.self.now.channels.items c.len-k.result number

pub returns-clause-told : goal.returns-clause-told
returns-clause-told c =
    let number : c.len-k.result ≡ length c.args.self.now.channels.items = search rules in
    let items : c.push.new.self.items ≡ c.args.self.now.channels.items ++ c.in_ok-channel.channel ∷ [] = search rules in
    λ blame. told_opened c.args.self.now.channels.items c.push.new.self.items c.in_ok-channel.channel items c.in_ok-channel.ensures.written c.in_ok-channel.ensures.given
    c.args.self.now.files.items c.args.self.now.room blame (string_bytes c.args.name) c.len-k.result number c.in_ok-channel.ensures.use_at

pub returns-clause-given : goal.returns-clause-given
returns-clause-given c =
    let number : c.len-k.result ≡ length c.args.self.now.channels.items = search rules in
    let items : c.push.new.self.items ≡ c.args.self.now.channels.items ++ c.in_ok-channel.channel ∷ [] = search rules in
    given_more c.args.self.now.channels.items c.push.new.self.items c.in_ok-channel.channel items c.in_ok-channel.ensures.written
    c.in_ok-channel.ensures.given c.len-k.result number

pub returns-clause-names : goal.returns-clause-names
returns-clause-names c =
    let items : c.push.new.self.items ≡ c.args.self.now.channels.items ++ c.in_ok-channel.channel ∷ [] = search rules in
    names_more c.args.self.now.channels.items c.push.new.self.items c.in_ok-channel.channel items c.in_ok-channel.ensures.written c.in_ok-channel.ensures.given
