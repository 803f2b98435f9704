use Rattle.sap_lemmas.proofs.Common.{sym, ◌∙◌, and_parts, length_map}
use Rattle.sap_text.specs.Names.{is_word}
use Rattle.sap_text.proofs.NamesLemmas.{word_inner}
use Rattle.sap_net.specs.Names.{is_name}
use Rattle.sap_wave.specs.declared.variable.Variable.{Variable}
use Rattle.sap_wave.specs.Waves.{names_of}
use Rattle.sap_wave.proofs.Reached.{indexed_so, pushed_so}
use Rattle.sap_wave.proofs.steps.push_variable.Goals as goal

pub spelled-requires : goal.spelled-requires
unfolding is_name
spelled-requires c = let n = c.args.name.now in word_inner n (and_parts (is_word n) _ c.requires.name).0

pub returns-clause-variables : goal.returns-clause-variables
returns-clause-variables c =
    pushed_so c.args.variables.now.items c.push.new.self.items c.args.name.now c.in_ok-name.name c.args.width c.in_ok-name.ensures c.in_ok-push.ensures.items

pub returns-clause-indexed : goal.returns-clause-indexed
returns-clause-indexed c =
    let xs = c.args.variables.now.items in
    indexed_so xs c.push.new.self.items c.in_ok-name.name c.args.width c.index.new.places c.in_ok-push.ensures.items
    (c.in_ok-index.ensures (names_of xs) (length_map (λ (x : Variable). x.name) xs ∙ sym (c.len-place.ensures ∙ c.args.variables.now.ok.0)) c.requires.indexed)
