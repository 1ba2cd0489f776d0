-- What is taken of the memory is what the call stands for.
use Rattle.std.proofs.Common.{◌≡◌, rules}
use Rattle.std.proofs.lemmas.Result.{IfOk-weaker, IfErr-weaker}
use Rattle.top_expansion.proofs.Calls.{takes, stops}
use Rattle.top_expansion.proofs.expander.datum_of.Goals as goal

pub returns-clause-expands : goal.returns-clause-expands
returns-clause-expands c =
    let same : c.as_slice-symbols.result.now ≡ c.args.built.now.symbols = search rules in
    IfOk-weaker c.take_datum.result _ _
    (takes c.args.names.now c.args.call.now c.args.built.now c.requires.call c.law_alike_data.ensures c.args.run.now.machine.state c.args.word
    c.requires.shows c.arena-words.result.now (record { memory = c.arena-words.ensures.exact; small = c.are_words.ensures })
    c.place_of-place.result c.as_slice-symbols.result.now c.place_of-place.ensures same)
    c.take_datum.ensures.takes

pub returns-clause-stops : goal.returns-clause-stops
returns-clause-stops c =
    let same : c.as_slice-symbols.result.now ≡ c.args.built.now.symbols = search rules in
    IfErr-weaker c.take_datum.result _ _
    (stops c.args.names.now c.args.call.now c.args.built.now c.requires.call c.law_alike_data.ensures c.args.run.now.machine.state c.args.word
    c.requires.shows c.arena-words.result.now (record { memory = c.arena-words.ensures.exact; small = c.are_words.ensures })
    c.place_of-place.result c.as_slice-symbols.result.now c.place_of-place.ensures same)
    c.take_datum.ensures.stops
