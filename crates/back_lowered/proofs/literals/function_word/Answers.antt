-- One function is passed, or found; or there is none.
use Rattle.std.proofs.Common.{sym, ◌∙◌}
use Rattle.lang_meaning.specs.Lookup.{text}
use Rattle.back_lowered.proofs.InOrder.{function_here, function_later, no_word}
use Rattle.back_lowered.proofs.literals.function_word.Goals as goal

pub returns-in_default-get : goal.returns-in_default-get
returns-in_default-get c =
    no_word c.args.names.now c.args.functions.now c.args.words.now (text c.args.names.now c.args.name.0) c.loop-at.at c.in-Some.row.now
    c.in-Some.ensures c.in_default-get.ensures c.loop-at.invariant

pub returns-then-same_text : goal.returns-then-same_text
returns-then-same_text c =
    function_here c.args.names.now c.args.functions.now c.args.words.now (text c.args.names.now c.args.name.0) c.loop-at.at c.in-Some.row.now
    c.in-Some-get.word.now c.in-Some.ensures c.in-Some-get.ensures (sym c.same_text.ensures ∙ c.if-same_text.true) c.loop-at.invariant

pub loop-at-preserved : goal.loop-at-preserved
loop-at-preserved c =
    function_later c.args.names.now c.args.functions.now c.args.words.now (text c.args.names.now c.args.name.0) c.loop-at.at c.in-Some.row.now
    c.in-Some-get.word.now c.in-Some.ensures c.in-Some-get.ensures (sym c.same_text.ensures ∙ c.if-same_text.false) c.loop-at.invariant
