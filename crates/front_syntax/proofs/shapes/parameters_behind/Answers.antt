-- A required variable more was found, the rest variable, or a datum that is none.
use Rattle.std.proofs.Common.{◌≡◌, ◌++◌, ◌∷◌, [], Some, None, ◌+◌, drop, true, false, sym, ◌∙◌, arith}
use Rattle.front_profile.specs.Shapes.{symbol_of, is_rest_word, parameter_in, parameters_of}
use Rattle.front_syntax.specs.Behind.{parameters_behind}
use Rattle.front_syntax.proofs.Shaping.{drop_seen, required_turn, required_rest, required_none, required_end, none_more}
use Rattle.front_syntax.proofs.shapes.parameters_behind.Goals as goal

pub loop-at-preserved : goal.loop-at-preserved
loop-at-preserved c =
    let now : drop c.loop-at.at c.args.items.now ≡ c.index-items-at.result ∷ drop (c.loop-at.at + 1) c.args.items.now =
    drop_seen c.args.items.now c.loop-at.at c.index-items-at.result (omega arith) c.index-items-at.is in
    let no_word : is_rest_word c.args.words (symbol_of c.index-items-at.result) ≡ false = cc (c.is_rest_word.ensures, c.if-is_rest_word.false) in
    let variable : parameter_in c.args.words (symbol_of c.index-items-at.result) ≡ Some c.in-Some-parameter_in.symbol = cc (c.parameter_in.ensures, c.in-Some-parameter_in.is) in
    let pushed : c.push.new.self ≡ c.loop-at.required ++ c.in-Some-parameter_in.symbol ∷ [] = c.in_ok-push.ensures.ok in
    let more : parameters_behind (c.loop-at.required ++ c.in-Some-parameter_in.symbol ∷ []) (parameters_of c.args.words (drop (c.loop-at.at + 1) c.args.items.now)) ≡ parameters_behind c.args.required (parameters_of c.args.words c.args.items.now) =
    required_turn c.args.words c.args.items.now c.loop-at.at c.index-items-at.result c.in-Some-parameter_in.symbol c.loop-at.required _ now no_word variable c.loop-at.invariant in
    let all : parameters_behind c.push.new.self (parameters_of c.args.words (drop (c.loop-at.at + 1) c.args.items.now)) ≡ parameters_behind c.args.required (parameters_of c.args.words c.args.items.now) = rw pushed more in
    all

pub returns : goal.returns
returns c =
    none_more c.loop-at.required None _ (required_end c.args.words c.args.items.now c.loop-at.at c.loop-at.required _ c.loop-at-test.false c.loop-at.invariant)

pub returns-then-is_rest_word : goal.returns-then-is_rest_word
returns-then-is_rest_word c =
    let now = drop_seen c.args.items.now c.loop-at.at c.index-items-at.result c.loop-at-test.true c.index-items-at.is in
    let word : is_rest_word c.args.words (symbol_of c.index-items-at.result) ≡ true = sym c.is_rest_word.ensures ∙ c.if-is_rest_word.true in
    none_more c.loop-at.required (Some c.in-Some.rest) _
    (required_rest c.args.words c.args.items.now c.loop-at.at c.index-items-at.result c.loop-at.required _ _ now word c.in-Some.ensures c.loop-at.invariant)

pub returns-in_default : goal.returns-in_default
returns-in_default c =
    let now = drop_seen c.args.items.now c.loop-at.at c.index-items-at.result c.loop-at-test.true c.index-items-at.is in
    let word : is_rest_word c.args.words (symbol_of c.index-items-at.result) ≡ true = sym c.is_rest_word.ensures ∙ c.if-is_rest_word.true in
    required_rest c.args.words c.args.items.now c.loop-at.at c.index-items-at.result c.loop-at.required None _ now word c.in_default.ensures c.loop-at.invariant

pub returns-in_default-parameter_in : goal.returns-in_default-parameter_in
returns-in_default-parameter_in c =
    let now = drop_seen c.args.items.now c.loop-at.at c.index-items-at.result c.loop-at-test.true c.index-items-at.is in
    let word : is_rest_word c.args.words (symbol_of c.index-items-at.result) ≡ false = sym c.is_rest_word.ensures ∙ c.if-is_rest_word.false in
    let none : parameter_in c.args.words (symbol_of c.index-items-at.result) ≡ None = sym c.parameter_in.ensures ∙ c.in_default-parameter_in.is in
    required_none c.args.words c.args.items.now c.loop-at.at c.index-items-at.result c.loop-at.required _ now word none c.loop-at.invariant
