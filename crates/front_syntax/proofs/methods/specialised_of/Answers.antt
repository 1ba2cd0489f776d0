-- A required parameter more was found, the rest variable, or a datum that is none.
use Rattle.std.proofs.Common.{◌≡◌, ◌++◌, ◌∷◌, [], Some, None, ◌+◌, drop, true, false, sym, ap, ◌∙◌, arith}
use Rattle.front_profile.specs.Shapes.{symbol_of, is_rest_word}
use Rattle.front_profile.specs.MethodShapes.{taken_by, specialised_of}
use Rattle.front_syntax.specs.Definitions.{view_asked, view_all_asked, maybe_taken}
use Rattle.front_syntax.proofs.Shaping.{drop_seen}
use Rattle.front_syntax.proofs.Specialising.{taken_turn, one_more, specialised_rest, specialised_none, specialised_end, none_taken}
use Rattle.front_syntax.proofs.methods.specialised_of.Goals as goal

pub loop-at-preserved : goal.loop-at-preserved
loop-at-preserved c =
    let t = c.in-Some-taken_by.taken in
    let rest = specialised_of c.args.words (drop (c.loop-at.at + 1) c.args.items.now) in
    let now : drop c.loop-at.at c.args.items.now ≡ c.index-items-at.result ∷ drop (c.loop-at.at + 1) c.args.items.now =
    drop_seen c.args.items.now c.loop-at.at c.index-items-at.result (omega arith) c.index-items-at.is in
    let no_word : is_rest_word c.args.words (symbol_of c.index-items-at.result) ≡ false = cc (c.is_rest_word.ensures, c.if-is_rest_word.false) in
    let taken : taken_by c.args.words c.index-items-at.result (symbol_of c.index-items-at.result) ≡ Some (record { variable = t.variable; class = view_asked t.class }) =
    sym c.taken_by.ensures ∙ ap maybe_taken c.in-Some-taken_by.is in
    let pushed : c.push.new.self ≡ c.loop-at.required ++ t.variable ∷ [] = c.in_ok-push.ensures.ok in
    let classes : c.push-in-loop-at.new.self ≡ c.loop-at.classes ++ t.class ∷ [] = c.in_ok-push-2.ensures.ok in
    let seen : view_all_asked c.push-in-loop-at.new.self ≡ view_all_asked c.loop-at.classes ++ view_asked t.class ∷ [] =
    ap view_all_asked classes ∙ one_more c.loop-at.classes t.class in
    rw (pushed, seen)
    (taken_turn c.args.words c.args.items.now c.loop-at.at c.index-items-at.result (record { variable = t.variable; class = view_asked t.class }) c.loop-at.required
    (view_all_asked c.loop-at.classes) _ now no_word taken c.loop-at.invariant)

pub returns : goal.returns
returns c =
    let classes = view_all_asked c.loop-at.classes in
    none_taken c.loop-at.required classes None _ _ c.with_classes-2.ensures
    (specialised_end c.args.words c.args.items.now c.loop-at.at c.loop-at.required classes _ c.loop-at-test.false c.loop-at.invariant)

pub returns-then-is_rest_word : goal.returns-then-is_rest_word
returns-then-is_rest_word c =
    let classes = view_all_asked c.loop-at.classes in
    let now = drop_seen c.args.items.now c.loop-at.at c.index-items-at.result c.loop-at-test.true c.index-items-at.is in
    let word : is_rest_word c.args.words (symbol_of c.index-items-at.result) ≡ true = sym c.is_rest_word.ensures ∙ c.if-is_rest_word.true in
    none_taken c.loop-at.required classes (Some c.in-Some.rest) _ _ c.with_classes.ensures
    (specialised_rest c.args.words c.args.items.now c.loop-at.at c.index-items-at.result c.loop-at.required classes _ _ now word c.in-Some.ensures c.loop-at.invariant)

pub returns-in_default : goal.returns-in_default
returns-in_default c =
    let classes = view_all_asked c.loop-at.classes in
    let now = drop_seen c.args.items.now c.loop-at.at c.index-items-at.result c.loop-at-test.true c.index-items-at.is in
    let word : is_rest_word c.args.words (symbol_of c.index-items-at.result) ≡ true = sym c.is_rest_word.ensures ∙ c.if-is_rest_word.true in
    specialised_rest c.args.words c.args.items.now c.loop-at.at c.index-items-at.result c.loop-at.required classes None _ now word c.in_default.ensures c.loop-at.invariant

pub returns-in_default-taken_by : goal.returns-in_default-taken_by
returns-in_default-taken_by c =
    let classes = view_all_asked c.loop-at.classes in
    let now = drop_seen c.args.items.now c.loop-at.at c.index-items-at.result c.loop-at-test.true c.index-items-at.is in
    let word : is_rest_word c.args.words (symbol_of c.index-items-at.result) ≡ false = sym c.is_rest_word.ensures ∙ c.if-is_rest_word.false in
    let none : taken_by c.args.words c.index-items-at.result (symbol_of c.index-items-at.result) ≡ None = sym c.taken_by.ensures ∙ ap maybe_taken c.in_default-taken_by.is in
    specialised_none c.args.words c.args.items.now c.loop-at.at c.index-items-at.result c.loop-at.required classes _ now word none c.loop-at.invariant
