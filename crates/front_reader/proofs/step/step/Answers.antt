use Rattle.std.proofs.Common.{rules, sym, reverse}
use Rattle.front_reader.specs.Meanings.{number_in}
use Rattle.front_reader.proofs.step.step.Goals as goal
use Rattle.std.proofs.Common.{subst, drop, []}
use Rattle.base.specs.declared.reason.Reason.TheVariants.{UnclosedList, UnclosedComment}
use Rattle.front_reader.specs.bridge.Machine.{LexemeStep}
use Rattle.front_reader.specs.bridge.Steps.{LeadsTo}
use Rattle.front_reader.proofs.Leading.{refusal-leads, open-leads, unclosed-leads, ends-leads, lexeme-leads}

pub returns-in-OpenFrom-clause-leads : goal.returns-in-OpenFrom-clause-leads
returns-in-OpenFrom-clause-leads c = λ T l.
    refusal-leads _ c.refused_at.result c.moved-behind.result.place UnclosedComment c.args.pending.now.items
    (drop c.in-OpenFrom.n c.args.cursor.rest.now) c.refused_at.ensures
    (open-leads (number_in T) c.args.cursor.rest.now c.args.cursor.place c.moved-behind.result.place (reverse c.args.pending.now.items)
    c.in-OpenFrom.n (sym c.in-OpenFrom.ensures) c.moved-behind.ensures.place)

pub returns-in-Some-clause-leads : goal.returns-in-Some-clause-leads
returns-in-Some-clause-leads c = λ T l.
    refusal-leads _ c.refused_at-in-Some.result c.in-Some.place UnclosedList c.args.pending.now.items [] c.refused_at-in-Some.ensures
    (unclosed-leads (number_in T) c.args.cursor.rest.now c.moved-cursor.result.rest.now c.args.cursor.place c.moved-cursor.result.place
    c.in-Some.place (reverse c.args.pending.now.items) c.in-Ends.n (sym c.in-Ends.ensures) c.moved-cursor.ensures.rest
    c.moved-cursor.ensures.place (search rules) (search rules))

pub returns-in-None-clause-leads : goal.returns-in-None-clause-leads
returns-in-None-clause-leads c = λ T l.
    ends-leads (number_in T) c.args.cursor.rest.now c.moved-cursor.result.rest.now c.args.cursor.place c.moved-cursor.result.place
    (reverse c.args.pending.now.items) c.in-Ends.n (sym c.in-Ends.ensures) c.moved-cursor.ensures.rest
    c.moved-cursor.ensures.place (search rules) (search rules)

pub returns-clause-leads : goal.returns-clause-leads
returns-clause-leads c = λ T l.
    let L : LexemeStep → Type 0 = λ x. LeadsTo x [] c.next_lexeme.result c.next_lexeme.new.pending.items in
    subst L
    (sym (lexeme-leads (number_in T) c.args.cursor.rest.now c.moved-cursor.result.rest.now c.args.cursor.place c.moved-cursor.result.place
    (reverse c.args.pending.now.items) c.in-Ends.n (sym c.in-Ends.ensures) c.moved-cursor.ensures.rest
    c.moved-cursor.ensures.place (search rules)))
    (c.next_lexeme.ensures.leads T l)
