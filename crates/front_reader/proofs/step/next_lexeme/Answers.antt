use Rattle.std.proofs.Common.{sym, arith, length-drop, ap}
use Rattle.std.proofs.Common.{length, reverse}
use Rattle.front_reader.specs.Meanings.{number_in}
use Rattle.front_reader.proofs.Lexing.{lexes-within}
use Rattle.front_reader.proofs.Leading.{refusal-leads, fault-leads, goes-leads, whole-leads, stops-leads, name-fits}
use Rattle.front_reader.proofs.step.next_lexeme.Goals as goal

pub take_lexeme-requires : goal.take_lexeme-requires
take_lexeme-requires c =
    name-fits c.args.cursor.rest.now c.in-Taken.n c.in-Taken.lexeme c.front-word.result.now (sym c.in-Taken.ensures) c.front-word.ensures

pub returns-in-Fault-clause-leads : goal.returns-in-Fault-clause-leads
returns-in-Fault-clause-leads c = λ T l.
    refusal-leads _ c.refused_at.result c.moved-behind.result.place c.in-Fault.reason c.args.pending.now.items c.args.cursor.rest.now
    c.refused_at.ensures
    (fault-leads (number_in T) c.args.cursor.rest.now c.args.cursor.place c.moved-behind.result.place (reverse c.args.pending.now.items)
    c.in-Fault.k c.in-Fault.reason (sym c.in-Fault.ensures) c.moved-behind.ensures.place)

pub returns-in-Ok-Some-clause-leads : goal.returns-in-Ok-Some-clause-leads
returns-in-Ok-Some-clause-leads c = λ T l.
    whole-leads (number_in T) c.args.cursor.rest.now c.args.cursor.place c.args.pending.now.items c.take_lexeme.new.pending.items
    c.in-Taken.n c.in-Taken.lexeme c.front-word.result.now c.moved-behind-in-Taken.result c.in-Ok-Some.field-0 c.in-Ok-Some.datum
    (sym c.in-Taken.ensures) c.front-word.ensures c.in-Ok-Some.field-0-is (c.in-Ok-Some.ensures.turns T l)
    c.moved-behind-in-Taken.ensures.rest c.moved-behind-in-Taken.ensures.place

pub returns-in-Ok-None-clause-leads : goal.returns-in-Ok-None-clause-leads
returns-in-Ok-None-clause-leads c = λ T l.
    goes-leads (number_in T) c.args.cursor.rest.now c.args.cursor.place c.args.pending.now.items c.take_lexeme.new.pending.items
    c.in-Taken.n c.in-Taken.lexeme c.front-word.result.now c.moved-behind-in-Taken.result c.in-Ok-None.field-0
    (sym c.in-Taken.ensures) c.front-word.ensures c.in-Ok-None.field-0-is (c.in-Ok-None.ensures.turns T l)
    c.moved-behind-in-Taken.ensures.rest c.moved-behind-in-Taken.ensures.place

pub returns-in-Err-clause-leads : goal.returns-in-Err-clause-leads
returns-in-Err-clause-leads c = λ T l.
    stops-leads (number_in T) c.args.cursor.rest.now c.args.cursor.place c.args.pending.now.items c.take_lexeme.new.pending.items
    c.in-Taken.n c.in-Taken.lexeme c.front-word.result.now c.in-Err.stop
    (sym c.in-Taken.ensures) c.front-word.ensures (c.in-Err.ensures.turns T l)

pub returns-in-Ok-Some-clause-goes_on : goal.returns-in-Ok-Some-clause-goes_on
returns-in-Ok-Some-clause-goes_on c =
    let w = lexes-within c.args.cursor.rest.now c.in-Taken.n c.in-Taken.lexeme c.requires.some (sym c.in-Taken.ensures) in (
      c.moved-behind-in-Taken.ensures.fits,
      omega (arith, w.0, w.1, ap length c.moved-behind-in-Taken.ensures.rest, length-drop c.in-Taken.n c.args.cursor.rest.now),
    )

pub returns-in-Ok-None-clause-goes_on : goal.returns-in-Ok-None-clause-goes_on
returns-in-Ok-None-clause-goes_on c =
    let w = lexes-within c.args.cursor.rest.now c.in-Taken.n c.in-Taken.lexeme c.requires.some (sym c.in-Taken.ensures) in (
      c.moved-behind-in-Taken.ensures.fits,
      omega (arith, w.0, w.1, ap length c.moved-behind-in-Taken.ensures.rest, length-drop c.in-Taken.n c.args.cursor.rest.now),
    )
