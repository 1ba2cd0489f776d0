use Rattle.front_reader.proofs.Answering.{answer-read, answer-ended, answer-refused}
use Rattle.front_reader.specs.bridge.WellFormedReads.{next_good}
use Rattle.front_reader.proofs.reader.Reader.next.Goals as goal

pub returns-in-Ok-Some-clause-read : goal.returns-in-Ok-Some-clause-read
returns-in-Ok-Some-clause-read c =
    rw (← c.self.view_is)
    (answer-read c.read.new.names c.self.inside.rest.now c.self.inside.place c.self.inside.stop c.in-Ok-Some.field-0
    c.in-Ok-Some.behind c.in-Ok-Some.datum c.in_default.is c.in-Ok-Some.ensures.found c.in-Ok-Some.field-0-is)

pub returns-in-Ok-None-clause-ended : goal.returns-in-Ok-None-clause-ended
returns-in-Ok-None-clause-ended c =
    rw (← c.self.view_is)
    (answer-ended c.read.new.names c.self.inside.rest.now c.self.inside.place c.self.inside.stop c.in-Ok-None.field-0
    c.in_default.is c.in-Ok-None.ensures.found c.in-Ok-None.field-0-is)

pub returns-in-Err-Refused-clause-refused : goal.returns-in-Err-Refused-clause-refused
returns-in-Err-Refused-clause-refused c =
    rw (← c.self.view_is)
    (answer-refused c.read.new.names c.self.inside.rest.now c.self.inside.place c.self.inside.stop c.in-Err-Refused.field-0
    c.in-Err-Refused.refusal c.in_default.is c.in-Err-Refused.ensures.found c.in-Err-Refused.field-0-is)

pub returns-in-Ok-Some-clause-good : goal.returns-in-Ok-Some-clause-good
returns-in-Ok-Some-clause-good c =
    let found =
    answer-read c.read.new.names c.self.inside.rest.now c.self.inside.place c.self.inside.stop c.in-Ok-Some.field-0
    c.in-Ok-Some.behind c.in-Ok-Some.datum c.in_default.is c.in-Ok-Some.ensures.found c.in-Ok-Some.field-0-is in
    next_good c.read.new.names c.self.inside.rest.now c.self.inside.place c.in-Ok-Some.datum c.in-Ok-Some.behind.rest.now found.reads
