-- Each clause is a lemma.
use Rattle.front_profile.specs.bridge.Turns.{turn, turn_stops, whole_stands, whole_stops}
use Rattle.front_profile.proofs.laws.law_turns.Goals as goal

pub returns-clause-turn : goal.returns-clause-turn
returns-clause-turn c = turn

pub returns-clause-stop : goal.returns-clause-stop
returns-clause-stop c = turn_stops

pub returns-clause-whole : goal.returns-clause-whole
returns-clause-whole c = whole_stands

pub returns-clause-whole_stop : goal.returns-clause-whole_stop
returns-clause-whole_stop c = whole_stops
