use Rattle.std.proofs.Common.{ℕ, List, [], length, reverse}
use Rattle.front_reader.specs.Meanings.{number_in}
use Rattle.front_reader.specs.Readers.{PlacesFit}
use Rattle.front_reader.specs.bridge.Steps.{ReadTo}
use Rattle.front_reader.specs.bridge.Turns.{IsLater}
use Rattle.front_reader.proofs.step.read.Given as goal

abbrev pub invariant-loop-behind : goal.invariant-loop-behind
invariant-loop-behind l = record {
  to : (T : List (List ℕ)) → IsLater l.names T → ReadTo (number_in T) l.fn.cursor.rest.now l.fn.cursor.place
      (record { rest = l.cursor.rest.now; place = l.cursor.place; done = []; pending = reverse l.pending.items });
  fits : PlacesFit l.cursor.place l.cursor.rest.now;
  later : IsLater l.fn.names l.names;
}

abbrev pub decreases-loop-behind : goal.decreases-loop-behind
decreases-loop-behind l = length l.cursor.rest.now
