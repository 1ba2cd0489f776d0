use Rattle.std.proofs.Common.{◌∙◌, ◌-◌, ◌<◌, arith, rules, get_or-set_same, length-drop}
use Rattle.std.proofs.Math.ListN.{length-set}
use Rattle.std.proofs.lemmas.List.{take_all}
use Rattle.top_lines.proofs.Decimals.{digit_more, digit_last, some_room, room_left}
use Rattle.top_lines.proofs.lines.decimal_in.Goals as goal

pub loop-rest-preserved : goal.loop-rest-preserved
loop-rest-preserved c =
    let i = c.loop-rest.invariant in
    let some : 0 < c.loop-rest.at = some_room c.loop-rest.at c.loop-rest.rest c.loop-rest-test.true i.room in
    record {
      long = search (rules, length-set);
      within = omega arith;
      room = room_left c.loop-rest.at c.loop-rest.rest some i.room;
      digit = get_or-set_same c.loop-rest.room (c.loop-rest.at - 1) _ 0 (omega arith);
      digits = digit_more c.loop-rest.room c.loop-rest.at c.loop-rest.rest _ _ some (omega arith) c.loop-rest-test.true (omega arith) i.digit i.digits;
    }

pub returns : goal.returns
returns c =
    let i = c.loop-rest.invariant in
    take_all _ _ (omega (arith, length-drop c.loop-rest.at c.loop-rest.room)) ∙ digit_last c.loop-rest.room c.loop-rest.at c.loop-rest.rest _ (omega arith) c.loop-rest-test.false i.digit i.digits
