-- A form more is in the segment, or a tag ends it.
use Rattle.std.proofs.Common.{◌≡◌, ◌++◌, ◌∷◌, [], Some, None, ◌+◌, drop, arith}
use Rattle.front_profile.specs.Shapes.{symbol_of}
use Rattle.front_syntax.proofs.Shaping.{drop_seen, form_turn, tag_turn}
use Rattle.front_syntax.proofs.shapes.lengths_in.Goals.{in-Some+in_ok-push-in-Some, in-None}
use Rattle.front_syntax.proofs.shapes.lengths_in.Goals as goal

pub loop-item-preserved : goal.loop-item-preserved
loop-item-preserved c =
    let now : drop c.loop-item.item-index c.args.items.now ≡ c.item-item.result ∷ drop (c.loop-item.item-index + 1) c.args.items.now =
    drop_seen c.args.items.now c.loop-item.item-index c.item-item.result (omega arith) c.item-item.is in
    elim c.match-symbol_of.branch [
      | in-Some+in_ok-push-in-Some w ↦
          let tag : symbol_of c.item-item.result ≡ Some w.in-Some.field-0 = cc (c.symbol_of.ensures, w.in-Some.is) in
          let pushed : w.push.new.self ≡ c.loop-item.lengths ++ c.loop-item.length ∷ [] = w.in_ok-push-in-Some.ensures.ok in
          record {
            few = rw w.length-is (omega arith);
            seen = rw w.length-is (rw w.lengths-is (rw pushed (tag_turn c.args.items.now c.loop-item.item-index c.item-item.result w.in-Some.field-0 c.loop-item.lengths _ c.loop-item.length now tag c.loop-item.invariant.seen)));
          }
      | in-None w ↦
          let none : symbol_of c.item-item.result ≡ None = cc (c.symbol_of.ensures, w.in-None.is) in
          record {
            few = rw w.length-is (omega arith);
            seen = rw w.length-is (rw w.lengths-is (form_turn c.args.items.now c.loop-item.item-index c.item-item.result c.loop-item.lengths _ c.loop-item.length now none c.loop-item.invariant.seen));
          }
    ]
