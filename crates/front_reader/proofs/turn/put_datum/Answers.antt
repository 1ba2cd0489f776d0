use Rattle.std.proofs.Common.{rules, [], ◌∷◌, ◌++◌, Some, ap, ◌∙◌, sym}
use Rattle.front_reader.specs.bridge.Machine.{next}
use Rattle.front_reader.specs.bridge.Turns.{with_open}
use Rattle.front_reader.proofs.Putting.{put-list, put-vector, put-dot, put-tail, put-prefix, put-top}
use Rattle.front_reader.specs.declared.pending.Pending.{Pending}
use Rattle.front_reader.proofs.turn.put_datum.Goals as goal
use Rattle.front_reader.proofs.turn.put_datum.Goals.{in-InList+in_ok-with_item-in-InList, in-InVector+in_ok-with_item-in-InVector, in-AtDot, in-AtTail}

pub loop-open-preserved : goal.loop-open-preserved
loop-open-preserved c = λ s.
    put-prefix c.loop-open.pending.items c.pop.new.self.items c.in-Some.open c.in-AtPrefix.place c.in-AtPrefix.name
    c.loop-open.datum c.in_ok-datum-in-AtPrefix.datum c.in-Some.ensures.items c.in-AtPrefix.is c.in_ok-datum-in-AtPrefix.ensures s
    ∙ c.loop-open.invariant s

pub returns-in-Some : goal.returns-in-Some
returns-in-Some c = λ s.
    let joins = λ (o : Pending). c.pop.new.self.items ++ o ∷ [] in
    elim c.match-open.branch [
      | in-InList+in_ok-with_item-in-InList w ↦
          sym (c.loop-open.invariant s)
          ∙ put-list c.loop-open.pending.items c.pop.new.self.items c.push.new.pending.items c.in-Some.open
          w.in-InList.place w.in-InList.items w.in_ok-with_item-in-InList.field-0 c.loop-open.datum c.in-Some.ensures.items w.in-InList.is
          w.in_ok-with_item-in-InList.ensures (c.in_ok-push.ensures ∙ ap joins w.still_open-is) s
      | in-InVector+in_ok-with_item-in-InVector w ↦
          sym (c.loop-open.invariant s)
          ∙ put-vector c.loop-open.pending.items c.pop.new.self.items c.push.new.pending.items c.in-Some.open
          w.in-InVector.place w.in-InVector.items w.in_ok-with_item-in-InVector.field-0 c.loop-open.datum c.in-Some.ensures.items w.in-InVector.is
          w.in_ok-with_item-in-InVector.ensures (c.in_ok-push.ensures ∙ ap joins w.still_open-is) s
      | in-AtDot w ↦
          sym (c.loop-open.invariant s)
          ∙ put-dot c.loop-open.pending.items c.pop.new.self.items c.push.new.pending.items c.in-Some.open
          w.in-AtDot.place w.in-AtDot.dot w.in-AtDot.items c.loop-open.datum c.in-Some.ensures.items w.in-AtDot.is
          (c.in_ok-push.ensures ∙ ap joins w.still_open-is) s
      | in-AtTail w ↦
          sym (c.loop-open.invariant s)
          ∙ put-tail c.loop-open.pending.items c.pop.new.self.items c.push.new.pending.items c.in-Some.open
          w.in-AtTail.place w.in-AtTail.dot w.in-AtTail.items w.in-AtTail.tail c.loop-open.datum c.in-Some.ensures.items w.in-AtTail.is
          (c.in_ok-push.ensures ∙ ap joins w.still_open-is) s
    ]

pub returns : goal.returns
returns c = λ s.
    sym (c.loop-open.invariant s)
    ∙ put-top c.loop-open.pending.items c.pop.new.self.items c.loop-open.datum (search rules) s
    ∙ ap (λ d. next (with_open s (Some d) c.pop.new.self.items)) (sym c.in_ok-datum.ensures)
