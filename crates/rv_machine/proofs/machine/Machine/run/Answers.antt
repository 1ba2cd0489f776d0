use Rattle.std.proofs.Common.{◌≡◌, ◌+◌, ◌∙◌, Some, refl, ap, inr, arith}
use Rattle.rv_machine.specs.Run.{first}
use Rattle.rv_machine.proofs.Turns.{at-some, passed-begin, passed-on, passed-more, feeds_shorter, unread_before, unread_parts, finished, cut_off}
use Rattle.rv_machine.proofs.machine.Machine.run.Goals as goal

pub loop-done-init : goal.loop-done-init
loop-done-init g c = record {
  below = omega arith;
  passed = λ input fed. passed-begin input c.args.self.now _ _ refl;
  unread = λ input none. refl;
  counted = omega arith;
  source_faults = omega arith;
  sink_faults = omega arith;
}

-- all of the rest were rows
pub loop-done-preserved : goal.loop-done-preserved
loop-done-preserved g c = record {
  below = omega (arith, c.loop-done.invariant.below, c.walk-done.ensures.most);
  passed = λ input fed.
      passed-on _ _ input _ _ _ _ _ _ (c.loop-done.invariant.passed input) c.walk-done.ensures.walks c.walk-done.ensures.count fed;
  unread = λ input none.
      c.loop-done.invariant.unread input
      (unread_before c.loop-done.done (c.loop-done.done + c.walk-done.result) (first c.args.self.now.state input) (omega arith) none);
  counted = let before = c.loop-done.invariant.counted in let count = c.walk-done.ensures.count in omega arith;
  source_faults = c.loop-done.invariant.source_faults;
  sink_faults = c.loop-done.invariant.sink_faults;
}

-- rows, and one turn that goes on
pub loop-done-preserved-in-None : goal.loop-done-preserved-in-None
loop-done-preserved-in-None g c =
    let i = c.loop-done.done + c.walk-done.result in
    record {
      below = omega (arith, c.if-done-n.true);
      passed = λ input fed.
          passed-more _ _ _ _ _ _ _ _ _ _ _ (λ a b. b ∙ a)
          (passed-on _ _ input _ _ _ _ _ _ (c.loop-done.invariant.passed input) c.walk-done.ensures.walks c.walk-done.ensures.count (feeds_shorter _ input i (i + 1) (first c.args.self.now.state input) (omega arith) fed))
          (c.in-None.ensures.turned tt) fed;
      unread = λ input none.
          let before = unread_before i (i + 1) (first c.args.self.now.state input) (omega arith) none in
          c.in-None.ensures.unread tt _ (unread_parts _ _ _ _ _ _ _ (passed-on _ _ input _ _ _ _ _ _ (c.loop-done.invariant.passed input) c.walk-done.ensures.walks c.walk-done.ensures.count (inr before)) none)
          ∙ c.loop-done.invariant.unread input (unread_before c.loop-done.done i (first c.args.self.now.state input) (omega arith) before);
      counted =
          let before = c.loop-done.invariant.counted in
          let walked = c.walk-done.ensures.count in
          let count = c.in-None.ensures.count in
          omega arith;
      source_faults = let a = c.loop-done.invariant.source_faults in let b = c.in-None.ensures.source_faults in omega arith;
      sink_faults = let a = c.loop-done.invariant.sink_faults in let b = c.in-None.ensures.sink_faults in omega arith;
    }

pub returns-in-Some-clause-ending : goal.returns-in-Some-clause-ending
returns-in-Some-clause-ending g c = λ plain input fed.
    (finished _ _ input _ _ _ _ _ _ _ _ _ (c.turn.new.sink ≡ c.args.sink.now) c.if-done-n.true (λ a b. b ∙ a)
    (passed-on _ _ input _ _ _ _ _ _ (c.loop-done.invariant.passed input) c.walk-done.ensures.walks c.walk-done.ensures.count) (c.in-Some.ensures.turned plain) fed).ending_is

pub returns-in-Some-clause-stands : goal.returns-in-Some-clause-stands
returns-in-Some-clause-stands g c = λ plain input fed.
    (finished _ _ input _ _ _ _ _ _ _ _ _ (c.turn.new.sink ≡ c.args.sink.now) c.if-done-n.true (λ a b. b ∙ a)
    (passed-on _ _ input _ _ _ _ _ _ (c.loop-done.invariant.passed input) c.walk-done.ensures.walks c.walk-done.ensures.count) (c.in-Some.ensures.turned plain) fed).stands

pub returns-in-Some-clause-no_write : goal.returns-in-Some-clause-no_write
returns-in-Some-clause-no_write g c = λ plain input fed.
    (finished _ _ input _ _ _ _ _ _ _ _ _ (c.turn.new.sink ≡ c.args.sink.now) c.if-done-n.true (λ a b. b ∙ a)
    (passed-on _ _ input _ _ _ _ _ _ (c.loop-done.invariant.passed input) c.walk-done.ensures.walks c.walk-done.ensures.count) (c.in-Some.ensures.turned plain) fed).unwritten

pub returns-in-Some-clause-no_read : goal.returns-in-Some-clause-no_read
returns-in-Some-clause-no_read g c = λ plain input none.
    let i = c.loop-done.done + c.walk-done.result in
    let below = c.if-done-n.true in
    let before = unread_before i c.args.n (first c.args.self.now.state input) (omega arith) none in
    let with_turn = unread_before (i + 1) c.args.n (first c.args.self.now.state input) (omega arith) none in
    c.in-Some.ensures.unread plain _ (unread_parts _ _ _ _ _ _ _ (passed-on _ _ input _ _ _ _ _ _ (c.loop-done.invariant.passed input) c.walk-done.ensures.walks c.walk-done.ensures.count (inr before)) with_turn)
    ∙ c.loop-done.invariant.unread input (unread_before c.loop-done.done i (first c.args.self.now.state input) (omega arith) before)

pub returns-in-Some-clause-read_fault : goal.returns-in-Some-clause-read_fault
returns-in-Some-clause-read_fault g c = λ e.
    let i = c.loop-done.done + c.walk-done.result in
    let stands = c.in-Some.ensures.read_call (ap Some e) in
    let sink = c.in-Some.ensures.read_sink (ap Some e) in
    let before = c.loop-done.invariant.counted in
    let count = c.walk-done.ensures.count in
    cut_off 2 i c.args.n c.args.self.now c.walk-done.new.self c.turn.new.self _ _ _ (c.loop-done.sink ≡ c.args.sink.now) _
    c.if-done-n.true (omega arith) (λ input fed. (passed-on _ _ input _ _ _ _ _ _ (c.loop-done.invariant.passed input) c.walk-done.ensures.walks c.walk-done.ensures.count fed)) stands.1 stands.0
    (λ all tells. at-some (λ x. g.S.Source.left c.turn.new.source ≡ Some x) _ all tells (c.in-Some.ensures.read_left (ap Some e)))
    (ap g.K.Sink.given sink) (ap g.K.Sink.writes sink) (λ input fed none. sink ∙ (passed-on _ _ input _ _ _ _ _ _ (c.loop-done.invariant.passed input) c.walk-done.ensures.walks c.walk-done.ensures.count fed).unwritten none)

pub returns-in-Some-clause-write_fault : goal.returns-in-Some-clause-write_fault
returns-in-Some-clause-write_fault g c = λ e.
    let i = c.loop-done.done + c.walk-done.result in
    let stands = c.in-Some.ensures.write_call (ap Some e) in
    let source = c.in-Some.ensures.write_source (ap Some e) in
    let before = c.loop-done.invariant.counted in
    let count = c.walk-done.ensures.count in
    cut_off 1 i c.args.n c.args.self.now c.walk-done.new.self c.turn.new.self _ _ _ (c.loop-done.sink ≡ c.args.sink.now) _
    c.if-done-n.true (omega arith) (λ input fed. (passed-on _ _ input _ _ _ _ _ _ (c.loop-done.invariant.passed input) c.walk-done.ensures.walks c.walk-done.ensures.count fed)) stands.1 stands.0 (λ all tells. ap g.S.Source.left source ∙ tells)
    (c.in-Some.ensures.write_given (ap Some e)) (c.in-Some.ensures.writes (ap Some e))
    (λ input fed none.
    source ∙ c.loop-done.invariant.unread input (unread_before c.loop-done.done i (first c.args.self.now.state input) (omega arith) none))
