-- What the machine's run says, as what a run of the image says.
use Rattle.rv_machine.specs.Run.{outside}
use Rattle.top_exec.proofs.Ran.{Ran, comes}
use Rattle.top_exec.proofs.image_run.run_machine.Goals as goal

pub returns-clause-comes : goal.returns-clause-comes
returns-clause-comes g c =
    let left = g.S.Source.left c.args.input.now in
    let left' = g.S.Source.left c.run-ending.new.source in
    let given = g.O.Sink.given c.args.out.now in
    let given' = g.O.Sink.given c.run-ending.new.sink in
    let writes = g.O.Sink.writes c.args.out.now in
    let writes' = g.O.Sink.writes c.run-ending.new.sink in
    let run = c.run-ending.ensures in
    let ran : Ran c.args.image.now c.args.bounds.arena c.args.bounds.steps c.run-ending.result c.in_ok-machine.machine c.run-ending.new.self (outside left given writes) (outside left' given' writes') = record {
      began = c.in_ok-machine.ensures.state;
      counted = c.in_ok-machine.ensures.count;
      is_ending = run.ending;
      stands = run.stands;
      ReadOther = _;
      read_fault = run.read_fault;
      WriteOther = _;
      write_fault = run.write_fault;
    } in
    comes c.args.image.now c.args.bounds.arena c.args.bounds.steps c.in_ok-machine.machine c.run-ending.new.self (outside left given writes) (outside left' given' writes')
    (record { ending = c.run-ending.result; site = c.register-site.result; executed = c.count-executed.result })
    c.register-site.ensures.exact c.count-executed.ensures ran
