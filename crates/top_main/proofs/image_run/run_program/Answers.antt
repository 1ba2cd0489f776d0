-- What a run of the image says, as what a run of the program says.
use Rattle.std.proofs.Common.{◌<◌, arith}
use Rattle.top_main.proofs.Ran.{comes, tells, faults, executes}
use Rattle.top_main.proofs.image_run.run_program.Goals as goal

pub returns-clause-comes : goal.returns-clause-comes
returns-clause-comes g c =
    let below : c.args.bounds.steps < 4294967296 = omega arith in
    comes c.args.whole.now.names c.args.whole.now.program c.args.image.now c.args.bounds.arena c.args.bounds.steps c.requires.is_image c.requires.fits c.requires.most below _ _ _
    c.end_of-end.result c.in_ok-ran.ran.end c.end_of-end.ensures c.in_ok-ran.ensures.comes

pub returns-clause-fault : goal.returns-clause-fault
returns-clause-fault g c =
    faults c.args.whole.now.program.sites c.end_of-end.result c.in_ok-ran.ran.end _ _ c.end_of-end.ensures c.in_ok-ran.ensures.fault

pub returns-clause-executed : goal.returns-clause-executed
returns-clause-executed g c = λ value input bytes feeds.
    executes c.args.whole.now.program.sites _ _ _ _ _ _ c.end_of-end.result c.in_ok-ran.ran.end c.end_of-end.ensures c.in_ok-ran.ensures.comes value input feeds

pub returns-clause-tells : goal.returns-clause-tells
returns-clause-tells g c =
    let below : c.args.bounds.steps < 4294967296 = omega arith in
    tells c.args.whole.now.names c.args.whole.now.program c.args.image.now c.args.bounds.arena c.args.bounds.steps c.requires.is_image c.requires.fits c.requires.most below _ _ _
    c.requires.tells c.in_ok-ran.ran.end c.in_ok-ran.ran.machine.state c.end_of-end.result c.end_of-end.ensures c.in_ok-ran.ensures.comes c.in_ok-ran.ensures.leaves c.told_of-told.result
    c.told_of-told.ensures
