-- The answer to a command, action by action.
use Rattle.std.proofs.Common.{refl}
use Rattle.top_main.specs.Answers.{was_plain, was_check, was_build, was_exec}
use Rattle.top_main.proofs.Outcomes.{obeyed, of_no_shelf}
use Rattle.top_main.proofs.main_call.act.Goals as goal

pub returns-in-Run : goal.returns-in-Run
returns-in-Run g c = obeyed _ _ _ _ _ _ _ _ _ _ _ _ _ _ c.in-Run.is tt (λ m. absurd m) c.run_file.ensures

pub returns-in-Show : goal.returns-in-Show
returns-in-Show g c = obeyed _ _ _ _ _ _ _ _ _ _ _ _ _ _ c.in-Show.is tt (λ m. absurd m) c.run_file-in-Show.ensures

pub returns-in-Check : goal.returns-in-Check
returns-in-Check g c = was_check c.in-Check.is refl refl c.requires.empty c.check_file.ensures

pub returns-in-Build : goal.returns-in-Build
returns-in-Build g c = was_build c.in-Build.is refl c.build_file.ensures

pub returns-in-Exec : goal.returns-in-Exec
returns-in-Exec g c = was_exec c.in-Exec.is c.requires.empty c.exec_file.ensures

pub returns-in-Plain : goal.returns-in-Plain
returns-in-Plain g c = was_plain c.in-Plain.is c.requires.empty c.plain_file.ensures

pub returns-in-Make : goal.returns-in-Make
returns-in-Make g c =
    obeyed _ _ _ _ _ _ _ _ _ _ _ _ _ _ c.in-Make.is tt (λ m. refl) (of_no_shelf _ _ _ _ _ _ _ _ _ _ _ _ _ (c.make_text.ensures _))
