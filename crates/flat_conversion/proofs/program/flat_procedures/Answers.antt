-- One more is made flat; and at the end all are.
use Rattle.std.proofs.Common.{◌≤◌, refl, ap, ◌∙◌, length, arith}
use Rattle.flat_language.specs.Scope.{no_scope}
use Rattle.flat_language.specs.Flatten.{flat_procedure, body_scope, inner_procedures}
use Rattle.flat_conversion.specs.Places.{scope_of}
use Rattle.flat_conversion.proofs.Going.{gone_on, one_procedure, procedure_inside, procedure_count, procedure_counted, procedure_front, procedures_so}
use Rattle.flat_conversion.proofs.Made.{viewed, seen_in}
use Rattle.flat_conversion.proofs.program.flat_procedures.Goals as goal

pub loop-at-preserved : goal.loop-at-preserved
loop-at-preserved c =
    let x = c.in-Some.row.now in
    let table = c.args.binders.now in
    let ks = c.new-captured.result in
    let made = c.in_ok-procedure.ensures in
    record {
      alone = ap scope_of made.same ∙ c.loop-at.invariant.alone;
      going = gone_on one_procedure procedure_inside procedure_count procedure_front table procedure_counted c.args.list.now c.args.progress.now c.loop-at.at c.loop-at.made c.loop-at.progress c.procedure.new.progress x _ c.push.new.self
          c.loop-at.invariant.going c.in-Some.ensures c.in_ok-push.ensures.ok
          (λ rest e. viewed (λ y. y) (λ n. flat_procedure no_scope n ks x.required x.rest x.body) (λ n. procedure_inside n x) (λ n. one_procedure n x) (λ n. procedure_inside n x) table _ _ _ rest
          (λ n. ap (λ k. flat_procedure no_scope n k x.required x.rest x.body) c.new-captured.ensures) (λ n. refl)
          (seen_in (λ s n. flat_procedure s n ks x.required x.rest x.body) (λ s n. inner_procedures (body_scope x.required x.rest x.body s) n x.body) (procedure_front x) table no_scope _ _ _ _ _ c.loop-at.invariant.alone made rest e));
    }

pub returns : goal.returns
returns c =
    let xs = c.args.list.now in
    let all : length xs ≤ c.loop-at.at = omega (arith, c.loop-at-test.false, c.len-at-end.ensures) in
    (c.loop-at.invariant.alone, procedures_so c.args.binders.now xs c.args.progress.now c.loop-at.at c.loop-at.made c.loop-at.progress c.loop-at.invariant.going all)
