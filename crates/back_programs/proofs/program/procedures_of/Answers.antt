-- One kind of procedures behind the other.
use Rattle.std.proofs.Common.{◌≡◌, List, [], ◌∷◌, ◌++◌, length, map, ap, ◌∙◌}
use Rattle.mid_code.specs.declared.program.MidProcedure.{MidProcedure}
use Rattle.back_lowering.specs.Program as lowering
use Rattle.back_programs.proofs.Grouped.{lowered_is}
use Rattle.back_programs.proofs.Joining.{joined}
use Rattle.back_programs.proofs.program.procedures_of.Goals as goal

pub returns : goal.returns
returns c =
    let g = c.args.given.now in
    let after_mains : List MidProcedure = (lowering.start g.names.now g.at.now g.program.now ∷ []) in
    let after_routines : List MidProcedure = map (lowering.main_form g.names.now g.at.now g.program.now) g.program.now.main ++ after_mains in
    let after_primitives : List MidProcedure = lowering.routines g.names.now g.at.now g.program.now ++ after_routines in
    let after_lambda_bodies : List MidProcedure = lowering.primitives g.names.now g.at.now g.program.now ++ after_primitives in
    let after_bodies : List MidProcedure = lowering.lambda_bodies g.names.now g.at.now g.program.now g.program.now.lambdas ++ after_lambda_bodies in
    let after_lambda_entries : List MidProcedure = lowering.bodies_from g.names.now g.at.now g.program.now 0 g.program.now.procedures ++ after_bodies in
    let after_entries : List MidProcedure = lowering.lambda_entries_from g.names.now g.at.now g.program.now (length g.program.now.procedures) g.program.now.lambdas ++ after_lambda_entries in
    let started : c.push.new.self ≡ c.main_forms.new.list ++ after_mains =
    c.in_ok-push.ensures.ok ∙ ap (λ (p : MidProcedure). c.main_forms.new.list ++ (p ∷ [])) c.in_ok-start.ensures in
    joined c.new-list.result c.entries.new.list c.push.new.self (lowering.entries_from g.names.now g.at.now g.program.now 0 g.program.now.procedures) after_entries c.in_ok-entries.ensures
    (joined c.entries.new.list c.lambda_entries.new.list c.push.new.self (lowering.lambda_entries_from g.names.now g.at.now g.program.now (length g.program.now.procedures) g.program.now.lambdas) after_lambda_entries c.in_ok-lambda_entries.ensures
    (joined c.lambda_entries.new.list c.bodies.new.list c.push.new.self (lowering.bodies_from g.names.now g.at.now g.program.now 0 g.program.now.procedures) after_bodies c.in_ok-bodies.ensures
    (joined c.bodies.new.list c.lambda_bodies.new.list c.push.new.self (lowering.lambda_bodies g.names.now g.at.now g.program.now g.program.now.lambdas) after_lambda_bodies c.in_ok-lambda_bodies.ensures
    (joined c.lambda_bodies.new.list c.primitives.new.list c.push.new.self (lowering.primitives g.names.now g.at.now g.program.now) after_primitives c.in_ok-primitives.ensures
    (joined c.primitives.new.list c.routines.new.list c.push.new.self (lowering.routines g.names.now g.at.now g.program.now) after_routines c.in_ok-routines.ensures
    (joined c.routines.new.list c.main_forms.new.list c.push.new.self (map (lowering.main_form g.names.now g.at.now g.program.now) g.program.now.main) after_mains c.in_ok-main_forms.ensures started))))))
    ∙ ap (λ (ps : List MidProcedure). ps ++ (lowering.entries_from g.names.now g.at.now g.program.now 0 g.program.now.procedures ++ after_entries)) c.new-list.ensures
    ∙ lowered_is g.names.now g.at.now g.program.now
