-- Each form does what its kind does.
use Rattle.std.proofs.Common.{ap, sym, ◌∙◌}
use Rattle.flat_language.specs.FlatForm.{set_local, set_global, def_global, let_form, apply, while_form, block, return_from, catch_form, throw, unwind, dynamic_let, set_dynamic, def_dynamic, with_handler, signal_form, continue_form, sited}
use Rattle.flat_language.specs.model.View.{view_form, bindings_of, dynamics_of}
use Rattle.eval_control.proofs.Beginning.{begun_as, bindings_begun, dynamics_begun}
use Rattle.eval_control.proofs.forms.begin_kind.Goals as goal

pub returns-in-Literal : goal.returns-in-Literal
returns-in-Literal c = begun_as c.literal.result _ _ c.args.situation _ _ (ap view_form c.in-Literal.is) c.literal.ensures

pub returns-in-Local : goal.returns-in-Local
returns-in-Local c = begun_as c.local.result _ _ c.args.situation _ _ (ap view_form c.in-Local.is) c.local.ensures

pub returns-in-Clauses : goal.returns-in-Clauses
returns-in-Clauses c = begun_as c.clauses.result _ _ c.args.situation _ _ (ap view_form c.in-Clauses.is) c.clauses.ensures

pub returns-in-Sequence : goal.returns-in-Sequence
returns-in-Sequence c = begun_as c.sequence.result _ _ c.args.situation _ _ (ap view_form c.in-Sequence.is) c.sequence.ensures

pub returns-in-Let : goal.returns-in-Let
returns-in-Let c = begun_as c.bindings.result _ _ c.args.situation _ _ (ap view_form c.in-Let.is ∙ ap (λ v. let_form (bindings_of c.in-Let.list) v) (sym c.deref.ensures)) (bindings_begun c.bindings.result _ _ c.args.situation (bindings_of c.in-Let.list) c.deref.result.now c.bindings.ensures)

pub returns-in-MakeFunction : goal.returns-in-MakeFunction
returns-in-MakeFunction c = begun_as c.make_function.result _ _ c.args.situation _ _ (ap view_form c.in-MakeFunction.is) c.make_function.ensures

pub returns-in-While : goal.returns-in-While
returns-in-While c = begun_as c.loop_turn.result _ _ c.args.situation _ _ (ap view_form c.in-While.is ∙ ap (λ v. while_form v c.in-While.body.value) (sym c.deref-in-While.ensures) ∙ ap (λ v. while_form c.deref-in-While.result.now v) (sym c.deref-in-While-2.ensures)) c.loop_turn.ensures

pub returns-in-Block : goal.returns-in-Block
returns-in-Block c = begun_as c.block.result _ _ c.args.situation _ _ (ap view_form c.in-Block.is ∙ ap (λ v. block v) (sym c.deref-in-Block.ensures)) c.block.ensures

pub returns-in-Tagbody : goal.returns-in-Tagbody
returns-in-Tagbody c = begun_as c.tagbody.result _ _ c.args.situation _ _ (ap view_form c.in-Tagbody.is) c.tagbody.ensures

pub returns-in-Go : goal.returns-in-Go
returns-in-Go c = begun_as c.go.result _ _ c.args.situation _ _ (ap view_form c.in-Go.is) c.go.ensures

pub returns-in-DynamicLet : goal.returns-in-DynamicLet
returns-in-DynamicLet c = begun_as c.dynamics.result _ _ c.args.situation _ _ (ap view_form c.in-DynamicLet.is ∙ ap (λ v. dynamic_let (dynamics_of c.in-DynamicLet.list) v) (sym c.deref-in-DynamicLet.ensures)) (dynamics_begun c.dynamics.result _ _ c.args.situation (dynamics_of c.in-DynamicLet.list) c.deref-in-DynamicLet.result.now c.dynamics.ensures)

pub returns-in-HasNext : goal.returns-in-HasNext
returns-in-HasNext c = begun_as c.has_next.result _ _ c.args.situation _ _ (ap view_form c.in-HasNext.is) c.has_next.ensures

pub returns-in-Sited : goal.returns-in-Sited
returns-in-Sited c = begun_as c.form_at_site.result _ _ c.args.situation _ _ (ap view_form c.in-Sited.is ∙ ap (λ v. sited c.in-Sited.site v) (sym c.deref-in-Sited.ensures)) c.form_at_site.ensures

pub returns-in-SetLocal : goal.returns-in-SetLocal
returns-in-SetLocal c = begun_as c.wait.result _ _ c.args.situation _ _ (ap view_form c.in-SetLocal.is ∙ ap (λ v. set_local c.in-SetLocal.place v) (sym c.deref-in-SetLocal.ensures)) c.wait.ensures

pub returns-in-SetGlobal : goal.returns-in-SetGlobal
returns-in-SetGlobal c = begun_as c.wait-in-SetGlobal.result _ _ c.args.situation _ _ (ap view_form c.in-SetGlobal.is ∙ ap (λ v. set_global c.in-SetGlobal.name.0 v) (sym c.deref-in-SetGlobal.ensures)) c.wait-in-SetGlobal.ensures

pub returns-in-DefGlobal : goal.returns-in-DefGlobal
returns-in-DefGlobal c = begun_as c.wait-in-DefGlobal.result _ _ c.args.situation _ _ (ap view_form c.in-DefGlobal.is ∙ ap (λ v. def_global c.in-DefGlobal.name.0 v) (sym c.deref-in-DefGlobal.ensures)) c.wait-in-DefGlobal.ensures

pub returns-in-Apply : goal.returns-in-Apply
returns-in-Apply c = begun_as c.wait-in-Apply.result _ _ c.args.situation _ _ (ap view_form c.in-Apply.is ∙ ap (λ v. apply v c.in-Apply.list.value) (sym c.deref-in-Apply-2.ensures) ∙ ap (λ v. apply c.deref-in-Apply-2.result.now v) (sym c.deref-in-Apply.ensures)) c.wait-in-Apply.ensures

pub returns-in-Return : goal.returns-in-Return
returns-in-Return c = begun_as c.wait-in-Return.result _ _ c.args.situation _ _ (ap view_form c.in-Return.is ∙ ap (λ v. return_from c.in-Return.exit v) (sym c.deref-in-Return.ensures)) c.wait-in-Return.ensures

pub returns-in-Catch : goal.returns-in-Catch
returns-in-Catch c = begun_as c.wait-in-Catch.result _ _ c.args.situation _ _ (ap view_form c.in-Catch.is ∙ ap (λ v. catch_form v c.in-Catch.body.value) (sym c.deref-in-Catch-2.ensures) ∙ ap (λ v. catch_form c.deref-in-Catch-2.result.now v) (sym c.deref-in-Catch.ensures)) c.wait-in-Catch.ensures

pub returns-in-Throw : goal.returns-in-Throw
returns-in-Throw c = begun_as c.wait-in-Throw.result _ _ c.args.situation _ _ (ap view_form c.in-Throw.is ∙ ap (λ v. throw v c.in-Throw.value.value) (sym c.deref-in-Throw-2.ensures) ∙ ap (λ v. throw c.deref-in-Throw-2.result.now v) (sym c.deref-in-Throw.ensures)) c.wait-in-Throw.ensures

pub returns-in-Unwind : goal.returns-in-Unwind
returns-in-Unwind c = begun_as c.wait-in-Unwind.result _ _ c.args.situation _ _ (ap view_form c.in-Unwind.is ∙ ap (λ v. unwind v c.in-Unwind.cleanup.value) (sym c.deref-in-Unwind-2.ensures) ∙ ap (λ v. unwind c.deref-in-Unwind-2.result.now v) (sym c.deref-in-Unwind.ensures)) c.wait-in-Unwind.ensures

pub returns-in-SetDynamic : goal.returns-in-SetDynamic
returns-in-SetDynamic c = begun_as c.wait-in-SetDynamic.result _ _ c.args.situation _ _ (ap view_form c.in-SetDynamic.is ∙ ap (λ v. set_dynamic c.in-SetDynamic.name.0 v) (sym c.deref-in-SetDynamic.ensures)) c.wait-in-SetDynamic.ensures

pub returns-in-DefDynamic : goal.returns-in-DefDynamic
returns-in-DefDynamic c = begun_as c.wait-in-DefDynamic.result _ _ c.args.situation _ _ (ap view_form c.in-DefDynamic.is ∙ ap (λ v. def_dynamic c.in-DefDynamic.name.0 v) (sym c.deref-in-DefDynamic.ensures)) c.wait-in-DefDynamic.ensures

pub returns-in-WithHandler : goal.returns-in-WithHandler
returns-in-WithHandler c = begun_as c.wait-in-WithHandler.result _ _ c.args.situation _ _ (ap view_form c.in-WithHandler.is ∙ ap (λ v. with_handler v c.in-WithHandler.body.value) (sym c.deref-in-WithHandler-2.ensures) ∙ ap (λ v. with_handler c.deref-in-WithHandler-2.result.now v) (sym c.deref-in-WithHandler.ensures)) c.wait-in-WithHandler.ensures

pub returns-in-Signal : goal.returns-in-Signal
returns-in-Signal c = begun_as c.wait-in-Signal.result _ _ c.args.situation _ _ (ap view_form c.in-Signal.is ∙ ap (λ v. signal_form v c.in-Signal.mark.value) (sym c.deref-in-Signal-2.ensures) ∙ ap (λ v. signal_form c.deref-in-Signal-2.result.now v) (sym c.deref-in-Signal.ensures)) c.wait-in-Signal.ensures

pub returns-in-Continue : goal.returns-in-Continue
returns-in-Continue c = begun_as c.wait-in-Continue.result _ _ c.args.situation _ _ (ap view_form c.in-Continue.is ∙ ap (λ v. continue_form v c.in-Continue.value.value) (sym c.deref-in-Continue-2.ensures) ∙ ap (λ v. continue_form c.deref-in-Continue-2.result.now v) (sym c.deref-in-Continue.ensures)) c.wait-in-Continue.ensures
