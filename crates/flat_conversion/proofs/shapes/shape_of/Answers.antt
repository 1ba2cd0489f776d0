-- Kind by kind, as the translation has it.
use Rattle.std.proofs.Common.{refl, sym, ap, ◌∙◌}
use Rattle.lang_meaning.specs.Form as core
use Rattle.lang_meaning.specs.model.View.{view_form, bindings_of, dynamics_of}
use Rattle.flat_language.specs.FlatForm as form
use Rattle.flat_language.specs.Flatten.{flat}
use Rattle.flat_conversion.specs.Places.{scope_of}
use Rattle.flat_conversion.specs.declared.shapes.OverForm.TheVariants as one
use Rattle.flat_conversion.specs.declared.shapes.OverForms.TheVariants as many
use Rattle.lang_meaning.specs.declared.kinds.OverTwo.TheVariants as two
use Rattle.flat_conversion.proofs.Shaping.{made_at, over_form_at, over_two_at, over_forms_at}
use Rattle.flat_conversion.proofs.shapes.shape_of.Goals as goal

pub returns-in-Literal : goal.returns-in-Literal
unfolding flat
returns-in-Literal c =
    made_at _ _ _ _ _ _ c.in-Literal.is (record { same = λ n. refl; alike = λ n. refl; ahead = λ rest. refl })

pub returns-in-Local : goal.returns-in-Local
unfolding flat
returns-in-Local c =
    made_at _ _ _ _ _ _ c.in-Local.is (record { same = λ n. ap form.local c.variable.ensures; alike = λ n. refl; ahead = λ rest. refl })

pub returns-in-SetLocal : goal.returns-in-SetLocal
unfolding flat
returns-in-SetLocal c =
    over_form_at _ _ _ (one.SetLocal c.variable-in-SetLocal.result) _ _ c.in-SetLocal.is c.deref.ensures (refl, record { same = λ n. ap (λ w. form.set_local w (flat (scope_of c.args.places.now) n c.in-SetLocal.value.value)) c.variable-in-SetLocal.ensures; alike = λ n. refl; ahead = λ rest. refl })

pub returns-in-Global : goal.returns-in-Global
unfolding flat
returns-in-Global c =
    made_at _ _ _ _ _ _ c.in-Global.is (record { same = λ n. refl; alike = λ n. refl; ahead = λ rest. refl })

pub returns-in-SetGlobal : goal.returns-in-SetGlobal
unfolding flat
returns-in-SetGlobal c =
    over_form_at _ _ _ (one.SetGlobal c.in-SetGlobal.name) _ _ c.in-SetGlobal.is c.deref-in-SetGlobal.ensures (refl, record { same = λ n. refl; alike = λ n. refl; ahead = λ rest. refl })

pub returns-in-DefGlobal : goal.returns-in-DefGlobal
unfolding flat
returns-in-DefGlobal c =
    over_form_at _ _ _ (one.DefGlobal c.in-DefGlobal.name) _ _ c.in-DefGlobal.is c.deref-in-DefGlobal.ensures (refl, record { same = λ n. refl; alike = λ n. refl; ahead = λ rest. refl })

pub returns-in-Clauses : goal.returns-in-Clauses
unfolding flat
returns-in-Clauses c =
    ap view_form c.in-Clauses.is

pub returns-in-Sequence : goal.returns-in-Sequence
unfolding flat
returns-in-Sequence c =
    over_forms_at _ _ _ many.Sequence _ c.in-Sequence.is (refl, record { same = λ n. refl; alike = λ n. refl; ahead = λ rest. refl })

pub returns-in-Let : goal.returns-in-Let
unfolding flat
returns-in-Let c =
    ap view_form c.in-Let.is ∙ ap (core.let_form (bindings_of c.in-Let.list)) (sym c.deref-in-Let.ensures)

pub returns-in-Lambda : goal.returns-in-Lambda
unfolding flat
returns-in-Lambda c =
    ap view_form c.in-Lambda.is ∙ ap (λ f. core.lambda c.in-Lambda.required c.in-Lambda.rest f c.in-Lambda.parts) (sym c.deref-in-Lambda.ensures)

pub returns-in-Call : goal.returns-in-Call
unfolding flat
returns-in-Call c =
    over_forms_at _ _ _ (many.Call c.in-Call.name) _ c.in-Call.is (refl, record { same = λ n. refl; alike = λ n. refl; ahead = λ rest. refl })

pub returns-in-CallValue : goal.returns-in-CallValue
unfolding flat
returns-in-CallValue c =
    over_forms_at _ _ _ many.CallValue _ c.in-CallValue.is (refl, record { same = λ n. refl; alike = λ n. refl; ahead = λ rest. refl })

pub returns-in-Apply : goal.returns-in-Apply
unfolding flat
returns-in-Apply c =
    over_two_at _ _ _ two.Apply _ _ _ _ c.in-Apply.is c.deref-in-Apply.ensures c.deref-in-Apply-2.ensures (refl, record { same = λ n. refl; alike = λ n. refl; ahead = λ rest. refl })

pub returns-in-Prim : goal.returns-in-Prim
unfolding flat
returns-in-Prim c =
    over_forms_at _ _ _ (many.Prim c.in-Prim.which) _ c.in-Prim.is (refl, record { same = λ n. refl; alike = λ n. refl; ahead = λ rest. refl })

pub returns-in-While : goal.returns-in-While
unfolding flat
returns-in-While c =
    over_two_at _ _ _ two.While _ _ _ _ c.in-While.is c.deref-in-While.ensures c.deref-in-While-2.ensures (refl, record { same = λ n. refl; alike = λ n. refl; ahead = λ rest. refl })

pub returns-in-Block : goal.returns-in-Block
unfolding flat
returns-in-Block c =
    ap view_form c.in-Block.is ∙ ap (core.block c.in-Block.exit) (sym c.deref-in-Block.ensures)

pub returns-in-Return : goal.returns-in-Return
unfolding flat
returns-in-Return c =
    over_form_at _ _ _ (one.Return c.exit.result) _ _ c.in-Return.is c.deref-in-Return.ensures (refl, record { same = λ n. ap (λ w. form.return_from w (flat (scope_of c.args.places.now) n c.in-Return.value.value)) c.exit.ensures; alike = λ n. refl; ahead = λ rest. refl })

pub returns-in-Tagbody : goal.returns-in-Tagbody
unfolding flat
returns-in-Tagbody c =
    ap view_form c.in-Tagbody.is

pub returns-in-Go : goal.returns-in-Go
unfolding flat
returns-in-Go c =
    made_at _ _ _ _ _ _ c.in-Go.is (record { same = λ n. ap (λ w. form.go w c.in-Go.segment) c.exit-in-Go.ensures; alike = λ n. refl; ahead = λ rest. refl })

pub returns-in-Catch : goal.returns-in-Catch
unfolding flat
returns-in-Catch c =
    over_two_at _ _ _ two.Catch _ _ _ _ c.in-Catch.is c.deref-in-Catch.ensures c.deref-in-Catch-2.ensures (refl, record { same = λ n. refl; alike = λ n. refl; ahead = λ rest. refl })

pub returns-in-Throw : goal.returns-in-Throw
unfolding flat
returns-in-Throw c =
    over_two_at _ _ _ two.Throw _ _ _ _ c.in-Throw.is c.deref-in-Throw.ensures c.deref-in-Throw-2.ensures (refl, record { same = λ n. refl; alike = λ n. refl; ahead = λ rest. refl })

pub returns-in-Unwind : goal.returns-in-Unwind
unfolding flat
returns-in-Unwind c =
    over_two_at _ _ _ two.Unwind _ _ _ _ c.in-Unwind.is c.deref-in-Unwind.ensures c.deref-in-Unwind-2.ensures (refl, record { same = λ n. refl; alike = λ n. refl; ahead = λ rest. refl })

pub returns-in-DynamicLet : goal.returns-in-DynamicLet
unfolding flat
returns-in-DynamicLet c =
    ap view_form c.in-DynamicLet.is ∙ ap (core.dynamic_let (dynamics_of c.in-DynamicLet.list)) (sym c.deref-in-DynamicLet.ensures)

pub returns-in-Dynamic : goal.returns-in-Dynamic
unfolding flat
returns-in-Dynamic c =
    made_at _ _ _ _ _ _ c.in-Dynamic.is (record { same = λ n. refl; alike = λ n. refl; ahead = λ rest. refl })

pub returns-in-SetDynamic : goal.returns-in-SetDynamic
unfolding flat
returns-in-SetDynamic c =
    over_form_at _ _ _ (one.SetDynamic c.in-SetDynamic.name) _ _ c.in-SetDynamic.is c.deref-in-SetDynamic.ensures (refl, record { same = λ n. refl; alike = λ n. refl; ahead = λ rest. refl })

pub returns-in-DefDynamic : goal.returns-in-DefDynamic
unfolding flat
returns-in-DefDynamic c =
    over_form_at _ _ _ (one.DefDynamic c.in-DefDynamic.name) _ _ c.in-DefDynamic.is c.deref-in-DefDynamic.ensures (refl, record { same = λ n. refl; alike = λ n. refl; ahead = λ rest. refl })

pub returns-in-WithHandler : goal.returns-in-WithHandler
unfolding flat
returns-in-WithHandler c =
    over_two_at _ _ _ two.WithHandler _ _ _ _ c.in-WithHandler.is c.deref-in-WithHandler.ensures c.deref-in-WithHandler-2.ensures (refl, record { same = λ n. refl; alike = λ n. refl; ahead = λ rest. refl })

pub returns-in-Signal : goal.returns-in-Signal
unfolding flat
returns-in-Signal c =
    over_two_at _ _ _ two.Signal _ _ _ _ c.in-Signal.is c.deref-in-Signal.ensures c.deref-in-Signal-2.ensures (refl, record { same = λ n. refl; alike = λ n. refl; ahead = λ rest. refl })

pub returns-in-Continue : goal.returns-in-Continue
unfolding flat
returns-in-Continue c =
    over_two_at _ _ _ two.Continue _ _ _ _ c.in-Continue.is c.deref-in-Continue.ensures c.deref-in-Continue-2.ensures (refl, record { same = λ n. refl; alike = λ n. refl; ahead = λ rest. refl })

pub returns-in-NextMethod : goal.returns-in-NextMethod
unfolding flat
returns-in-NextMethod c =
    made_at _ _ _ _ _ _ c.in-NextMethod.is (record { same = λ n. ap form.next_method c.method.ensures; alike = λ n. refl; ahead = λ rest. refl })

pub returns-in-HasNext : goal.returns-in-HasNext
unfolding flat
returns-in-HasNext c =
    made_at _ _ _ _ _ _ c.in-HasNext.is (record { same = λ n. ap form.has_next c.method-in-HasNext.ensures; alike = λ n. refl; ahead = λ rest. refl })

pub returns-in-Sited : goal.returns-in-Sited
unfolding flat
returns-in-Sited c =
    over_form_at _ _ _ (one.Sited c.in-Sited.site) _ _ c.in-Sited.is c.deref-in-Sited.ensures (refl, record { same = λ n. refl; alike = λ n. refl; ahead = λ rest. refl })
