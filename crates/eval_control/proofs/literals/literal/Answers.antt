-- An atom, an object of the initial heap, or a condition.
use Rattle.std.proofs.Common.{Some, None, refl, ap, ◌∙◌}
use Rattle.std.proofs.lemmas.Option.{slice_get_past}
use Rattle.lang_meaning.specs.declared.program.LiteralRow.TheVariants as row
use Rattle.lang_meaning.specs.Literals.{function_row}
use Rattle.lang_meaning.specs.InitialHeap.{function_value}
use Rattle.lang_meaning.specs.Lookup.{text}
use Rattle.lang_meaning.specs.State.{value}
use Rattle.flat_language.specs.FlatNodes.{tables}
use Rattle.flat_language.specs.FlatState.{gives}
use Rattle.eval_machine.specs.Applications.{signal_undefined}
use Rattle.eval_machine.specs.Configuration.{configuration, come_to, ended}
use Rattle.eval_store.specs.declared.word.Word.TheVariants.{Nil}
use Rattle.eval_state.specs.View.{setting_of, at}
use Rattle.eval_state.proofs.Givens.{layout}
use Rattle.eval_state.proofs.Stepping.{on_ok}
use Rattle.eval_control.proofs.LiteralValues.{literal_is, named_function, undefined_literal}
use Rattle.eval_control.proofs.literals.literal.Goals as goal

pub returns-in-None : goal.returns-in-None
returns-in-None c =
    let m = c.args.machine.now in
    literal_is m c.gives.new.self c.args.id c.args.situation None Nil (slice_get_past m.given.program.now.literals c.args.id c.in-None.ensures)
    (λ names fs z g. refl) c.gives.ensures

pub returns-in-Some-Datum : goal.returns-in-Some-Datum
returns-in-Some-Datum c =
    let m = c.args.machine.now in
    literal_is m c.gives-in-Some-Datum.new.self c.args.id c.args.situation (Some (row.Datum c.in-Some-Datum.field-0-0)) c.literal_word.result
    (c.in-Some-Datum.ensures ∙ ap Some c.in-Some-Datum.field-0-is)
    (λ names fs z g. ap (λ v. configuration (come_to (value v)) fs z)
    (c.literal_word.ensures names (tables m.given.program.now) c.in-Some-Datum.field-0-0 (layout names m.given g)
    (c.in-Some-Datum.ensures ∙ ap Some c.in-Some-Datum.field-0-is)))
    c.gives-in-Some-Datum.ensures

pub returns-in-Some-Class : goal.returns-in-Some-Class
returns-in-Some-Class c =
    let m = c.args.machine.now in
    literal_is m c.gives-in-Some-Class.new.self c.args.id c.args.situation (Some (row.Class c.in-Some-Class.class)) c.class_word.result
    (c.in-Some-Class.ensures ∙ ap Some c.in-Some-Class.field-0-is)
    (λ names fs z g. ap (λ v. configuration (come_to (value v)) fs z) (c.class_word.ensures names (tables m.given.program.now) (layout names m.given g)))
    c.gives-in-Some-Class.ensures

pub returns-in-Some : goal.returns-in-Some
returns-in-Some c =
    let m = c.args.machine.now in
    let q = c.args.situation in
    let n = c.in-Some-Function.name in
    literal_is m c.gives-in-Some.new.self c.args.id q (Some (row.Function n)) c.function_word.result
    (c.in-Some-Function.ensures ∙ ap Some c.in-Some-Function.field-0-is)
    (λ names fs z g.
    ap (λ v. configuration (come_to (value v)) fs z) (c.function_word.ensures names (tables m.given.program.now) (layout names m.given g))
    ∙ named_function (function_row names m.given.program.now.functions (text names n.0)) c.in-Some.field-0
    (signal_undefined (setting_of names m.given) (text names n.0) (at names m q).level (at names m q).around)
    (λ rest y. ended (gives (function_value names (tables m.given.program.now) (text names n.0)) y) rest) fs z
    (c.in-Some.ensures names (tables m.given.program.now) (layout names m.given g)))
    c.gives-in-Some.ensures

pub returns-in-None-callee : goal.returns-in-None-callee
returns-in-None-callee c =
    let m = c.args.machine.now in
    on_ok c.signal_undefined.result _ _
    (undefined_literal m c.signal_undefined.new.self c.args.id c.args.situation c.in-Some-Function.name
    (c.in-Some-Function.ensures ∙ ap Some c.in-Some-Function.field-0-is)
    (λ names g. c.in-None-callee.ensures names (tables m.given.program.now) (layout names m.given g)))
    c.signal_undefined.ensures
