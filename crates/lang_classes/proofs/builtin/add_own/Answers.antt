-- One slot more, under its name.
use Rattle.std.proofs.Common.{◌≡◌, Some, [], ◌∷◌, ◌++◌, slice_get, refl, sym, ap, ◌∙◌, subst}
use Rattle.base.specs.Names.{Extends, Extends-with_text}
use Rattle.lang_classes.specs.InheritedBuiltIn.{own_initarg}
use Rattle.lang_classes.proofs.BuiltIns.{says-more}
use Rattle.lang_classes.proofs.builtin.add_own.Goals as goal

pub returns-clause-own : goal.returns-clause-own
returns-clause-own c = λ ts s.
    let later : Extends c.args.names.now c.intern.new.self =
    subst (Extends c.args.names.now) (sym c.in_ok-name.ensures.after) (Extends-with_text c.args.names.now c.as_bytes.result.now) in
    let text : slice_get c.intern.new.self c.in_ok-name.name.0 ≡ Some c.args.text.now = c.in_ok-name.ensures.name ∙ ap Some c.as_bytes.ensures.value in
    let initargs : c.in_ok-initargs.initargs ≡ c.in_ok-name.name ∷ [] = c.in_ok-initargs.ensures in
    let slots : c.push.new.self ≡ c.args.own.now ++ own_initarg c.in_ok-name.name ∷ [] = c.in_ok-push.ensures.ok ∙ rw initargs refl in
    says-more c.args.names.now c.intern.new.self ts c.args.own.now c.push.new.self c.in_ok-name.name c.args.text.now later text slots s
