-- What one main form more uses is added.
use Rattle.std.proofs.Common.{List, refl}
use Rattle.std.specs.Prelude.{flat_map}
use Rattle.flat_language.specs.FlatForm.{FlatForm}
use Rattle.back_words.specs.Uses.{uses}
use Rattle.back_uses.proofs.Adding.{one_more}
use Rattle.back_uses.proofs.program.add_main.Goals as goal

pub loop-at-preserved : goal.loop-at-preserved
loop-at-preserved c =
    let one = λ (f : FlatForm). uses c.args.lookups.now.names.now c.args.lookups.now.program.now f in
    one_more (λ (fs : List FlatForm). flat_map one fs) one refl (λ f fs. refl)
    c.args.main.now c.loop-at.at c.in-Some.form.now c.in-Some.ensures c.loop-at.invariant c.in_ok-add_uses.ensures
