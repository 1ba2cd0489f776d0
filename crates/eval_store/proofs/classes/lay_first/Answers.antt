-- The classes, and the streams behind those that are built in.
use Rattle.std.proofs.Common.{subst, sym}
use Rattle.lang_meaning.specs.Objects.{built_in_classes}
use Rattle.eval_store.specs.Recipes.{IsMadeBy}
use Rattle.eval_store.specs.Parts.{first_recipe}
use Rattle.eval_store.specs.Tables.{first_values}
use Rattle.eval_store.proofs.ClassRange.{first_made}
use Rattle.eval_store.proofs.classes.lay_first.Goals as goal

pub returns : goal.returns
unfolding first_recipe
returns c =
    subst (λ ws. IsMadeBy first_values (λ names. first_recipe c.args.classes) c.args.store.now c.lay_classes-2.new.store (record { classes = ws; input = c.in_ok-input.input; output = c.in_ok-output.output })) (sym c.in_ok-append_list.ensures.ok)
    (first_made built_in_classes c.args.classes c.in_ok-words.ensures c.in_ok-input.ensures c.in_ok-output.ensures c.in_ok-others.ensures)
