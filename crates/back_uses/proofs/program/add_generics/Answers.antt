-- The name of one generic function more is added.
use Rattle.std.proofs.Common.{List, [], ◌∷◌, map, refl}
use Rattle.lang_meaning.specs.declared.program.GenericRow.{GenericRow}
use Rattle.back_words.specs.Uses.{as_symbol}
use Rattle.back_uses.proofs.Adding.{one_more}
use Rattle.back_uses.proofs.program.add_generics.Goals as goal

pub loop-at-preserved : goal.loop-at-preserved
loop-at-preserved c =
    one_more (λ (gs : List GenericRow). map (λ (g : GenericRow). as_symbol g.name.0) gs) (λ (g : GenericRow). as_symbol g.name.0 ∷ []) refl (λ g gs. refl)
    c.args.generics.now c.loop-at.at c.in-Some.generic.now c.in-Some.ensures c.loop-at.invariant c.in_ok-add_symbol.ensures
