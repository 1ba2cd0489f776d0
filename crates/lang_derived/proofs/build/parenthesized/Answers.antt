-- A list with an item.
use Rattle.std.proofs.Common.{◌≡◌, ◌<◌, ◌∷◌, [], List, length, arith, refl, ◌∙◌}
use Rattle.base.specs.Data.{Item, item, list, items_of, no_tail}
use Rattle.base.specs.declared.place.Place.{Place}
use Rattle.lang_derived.specs.Pieces.{in_parens}
use Rattle.lang_derived.proofs.build.parenthesized.Goals as goal

some : (p : Place) (ds : List Item) → 0 < length ds → item p (list (items_of ds) no_tail) ≡ item p (in_parens (items_of ds))
some p [] h = absurd (omega arith)
some p (d ∷ ds) h = refl

pub returns-else-len-eq0 : goal.returns-else-len-eq0
returns-else-len-eq0 c = c.new-else-len-eq0.ensures ∙ some c.args.place c.args.items (omega arith)
