-- It is left to see what the rest says.
use Rattle.std.proofs.Common.{◌≡◌, drop}
use Rattle.std.specs.List.{list_any}
use Rattle.lang_derived.specs.Asked.{list_items}
use Rattle.front_profile.specs.Rows.{first_kept}
use Rattle.front_forms.proofs.forms.some_kept.Given as goal

abbrev pub invariant-loop-item : goal.invariant-loop-item
invariant-loop-item l = list_any (λ d. first_kept l.names (list_items d)) (drop l.item-index l.items) ≡ list_any (λ d. first_kept l.names (list_items d)) l.items
