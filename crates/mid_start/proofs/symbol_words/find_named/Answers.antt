-- Only at the place of the name can its symbol stand.
use Rattle.std.proofs.Common.{sym, ◌∙◌}
use Rattle.std.proofs.lemmas.Option.{slice_get_past}
use Rattle.mid_start.proofs.SymbolLists.{none_without_place, none_at_place, other_at_place, found_at_place}
use Rattle.mid_start.proofs.symbol_words.find_named.Goals as goal

pub returns-in_default : goal.returns-in_default
returns-in_default c = sym (none_without_place c.args.list.now c.args.places.now c.requires c.args.name (slice_get_past c.args.places.now c.args.name.0 c.in_default.ensures))

pub returns-in_default-get : goal.returns-in_default-get
returns-in_default-get c =
    sym (none_at_place c.args.list.now c.args.places.now c.requires c.args.name c.in-Some.place.now c.in-Some.ensures
    (slice_get_past c.args.list.now c.in-Some.place.now c.in_default-get.ensures))

pub returns-then-is_named : goal.returns-then-is_named
returns-then-is_named c =
    sym (found_at_place c.args.list.now c.args.places.now c.requires c.args.name c.in-Some.place.now c.in-Some-get.entry.now c.in-Some.ensures c.in-Some-get.ensures
    (sym c.is_named.ensures ∙ c.if-is_named.true))

pub returns-else-is_named : goal.returns-else-is_named
returns-else-is_named c =
    sym (other_at_place c.args.list.now c.args.places.now c.requires c.args.name c.in-Some.place.now c.in-Some-get.entry.now c.in-Some.ensures c.in-Some-get.ensures
    (sym c.is_named.ensures ∙ c.if-is_named.false))
