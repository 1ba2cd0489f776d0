-- The name has its place where its symbol stands behind the others.
use Rattle.std.proofs.Common.{◌≡◌, None, ◌∙◌, ap}
use Rattle.base.specs.declared.datum.Symbol.TheVariants.{Named}
use Rattle.mid_start.specs.Symbols.{word_of_symbol, IsIndexed}
use Rattle.mid_start.proofs.SymbolLists.{indexed_longer, indexed_named}
use Rattle.mid_start.proofs.symbol_words.SymbolWords.push_named.Goals as goal

pub invariant_of-self : goal.invariant_of-self
invariant_of-self c = indexed_longer c.self.inside.list c.self.inside.places c.reach.new.places c.self.invariant c.reach.ensures.same

pub invariant_of-self-in_err-push : goal.invariant_of-self-in_err-push
invariant_of-self-in_err-push c =
    rw c.in_err-push.ensures.err (indexed_longer c.self.inside.list c.self.inside.places c.reach.new.places c.self.invariant c.reach.ensures.same)

pub invariant_of-self-2 : goal.invariant_of-self-2
invariant_of-self-2 c =
    let new : word_of_symbol (Named c.args.name) c.self.inside.list ≡ None = ap (word_of_symbol (Named c.args.name)) c.self.view_is ∙ c.requires.new in
    let more : IsIndexed c.self.inside.list c.reach.new.places =
    indexed_longer c.self.inside.list c.self.inside.places c.reach.new.places c.self.invariant c.reach.ensures.same in
    rw (c.in_ok-push.ensures.ok, c.replace.ensures.now, c.len-place.ensures)
    (indexed_named c.self.inside.list c.reach.new.places c.args.entry c.args.name more new c.requires.named c.in_ok-reach.ensures.there)
