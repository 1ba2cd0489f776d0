-- One more name, and one more whole row.
use Rattle.std.proofs.Common.{◌≡◌, ◌++◌, ◌∷◌, [], ◌==◌, ℕ, false, length, Some, if◌then◌else◌, sym, ap, ◌∙◌}
use Rattle.std.specs.Ordering.{nat_cmp}
use Rattle.std.specs.BTreeMap.{get}
use Rattle.lang_meaning.specs.Lookup.{is_in}
use Rattle.lang_dispatch.specs.Methods.{names_of, new_row}
use Rattle.lang_dispatch.proofs.Naming.{IsIndexed-more, names-more, length-names, at_is-equal}
use Rattle.lang_dispatch.proofs.Taking.{whole-new_row}
use Rattle.lang_dispatch.proofs.generics.Generics.define.Goals as goal

pub invariant_of-self-in-Ok : goal.invariant_of-self-in-Ok
invariant_of-self-in-Ok c =
    let rows = c.self.inside.rows in
    let n = c.args.name.0 in
    let pushed : c.push.new.self ≡ rows ++ new_row c.args.name c.args.required c.args.rest ∷ [] = rw (← c.new.ensures) c.in_ok-push.ensures.ok in
    let absent : is_in n (names_of rows) ≡ false = rw c.self.view_is c.requires in
    let number : c.len-number.result ≡ length (names_of rows) = c.len-number.ensures ∙ sym (length-names rows) in
    let updates = λ (q : ℕ). c.in-Ok.ensures.updates.0 q
    ∙ ap (λ b. if b then Some c.len-number.result else get nat_cmp c.self.inside.numbers q) (at_is-equal n q)
    ∙ ap (λ k. if n == q then Some k else get nat_cmp c.self.inside.numbers q) number in
    rw (pushed, names-more rows (new_row c.args.name c.args.required c.args.rest)) (
      IsIndexed-more (names_of rows) c.self.inside.numbers c.insert.new.self n c.self.invariant.0 absent updates,
      whole-new_row rows c.args.name c.args.required c.args.rest c.self.invariant.1,
    )
