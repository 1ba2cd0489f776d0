-- A method that is taken changes no name.
use Rattle.std.proofs.Common.{◌≡◌, true, sym, ap, ◌∙◌}
use Rattle.lang_dispatch.specs.Methods.{takes_at, taken_by}
use Rattle.lang_dispatch.proofs.Naming.{names-with_method}
use Rattle.lang_dispatch.proofs.Taking.{whole-with_method, either_way}
use Rattle.lang_dispatch.proofs.generics.Generics.add_method.Goals as goal

pub invariant_of-self : goal.invariant_of-self
invariant_of-self c =
    let rows = c.self.inside.rows in
    let fits : takes_at rows c.args.generic c.args.rest c.args.method ≡ true =
    ap (λ o. taken_by o c.args.rest c.args.method) c.in-Some.ensures ∙ sym c.if-not-takes.ensures in
    either_way c.push_method.result c.push_method.ensures.ok c.push_method.ensures.err
    (λ e. rw (e, names-with_method rows c.args.generic c.args.method)
    (c.self.invariant.0, whole-with_method rows c.args.generic c.args.rest c.args.method c.self.invariant.1 fits))
    (λ e. rw e c.self.invariant)
