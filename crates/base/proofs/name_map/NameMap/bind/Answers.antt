-- A name more is found, and the others as before.
use Rattle.std.proofs.Common.{◌∷◌, sym, ap, ◌∙◌}
use Rattle.std.specs.Map.{lookup}
use Rattle.std.specs.BTreeMap.{is_at}
use Rattle.base.proofs.NameMaps.{push_found, push_bound, again_found, again_bound}
use Rattle.base.proofs.name_map.NameMap.bind.Goals as goal

pub invariant_of-self-in-Ok : goal.invariant_of-self-in-Ok
invariant_of-self-in-Ok g c =
    push_found g.K.Ord.cmp g.met.K.Ord.total c.self.inside.entries _ c.self.inside.found c.insert.new.self (record { name = c.args.name; what = c.args.what; before = c.find-before.result })
    c.self.invariant (c.find-before.ensures ∙ ap (lookup (is_at (g.K.Ord.cmp c.args.name))) (sym c.self.view_is)) c.in-Ok.ensures.updates c.in_ok-push.ensures.ok

pub returns-in-Ok-clause-ok : goal.returns-in-Ok-clause-ok
returns-in-Ok-clause-ok g c =
    push_bound c.self.inside.entries _ (record { name = c.args.name; what = c.args.what; before = c.find-before.result }) c.in_ok-push.ensures.ok
    ∙ ap (λ es. (c.args.name, c.args.what) ∷ es) c.self.view_is

pub invariant_of-self-in-Err : goal.invariant_of-self-in-Err
invariant_of-self-in-Err g c =
    again_found g.K.Ord.cmp g.met.K.Ord.total c.self.inside.entries _ _ c.self.inside.found c.insert.new.self (record { name = c.args.name; what = c.args.what; before = c.find-before.result }) c.len-count.result
    c.self.invariant c.len-count.ensures c.in_ok-push.ensures.ok c.cut.ensures c.in-Err.ensures.err

pub returns-in-Err-clause-err : goal.returns-in-Err-clause-err
returns-in-Err-clause-err g c =
    again_bound c.self.inside.entries _ _ (record { name = c.args.name; what = c.args.what; before = c.find-before.result }) c.len-count.result
    c.len-count.ensures c.in_ok-push.ensures.ok c.cut.ensures
    ∙ c.self.view_is
