-- The last entry has what its name stood for before.
use Rattle.std.proofs.Common.{◌-◌, ap, ◌∙◌, length, drop, arith}
use Rattle.base.proofs.NameMaps.{pop_found, pop_bound, last_there, as_many}
use Rattle.base.proofs.name_map.NameMap.release_last.Goals as goal

pub put_back-requires : goal.put_back-requires
put_back-requires g c =
    let xs = c.self.inside.entries in
    last_there g.K.Ord.cmp g.met.K.Ord.total xs c.self.inside.found (c.len-last.result - 1) c.in-Some.entry.now c.self.invariant
    (omega (arith, c.len-last.ensures, c.requires, ap length c.self.view_is, as_many xs)) c.in-Some.ensures

pub invariant_of-self : goal.invariant_of-self
invariant_of-self g c =
    let xs = c.self.inside.entries in
    pop_found g.K.Ord.cmp g.met.K.Ord.total xs _ c.self.inside.found _ (c.len-last.result - 1) c.in-Some.entry.now c.self.invariant
    (omega (arith, c.len-last.ensures, c.requires, ap length c.self.view_is, as_many xs)) c.in-Some.ensures c.put_back.ensures c.cut.ensures

pub returns : goal.returns
returns g c =
    let xs = c.self.inside.entries in
    pop_bound xs _ (c.len-last.result - 1) c.in-Some.entry.now
    (omega (arith, c.len-last.ensures, c.requires, ap length c.self.view_is, as_many xs)) c.in-Some.ensures c.cut.ensures
    ∙ ap (drop 1) c.self.view_is
