-- Tables that have grown reach back to their mark, and cut to it they are as before.
use Rattle.std.proofs.Common.{◌≡◌, ◌∙◌, ◌≤◌, List, length, take, refl, ap, sym, arith}
use Rattle.std.proofs.lemmas.List.{length-take}
use Rattle.front_profile.specs.declared.tables.Tables.{Tables}
use Rattle.front_profile.specs.Marks.{StandsFirst, TablesGrow}
use Rattle.front_profile.specs.declared.mark.Mark.{Mark}
use Rattle.front_profile.specs.Cuts.{mark_of, ReachesMark, cut_to, opened, closed}
use Rattle.front_profile.specs.bridge.CutGenerics.{there_reach, there_cut}

reaches : {X : Type 0} (xs ys : List X) → StandsFirst xs ys → length xs ≤ length ys
reaches xs ys h = omega (arith, ap length h, length-take (length xs) ys)

pub grown_reaches : (s t : Tables) → TablesGrow s t → ReachesMark (mark_of s) t
grown_reaches s t g = record {
  literals = reaches s.literals t.literals g.literals;
  procedures = reaches s.procedures t.procedures g.procedures;
  functions = reaches s.functions t.functions g.functions;
  macros = reaches s.macros t.macros g.macros;
  prelude = reaches s.prelude t.prelude g.prelude;
  classes = reaches s.classes.rows t.classes.rows g.classes;
  methods = there_reach s.generics t.generics g.generics;
  globals = reaches s.globals t.globals g.globals;
  set = reaches s.set t.set g.set;
  dynamics = reaches s.dynamics t.dynamics g.dynamics;
  sites = reaches s.sites t.sites g.sites;
  fresh = reaches s.fresh t.fresh g.fresh;
  main = reaches s.main t.main g.main;
}

-- each class says something of slots of its own
own_cut : (s t : Tables) → TablesGrow s t → length s.classes.own ≡ length s.classes.rows → take (length s.classes.rows) t.classes.own ≡ s.classes.own
own_cut s t g paired = ap (λ n. take n t.classes.own) (sym paired) ∙ g.slots

pub cut_grown : (s t : Tables) → TablesGrow s t → length s.classes.own ≡ length s.classes.rows → cut_to (mark_of s) t ≡ s
cut_grown s t g paired =
    rw (
      g.words,
      g.classes,
      own_cut s t g paired,
      there_cut s.generics t.generics g.generics,
      g.literals,
      g.procedures,
      g.functions,
      g.macros,
      g.prelude,
      g.globals,
      g.set,
      g.dynamics,
      g.sites,
      g.fresh,
      g.main,
      g.before,
    ) refl

-- where a form stops, the tables are as they were in front of it
pub closed_grown : (s t : Tables) (before : Mark) → TablesGrow (opened s) t → length s.classes.own ≡ length s.classes.rows → before ≡ s.before → closed before t ≡ s
closed_grown s t before g paired same =
    ap (λ m. record (cut_to m t) { before = before }) g.before
    ∙ ap (λ (u : Tables). record u { before = before }) (cut_grown (opened s) t g paired)
    ∙ ap (λ m. record s { before = m }) same
