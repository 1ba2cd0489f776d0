-- Where a form begins the tables are as whole as in front of it, and after a stop they are as they were.
use Rattle.std.proofs.Common.{◌≡◌, Option, refl, ap, subst, sym, ◌∙◌, arith}
use Rattle.front_profile.specs.declared.mark.Mark.{Mark}
use Rattle.front_profile.specs.declared.tables.Tables.{Tables}
use Rattle.front_profile.specs.Marks.{TablesGrow}
use Rattle.front_profile.specs.Cuts.{mark_of, ReachesMark, opened}
use Rattle.front_profile.specs.bridge.Cutting.{grown_reaches, closed_grown}
use Rattle.front_scope.specs.Cells.{IsCountBefore, IsCountAfter}
use Rattle.front_scope.specs.Scopes.{nodes_of, IsWhole}
use Rattle.front_scope.proofs.Keeping.{opened_whole, before_opened, counted_now}
use Rattle.front_cells.specs.declared.count.CellCount.{CellCount}
use Rattle.front_scope.proofs.scope.Scope.form.Goals as goal

pub take_form-requires-clause-mark : goal.take_form-requires-clause-mark
take_form-requires-clause-mark g c = subst (λ (t : Tables). t.before ≡ mark_of t) (sym c.in_ok-before.ensures.opened) refl

pub take_form-requires-clause-nodes : goal.take_form-requires-clause-nodes
take_form-requires-clause-nodes g c =
    subst (λ (t : Tables). c.self.inside.nodes ≡ nodes_of t) (sym c.in_ok-before.ensures.opened) c.self.invariant.0

pub take_form-requires-clause-whole : goal.take_form-requires-clause-whole
take_form-requires-clause-whole g c =
    subst (λ (t : Tables). IsWhole t) (sym c.in_ok-before.ensures.opened) (opened_whole c.self.inside.tables c.self.invariant.1.0)

pub take_form-requires-clause-cells : goal.take_form-requires-clause-cells
take_form-requires-clause-cells g c =
    subst (λ (t : Tables). IsCountBefore t c.self.inside.cells) (sym c.in_ok-before.ensures.opened)
    (before_opened c.self.inside.tables c.self.inside.cells c.self.invariant.1.1)

pub close-requires-clause-built_in : goal.close-requires-clause-built_in
close-requires-clause-built_in g c =
    let grown : TablesGrow (opened c.self.inside.tables) c.take_form.new.tables =
    subst (λ (t : Tables). TablesGrow t c.take_form.new.tables) c.in_ok-before.ensures.opened c.take_form.ensures.grows in
    omega (arith, ap (λ (m : Mark). m.classes) grown.before, c.self.invariant.1.0.between.whole.sound.classes.hierarchy.enough)

pub close-requires-clause-reaches : goal.close-requires-clause-reaches
close-requires-clause-reaches g c =
    let grown : TablesGrow (opened c.self.inside.tables) c.take_form.new.tables =
    subst (λ (t : Tables). TablesGrow t c.take_form.new.tables) c.in_ok-before.ensures.opened c.take_form.ensures.grows in
    subst (λ (m : Mark). ReachesMark m c.take_form.new.tables) (sym grown.before) (grown_reaches (opened c.self.inside.tables) c.take_form.new.tables grown)

pub invariant_of-self-in-Err : goal.invariant_of-self-in-Err
invariant_of-self-in-Err g c =
    let grown : TablesGrow (opened c.self.inside.tables) c.take_form.new.tables =
    subst (λ (t : Tables). TablesGrow t c.take_form.new.tables) c.in_ok-before.ensures.opened c.take_form.ensures.grows in
    let same : c.close.new.tables ≡ c.self.inside.tables =
    c.close.ensures
    ∙ closed_grown c.self.inside.tables c.take_form.new.tables _ grown c.self.invariant.1.0.between.whole.sound.classes.hierarchy.classes.paired c.in_ok-before.ensures.before in
    subst (λ (t : Tables). (c.self.inside.nodes ≡ nodes_of t) × (IsWhole t × IsCountBefore t c.self.inside.cells)) (sym same) c.self.invariant

pub returns-in-Err-clause-unchanged : goal.returns-in-Err-clause-unchanged
returns-in-Err-clause-unchanged g c =
    let grown : TablesGrow (opened c.self.inside.tables) c.take_form.new.tables =
    subst (λ (t : Tables). TablesGrow t c.take_form.new.tables) c.in_ok-before.ensures.opened c.take_form.ensures.grows in
    let same : c.close.new.tables ≡ c.self.inside.tables =
    c.close.ensures
    ∙ closed_grown c.self.inside.tables c.take_form.new.tables _ grown c.self.invariant.1.0.between.whole.sound.classes.hierarchy.classes.paired c.in_ok-before.ensures.before in
    same ∙ c.self.view_is

pub invariant_of-self-in-Some : goal.invariant_of-self-in-Some
invariant_of-self-in-Some g c =
    let is = c.in-Ok.ensures in
    let after = subst (λ (o : Option CellCount). IsCountAfter c.take_form.new.tables c.self.inside.cells o) c.in-Some.is is.cells in
    (is.nodes, (is.whole, counted_now c.take_form.new.tables c.in-Some.cells after))
