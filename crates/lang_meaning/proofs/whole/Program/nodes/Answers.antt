-- A whole program has so few nodes that their number is exact.
use Rattle.std.proofs.Common.{◌≡◌, ◌≤◌, subst, arith}
use Rattle.lang_meaning.specs.ProgramCounts.{program_nodes}
use Rattle.lang_meaning.proofs.Bounds.{few_nodes}
use Rattle.lang_meaning.proofs.whole.Program.nodes.Goals as goal

pub returns : goal.returns
returns c =
    let few : program_nodes c.self.inside.rows ≤ 100000 = few_nodes c.self.inside.rows c.self.invariant in
    let exact : c.nodes.result ≡ program_nodes c.self.inside.rows = omega (arith, few, c.nodes.ensures) in
    subst (λ rows. c.nodes.result ≡ program_nodes rows) c.self.view_is exact
