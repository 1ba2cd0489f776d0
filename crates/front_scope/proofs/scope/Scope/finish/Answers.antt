-- The scope keeps that its tables are a whole program.
use Rattle.front_scope.proofs.Keeping.{put_together_whole}
use Rattle.front_scope.proofs.scope.Scope.finish.Goals as goal

pub new-requires : goal.new-requires
new-requires c =
    put_together_whole c.self.inside.tables c.into_rows.result c.into_rows-2.result c.into_rows.ensures c.into_rows-2.ensures
    (c.law_programs.ensures c.self.inside.tables c.self.invariant.1.0.between c.self.invariant.1.0.small c.self.invariant.1.0.few)
