-- What was written is the primitive's procedure, of which all of it holds.
use Rattle.std.proofs.Common.{◌≡◌, true, subst, sym}
use Rattle.std.proofs.lemmas.Result.{IfOk-weaker}
use Rattle.mid_code.specs.Checked.{is_checked}
use Rattle.mid_arena.specs.Answers.{IsPrimitive}
use Rattle.mid_arena.specs.CodeCosts.{cost_of, procedure_cost}
use Rattle.mid_arena.specs.Codes.{procedure_of}
use Rattle.mid_arena.proofs.EachPrimitive.{each_does, each_checked, each_costs}
use Rattle.mid_arena.proofs.writing.primitive.Goals as goal

pub returns-clause-does : goal.returns-clause-does
returns-clause-does c =
    IfOk-weaker c.written.result (λ p. p ≡ procedure_of c.args.which) (λ p. IsPrimitive c.args.which p)
    (λ p e. subst (λ q. IsPrimitive c.args.which q) (sym e) (each_does c.args.which)) c.written.ensures

pub returns-clause-checked : goal.returns-clause-checked
returns-clause-checked c =
    IfOk-weaker c.written.result (λ p. p ≡ procedure_of c.args.which) (λ p. is_checked p ≡ true)
    (λ p e. subst (λ q. is_checked q ≡ true) (sym e) (each_checked c.args.which)) c.written.ensures

pub returns-clause-costs : goal.returns-clause-costs
returns-clause-costs c =
    IfOk-weaker c.written.result (λ p. p ≡ procedure_of c.args.which) (λ p. procedure_cost p ≡ cost_of c.args.which)
    (λ p e. subst (λ q. procedure_cost q ≡ cost_of c.args.which) (sym e) (each_costs c.args.which)) c.written.ensures
