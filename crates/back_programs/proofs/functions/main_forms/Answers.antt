-- One main form more.
use Rattle.std.proofs.Common.{ℕ, List, refl, map}
use Rattle.flat_language.specs.FlatForm.{FlatForm}
use Rattle.back_lowering.specs.Program as lowering
use Rattle.back_procedures.proofs.Walking.{walked_step}
use Rattle.back_programs.proofs.functions.main_forms.Goals as goal

pub loop-i-preserved : goal.loop-i-preserved
loop-i-preserved c =
    let g = c.args.given.now in
    walked_step (λ (p : ℕ) (fs : List FlatForm). map (lowering.main_form g.names.now g.at.now g.program.now) fs)
    (λ (p : ℕ) (f : FlatForm). lowering.main_form g.names.now g.at.now g.program.now f)
    (λ p x xs. refl) _ c.loop-i.list c.main_behind.new.list g.program.now.main 0 c.loop-i.i c.in-Some.form.now
    c.in-Some.ensures c.loop-i.invariant c.in_ok-main_behind.ensures
