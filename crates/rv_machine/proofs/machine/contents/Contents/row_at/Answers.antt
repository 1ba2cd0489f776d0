use Rattle.std.proofs.Common.{ap, sym, ◌∙◌, refl, arith, ◌<◌, length, get_or}
use Rattle.rv_machine.specs.Held.{Held, standing}
use Rattle.rv_machine.proofs.Rows.{row_steps, get_or-any}
use Rattle.rv_machine.specs.declared.machine.rows.Row.TheVariants.{Leave}
use Rattle.rv_machine.proofs.machine.contents.Contents.row_at.Goals as goal

pub returns-clause-steps : goal.returns-clause-steps
returns-clause-steps c =
    let count = ap (λ (h : Held). h.rows) c.self.view_is in
    let within : c.args.place < length c.self.inside.rows.items = omega (arith, count, c.requires) in
    row_steps c.self.inside.rows.items c.self.inside.arena.items c.index.result.now c.args.place (standing c.args.place c.args.self.now) c.self.invariant.3
    c.self.invariant.1 within (let read = c.word_of-word.ensures ∙ ap (λ words. get_or words c.args.place 0) c.as_slice.ensures.value in omega (arith, c.word_of-word.type_inv))
    (c.index.ensures ∙ get_or-any c.self.inside.rows.items c.args.place c.index.result.now Leave within) refl
    (sym (ap (λ (h : Held). h.memory) c.self.view_is))
