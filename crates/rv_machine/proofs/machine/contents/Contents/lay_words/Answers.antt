use Rattle.std.proofs.Common.{◌≤◌, ◌/◌, length, ap, ◌∙◌, arith}
use Rattle.rv_machine.specs.Memory.{bytes_of}
use Rattle.rv_machine.specs.State.{laid}
use Rattle.rv_machine.specs.Held.{Held}
use Rattle.rv_machine.specs.Words.{words-count}
use Rattle.rv_machine.proofs.Laid.{overwritten, length-laid}
use Rattle.rv_machine.proofs.machine.contents.Contents.lay_words.Goals as goal

pub lay-requires : goal.lay-requires
lay-requires c =
    let count = words-count c.self.inside.arena.items in
    let same = ap (λ (h : Held). length h.memory / 4) c.self.view_is in
    let there = ap length c.deref_mut.ensures.value in
    omega (arith, c.requires)

pub returns-clause-memory : goal.returns-clause-memory
returns-clause-memory c =
    let count = words-count c.self.inside.arena.items in
    let same = ap (λ (h : Held). length h.memory / 4) c.self.view_is in
    let there = ap length c.deref_mut.ensures.value in
    let fits : length c.args.words.now ≤ length c.deref_mut.result.now = omega (arith, c.requires) in
    let long = ap length c.lay.ensures ∙ length-laid c.args.words.now (length c.deref_mut.result.now) fits in
    ap bytes_of
    (overwritten c.self.inside.arena.items c.lay.new.arena c.self.inside.arena.len (omega arith) (omega (arith, c.deref_mut.ensures.len))
    ∙ (c.lay.ensures ∙ ap (laid c.args.words.now) (omega arith)))
