use Rattle.std.proofs.Common.{◌≡◌, ◌++◌, length, drop, ap, ◌∙◌, arith}
use Rattle.std.proofs.lemmas.List.{drop-replicate, length-replicate}
use Rattle.rv_machine.specs.State.{laid}
use Rattle.rv_machine.proofs.Laid.{overwritten, length-laid}
use Rattle.rv_machine.proofs.machine.contents.laid.Goals as goal

-- the words, and of the zeros those behind them
pub returns : goal.returns
returns c =
    let words = c.args.words.now in
    let zeros = c.in_ok-all.ensures in
    let put : c.put_front.new.arena ≡ laid words c.args.arena =
    c.put_front.ensures
    ∙ (ap (λ w. w ++ drop (length w) c.deref_mut.result.now) c.as_slice.ensures
    ∙ (ap (λ all. words ++ drop (length words) all) (c.deref_mut.ensures.value ∙ zeros)
    ∙ ap (λ rest. words ++ rest) (drop-replicate (length words) c.args.arena 0)))
    in
    let long = ap length put ∙ length-laid words c.args.arena c.requires in
    let all = ap length zeros ∙ length-replicate c.args.arena 0 in
    let same = ap length c.deref_mut.ensures.value in
    overwritten c.in_ok-all.all.items c.put_front.new.arena c.in_ok-all.all.len (omega arith) (omega (arith, c.deref_mut.ensures.len)) ∙ put
