-- The class itself is left out, and the others are the same.
use Rattle.std.proofs.Common.{◌≡◌, ◌-◌, ◌≤◌, true, length, take, drop, sym, ◌∙◌, arith, rules}
use Rattle.std.proofs.lemmas.Slice.Eq.{bytes_eq-Decides}
use Rattle.front_cells.proofs.Flagging.{left_out, rest_whole}
use Rattle.front_cells.proofs.copies.adds_none.Goals as goal

pub returns-then-eq : goal.returns-then-eq
returns-then-eq c = λ _.
    let list = c.args.list.now in
    let unset : c.is_unset.result ≡ true = search rules in
    let some : 1 ≤ length list = omega (arith, c.in-len1-up.len_at_least) in
    let same : take (length list - 1) (drop 1 list) ≡ c.args.other.now =
    (bytes_eq-Decides (take (length list - 1) (drop 1 list)) c.args.other.now).0 (sym c.eq.ensures ∙ c.if-eq.true) in
    left_out c.args.flags.now list c.args.other.now some (λ column f. c.is_unset.ensures column f unset) (sym (rest_whole list some) ∙ same)
