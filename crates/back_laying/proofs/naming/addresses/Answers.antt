-- One name more.
use Rattle.std.proofs.Common.{◌++◌, ◌∷◌, [], ap, sym, ◌∙◌, map, arith}
use Rattle.std.specs.List.{range_with_len}
use Rattle.std.proofs.lemmas.List.FromFn.{map-range_with_len_more}
use Rattle.lang_meaning.specs.Lookup.{text}
use Rattle.back_words.specs.Variables.{address_among}
use Rattle.back_laying.proofs.naming.addresses.Goals as goal

pub loop-number-preserved : goal.loop-number-preserved
loop-number-preserved c =
    let f = address_among (text c.args.names.now) c.args.start c.args.firsts.now in
    c.in_ok-push.ensures.ok
    ∙ ap (λ ws. ws ++ c.address_of.result ∷ []) c.loop-number.invariant
    ∙ ap (λ w. map f (range_with_len 0 c.loop-number.number) ++ w ∷ []) c.address_of.ensures
    ∙ sym (map-range_with_len_more f 0 c.loop-number.number c.loop-number.number (omega arith))
