use Rattle.std.proofs.Common.{arith}
use Rattle.std.proofs.lemmas.List.Elements.{All-same, All-nil, All-push}
use Rattle.rv_image_file.specs.ImageText.{IsNumber}
use Rattle.rv_image_file.proofs.PartBytes.{none_taken, take_word}
use Rattle.rv_image_file.proofs.parts.words_of.Goals as goal

pub loop-at-init : goal.loop-at-init
loop-at-init c = (
  none_taken c.args.bytes.now c.new-words.result c.new-words.ensures,
  All-same IsNumber c.new-words.result _ c.new-words.ensures (All-nil IsNumber),
)

pub loop-at-preserved : goal.loop-at-preserved
loop-at-preserved c = (
  take_word c.args.bytes.now c.loop-at.words c.push.new.self c.loop-at.at c.number_at.result (omega arith)
      (λ i. omega (arith, c.type_inv.bytes i)) c.number_at.ensures c.loop-at.invariant.0 c.in_ok-push.ensures.ok,
  All-same IsNumber c.push.new.self _ c.in_ok-push.ensures.ok
      (All-push IsNumber c.loop-at.words c.number_at.result c.loop-at.invariant.1 (omega (arith, c.number_at.type_inv))),
)
