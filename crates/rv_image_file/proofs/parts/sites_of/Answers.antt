use Rattle.std.proofs.Common.{arith}
use Rattle.std.proofs.lemmas.List.Elements.{All-same, All-nil, All-push}
use Rattle.rv_image_file.specs.ImageText.{IsSite}
use Rattle.rv_image_file.proofs.PartBytes.{no_site_taken, take_site}
use Rattle.rv_image_file.proofs.parts.sites_of.Goals as goal

pub loop-at-init : goal.loop-at-init
loop-at-init c = (
  no_site_taken c.args.bytes.now c.new-sites.result c.new-sites.ensures,
  All-same IsSite c.new-sites.result _ c.new-sites.ensures (All-nil IsSite),
)

pub loop-at-preserved : goal.loop-at-preserved
loop-at-preserved c = (
  take_site c.args.bytes.now c.loop-at.sites c.push.new.self c.loop-at.at (record { line = c.number_at-line.result; column = c.number_at-column.result })
      (omega arith) (λ i. omega (arith, c.type_inv.bytes i)) c.number_at-line.ensures c.number_at-column.ensures c.loop-at.invariant.0
      c.in_ok-push.ensures.ok,
  All-same IsSite c.push.new.self _ c.in_ok-push.ensures.ok
      (All-push IsSite c.loop-at.sites (record { line = c.number_at-line.result; column = c.number_at-column.result }) c.loop-at.invariant.1
      (omega (arith, c.number_at-line.type_inv), omega (arith, c.number_at-column.type_inv))),
)
