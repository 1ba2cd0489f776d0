use Rattle.std.proofs.Common.{arith}
use Rattle.std.proofs.lemmas.List.Elements.{All-more}
use Rattle.rv_image_file.specs.ImageText.{IsSite}
use Rattle.rv_image_file.proofs.PartBytes.{no_site_put, put_site}
use Rattle.rv_image_file.proofs.parts.put_sites.Goals as goal

pub loop-site-init : goal.loop-site-init
loop-site-init c = (no_site_put c.args.out.now, λ k d h. absurd (omega arith))

pub loop-site-preserved : goal.loop-site-preserved
loop-site-preserved c = (
  put_site c.args.out.now c.loop-site.out c.put_number.new.out _ c.args.sites.now c.loop-site.site-index _ c.loop-site-test.true
      c.loop-site.invariant.0 c.in_ok-put_number.ensures c.in_ok-put_number-2.ensures,
  All-more IsSite c.args.sites.now c.loop-site.site-index (record { line = 0; column = 0 }) c.loop-site-test.true c.loop-site.invariant.1
      (omega arith, omega arith),
)
