-- What is seen of an image that was built.
use Rattle.top_main.proofs.Seen.{seen}
use Rattle.top_main.proofs.run.run.Goals as goal

pub run_built-ran-requires-clause-is_image : goal.run_built-ran-requires-clause-is_image
run_built-ran-requires-clause-is_image g c = seen _ _ c.in-Ok.built c.in-Ok.ensures.image c.in-Ok.ensures.size c.in-Ok.ensures.reached_size

pub run_built-ran-requires-clause-tells : goal.run_built-ran-requires-clause-tells
run_built-ran-requires-clause-tells g c =
    c.law_conditions_told.ensures c.args.whole.now.names c.args.whole.now.program c.in-Ok.built.symbols c.in-Ok.built.image c.in-Ok.ensures.image

pub returns-in-Err-clause-counted : goal.returns-in-Err-clause-counted
returns-in-Err-clause-counted g c = λ done image is. absurd (cc)
