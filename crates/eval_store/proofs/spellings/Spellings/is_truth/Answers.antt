-- A name has the text of t where its number is that of t.
use Rattle.std.proofs.Common.{◌∙◌, ap, nat_eq}
use Rattle.eval_store.proofs.Spelt.{truth_told, no_truth_told}
use Rattle.eval_store.proofs.spellings.Spellings.is_truth.Goals as goal

pub returns-in-Some : goal.returns-in-Some
returns-in-Some c = λ names x. ap (λ n. nat_eq n c.in-Some.truth) c.number.ensures ∙ truth_told names c.args.self c.args.name.0 c.in-Some.truth c.in-Some.is x

pub returns-in-None : goal.returns-in-None
returns-in-None c = λ names x. no_truth_told names c.args.self c.args.name.0 c.in-None.is x
