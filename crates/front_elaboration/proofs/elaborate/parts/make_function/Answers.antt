-- What its forms mention, the body mentions.
use Rattle.std.proofs.Common.{◌≡◌, ◌∙◌, rules}
use Rattle.std.specs.List.{filter}
use Rattle.lang_meaning.specs.Mentions.{mentions}
use Rattle.front_profile.specs.Elaborations.{body_of}
use Rattle.front_elaboration.proofs.Gathered.{body_captures}
use Rattle.front_elaboration.proofs.elaborate.parts.make_function.Goals as goal

pub returns : goal.returns
returns c =
    let parts : c.in-Ok.parts ≡ filter (λ p. mentions p (body_of c.args.forms)) c.args.around.now =
    c.in-Ok.ensures ∙ body_captures c.args.mentioned.now c.args.forms c.args.around.now c.requires in
    search rules
