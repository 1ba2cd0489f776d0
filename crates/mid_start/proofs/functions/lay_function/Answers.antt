-- Two words are pushed.
use Rattle.std.proofs.Common.{◌+◌, ◌*◌, ◌∷◌, [], ◌++◌, refl, ap, ◌∙◌, append_assoc}
use Rattle.mid_start.proofs.FunctionObjects.{function_made}
use Rattle.mid_start.proofs.functions.lay_function.Goals as goal

pub returns-in_ok-push-in-Procedure-2-clause-made :
    goal.returns-in_ok-push-in-Procedure-2-clause-made
returns-in_ok-push-in-Procedure-2-clause-made c names =
    function_made names c.args.callee c.args.words.now _ _
    (rw c.in-Procedure.is
    (record {
      first = refl;
      symbols = refl;
      words = c.in_ok-push-in-Procedure-2.ensures.ok ∙ ap (λ ws. ws ++ c.in-Procedure.procedure ∷ []) c.in_ok-push-in-Procedure.ensures.ok ∙ append_assoc c.args.words.now.words (4 ∷ [])
          (c.in-Procedure.procedure ∷ []);
    }))
    (ap (λ n. n + 2) c.end_address-word.ensures)

pub returns-in_ok-push-in-Generic-2-clause-made : goal.returns-in_ok-push-in-Generic-2-clause-made
returns-in_ok-push-in-Generic-2-clause-made c names =
    function_made names c.args.callee c.args.words.now _ _
    (rw c.in-Generic.is
    (record {
      first = refl;
      symbols = refl;
      words = c.in_ok-push-in-Generic-2.ensures.ok ∙ ap (λ ws. ws ++ 4 * c.in-Generic.generic ∷ []) c.in_ok-push-in-Generic.ensures.ok ∙ append_assoc c.args.words.now.words (5 ∷ [])
          (4 * c.in-Generic.generic ∷ []);
    }))
    (ap (λ n. n + 2) c.end_address-word.ensures)
