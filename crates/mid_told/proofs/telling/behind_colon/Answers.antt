-- A colon stands in front of a text that is not empty.
use Rattle.std.proofs.Common.{◌≡◌, ℕ, List, [], ◌∷◌, ◌++◌, length, refl, ap, ◌∙◌}
use Rattle.mid_told.specs.Telling.{behind}
use Rattle.mid_told.proofs.telling.behind_colon.Goals as goal

behind_some : (text : List ℕ) → (length text ≡ 0 → ⊥) → 58 ∷ text ≡ behind text
behind_some [] some = absurd (some refl)
behind_some (b ∷ bs) some = refl

pub returns : goal.returns
returns c =
    c.in_ok-append.ensures.ok ∙ ap (λ x. x ++ c.as_slice.result.now) (c.in_ok-push.ensures.ok ∙ ap (λ x. x ++ 58 ∷ []) c.new-told.ensures)
    ∙ ap (λ x. 58 ∷ x) c.as_slice.ensures ∙ behind_some c.args.text (λ e. c.if-len-eq0.false (c.len.ensures ∙ e))
