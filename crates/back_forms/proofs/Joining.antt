-- Code behind code.
use Rattle.std.proofs.Common.{◌≡◌, ◌++◌, refl, ap, sym, ◌∙◌, append_assoc}
use Rattle.back_lowering.specs.Steps.{Steps}

-- one part behind another
pub joined : (old mid new a b total : Steps) → mid ≡ old ++ a → new ≡ mid ++ b → total ≡ a ++ b → new ≡ old ++ total
joined old mid new a b total first second e =
    second ∙ ap (λ (c : Steps). c ++ b) first ∙ append_assoc old a b ∙ sym (ap (λ (c : Steps). old ++ c) e)

-- three parts
pub joined_three : (old mid late new a b c total : Steps) → mid ≡ old ++ a → late ≡ mid ++ b → new ≡ late ++ c → total ≡ a ++ (b ++ c) → new ≡ old ++ total
joined_three old mid late new a b c total first second third e =
    joined old mid new a (b ++ c) total first (joined mid late new b c (b ++ c) second third refl) e
