-- Lists that are appended one after another.
use Rattle.std.proofs.Common.{◌≡◌, List, ◌++◌, ap, ◌∙◌, append_assoc}

pub joined : {X : Type 0} (old mid new a b : List X) → mid ≡ old ++ a → new ≡ mid ++ b → new ≡ old ++ (a ++ b)
joined {X} old mid new a b m n = n ∙ ap (λ (l : List X). l ++ b) m ∙ append_assoc old a b
