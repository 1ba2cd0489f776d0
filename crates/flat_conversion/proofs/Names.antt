-- What a name stands for, as a map by its number finds it.
use Rattle.std.proofs.Common.{◌≡◌, ℕ, ◌==◌, List, [], ◌∷◌, Some, refl, ap, ◌∙◌, if◌then◌else◌}
use Rattle.std.specs.Cmp.{unsigned_tied}
use Rattle.std.specs.Ordering.{nat_cmp}
use Rattle.std.specs.Map.{lookup}
use Rattle.std.specs.BTreeMap.{is_at}
use Rattle.flat_language.specs.FlatState.{under}

pub found_under : {X : Type 0} (n : ℕ) (ps : List (ℕ × X)) → lookup (is_at (nat_cmp n)) ps ≡ under n ps
found_under n [] = refl
found_under n (p ∷ ps) =
    ap (λ b. if b then Some p.1 else lookup (is_at (nat_cmp n)) ps) (unsigned_tied n p.0) ∙ ap (λ o. if n == p.0 then Some p.1 else o) (found_under n ps)
