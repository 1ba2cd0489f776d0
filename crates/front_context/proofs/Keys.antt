-- What a symbol stands for, as a map by the order of symbols finds it.
use Rattle.std.proofs.Common.{◌≡◌, ℕ, ◌==◌, ◌&&◌, Bool, List, [], ◌∷◌, Some, refl, ap, ◌∙◌, if◌then◌else◌}
use Rattle.std.specs.Cmp.{unsigned_tied}
use Rattle.std.specs.declared.cmp.Ordering.{Ordering}
use Rattle.std.specs.declared.cmp.Ordering.TheVariants.{Less, Equal, Greater}
use Rattle.std.specs.Ordering.{is_eq, nat_cmp, ordering_then}
use Rattle.std.specs.Map.{lookup}
use Rattle.std.specs.BTreeMap.{is_at}
use Rattle.base.specs.contracts.datum.SymbolOrd.TheImpl.{ghosts as order}
use Rattle.base.specs.declared.datum.Symbol.{Symbol}
use Rattle.base.specs.declared.datum.Symbol.TheVariants.{Named, Fresh}
use Rattle.front_profile.specs.Names.{same_symbol}
use Rattle.front_context.specs.Spaces.{under}

-- one number after another
both_equal : (x y : Ordering) → is_eq (ordering_then x y) ≡ (is_eq x && is_eq y)
both_equal Less y = refl
both_equal Equal y = refl
both_equal Greater y = refl

-- symbols are told apart by their order
same_order : (x y : Symbol) → is_eq (order.cmp x y) ≡ same_symbol x y
same_order (Named n) (Named m) = unsigned_tied n.0 m.0
same_order (Named n) (Fresh e s) = refl
same_order (Fresh e s) (Named n) = refl
same_order (Fresh e s) (Fresh f t) =
    both_equal (nat_cmp e f) (nat_cmp s t) ∙ ap (λ b. b && is_eq (nat_cmp s t)) (unsigned_tied e f) ∙ ap (λ b. e == f && b) (unsigned_tied s t)

pub found_under : {X : Type 0} (x : Symbol) (es : List (Symbol × X)) → lookup (is_at (order.cmp x)) es ≡ under x es
found_under x [] = refl
found_under x (e ∷ es) =
    ap (λ b. if b then Some e.1 else lookup (is_at (order.cmp x)) es) (same_order x e.0) ∙ ap (λ o. if same_symbol x e.0 then Some e.1 else o) (found_under x es)
