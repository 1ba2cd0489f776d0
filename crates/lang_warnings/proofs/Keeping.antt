-- Numbers that are kept one after another.
use Rattle.std.proofs.Common.{◌≡◌, ℕ, ◌+◌, ◌==◌, Bool, true, false, ◌||◌, if◌then◌else◌, List, [], ◌∷◌, take, Option, Some, slice_get, is_some, refl, sym, ap, ◌∙◌}
use Rattle.std.specs.Ordering.{nat_cmp}
use Rattle.std.specs.Map.{lookup}
use Rattle.std.specs.BTreeMap.{is_at}
use Rattle.std.specs.Cmp.{unsigned_tied}
use Rattle.std.proofs.lemmas.List.Folds.{list_any-append}
use Rattle.base.specs.model.DataRest.{take_at}
use Rattle.lang_meaning.specs.Lookup.{is_in}
use Rattle.lang_warnings.specs.Known.{Kept, has, AreKept}

or_turned : (a b : Bool) → (a || b) ≡ (b || (a || false))
or_turned true true = refl
or_turned true false = refl
or_turned false true = refl
or_turned false false = refl

some_if : (b : Bool) (o : Option (Unit {0})) → is_some (if b then Some tt else o) ≡ (b || is_some o)
some_if true o = refl
some_if false o = refl

pub none_kept : AreKept [] []
none_kept n = refl

kept_in_front : (n m : ℕ) (old : Kept) → has n ((m, tt) ∷ old) ≡ (n == m || has n old)
kept_in_front n m old =
    some_if (is_at (nat_cmp n) m) (lookup (is_at (nat_cmp n)) old) ∙ ap (λ b. b || has n old) (unsigned_tied n m)

-- the numbers up to a place are kept, and then the one there
pub one_kept : (ns : List ℕ) (at m : ℕ) (old new : Kept) → slice_get ns at ≡ Some m → AreKept (take at ns) old → new ≡ (m, tt) ∷ old
    → AreKept (take (at + 1) ns) new
one_kept ns at m old new there before e n =
    ap (has n) e
    ∙ kept_in_front n m old
    ∙ ap (λ b. n == m || b) (before n)
    ∙ or_turned (n == m) (is_in n (take at ns))
    ∙ sym (list_any-append (λ k. n == k) (take at ns) (m ∷ []))
    ∙ sym (ap (is_in n) (take_at ns at m there))
