-- Each of the built-in classes of the code is the one of its number.
use Rattle.std.proofs.Common.{◌≡◌, ◌∙◌, ℕ, zero, suc, ◌+◌, ◌<◌, List, [], ◌∷◌, Some, length, slice_get, slice_index_or, refl, sym, ap, arith}
use Rattle.std.proofs.lemmas.List.{length-map}
use Rattle.std.proofs.lemmas.Option.{slice_get-map, slice_get-get_or}
use Rattle.lang_meaning.specs.declared.classes.BuiltInClass.{BuiltInClass}
use Rattle.lang_meaning.specs.BuiltInRows.{IsBuiltIn, AreBuiltIn, lists_from}

list_at : (i : ℕ) (cs : List BuiltInClass) (k : ℕ) (c : BuiltInClass) → slice_get cs k ≡ Some c
    → slice_get (lists_from i cs) k ≡ Some ((i + k) ∷ c.above.now)
list_at i [] k c h = absurd (cc)
list_at i (d ∷ ds) zero c h =
    let same : d ≡ c = cc in
    let number : i + 0 ≡ i = omega arith in
    rw (number, same) refl
list_at i (d ∷ ds) (suc k) c h =
    let number : i + suc k ≡ i + 1 + k = omega arith in
    rw number (list_at (i + 1) ds k c h)

pub built_in_at : (classes : List BuiltInClass) (number : ℕ) (c : BuiltInClass) → AreBuiltIn classes → slice_get classes number ≡ Some c
    → IsBuiltIn number c
built_in_at classes number c x h =
    let from_none : 0 + number ≡ number = omega arith in
    record {
      name = ap (λ xs. slice_get xs number) (sym x.names) ∙ slice_get-map (λ d. d.name.now) classes number ∙ rw h refl;
      precedence = ap (λ xs. slice_get xs number) (sym x.precedence) ∙ list_at 0 classes number c h ∙ ap (λ n. Some (n ∷ c.above.now)) from_none;
      slots = ap (λ xs. slice_get xs number) (sym x.slots) ∙ slice_get-map (λ d. d.slots) classes number ∙ rw h refl;
    }

-- the same where the class is the one at that place
pub built_in_there : (classes : List BuiltInClass) (number : ℕ) (c : BuiltInClass) → AreBuiltIn classes → number < length classes
    → c ≡ slice_index_or classes number c → IsBuiltIn number c
built_in_there classes number c x there same =
    built_in_at classes number c x (slice_get-get_or classes number c there ∙ ap Some (sym same))

-- there are 34
pub as_many : (classes : List BuiltInClass) → AreBuiltIn classes → length classes ≡ 34
as_many classes x = sym (length-map classes (λ c. c.name.now)) ∙ ap length x.names
