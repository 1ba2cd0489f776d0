-- Names are told apart by their numbers as their texts are: what crates above need of spellings.
use Rattle.std.proofs.Common.{◌≡◌, ℕ, ◌<◌, ◌≤◌, ◌==◌, List, [], length, Some, sym, ◌∙◌, ap, refl, ⊎_elim}
use Rattle.std.specs.Bool.{Decides}
use Rattle.std.specs.Str.{bytes_eq}
use Rattle.std.proofs.lemmas.Bool.{cases_lt, lt-ltb, le-ltb}
use Rattle.std.proofs.lemmas.Bool.Decides.{Decides-eqb, same_from_decides}
use Rattle.std.proofs.lemmas.List.{get_or_past}
use Rattle.std.proofs.lemmas.Option.{slice_get-get_or}
use Rattle.std.proofs.lemmas.Slice.Eq.{bytes_eq-Decides}
use Rattle.lang_meaning.specs.Lookup.{text}
use Rattle.eval_store.specs.declared.spellings.Spellings.{Spellings}
use Rattle.eval_store.specs.Spelling.{number_of, IsSpelling}

-- a name in the table and one outside
pub inside : (names : List (List ℕ)) (s : Spellings) (n : ℕ) → IsSpelling names s → n < length names → number_of s n ≡ n
inside names s n x h =
    let k : n < s.known = rw x.known h in
    rw (lt-ltb n s.known k) refl

outside : (names : List (List ℕ)) (s : Spellings) (n : ℕ) → IsSpelling names s → length names ≤ n → number_of s n ≡ s.blank
outside names s n x h =
    let k : s.known ≤ n = rw x.known h in
    rw (le-ltb n s.known k) refl

-- the number of a name has its text
pub same_text : (names : List (List ℕ)) (s : Spellings) (n : ℕ) → IsSpelling names s → text names (number_of s n) ≡ text names n
same_text names s n x =
    ⊎_elim
    (λ (h : n < length names). ap (text names) (inside names s n x h))
    (λ (h : length names ≤ n). ap (text names) (outside names s n x h) ∙ x.blank ∙ sym (get_or_past names n [] h))
    (cases_lt n (length names))

-- and names with the same text have the same number
pub same_number : (names : List (List ℕ)) (s : Spellings) (n m : ℕ) → IsSpelling names s → text names n ≡ text names m → number_of s n ≡ number_of s m
same_number names s n m x e =
    ⊎_elim
    (λ (h : n < length names).
    ⊎_elim
    (λ (k : m < length names).
    inside names s n x h
    ∙ x.table.once n m (text names n) (slice_get-get_or names n [] h) (slice_get-get_or names m [] k ∙ ap Some (sym e))
    ∙ sym (inside names s m x k))
    (λ (k : length names ≤ m). inside names s n x h ∙ x.only n h (e ∙ get_or_past names m [] k) ∙ sym (outside names s m x k))
    (cases_lt m (length names)))
    (λ (h : length names ≤ n).
    ⊎_elim
    (λ (k : m < length names). outside names s n x h ∙ sym (x.only m k (sym e ∙ get_or_past names n [] h)) ∙ sym (inside names s m x k))
    (λ (k : length names ≤ m). outside names s n x h ∙ sym (outside names s m x k))
    (cases_lt m (length names)))
    (cases_lt n (length names))

-- so one test is the other
pub told : (names : List (List ℕ)) (s : Spellings) (n m : ℕ) → IsSpelling names s
    → (number_of s n == number_of s m) ≡ bytes_eq (text names n) (text names m)
told names s n m x =
    let numbers : Decides (number_of s n == number_of s m) (number_of s n ≡ number_of s m) = Decides-eqb (number_of s n) (number_of s m) in
    let texts : Decides (bytes_eq (text names n) (text names m)) (text names n ≡ text names m) = bytes_eq-Decides (text names n) (text names m) in
    same_from_decides {P = number_of s n ≡ number_of s m} (number_of s n == number_of s m) (bytes_eq (text names n) (text names m)) numbers
    (λ h. same_number names s n m x (texts.0 h), λ e. texts.1 (sym (same_text names s n x) ∙ ap (text names) e ∙ same_text names s m x))
