-- A search along a list, some of its things at a time.
use Rattle.std.proofs.Common.{◌≡◌, ℕ, ◌+◌, Bool, true, false, List, [], ◌∷◌, ◌++◌, Some, None, refl, ap, sym, ◌∙◌, arith, zero-add, add_assoc}
use Rattle.lang_meaning.specs.Lookup.{passed}
use Rattle.eval_machine.specs.Configuration.{first_that}

-- how far it has come: what is left, and how many were passed
pub record IsSearching {X : Type 0} (p : X → Bool) (all left : List X) (count : ℕ) : Type 0 where
  pub first : first_that p all ≡ first_that p left
  pub so_far : passed p all ≡ count + passed p left

pub search_begins : {X : Type 0} (p : X → Bool) (all : List X) → IsSearching p all all 0
search_begins p all = record { first = refl; so_far = sym (zero-add (passed p all)) }

none_in_front : {X : Type 0} (p : X → Bool) (xs ys : List X) → first_that p xs ≡ None
    → (first_that p (xs ++ ys) ≡ first_that p ys) × (passed p (xs ++ ys) ≡ passed p xs + passed p ys)
none_in_front p [] ys h = (refl, sym (zero-add (passed p ys)))
none_in_front p (x ∷ xs) ys h = by (p x) refl (none_in_front p xs ys)
  where
    by : (t : Bool) → p x ≡ t → (first_that p xs ≡ None → (first_that p (xs ++ ys) ≡ first_that p ys) × (passed p (xs ++ ys) ≡ passed p xs + passed p ys))
        → (first_that p (x ∷ xs ++ ys) ≡ first_that p ys) × (passed p (x ∷ xs ++ ys) ≡ passed p (x ∷ xs) + passed p ys)
    by true e behind = let some : Some x ≡ None = rw e at h in absurd (cc)
    by false e behind =
        let rest : first_that p xs ≡ None = rw e at h in
        (rw e ((behind rest).0), rw e (ap (λ k. 1 + k) ((behind rest).1) ∙ sym (add_assoc 1 (passed p xs) (passed p ys))))

one_in_front : {X : Type 0} (p : X → Bool) (one : X) (xs ys : List X) → first_that p xs ≡ Some one
    → (first_that p (xs ++ ys) ≡ Some one) × (passed p (xs ++ ys) ≡ passed p xs)
one_in_front p one [] ys h = absurd (cc)
one_in_front p one (x ∷ xs) ys h = by (p x) refl (one_in_front p one xs ys)
  where
    by : (t : Bool) → p x ≡ t → (first_that p xs ≡ Some one → (first_that p (xs ++ ys) ≡ Some one) × (passed p (xs ++ ys) ≡ passed p xs))
        → (first_that p (x ∷ xs ++ ys) ≡ Some one) × (passed p (x ∷ xs ++ ys) ≡ passed p (x ∷ xs))
    by true e behind = (rw e (rw e at h), rw e refl)
    by false e behind =
        let rest : first_that p xs ≡ Some one = rw e at h in
        (rw e ((behind rest).0), rw e (ap (λ k. 1 + k) ((behind rest).1)))

-- none of those in front
pub search_goes : {X : Type 0} (p : X → Bool) (all left xs behind : List X) (count more : ℕ)
    → left ≡ xs ++ behind → first_that p xs ≡ None → more ≡ count + passed p xs → IsSearching p all left count
    → IsSearching p all behind more
search_goes p all left xs behind count more there none e s =
    let front = none_in_front p xs behind none in
    let two : passed p left ≡ passed p xs + passed p behind = ap (passed p) there ∙ front.1 in
    let so_far : passed p all ≡ count + passed p left = s.so_far in
    record {
      first = s.first ∙ ap (first_that p) there ∙ front.0;
      so_far = omega arith;
    }

-- one of those in front
pub search_found : {X : Type 0} (p : X → Bool) (one : X) (all left xs behind : List X) (count more : ℕ)
    → left ≡ xs ++ behind → first_that p xs ≡ Some one → more ≡ count + passed p xs → IsSearching p all left count
    → (first_that p all ≡ Some one) × (more ≡ passed p all)
search_found p one all left xs behind count more there some e s =
    let front = one_in_front p one xs behind some in
    let two : passed p left ≡ passed p xs = ap (passed p) there ∙ front.1 in
    let so_far : passed p all ≡ count + passed p left = s.so_far in
    (s.first ∙ ap (first_that p) there ∙ front.0, omega arith)

-- none at all
pub search_ends : {X : Type 0} (p : X → Bool) (all left : List X) (count : ℕ) → left ≡ [] → IsSearching p all left count
    → (first_that p all ≡ None) × (count ≡ passed p all)
search_ends p all left count none s =
    let zero_left : passed p left ≡ 0 = ap (passed p) none in
    let so_far : passed p all ≡ count + passed p left = s.so_far in
    (s.first ∙ ap (first_that p) none, omega arith)
