-- What is written in pieces, and a front of it.
use Rattle.std.proofs.Common.{◌≡◌, ℕ, ◌+◌, List, [], ◌∷◌, ◌++◌, take, flat_map, slice_get, slice_index_or, ◌<◌, length, Some, None, Result, Ok, Err, OnErr, sym, ap, ◌∙◌, append_assoc, append-nil}
use Rattle.std.proofs.lemmas.Grind.{flat_map-append}
use Rattle.std.proofs.lemmas.Option.{slice_get-get_or}
use Rattle.base.specs.model.DataRest.{take_at}
use Rattle.std.specs.Prelude.{Option}
use Rattle.base.specs.Given.{WasGiven, WasGivenFront}

-- one piece behind the other
pub given_both : (given between given' : Option (List ℕ)) (first second : List ℕ) → WasGiven given first between → WasGiven between second given' → WasGiven given (first ++ second) given'
given_both given between None first second h t = tt
given_both given None (Some after) first second h t = let no : None ≡ Some t.0 = t.1 in absurd (cc)
given_both given (Some middle) (Some after) first second h t =
    let told : Some middle ≡ Some t.0 = t.1 in
    let same : middle ≡ t.0 = cc in
    (h.0, h.1, t.2 ∙ ap (λ x. x ++ second) (sym same ∙ h.2) ∙ append_assoc h.0 first second)

-- a front of the first piece is one of both
pub front_of_first : (given given' : Option (List ℕ)) (first second : List ℕ) → WasGivenFront given first given' → WasGivenFront given (first ++ second) given'
front_of_first given given' first second h =
    (h.0, h.1 ++ second, (sym (append_assoc h.0 h.1 second) ∙ ap (λ x. x ++ second) h.2.0, h.2.1))

-- and so is the first piece with a front of the second
pub front_of_second : (given between given' : Option (List ℕ)) (first second : List ℕ) → WasGiven given first between → WasGivenFront between second given' → WasGivenFront given (first ++ second) given'
front_of_second given between given' first second h t =
    (first ++ t.0, t.1, (append_assoc first t.0 t.1 ∙ ap (λ x. first ++ x) t.2.0, given_both given between given' first t.0 h t.2.1))

-- what holds anyway holds after an error
pub after_error : {T E P : Type 0} (r : Result T E) → P → OnErr r P
after_error (Ok x) p = tt
after_error (Err e) p = p

-- what ends with a line is not empty
pub ends_some : (front text : List ℕ) → front ++ (text ++ 10 ∷ []) ≡ [] → ⊥
ends_some [] [] h = cc
ends_some [] (x ∷ xs) h = cc
ends_some (x ∷ xs) text h = cc

-- lines for all things are none only where there is none
pub no_lines : {X : Type 0} (text_of : X → List ℕ) (xs : List X) (i : ℕ) (x : X) → slice_get xs i ≡ Some x
    → flat_map (λ y. text_of y ++ 10 ∷ []) xs ≡ [] → ⊥
no_lines text_of [] i x there none = absurd (cc)
no_lines text_of (y ∷ ys) i x there none = first (text_of y) none
  where
    first : (text : List ℕ) → (text ++ 10 ∷ []) ++ flat_map (λ z. text_of z ++ 10 ∷ []) ys ≡ [] → ⊥
    first [] h = cc
    first (b ∷ bs) h = cc

-- the lines of the things so far, with one more
pub line_more : {X : Type 0} (line_of : X → List ℕ) (xs : List X) (i : ℕ) (x : X) → slice_get xs i ≡ Some x
    → flat_map line_of (take (i + 1) xs) ≡ flat_map line_of (take i xs) ++ line_of x
line_more line_of xs i x there =
    ap (flat_map line_of) (take_at xs i x there)
    ∙ flat_map-append line_of (take i xs) (x ∷ [])
    ∙ ap (λ text. flat_map line_of (take i xs) ++ text) (append-nil (line_of x))

-- the item that a loop is at
pub item_there : {X : Type 0} (xs : List X) (i : ℕ) (x : X) → i < length xs → x ≡ slice_index_or xs i x → slice_get xs i ≡ Some x
item_there xs i x h e = slice_get-get_or xs i x h ∙ ap Some (sym e)
