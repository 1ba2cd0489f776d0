-- The number of a text in a table of names, a text at a time.
use Rattle.std.proofs.Common.{◌≡◌, ◌<◌, ◌≤◌, ℕ, ◌+◌, Bool, true, false, List, [], ◌∷◌, Option, Some, None, if◌then◌else◌, length, drop, refl, sym, ap, ◌∙◌, arith}
use Rattle.std.specs.Prelude.{zero, suc, option_map, slice_get}
use Rattle.std.specs.Str.{bytes_eq}
use Rattle.std.proofs.lemmas.List.{drop_all}
use Rattle.lang_derived.specs.Asked.{is_text}
use Rattle.front_profile.specs.GivenNames.{number_of}
use Rattle.front_syntax.specs.Behind.{from}

from_next : (n : ℕ) (m : Option ℕ) → from n (option_map (λ k. k + 1) m) ≡ from (n + 1) m
from_next n None = refl
from_next n (Some m) = ap (λ k. Some k) (omega arith)

by_text : (n : ℕ) (b : Bool) (m : Option ℕ) → b ≡ false → from (n + 1) m ≡ from n (if b then Some 0 else option_map (λ k. k + 1) m)
by_text n true m h = absurd (cc)
by_text n false m h = sym (from_next n m)

-- the rest of a list from a place on
rest_from : (ts : List (List ℕ)) (n : ℕ) (t : List ℕ) → slice_get ts n ≡ Some t → drop n ts ≡ t ∷ drop (n + 1) ts
rest_from [] n t h = absurd (cc)
rest_from (u ∷ us) zero t h = let same : u ≡ t = cc in ap (λ y. y ∷ us) same
rest_from (u ∷ us) (suc n) t h = let s : suc n + 1 ≡ suc (n + 1) = omega arith in rw s (rest_from us n t h)

some_text : (ts : List (List ℕ)) (n : ℕ) → n < length ts → (t : List ℕ) × (slice_get ts n ≡ Some t)
some_text [] n h = absurd (omega arith)
some_text (u ∷ us) zero h = (u, refl)
some_text (u ∷ us) (suc n) h = let below : n < length us = omega arith in some_text us n below

at_text : (ts : List (List ℕ)) (n : ℕ) (text t : List ℕ) (all : Option ℕ) → slice_get ts n ≡ Some t → bytes_eq t text ≡ false
    → from n (number_of (drop n ts) text) ≡ all → from (n + 1) (number_of (drop (n + 1) ts) text) ≡ all
at_text ts n text t all here other h =
    by_text n (bytes_eq t text) (number_of (drop (n + 1) ts) text) other
    ∙ (ap (λ us. from n (number_of us text)) (sym (rest_from ts n t here)) ∙ h)

-- a text that is another was seen
pub other_seen : (ts : List (List ℕ)) (n : ℕ) (text : List ℕ) (all : Option ℕ) → n < length ts → is_text text (slice_get ts n) ≡ false
    → from n (number_of (drop n ts) text) ≡ all → from (n + 1) (number_of (drop (n + 1) ts) text) ≡ all
other_seen ts n text all below other h =
    let t : (t : List ℕ) × (slice_get ts n ≡ Some t) = some_text ts n below in
    let differs : bytes_eq t.0 text ≡ false = ap (is_text text) (sym t.1) ∙ other in
    at_text ts n text t.0 all t.1 differs h

first_is : (n : ℕ) (b : Bool) (m : Option ℕ) → b ≡ true → Some n ≡ from n (if b then Some 0 else option_map (λ k. k + 1) m)
first_is n true m h = ap (λ k. Some k) (omega arith)
first_is n false m h = absurd (cc)

-- the text was found
pub found_here : (ts : List (List ℕ)) (n : ℕ) (text : List ℕ) (all : Option ℕ) → n < length ts → is_text text (slice_get ts n) ≡ true
    → from n (number_of (drop n ts) text) ≡ all → Some n ≡ all
found_here ts n text all below this h =
    let t : (t : List ℕ) × (slice_get ts n ≡ Some t) = some_text ts n below in
    let same : bytes_eq t.0 text ≡ true = ap (is_text text) (sym t.1) ∙ this in
    first_is n (bytes_eq t.0 text) (number_of (drop (n + 1) ts) text) same
    ∙ (ap (λ us. from n (number_of us text)) (sym (rest_from ts n t.0 t.1)) ∙ h)

-- all names are left to see
pub from_start : (m : Option ℕ) → from 0 m ≡ m
from_start None = refl
from_start (Some m) = ap (λ k. Some k) (omega arith)

-- all texts were seen
pub none_left : (ts : List (List ℕ)) (n : ℕ) (text : List ℕ) (all : Option ℕ) → length ts ≤ n → from n (number_of (drop n ts) text) ≡ all → None ≡ all
none_left ts n text all seen h = let rest : drop n ts ≡ [] = drop_all n ts seen in ap (λ us. from n (number_of us text)) (sym rest) ∙ h
