-- What stands under a key, in objects laid out one after another.
use Rattle.std.proofs.Common.{◌≡◌, ℕ, suc, ◌+◌, Bool, true, false, List, [], ◌∷◌, ◌++◌, length, map, refl, sym, ◌∙◌, ap, append_assoc, add-zero, arith}
use Rattle.std.specs.Prelude.{if◌then◌else◌, flat_map}
use Rattle.std.proofs.lemmas.List.{length-append}
use Rattle.lang_meaning.specs.Values.{nil, object}
use Rattle.lang_meaning.specs.Objects.{Object}
use Rattle.lang_meaning.specs.InitialHeap.{Key, part, same_key, Keyed, Thing, keyed, laid_out, under_key}
use Rattle.lang_meaning.specs.Recipes.{last_of}

abbrev pub object_under : Keyed → Object
object_under k = k.object

-- the objects of one thing

pub keyed_objects : (key : Key) (os : List Object) → map object_under (keyed key os) ≡ os
keyed_objects key [] = refl
keyed_objects key (o ∷ []) = refl
keyed_objects key (o ∷ p ∷ os) = ap (λ qs. o ∷ qs) (keyed_objects key (p ∷ os))

pub keyed_length : (key : Key) (os : List Object) → length (keyed key os) ≡ length os
keyed_length key [] = refl
keyed_length key (o ∷ []) = refl
keyed_length key (o ∷ p ∷ os) = ap (λ n. suc n) (keyed_length key (p ∷ os))

-- its own object is the last one
pub keyed_own : (key : Key) (os : List Object) (n : ℕ) → same_key key key ≡ true → same_key key part ≡ false
    → under_key key (keyed key os) n ≡ last_of os n
keyed_own key [] n own inner = refl
keyed_own key (o ∷ []) n own inner = rw own (ap object (sym (add-zero n)))
keyed_own key (o ∷ p ∷ os) n own inner =
    let same : n + 1 + length os ≡ n + suc (length os) = omega arith in
    rw inner (keyed_own key (p ∷ os) (n + 1) own inner ∙ ap object same)

-- no object has the key
abbrev pub IsAbsent : Key → List Keyed → Type 0
IsAbsent key [] = Unit {0}
IsAbsent key (k ∷ ks) = (same_key key k.key ≡ false) × IsAbsent key ks

pub absent_keyed : (key other : Key) (os : List Object) → same_key key other ≡ false → same_key key part ≡ false → IsAbsent key (keyed other os)
absent_keyed key other [] h inner = tt
absent_keyed key other (o ∷ []) h inner = (h, tt)
absent_keyed key other (o ∷ p ∷ os) h inner = (inner, absent_keyed key other (p ∷ os) h inner)

pub absent_append : (key : Key) (fs gs : List Keyed) → IsAbsent key fs → IsAbsent key gs → IsAbsent key (fs ++ gs)
absent_append key [] gs h k = k
absent_append key (a ∷ fs) gs h k = (h.0, absent_append key fs gs h.1 k)

-- a search

pub none_there : (key : Key) (ks : List Keyed) (n : ℕ) → IsAbsent key ks → under_key key ks n ≡ nil
none_there key [] n h = refl
none_there key (k ∷ ks) n h = rw (h.0) (none_there key ks (n + 1) h.1)

pub passed_over : (key : Key) (fs gs : List Keyed) (n : ℕ) → IsAbsent key fs → under_key key (fs ++ gs) n ≡ under_key key gs (n + length fs)
passed_over key [] gs n h = ap (under_key key gs) (sym (add-zero n))
passed_over key (a ∷ fs) gs n h =
    let same : n + 1 + length fs ≡ n + suc (length fs) = omega arith in
    rw (h.0) (passed_over key fs gs (n + 1) h.1 ∙ ap (under_key key gs) same)

pub none_behind : (key : Key) (fs gs : List Keyed) (n : ℕ) → IsAbsent key gs → under_key key (fs ++ gs) n ≡ under_key key fs n
none_behind key [] gs n h = none_there key gs n h
none_behind key (a ∷ fs) gs n h =
    let others : under_key key (fs ++ gs) (n + 1) ≡ under_key key fs (n + 1) = none_behind key fs gs (n + 1) h in
    ap (λ v. if same_key key a.key then object n else v) others

-- one that is found stays found
pub still_found : (key : Key) (fs gs : List Keyed) (n i : ℕ) → under_key key fs n ≡ object i → under_key key (fs ++ gs) n ≡ object i
still_found key [] gs n i h = absurd (cc)
still_found key (a ∷ fs) gs n i h = by (same_key key a.key) h (still_found key fs gs (n + 1) i)
  where
    by : (b : Bool) → (if b then object n else under_key key fs (n + 1)) ≡ object i → (under_key key fs (n + 1) ≡ object i → under_key key (fs ++ gs) (n + 1) ≡ object i)
        → (if b then object n else under_key key (fs ++ gs) (n + 1)) ≡ object i
    by true h r = h
    by false h r = r h

-- things

pub laid_append : (ts us : List Thing) (n : ℕ) → laid_out (ts ++ us) n ≡ laid_out ts n ++ laid_out us (n + length (laid_out ts n))
laid_append [] us n = ap (laid_out us) (sym (add-zero n))
laid_append (t ∷ ts) us n =
    let first = keyed t.key (t.objects n) in
    let m = n + length (t.objects n) in
    let same : m + length (laid_out ts m) ≡ n + length (first ++ laid_out ts m) =
    omega (arith, length-append first (laid_out ts m), keyed_length t.key (t.objects n)) in
    ap (λ ks. first ++ ks) (laid_append ts us m ∙ ap (λ k. laid_out ts m ++ laid_out us k) same)
    ∙ sym (append_assoc first (laid_out ts m) (laid_out us (n + length (first ++ laid_out ts m))))

-- all things have another key
abbrev pub AreOthers : Key → List Thing → Type 0
AreOthers key [] = Unit {0}
AreOthers key (t ∷ ts) = (same_key key t.key ≡ false) × AreOthers key ts

pub absent_others : (key : Key) (ts : List Thing) (n : ℕ) → same_key key part ≡ false → AreOthers key ts → IsAbsent key (laid_out ts n)
absent_others key [] n inner h = tt
absent_others key (t ∷ ts) n inner h =
    absent_append key (keyed t.key (t.objects n)) (laid_out ts (n + length (t.objects n))) (absent_keyed key t.key (t.objects n) h.0 inner) (absent_others key ts (n + length (t.objects n)) inner h.1)

pub others_append : (key : Key) (ts us : List Thing) → AreOthers key ts → AreOthers key us → AreOthers key (ts ++ us)
others_append key [] us h k = k
others_append key (t ∷ ts) us h k = (h.0, others_append key ts us h.1 k)

pub others_mapped : {X : Type 0} (key : Key) (f : X → Thing) (xs : List X) → ((x : X) → same_key key (f x).key ≡ false) → AreOthers key (map f xs)
others_mapped key f [] h = tt
others_mapped key f (x ∷ xs) h = (h x, others_mapped key f xs h)

pub others_flat : {X : Type 0} (key : Key) (f : X → List Thing) (xs : List X) → ((x : X) → AreOthers key (f x)) → AreOthers key (flat_map f xs)
others_flat key f [] h = tt
others_flat key f (x ∷ xs) h = others_append key (f x) (flat_map f xs) (h x) (others_flat key f xs h)

-- a thing, where no other one has its key
pub first_thing : (key : Key) (t : Thing) (ts : List Thing) (n : ℕ) → key ≡ t.key → same_key key key ≡ true → same_key key part ≡ false → AreOthers key ts
    → under_key key (laid_out (t ∷ ts) n) n ≡ last_of (t.objects n) n
first_thing key t ts n same own inner h =
    none_behind key (keyed t.key (t.objects n)) (laid_out ts (n + length (t.objects n))) n (absent_others key ts (n + length (t.objects n)) inner h)
    ∙ ap (λ k. under_key key (keyed k (t.objects n)) n) (sym same)
    ∙ keyed_own key (t.objects n) n own inner

-- a thing with another key is passed over
pub later_thing : (key : Key) (t : Thing) (ts : List Thing) (n : ℕ) → same_key key t.key ≡ false → same_key key part ≡ false
    → under_key key (laid_out (t ∷ ts) n) n ≡ under_key key (laid_out ts (n + length (t.objects n))) (n + length (t.objects n))
later_thing key t ts n h inner =
    passed_over key (keyed t.key (t.objects n)) (laid_out ts (n + length (t.objects n))) n (absent_keyed key t.key (t.objects n) h inner)
    ∙ ap (λ k. under_key key (laid_out ts (n + length (t.objects n))) (n + k)) (keyed_length t.key (t.objects n))
