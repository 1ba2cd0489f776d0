-- Arguments and parameters, one more.
use Rattle.std.proofs.Common.{◌≡◌, ℕ, zero, suc, ◌+◌, ◌<◌, List, [], ◌∷◌, ◌++◌, length, map, take, Some, refl, sym, ap, ◌∙◌, arith, append_assoc, append-nil}
use Rattle.std.specs.Prelude.{nat_lt, slice_get, if◌then◌else◌}
use Rattle.rv_encode.specs.declared.instruction.Instr.{Instr}
use Rattle.rv_encode.specs.declared.instruction.Instr.TheVariants.{Lw}
use Rattle.back_places.specs.declared.place.Place.{Place}
use Rattle.back_places.specs.Places.{Way, argument_register}
use Rattle.back_places.specs.Operands.{at_word}
use Rattle.back_places.specs.Passing.{argument_word_code, argument_code, arguments_code, stored_code, fetched_code, parameter_code, parameters_code}
use Rattle.back_allocation.specs.Places.{place_at}

-- the code of each item of a list, with its number
abbrev each : {X : Type 0} → (ℕ → X → List Instr) → ℕ → List X → List Instr
each f i [] = []
each f i (x ∷ more) = f i x ++ each f (i + 1) more

each_next :
    {X : Type 0} (f : ℕ → X → List Instr) (from i n j : ℕ) (x : X) (xs : List X) → n ≡ i + 1 → j ≡ from + i → slice_get xs i ≡ Some x
    → each f from (take n xs) ≡ each f from (take i xs) ++ f j x
each_next f from i n j x [] e g h = absurd (cc h)
each_next f from i zero j x (y ∷ ys) e g h = absurd (omega (arith, e))
each_next f from zero (suc n) j x (y ∷ ys) e g h =
    let none : n ≡ 0 = omega (arith, e) in
    let there : from ≡ j = omega (arith, g) in
    let same : y ≡ x = cc h in
    ap (λ k. f from y ++ each f (from + 1) (take k ys)) none ∙ append-nil (f from y) ∙ ap (λ k. f k y) there ∙ ap (λ z. f j z) same
each_next f from (suc i) (suc n) j x (y ∷ ys) e g h =
    ap (λ rest. f from y ++ rest) (each_next f (from + 1) i n j x ys (omega (arith, e)) (omega (arith, g)) h)
    ∙ sym (append_assoc (f from y) (each f (from + 1) (take i ys)) (f j x))

each_more :
    {X : Type 0} (f : ℕ → X → List Instr) (i : ℕ) (x : X) (xs : List X) (old code code' : List Instr) → code' ≡ code ++ f i x
    → code ≡ old ++ each f 0 (take i xs) → slice_get xs i ≡ Some x → code' ≡ old ++ each f 0 (take (i + 1) xs)
each_more f i x xs old code code' e h k =
    e ∙ ap (λ c. c ++ f i x) h ∙ append_assoc old (each f 0 (take i xs)) (f i x) ∙ ap (λ c. old ++ c) (sym (each_next f 0 i (i + 1) i x xs refl (omega arith) k))

-- arguments, one after the other

abbrev argument_of : (words_at : ℕ) → Way → List Place → (i v : ℕ) → List Instr
argument_of words_at way places i v = argument_code words_at way i (place_at places v)

arguments_each :
    (words_at : ℕ) (way : Way) (places : List Place) (i : ℕ) (vs : List ℕ)
    → arguments_code words_at way i (map (place_at places) vs) ≡ each (argument_of words_at way places) i vs
arguments_each words_at way places i [] = refl
arguments_each words_at way places i (v ∷ vs) = ap (λ c. argument_of words_at way places i v ++ c) (arguments_each words_at way places (i + 1) vs)

pub argument_more :
    (words_at : ℕ) (way : Way) (places : List Place) (i v : ℕ) (p : Place) (vs : List ℕ) (old code code' : List Instr)
    → code' ≡ code ++ argument_code words_at way i p → p ≡ place_at places v
    → code ≡ old ++ arguments_code words_at way 0 (map (place_at places) (take i vs)) → slice_get vs i ≡ Some v
    → code' ≡ old ++ arguments_code words_at way 0 (map (place_at places) (take (i + 1) vs))
argument_more words_at way places i v p vs old code code' e g h k =
    each_more (argument_of words_at way places) i v vs old code code' (e ∙ ap (λ q. code ++ argument_code words_at way i q) g)
    (h ∙ ap (λ c. old ++ c) (arguments_each words_at way places 0 (take i vs))) k
    ∙ ap (λ c. old ++ c) (sym (arguments_each words_at way places 0 (take (i + 1) vs)))

-- arguments into words of the image, and from there

abbrev word_of : (words_at : ℕ) → Way → List Place → (i v : ℕ) → List Instr
word_of words_at way places i v = argument_word_code words_at way i (place_at places v)

stored_each :
    (words_at : ℕ) (way : Way) (places : List Place) (i : ℕ) (vs : List ℕ)
    → stored_code words_at way i (map (place_at places) vs) ≡ each (word_of words_at way places) i vs
stored_each words_at way places i [] = refl
stored_each words_at way places i (v ∷ vs) = ap (λ c. word_of words_at way places i v ++ c) (stored_each words_at way places (i + 1) vs)

pub stored_more :
    (words_at : ℕ) (way : Way) (places : List Place) (i v : ℕ) (p : Place) (vs : List ℕ) (old code code' : List Instr)
    → code' ≡ code ++ argument_word_code words_at way i p → p ≡ place_at places v
    → code ≡ old ++ stored_code words_at way 0 (map (place_at places) (take i vs)) → slice_get vs i ≡ Some v
    → code' ≡ old ++ stored_code words_at way 0 (map (place_at places) (take (i + 1) vs))
stored_more words_at way places i v p vs old code code' e g h k =
    each_more (word_of words_at way places) i v vs old code code' (e ∙ ap (λ q. code ++ argument_word_code words_at way i q) g)
    (h ∙ ap (λ c. old ++ c) (stored_each words_at way places 0 (take i vs))) k
    ∙ ap (λ c. old ++ c) (sym (stored_each words_at way places 0 (take (i + 1) vs)))

abbrev fetch_of : (words_at i : ℕ) → List Instr
fetch_of words_at i = if nat_lt i 14 then at_word (words_at + i) (Lw (argument_register i)) else []

fetched_next :
    (words_at from i n j : ℕ) → n ≡ i + 1 → j ≡ from + i → fetched_code words_at from n ≡ fetched_code words_at from i ++ fetch_of words_at j
fetched_next words_at from i zero j e g = absurd (omega (arith, e))
fetched_next words_at from zero (suc n) j e g =
    let none : n ≡ 0 = omega (arith, e) in
    let there : from ≡ j = omega (arith, g) in
    ap (λ k. fetch_of words_at from ++ fetched_code words_at (from + 1) k) none ∙ append-nil (fetch_of words_at from) ∙ ap (λ k. fetch_of words_at k) there
fetched_next words_at from (suc i) (suc n) j e g =
    ap (λ rest. fetch_of words_at from ++ rest) (fetched_next words_at (from + 1) i n j (omega (arith, e)) (omega (arith, g)))
    ∙ sym (append_assoc (fetch_of words_at from) (fetched_code words_at (from + 1) i) (fetch_of words_at j))

pub fetched_more :
    (words_at i : ℕ) (old code code' : List Instr) → code' ≡ code ++ fetch_of words_at i → code ≡ old ++ fetched_code words_at 0 i
    → code' ≡ old ++ fetched_code words_at 0 (i + 1)
fetched_more words_at i old code code' e h =
    e ∙ ap (λ c. c ++ fetch_of words_at i) h ∙ append_assoc old (fetched_code words_at 0 i) (fetch_of words_at i)
    ∙ ap (λ c. old ++ c) (sym (fetched_next words_at 0 i (i + 1) i refl (omega arith)))

-- as many arguments are passed as there are
pub length_placed : (places : List Place) (vs : List ℕ) → length (map (place_at places) vs) ≡ length vs
length_placed places [] = refl
length_placed places (v ∷ vs) = ap suc (length_placed places vs)

-- parameters

parameters_each : (words_at i : ℕ) (ps : List Place) → parameters_code words_at i ps ≡ each (parameter_code words_at) i ps
parameters_each words_at i [] = refl
parameters_each words_at i (p ∷ ps) = ap (λ c. parameter_code words_at i p ++ c) (parameters_each words_at (i + 1) ps)

place_there : (ps : List Place) (i : ℕ) → i < length ps → slice_get ps i ≡ Some (place_at ps i)
place_there [] i h = absurd (omega (arith, h))
place_there (p ∷ ps) zero h = refl
place_there (p ∷ ps) (suc i) h = place_there ps i (omega (arith, h))

pub parameter_more :
    (words_at i : ℕ) (p : Place) (ps : List Place) (old code code' : List Instr) → code' ≡ code ++ parameter_code words_at i p → p ≡ place_at ps i
    → i < length ps → code ≡ old ++ parameters_code words_at 0 (take i ps) → code' ≡ old ++ parameters_code words_at 0 (take (i + 1) ps)
parameter_more words_at i p ps old code code' e g within h =
    each_more (parameter_code words_at) i (place_at ps i) ps old code code' (e ∙ ap (λ q. code ++ parameter_code words_at i q) g)
    (h ∙ ap (λ c. old ++ c) (parameters_each words_at 0 (take i ps))) (place_there ps i within)
    ∙ ap (λ c. old ++ c) (sym (parameters_each words_at 0 (take (i + 1) ps)))
