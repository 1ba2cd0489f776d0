-- What a step leaves to be derived is smaller than the form.
use Rattle.std.specs.Prelude.{◌≡◌, ◌≢◌, ℕ, zero, suc, ◌+◌, ◌≤◌, ◌<◌, Bool, true, false, List, refl}
use Rattle.std.proofs.Common.{arith, ap, ◌∙◌, subst}
use Rattle.base.specs.declared.place.Place.{Place}
use Rattle.base.specs.Data.{Item, item, integer, character, symbol, string, vector, nil, list, Items, no_item, item_and, Tail, no_tail, dotted}
use Rattle.base.specs.DataMeasures.{size_of, sizes_of, size_of_tail}
use Rattle.base.specs.DataParts.{AllItems, AllParts, OfDotted, of_list}
use Rattle.lang_derived.specs.Pieces.{Piece, word, made, taken, parens, Pieces, no_piece, piece_and, Right, in_parens, Builds, BuildsAll}
use Rattle.lang_derived.specs.Derived.{becomes, derivation}
use Rattle.lang_derived.specs.Ends.{piece_weight, pieces_weight, has_derived_name, IfDerived, AllFurther, AllFurtherIn, LeavesForm, by_step, by_part}
use Rattle.lang_derived.proofs.Parts.{GoesDown}
use Rattle.lang_derived.proofs.Derivations.{OfDerivation, OfArguments}
use Rattle.lang_derived.proofs.Further.{Arguments, size_above, sizes_listed, derivation_further}

-- sizes of data

abbrev Below : ℕ → Item → Type 0
Below n d = size_of d < n

items_below : (n : ℕ) (ds : Items) → sizes_of ds < n → AllItems (Below n) ds
unfolding size_of
items_below n no_item h = tt
items_below n (item_and d ds) h = (omega arith, items_below n ds (omega arith))

tail_below : (n : ℕ) (t : Tail) → size_of_tail t < n → OfDotted (Below n) t
unfolding size_of
tail_below n no_tail h = tt
tail_below n (dotted d) h = h

pub parts_smaller : (d : Item) → AllParts (λ e. size_of e < size_of d) d
unfolding size_of
parts_smaller (item p (integer n)) = tt
parts_smaller (item p (character c)) = tt
parts_smaller (item p (symbol s)) = tt
parts_smaller (item p (string bytes)) = tt
parts_smaller (item p (vector ds)) = items_below (1 + sizes_of ds) ds (omega arith)
parts_smaller (item p nil) = tt
parts_smaller (item p (list ds t)) =
    (items_below (1 + (sizes_of ds + size_of_tail t)) ds (omega arith), tail_below (1 + (sizes_of ds + size_of_tail t)) t (omega arith))

below_goes_down : (n : ℕ) → GoesDown (Below n)
unfolding size_of
below_goes_down n = record {
  of_items = λ p ds t h. items_below n ds (omega arith);
  of_tail = λ p ds t h. tail_below n t (omega arith);
  of_vector = λ p ds h. items_below n ds (omega arith);
}

-- what is built of a part has its size

built_parens : (p : Place) (ds : Items) → size_of (item p (in_parens ds)) ≡ 1 + sizes_of ds
unfolding size_of
built_parens p no_item = refl
built_parens p (item_and d ds) = omega arith

mutual
  unfolding Builds size_of

  pub built_size : (names : List (List ℕ)) (p : Place) (x : Piece) (d : Item) → Builds names p x d → size_of d ≡ piece_weight x
  built_size names p (word text) d h = ap size_of h.1.1
  built_size names p (made serial) d h = ap size_of h
  built_size names p (taken e) d h = ap size_of h
  built_size names p (parens xs) d h =
      ap size_of h.1.1 ∙ built_parens p h.0 ∙ ap (λ (n : ℕ). 1 + n) (built_sizes names p xs h.0 h.1.0)

  built_sizes : (names : List (List ℕ)) (p : Place) (xs : Pieces) (ds : Items) → BuildsAll names p xs ds → sizes_of ds ≡ pieces_weight xs
  built_sizes names p no_piece ds h = ap sizes_of h
  built_sizes names p (piece_and x xs) ds h =
      let first : size_of h.0 ≡ piece_weight x = built_size names p x h.0 h.1.1.0 in
      let others : sizes_of h.1.0 ≡ pieces_weight xs = built_sizes names p xs h.1.0 h.1.1.1 in
      ap sizes_of h.1.1.2 ∙ omega (arith, first, others)

-- the step

abbrev Light : ℕ → Piece → Type 0
Light n x = piece_weight x < n

light_arguments : (n : ℕ) (d : Item) → size_of d ≤ n → OfArguments (Arguments (Light n)) d
unfolding size_of
light_arguments n (item p (integer z)) h = tt
light_arguments n (item p (character c)) h = tt
light_arguments n (item p (symbol s)) h = tt
light_arguments n (item p (string bytes)) h = tt
light_arguments n (item p (vector ds)) h = tt
light_arguments n (item p nil) h = tt
light_arguments n (item p (list no_item t)) h = tt
light_arguments n (item p (list (item_and d ds) t)) h = record {
  parts = of_list (Below n) ds (items_below n ds (omega (arith, size_above d)));
  smaller = λ xs less. omega (arith, less, sizes_listed ds, size_above d);
}

pub further_smaller : (names : List (List ℕ)) (s : ℕ) (d : Item) (r : Right) → derivation names s d ≡ becomes r
    → AllFurther (λ x. piece_weight x < size_of d) r.piece
further_smaller names s d r h =
    subst (OfDerivation (AllFurther (Light (size_of d)))) h
    (derivation_further (Light (size_of d)) (below_goes_down (size_of d)) names s d (light_arguments (size_of d) d (omega arith)))

under_map : (b : Bool) (X Y : Type 0) → (X → Y) → IfDerived b X → IfDerived b Y
under_map false X Y f h = tt
under_map true X Y f h = f h

-- no sequence of steps goes on for ever

mutual
  further_map : (P Q : Piece → Type 0) → ((x : Piece) → P x → Q x) → (x : Piece) → AllFurther P x → AllFurther Q x
  further_map P Q f (word text) h = tt
  further_map P Q f (made serial) h = tt
  further_map P Q f (taken d) h = f (taken d) h
  further_map P Q f (parens xs) h = (under_map (has_derived_name xs) (P (parens xs)) (Q (parens xs)) (f (parens xs)) h.0, further_in_map P Q f xs h.1)

  further_in_map : (P Q : Piece → Type 0) → ((x : Piece) → P x → Q x) → (xs : Pieces) → AllFurtherIn P xs → AllFurtherIn Q xs
  further_in_map P Q f no_piece h = tt
  further_in_map P Q f (piece_and x xs) h = (further_map P Q f x h.0, further_in_map P Q f xs h.1)

items_map : (P Q : Item → Type 0) → ((d : Item) → P d → Q d) → (ds : Items) → AllItems P ds → AllItems Q ds
items_map P Q f no_item h = tt
items_map P Q f (item_and d ds) h = (f d h.0, items_map P Q f ds h.1)

dotted_map : (P Q : Item → Type 0) → ((d : Item) → P d → Q d) → (t : Tail) → OfDotted P t → OfDotted Q t
dotted_map P Q f no_tail h = tt
dotted_map P Q f (dotted d) h = f d h

parts_map : (P Q : Item → Type 0) → ((d : Item) → P d → Q d) → (d : Item) → AllParts P d → AllParts Q d
parts_map P Q f (item p (integer n)) h = tt
parts_map P Q f (item p (character c)) h = tt
parts_map P Q f (item p (symbol s)) h = tt
parts_map P Q f (item p (string bytes)) h = tt
parts_map P Q f (item p (vector ds)) h = items_map P Q f ds h
parts_map P Q f (item p nil) h = tt
parts_map P Q f (item p (list ds t)) h = (items_map P Q f ds h.0, dotted_map P Q f t h.1)

less_stable : (m n : ℕ) → ((m < n → ⊥) → ⊥) → m < n
less_stable m zero h = absurd (h (λ less. omega arith))
less_stable zero (suc n) h = omega arith
less_stable (suc m) (suc n) h = omega (arith, less_stable m n (λ k. h (λ less. k (omega arith))))

pub left_smaller : (d e : Item) → LeavesForm d e → size_of e < size_of d
left_smaller d e (by_step names s r p h g) =
    less_stable (size_of e) (size_of d) (λ k. g (further_map (Light (size_of d)) (λ x. Builds names p x e → ⊥)
    (λ x light built. k (omega (arith, built_size names p x e built, light))) r.piece (further_smaller names s d r h)))
left_smaller d e (by_part g) =
    less_stable (size_of e) (size_of d) (λ k. g (parts_map (Below (size_of d)) (λ x. x ≢ e)
    (λ x below same. k (subst (Below (size_of d)) same below)) d (parts_smaller d)))

sizes_fall : (f : ℕ → Item) → ((i : ℕ) → LeavesForm (f i) (f (i + 1))) → (i : ℕ) → size_of (f i) + i ≤ size_of (f 0)
sizes_fall f h zero = omega arith
sizes_fall f h (suc i) =
    let next : size_of (f (suc i)) ≡ size_of (f (i + 1)) = ap (λ (k : ℕ). size_of (f k)) (omega arith) in
    omega (arith, next, sizes_fall f h i, left_smaller (f i) (f (i + 1)) (h i))

pub no_endless_steps : (f : ℕ → Item) → ((i : ℕ) → LeavesForm (f i) (f (i + 1))) → ⊥
no_endless_steps f h =
    absurd (omega (arith, sizes_fall f h (size_of (f 0) + 1)))
