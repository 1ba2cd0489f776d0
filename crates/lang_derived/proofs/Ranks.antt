-- The rank is nothing exactly where there is no step, falls at each step, and stays under a later table of names.
use Rattle.std.specs.Prelude.{◌≡◌, ℕ, ◌≤◌, ◌<◌, ◌↔◌, Bool, true, false, List, length, Option, Some, None, if◌then◌else◌, refl}
use Rattle.std.proofs.Common.{arith, ap, ◌∙◌, sym}
use Rattle.base.specs.declared.place.Place.{Place}
use Rattle.base.specs.Names.{Extends}
use Rattle.base.specs.declared.datum.Symbol.{Symbol}
use Rattle.base.specs.declared.datum.Symbol.TheVariants.{Named, Fresh}
use Rattle.base.specs.Data.{Item, item, integer, character, symbol, string, vector, nil, list, Items, no_item, item_and, items_list, Tail, no_tail, dotted, place_of}
use Rattle.base.specs.DataMeasures.{size_of, NamesBelow}
use Rattle.base.specs.DataNames.{text_of, text_same}
use Rattle.lang_derived.specs.Pieces.{Piece, word, made, taken, parens, Pieces, no_piece, piece_and, Right, in_parens, Builds}
use Rattle.lang_derived.specs.Table.{is_derived}
use Rattle.lang_derived.specs.Derived.{Derivation, plain, becomes, judged, by_table, by_name, derivation, Derives}
use Rattle.lang_derived.specs.Ends.{piece_weight, IfDerived, AllFurther}
use Rattle.lang_derived.specs.FormPlaces.{a_form, StandsAs}
use Rattle.lang_derived.specs.Ranks.{is_derived_name, is_derived_form, rank}
use Rattle.lang_derived.proofs.Further.{size_above}
use Rattle.lang_derived.proofs.Ends.{further_smaller, built_size}
use Rattle.lang_derived.proofs.Stands.{forms_placed, other_names_plain}

-- whether there is a derived form, by what the table says

judged_form : (found : Option Right) → judged found ≡ plain → ⊥
judged_form None h = absurd (cc)
judged_form (Some r) h = absurd (cc)

table_form : (names : List (List ℕ)) (s : ℕ) (name : List ℕ) (ds : List Item) (t : Tail) → by_table names s name ds t ≡ plain → ⊥
table_form names s name ds no_tail h = judged_form _ h
table_form names s name ds (dotted d) h = absurd (cc)

-- a test tells by which of two ways a thing comes to be plain
either_plain : (b : Bool) (x : Derivation) → (x ≡ plain → ⊥) → ((if b then x else plain) ≡ plain) ↔ (b ≡ false)
either_plain true x f = (λ h. absurd (f h), λ h. absurd (cc))
either_plain false x f = (λ h. refl, λ h. refl)

named_plain : (names : List (List ℕ)) (s : ℕ) (name : Option (List ℕ)) (ds : List Item) (t : Tail)
    → (by_name names s name ds t ≡ plain) ↔ (is_derived_name name ≡ false)
named_plain names s None ds t = (λ h. refl, λ h. refl)
named_plain names s (Some name) ds t = either_plain (is_derived name) (by_table names s name ds t) (table_form names s name ds t)

pub plain_form : (names : List (List ℕ)) (s : ℕ) (d : Item) → (derivation names s d ≡ plain) ↔ (is_derived_form names d ≡ false)
unfolding derivation
plain_form names s (item p (integer n)) = (λ h. refl, λ h. refl)
plain_form names s (item p (character c)) = (λ h. refl, λ h. refl)
plain_form names s (item p (symbol x)) = (λ h. refl, λ h. refl)
plain_form names s (item p (string bytes)) = (λ h. refl, λ h. refl)
plain_form names s (item p (vector ds)) = (λ h. refl, λ h. refl)
plain_form names s (item p nil) = (λ h. refl, λ h. refl)
plain_form names s (item p (list no_item t)) = (λ h. refl, λ h. refl)
plain_form names s (item p (list (item_and d ds) t)) = named_plain names s (text_of names d) (items_list ds) t

-- the rank is nothing exactly where there is no derived form

chosen_none : (b : Bool) (n : ℕ) → 0 < n → (if b then n else 0) ≡ 0 → b ≡ false
chosen_none true n h e = absurd (omega arith)
chosen_none false n h e = refl

pub rank_none : (names : List (List ℕ)) (s : ℕ) (d : Item) → (derivation names s d ≡ plain) ↔ (rank names d ≡ 0)
unfolding rank
rank_none names s d = (
  λ h. ap (λ (b : Bool). if b then size_of d else 0) ((plain_form names s d).0 h),
  λ h. (plain_form names s d).1 (chosen_none (is_derived_form names d) (size_of d) (size_above d) h),
)

chosen_most : (b : Bool) (n : ℕ) → (if b then n else 0) ≤ n
chosen_most true n = omega arith
chosen_most false n = omega arith

rank_most : (names : List (List ℕ)) (d : Item) → rank names d ≤ size_of d
unfolding rank
rank_most names d = chosen_most (is_derived_form names d) (size_of d)

-- else it is the size

not_false : (b : Bool) → (b ≡ false → ⊥) → b ≡ true
not_false true f = refl
not_false false f = absurd (f refl)

step_form : (names : List (List ℕ)) (s : ℕ) (d : Item) (r : Right) → derivation names s d ≡ becomes r → is_derived_form names d ≡ true
step_form names s d r h =
    not_false (is_derived_form names d) (λ none. let same : becomes r ≡ plain = sym h ∙ (plain_form names s d).1 none in absurd (cc))

rank_some : (names : List (List ℕ)) (s : ℕ) (d : Item) (r : Right) → derivation names s d ≡ becomes r → rank names d ≡ size_of d
unfolding rank
rank_some names s d r h = ap (λ (b : Bool). if b then size_of d else 0) (step_form names s d r h)

front_stays : (old new : List (List ℕ)) (p : Place) (d : Item) (ds : Items) (t : Tail) → Extends old new
    → NamesBelow (length old) (item p (list (item_and d ds) t)) → text_of old d ≡ text_of new d
unfolding NamesBelow
front_stays old new p d ds t e h = text_same old new e d h.0.0

form_stays : (old new : List (List ℕ)) (d : Item) → Extends old new → NamesBelow (length old) d → is_derived_form old d ≡ is_derived_form new d
form_stays old new (item p (integer n)) e h = refl
form_stays old new (item p (character c)) e h = refl
form_stays old new (item p (symbol x)) e h = refl
form_stays old new (item p (string bytes)) e h = refl
form_stays old new (item p (vector ds)) e h = refl
form_stays old new (item p nil) e h = refl
form_stays old new (item p (list no_item t)) e h = refl
form_stays old new (item p (list (item_and d ds) t)) e h = ap is_derived_name (front_stays old new p d ds t e h)

-- what is built of a part that stands as a form has a rank below that number

symbol_rank : (names : List (List ℕ)) (p : Place) (x : Symbol) → rank names (item p (symbol x)) ≡ 0
unfolding rank
symbol_rank names p x = refl

nil_rank : (names : List (List ℕ)) (p : Place) → rank names (item p nil) ≡ 0
unfolding rank
nil_rank names p = refl

abbrev Light : ℕ → Piece → Type 0
Light n x = piece_weight x < n

list_below : (names : List (List ℕ)) (s n : ℕ) (p : Place) (text : List ℕ) (xs : Pieces) (e : Item) (b : Bool) → is_derived text ≡ b
    → 0 < n → IfDerived b (Light n (parens (piece_and (word text) xs))) → Builds names p (parens (piece_and (word text) xs)) e → rank names e < n
list_below names s n p text xs e true is above light built = omega (arith, rank_most names e, built_size names p _ e built, light)
list_below names s n p text xs e false is above light built =
    omega (arith, (rank_none names s e).0 (other_names_plain names s p text xs e is built))

built_below : (names : List (List ℕ)) (s n : ℕ) (p : Place) (x : Piece) (e : Item) → 0 < n → StandsAs a_form x → AllFurther (Light n) x
    → Builds names p x e → rank names e < n
unfolding Builds
built_below names s n p (word text) e above stands light built = omega (arith, ap (rank names) built.1.1, symbol_rank names p (Named (record { 0 = built.0 })))
built_below names s n p (made serial) e above stands light built = omega (arith, ap (rank names) built, symbol_rank names p (Fresh 0 serial))
built_below names s n p (taken d) e above stands light built = omega (arith, rank_most names e, ap size_of built, light)
built_below names s n p (parens no_piece) e above stands light built =
    let none : e ≡ item p nil = built.1.1 ∙ ap (λ (ds : Items). item p (in_parens ds)) built.1.0 in
    omega (arith, ap (rank names) none, nil_rank names p)
built_below names s n p (parens (piece_and (word text) xs)) e above stands light built =
    list_below names s n p text xs e (is_derived text) refl above light.0 built
built_below names s n p (parens (piece_and (made serial) xs)) e above stands light built = absurd stands
built_below names s n p (parens (piece_and (taken d) xs)) e above stands light built = absurd stands
built_below names s n p (parens (piece_and (parens ys) xs)) e above stands light built = absurd stands

pub rank_falls : (names : List (List ℕ)) (d : Item) (s : ℕ) (e : Item) (s2 : ℕ) → Derives names d s e s2 → rank names e < rank names d
rank_falls names d s e s2 x =
    let below : rank names e < size_of d =
    built_below names s (size_of d) (place_of d) x.right.piece e (size_above d) (forms_placed names s d x.right x.fits)
    (further_smaller names s d x.right x.fits) x.builds in
    omega (arith, rank_some names s d x.right x.fits)

-- a later table

pub rank_stays : (old new : List (List ℕ)) (d : Item) → Extends old new → NamesBelow (length old) d → rank old d ≡ rank new d
unfolding rank
rank_stays old new d e h = ap (λ (b : Bool). if b then size_of d else 0) (form_stays old new d e h)
