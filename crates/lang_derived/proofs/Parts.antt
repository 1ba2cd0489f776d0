-- What holds of the data behind a name holds of the parts that a left side takes them apart into.
use Rattle.std.specs.Prelude.{ℕ, zero, suc, ◌-◌, Bool, true, false, List, [], ◌∷◌, ◌++◌, length, take, drop, Option, Some, None}
use Rattle.base.specs.declared.place.Place.{Place}
use Rattle.base.specs.Data.{Item, item, integer, character, symbol, string, vector, nil, list, Items, Tail, no_tail, dotted}
use Rattle.base.specs.AllOf.{AllOf, all_take, all_drop}
use Rattle.base.specs.DataParts.{AllItems, OfDotted, AllParts, of_list}
use Rattle.lang_derived.specs.Asked.{is_symbol, is_word, list_items}
use Rattle.lang_derived.specs.Patterns.{Pattern, a_datum, a_symbol, the_word, an_operator, inside, others, one_at_most, each_fits, Patterns, no_pattern, pattern_and, pattern_count, taken_by, Parts, part_if, nothing_if, one_datum, is_none, is_some, all_data, has_setter, joined, opened, of_one, fit, fit_all}
use Rattle.lang_derived.specs.RightSides.{part_of}

abbrev pub AllOfSome : (Item → Type 0) → Option (List Item) → Type 0
AllOfSome P None = Unit {0}
AllOfSome P (Some ds) = AllOf P ds

-- what holds of a datum holds of its parts
pub record GoesDown (P : Item → Type 0) : Type 0 where
  pub of_items : (p : Place) (ds : Items) (t : Tail) → P (item p (list ds t)) → AllItems P ds
  pub of_tail : (p : Place) (ds : Items) (t : Tail) → P (item p (list ds t)) → OfDotted P t
  pub of_vector : (p : Place) (ds : Items) → P (item p (vector ds)) → AllItems P ds

pub goes_down : (P : Item → Type 0) → ((d : Item) → P d → AllParts P d) → GoesDown P
goes_down P f = record {
  of_items = λ p ds t h. (f (item p (list ds t)) h).0;
  of_tail = λ p ds t h. (f (item p (list ds t)) h).1;
  of_vector = λ p ds h. f (item p (vector ds)) h;
}

-- it holds of the data of each part
abbrev pub OfParts : (Item → Type 0) → Parts → Type 0
OfParts P [] = Unit {0}
OfParts P (ds ∷ parts) = AllOf P ds × OfParts P parts

abbrev pub OfPartsSome : (Item → Type 0) → Option Parts → Type 0
OfPartsSome P None = Unit {0}
OfPartsSome P (Some parts) = OfParts P parts

pub items_too : (P : Item → Type 0) → GoesDown P → (d : Item) → P d → AllOfSome P (list_items d)
items_too P g (item p (integer n)) h = tt
items_too P g (item p (character c)) h = tt
items_too P g (item p (symbol s)) h = tt
items_too P g (item p (string bytes)) h = tt
items_too P g (item p (vector ds)) h = tt
items_too P g (item p nil) h = tt
items_too P g (item p (list ds no_tail)) h = of_list P ds (g.of_items p ds no_tail h)
items_too P g (item p (list ds (dotted d))) h = tt

both_parts : (P : Item → Type 0) (xs ys : Parts) → OfParts P xs → OfParts P ys → OfParts P (xs ++ ys)
both_parts P [] ys g h = h
both_parts P (x ∷ xs) ys g h = (g.0, both_parts P xs ys g.1 h)

joined_too : (P : Item → Type 0) (x y : Option Parts) → OfPartsSome P x → OfPartsSome P y → OfPartsSome P (joined x y)
joined_too P None y g h = tt
joined_too P (Some xs) None g h = tt
joined_too P (Some xs) (Some ys) g h = both_parts P xs ys g h

part_if_too : (P : Item → Type 0) (b : Bool) (ds : List Item) → AllOf P ds → OfPartsSome P (part_if b ds)
part_if_too P true ds h = (h, tt)
part_if_too P false ds h = tt

nothing_if_too : (P : Item → Type 0) (b : Bool) → OfPartsSome P (nothing_if b)
nothing_if_too P true = tt
nothing_if_too P false = tt

opened_too : (P : Item → Type 0) (f : List Item → Option Parts) → ((ds : List Item) → AllOf P ds → OfPartsSome P (f ds)) → (ds : Option (List Item))
    → AllOfSome P ds → OfPartsSome P (opened f ds)
opened_too P f g None h = tt
opened_too P f g (Some ds) h = g ds h

of_one_too : (P : Item → Type 0) → GoesDown P → (f : List Item → Option Parts) → ((ds : List Item) → AllOf P ds → OfPartsSome P (f ds)) → (ds : List Item)
    → AllOf P ds → OfPartsSome P (of_one f ds)
of_one_too P down f g [] h = tt
of_one_too P down f g (d ∷ []) h = opened_too P f g (list_items d) (items_too P down d h.0)
of_one_too P down f g (d ∷ e ∷ ds) h = tt

mutual
  unfolding fit

  pub fit_too : (P : Item → Type 0) → GoesDown P → (names : List (List ℕ)) (x : Pattern) (ds : List Item) → AllOf P ds → OfPartsSome P (fit names x ds)
  fit_too P g names a_datum ds h = part_if_too P (one_datum (λ d. true) ds) ds h
  fit_too P g names a_symbol ds h = part_if_too P (one_datum is_symbol ds) ds h
  fit_too P g names (the_word text) ds h = nothing_if_too P (one_datum (is_word names text) ds)
  fit_too P g names an_operator ds h = part_if_too P (one_datum (has_setter names) ds) ds h
  fit_too P g names (inside ps) ds h = of_one_too P g (λ es. fit_all names ps es) (fit_all_too P g names ps) ds h
  fit_too P g names others ds h = (h, tt)
  fit_too P g names one_at_most ds h = (h, tt)
  fit_too P g names (each_fits ps) ds h = part_if_too P (all_data (λ d. is_some (fit_all names ps (d ∷ []))) ds) ds h

  pub fit_all_too : (P : Item → Type 0) → GoesDown P → (names : List (List ℕ)) (xs : Patterns) (ds : List Item) → AllOf P ds → OfPartsSome P (fit_all names xs ds)
  fit_all_too P g names no_pattern ds h = nothing_if_too P (is_none ds)
  fit_all_too P g names (pattern_and x xs) ds h =
      let n : ℕ = taken_by x (length ds - pattern_count xs) in
      joined_too P (fit names x (take n ds)) (fit_all names xs (drop n ds))
      (fit_too P g names x (take n ds) (all_take P n ds h)) (fit_all_too P g names xs (drop n ds) (all_drop P n ds h))

-- the data of a variable
pub part_too : (P : Item → Type 0) (parts : Parts) (i : ℕ) → OfParts P parts → AllOf P (part_of parts i)
part_too P [] i h = tt
part_too P (ds ∷ parts) zero h = h.0
part_too P (ds ∷ parts) (suc i) h = part_too P parts i h.1
